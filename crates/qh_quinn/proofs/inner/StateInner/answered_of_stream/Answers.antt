use Rattle.std.proofs.Common.{refl}
use Rattle.qh_book.specs.Book.{without_handle}
use Rattle.qh_book.specs.Sending.{with_send_ended}
use Rattle.qh_book.specs.declared.call.Call.TheVariants as call
use Rattle.qh_quinn.proofs.RecvEnds.{handle_ended}
use Rattle.qh_quinn.proofs.StatesKept.{changes}
use Rattle.qh_quinn.specs.Acting.{recv_handle_ended}
use Rattle.qh_quinn.proofs.CallActs.{priority, recv_done, send_done, stopped}
use Rattle.qh_quinn.proofs.inner.StateInner.answered_of_stream.Goals as goal

pub returns-in-EndSend-clause-value : goal.returns-in-EndSend-clause-value
returns-in-EndSend-clause-value g c =
    rw c.in-EndSend.is (changes (λ b. without_handle (with_send_ended b c.in-EndSend.id.0)) c.args.self.now c.end_send.new.self (call.EndSend c.in-EndSend.id) (λ b. refl) c.end_send.ensures.changed)

pub returns-in-EndRecv-clause-value : goal.returns-in-EndRecv-clause-value
returns-in-EndRecv-clause-value g c =
    rw c.in-EndRecv.is (changes (recv_handle_ended c.in-EndRecv.id.0) c.args.self.now c.end_recv.new.self (call.EndRecv c.in-EndRecv.id) (λ b. handle_ended _ b c.in-EndRecv.id) c.end_recv.ensures.changed)

pub returns-in-Stopped-clause-calls : goal.returns-in-Stopped-clause-calls
returns-in-Stopped-clause-calls g c = rw c.in-Stopped.is (stopped c.in-Stopped.id c.stopped.result c.args.self.now)

pub returns-in-Priority-clause-calls : goal.returns-in-Priority-clause-calls
returns-in-Priority-clause-calls g c = rw c.in-Priority.is (priority c.in-Priority.id c.priority.result c.args.self.now)

pub returns-in-EndSend-clause-calls : goal.returns-in-EndSend-clause-calls
returns-in-EndSend-clause-calls g c = rw c.in-EndSend.is (send_done c.in-EndSend.id c.args.self.now c.end_send.new.self c.end_send.ensures.calls)

pub returns-in-EndRecv-clause-calls : goal.returns-in-EndRecv-clause-calls
returns-in-EndRecv-clause-calls g c = rw c.in-EndRecv.is (recv_done c.in-EndRecv.id c.args.self.now c.end_recv.new.self c.end_recv.ensures.calls)
