use Rattle.std.proofs.Common.{refl}
use Rattle.qh_book.specs.Book.{without_handle}
use Rattle.qh_book.specs.Values.{with_setting}
use Rattle.qh_book.specs.declared.call.Call.TheVariants as call
use Rattle.qh_quinn.proofs.StatesKept.{changes}
use Rattle.qh_quinn.proofs.CallActs.{close_reason, closed, connecting, got, handle_done, handshake_data, set_done}
use Rattle.qh_quinn.proofs.inner.StateInner.answered_by.Goals as goal

pub returns-in-Set-clause-value : goal.returns-in-Set-clause-value
returns-in-Set-clause-value g c =
    rw c.in-Set.is (changes (with_setting c.in-Set.setting) c.args.self.now c.set.new.self (call.Set c.in-Set.setting) (λ b. refl) c.set.ensures.changed)

pub returns-in-EndHandle-clause-value : goal.returns-in-EndHandle-clause-value
returns-in-EndHandle-clause-value g c =
    rw c.in-EndHandle.is (changes without_handle c.args.self.now c.end_handle.new.self call.EndHandle (λ b. refl) c.end_handle.ensures.changed)

pub returns-in-Connecting-clause-calls : goal.returns-in-Connecting-clause-calls
returns-in-Connecting-clause-calls g c = rw c.in-Connecting.is (connecting c.connect.result c.args.self.now)

pub returns-in-HandshakeData-clause-calls : goal.returns-in-HandshakeData-clause-calls
returns-in-HandshakeData-clause-calls g c = rw c.in-HandshakeData.is (handshake_data c.handshake_data.result c.args.self.now)

pub returns-in-CloseReason-clause-calls : goal.returns-in-CloseReason-clause-calls
returns-in-CloseReason-clause-calls g c = rw c.in-CloseReason.is (close_reason c.close_reason.result c.args.self.now)

pub returns-in-Closed-clause-calls : goal.returns-in-Closed-clause-calls
returns-in-Closed-clause-calls g c = rw c.in-Closed.is (closed c.closed.result c.args.self.now)

pub returns-in-Get-clause-calls : goal.returns-in-Get-clause-calls
returns-in-Get-clause-calls g c = rw c.in-Get.is (got c.in-Get.getter c.value.result c.args.self.now)

pub returns-in-Set-clause-calls : goal.returns-in-Set-clause-calls
returns-in-Set-clause-calls g c = rw c.in-Set.is (set_done c.in-Set.setting c.args.self.now c.set.new.self c.set.ensures.calls)

pub returns-in-EndHandle-clause-calls : goal.returns-in-EndHandle-clause-calls
returns-in-EndHandle-clause-calls g c = rw c.in-EndHandle.is (handle_done c.args.self.now c.end_handle.new.self c.end_handle.ensures.calls)
