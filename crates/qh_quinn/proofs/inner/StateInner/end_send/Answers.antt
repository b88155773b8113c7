use Rattle.qh_book.specs.Book.{without_handle}
use Rattle.qh_book.specs.Sending.{with_send_ended}
use Rattle.qh_quinn.proofs.HalfEnds.{in_turn}
use Rattle.qh_quinn.proofs.CallCloses.{send_ended}
use Rattle.qh_quinn.proofs.inner.StateInner.end_send.Goals as goal

pub end_handle-requires : goal.end_handle-requires
end_handle-requires g c = c.end_half.ensures.changed.state

pub returns-clause-changed : goal.returns-clause-changed
returns-clause-changed g c = in_turn (λ b. with_send_ended b c.args.id.0) without_handle c.args.self.now c.end_half.new.self c.end_handle.new.self c.end_half.ensures.changed c.end_handle.ensures.changed

pub returns-clause-calls : goal.returns-clause-calls
returns-clause-calls g c =
    let e = c.end_half.ensures in
    let h = c.end_handle.ensures in
    send_ended c.args.id c.args.self.now c.end_half.new.self c.end_handle.new.self (λ b. with_send_ended b c.args.id.0) e.changed e.carries e.half e.lost e.counts e.rest e.wakes h.awake h.calls
