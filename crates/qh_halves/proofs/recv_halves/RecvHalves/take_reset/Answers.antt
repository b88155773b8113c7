use Rattle.std.proofs.Common.{false, refl, sym, ap, ◌∙◌, inr}
use Rattle.std.proofs.lemmas.Result.{err_from_is_err_and}
use Rattle.qh_half.specs.Recv.{PlainRecv, is_frame_due}
use Rattle.qh_halves.proofs.MapWritten.{same_written}
use Rattle.qh_halves.proofs.RecvHalvesStepped.{room_for, are_settled}
use Rattle.qh_halves.proofs.recv_halves.RecvHalves.take_reset.Goals as goal

pub settle-requires : goal.settle-requires
settle-requires c =
    let half = c.in-Some.ensures in
    room_for _ _ _ _ _ c.self.invariant c.args.id _ (sym half.value)

pub returns-in_err-code-clause-fault : goal.returns-in_err-code-clause-fault
returns-in_err-code-clause-fault c =
    let half = c.in-Some.ensures in
    let p = err_from_is_err_and c.from_residual.result c.from_residual.ensures.1 in
    let written = c.get_mut.follows.holds c.take_reset.new.self in
    let fault = c.in_err-code.ensures.fault in
    let same = same_written _ c.args.id _ _ (sym half.value) _ written.0 fault.1 in
    rw (p.1, ← c.self.view_is) (rw (sym half.value) fault.0, rw same refl)

pub invariant_of-self-2 : goal.invariant_of-self-2
invariant_of-self-2 c =
    let half = c.in-Some.ensures in
    let next = c.take_reset.new.self in
    let taken = c.in_ok-code.ensures.ok in
    let written = c.get_mut.follows.holds next in
    are_settled _ _ _ _ _ c.self.invariant c.args.id c.in-Some.half.now next (sym half.value) _ _ _ false c.is_done-is_done.result written.0 c.is_done-is_done.ensures c.settle.ensures
    c.self.inside.received (λ undone frame. inr (ap (λ (r : PlainRecv). is_frame_due r c.self.inside.stream_window) (sym taken.2) ∙ frame)) c.self.invariant.received_below
