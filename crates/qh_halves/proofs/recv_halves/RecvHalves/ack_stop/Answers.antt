use Rattle.std.proofs.Common.{sym, ap, ◌∙◌}
use Rattle.qh_half.specs.Recv.{PlainRecv, is_done, is_frame_due}
use Rattle.qh_halves.proofs.RecvSteps.{due_at_stop_acked}
use Rattle.qh_halves.proofs.RecvHalvesStepped.{are_kept}
use Rattle.qh_halves.proofs.recv_halves.RecvHalves.ack_stop.Goals as goal

pub invariant_of-self-2 : goal.invariant_of-self-2
invariant_of-self-2 c =
    let half = c.in-Some.ensures in
    let next = c.ack_stop.new.self in
    let same = c.ack_stop.ensures in
    let written = c.get_mut.follows.holds next in
    are_kept _ _ _ _ _ _ c.args.id c.in-Some.half.now next c.self.invariant (sym half.value) written.0 (ap is_done same)
    (λ frame. due_at_stop_acked c.in-Some.half.now c.self.inside.stream_window (ap (λ (r : PlainRecv). is_frame_due r c.self.inside.stream_window) (sym same) ∙ frame))
