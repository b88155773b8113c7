use Rattle.std.proofs.Common.{◌∙◌, sym, arith}
use Rattle.qh_half.proofs.SendMarks.{acked_as_taken}
use Rattle.qh_half.proofs.send.Send.ack.Goals as goal

pub invariant_of-self : goal.invariant_of-self
invariant_of-self c =
    let s = c.self.inside in
    let span = rw (← c.self.view_is) at c.requires in
    let live = sym c.is_reset.ensures ∙ c.if-is_reset.false in
    (omega arith, omega (arith, c.ack.ensures.taken_is), acked_as_taken s.pending c.ack.new.self _ _ c.self.invariant.2 (span live) c.ack.ensures)
