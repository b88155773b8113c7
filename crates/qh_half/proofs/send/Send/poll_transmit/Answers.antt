use Rattle.std.proofs.Common.{rules}
use Rattle.qh_half.proofs.SendMarks.{handed_out_held}
use Rattle.qh_half.proofs.send.Send.poll_transmit.Goals as goal

pub returns-in-Some-clause-some : goal.returns-in-Some-clause-some
returns-in-Some-clause-some c =
    let held = handed_out_held c.self.inside.pending c.poll_transmit.new.self c.args.max_len c.in-Some.offsets.start c.in-Some.offsets.end c.self.invariant.2 (rw c.in-Some.is at c.in_ok-offsets.ensures.some) in
    search (rules, held)

pub returns-in-Some-clause-held : goal.returns-in-Some-clause-held
returns-in-Some-clause-held c =
    handed_out_held c.self.inside.pending c.poll_transmit.new.self c.args.max_len c.in-Some.offsets.start c.in-Some.offsets.end c.self.invariant.2 (rw c.in-Some.is at c.in_ok-offsets.ensures.some)
