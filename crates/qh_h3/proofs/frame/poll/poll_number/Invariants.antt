use Rattle.std.proofs.Common.{◌≡◌}
use Rattle.futures.specs.Task.{Keeps}
use Rattle.qh_h3.specs.Buffers.{held_of}
use Rattle.qh_h3.proofs.Typing.{SoFar}
use Rattle.qh_h3.proofs.frame.poll.poll_number.Given as goal

abbrev pub invariant-loop-e : goal.invariant-loop-e
invariant-loop-e g l =
    let R = g.R.Stream in
    record {
      so_far : SoFar l.fn.budget (R.received l.fn.stream l.fn.at) (R.counts l.fn.stream l.fn.at) (held_of l.fn.buffer) l.budget (R.received l.stream l.at) (R.counts l.stream l.at) (held_of l.buffer);
      sent : R.sent l.stream l.at ≡ R.sent l.fn.stream l.fn.at;
      id : R.id l.stream ≡ R.id l.fn.stream;
      kept : Keeps l.fn.cx l.cx;
    }

abbrev pub decreases-loop-e : goal.decreases-loop-e
decreases-loop-e g l = l.budget
