use Rattle.std.proofs.Common.{◌≡◌, []}
use Rattle.futures.specs.Task.{Keeps}
use Rattle.qh_h3.specs.Buffers.{held_of}
use Rattle.qh_h3.proofs.Draining.{SoFar}
use Rattle.qh_h3.proofs.frame.poll.poll_drained.Given as goal

abbrev pub invariant-loop-budget : goal.invariant-loop-budget
invariant-loop-budget g l =
    let R = g.R.Stream in
    record {
      so_far : SoFar l.fn.budget (R.received l.fn.stream l.fn.at) (R.counts l.fn.stream l.fn.at) (held_of l.fn.buffer) l.budget (R.received l.stream l.at) (R.counts l.stream l.at) (held_of l.buffer);
      more : l.buffer.more ≡ [];
      sent : R.sent l.stream l.at ≡ R.sent l.fn.stream l.fn.at;
      id : R.id l.stream ≡ R.id l.fn.stream;
      kept : Keeps l.fn.cx l.cx;
    }

abbrev pub decreases-loop-budget : goal.decreases-loop-budget
decreases-loop-budget g l = l.budget
