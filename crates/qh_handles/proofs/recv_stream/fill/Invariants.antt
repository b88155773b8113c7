use Rattle.std.proofs.Common.{◌-◌, length}
use Rattle.futures.specs.Task.{Keeps}
use Rattle.qh_handles.specs.Chains.{IsFilled}
use Rattle.qh_handles.proofs.recv_stream.fill.Given as goal

abbrev pub invariant-loop-filled : goal.invariant-loop-filled
invariant-loop-filled g l =
    IsFilled g.A.At.acts l.id l.initial.buf l.initial.filled l.initial.at l.buf l.filled l.at × Keeps l.initial.cx l.cx

abbrev pub decreases-loop-filled : goal.decreases-loop-filled
decreases-loop-filled g l = length l.buf - l.filled
