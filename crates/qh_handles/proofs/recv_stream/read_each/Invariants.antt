use Rattle.std.proofs.Common.{◌-◌, ◌≤◌, length}
use Rattle.futures.specs.Task.{Keeps}
use Rattle.qh_handles.specs.Chains.{IsPlaced}
use Rattle.qh_handles.proofs.recv_stream.read_each.Given as goal

abbrev pub invariant-loop-count : goal.invariant-loop-count
invariant-loop-count g l =
    IsPlaced g.A.At.acts l.id l.initial.bufs l.initial.at l.bufs l.at l.count × (l.count ≤ length l.bufs) × Keeps l.initial.cx l.cx

abbrev pub decreases-loop-count : goal.decreases-loop-count
decreases-loop-count g l = length l.bufs - l.count
