use Rattle.std.proofs.Common.{◌≤◌, length}
use Rattle.futures.specs.Task.{Keeps}
use Rattle.qh_handles.specs.Chains.{IsGathered}
use Rattle.qh_handles.proofs.recv_stream.gather.Given as goal

abbrev pub invariant-loop : goal.invariant-loop
invariant-loop g l =
    IsGathered g.A.At.acts l.id l.initial.buffer l.initial.at l.buffer l.at × (l.counter ≤ length l.buffer.kept) × Keeps l.initial.cx l.cx
