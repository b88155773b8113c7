use Rattle.std.proofs.Common.{◌-◌, drop, length}
use Rattle.futures.specs.Task.{Keeps}
use Rattle.qh_handles.specs.Chains.{IsWritten}
use Rattle.qh_handles.proofs.send_stream.write_rest.Given as goal

abbrev pub invariant-loop-written : goal.invariant-loop-written
invariant-loop-written g l =
    IsWritten g.A.At.acts l.id (drop l.initial.written l.buf) l.initial.at (drop l.written l.buf) l.at × Keeps l.initial.cx l.cx

abbrev pub decreases-loop-written : goal.decreases-loop-written
decreases-loop-written g l = length l.buf - l.written
