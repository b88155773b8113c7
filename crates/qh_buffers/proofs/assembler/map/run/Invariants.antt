use Rattle.std.proofs.Common.{◌≡◌, ◌≤◌, ◌+◌, ◌-◌}
use Rattle.qh_buffers.specs.Assembler.{pieces, run_of, AreStored}
use Rattle.qh_buffers.proofs.assembler.map.run.Given as goal

abbrev pub invariant-loop-end : goal.invariant-loop-end
invariant-loop-end l = record {
  few : l.left ≤ l.max_length;
  stored : AreStored 0 l.end-iterator;
  so_far : (l.max_length - l.left) + run_of l.at l.left (pieces l.end-iterator) ≡ run_of l.offset l.max_length (pieces l.chunks.entries);
}
