use Rattle.std.proofs.Common.{◌≡◌, ◌≤◌, ◌+◌, ◌-◌, drop}
use Rattle.qh_buffers.specs.Assembler.{run_of}
use Rattle.qh_buffers.proofs.assembler.queue.run.Given as goal

abbrev pub invariant-loop-index : goal.invariant-loop-index
invariant-loop-index l =
    (l.left ≤ l.max_length) × ((l.max_length - l.left) + run_of l.at l.left (drop l.index l.chunks.items) ≡ run_of l.offset l.max_length l.chunks.items)
