use Rattle.std.proofs.Common.{◌≡◌, ◌+◌, ◌-◌, ◌≤◌, [], drop, length, take}
use Rattle.std.specs.List.{concat}
use Rattle.futures.specs.Task.{Keeps}
use Rattle.qh_handles.specs.Chains.{IsWrittenOf, text_left}
use Rattle.qh_handles.proofs.send_stream.write_some.Given as goal

abbrev pub invariant-loop-chunks : goal.invariant-loop-chunks
invariant-loop-chunks g l =
    IsWrittenOf g.A.At.acts l.id l.initial.bufs l.initial.at (drop l.chunks l.bufs) l.at × (concat (take l.chunks l.bufs) ≡ [])
    × (length (concat l.initial.bufs) ≡ l.bytes + length (text_left l.bufs l.chunks)) × (l.chunks ≡ 0 → (l.at ≡ l.initial.at) × (l.bufs ≡ l.initial.bufs)) × (l.chunks ≤ length l.bufs)
    × Keeps l.initial.cx l.cx

abbrev pub decreases-loop-chunks : goal.decreases-loop-chunks
decreases-loop-chunks g l = length l.bufs - l.chunks
