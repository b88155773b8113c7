use Rattle.std.proofs.Common.{◌≡◌, ◌+◌, ◌-◌, [], drop, length, take}
use Rattle.std.specs.List.{concat}
use Rattle.futures.specs.Task.{Keeps}
use Rattle.qh_handles.specs.Chains.{IsWrittenOf, text_left}
use Rattle.qh_handles.proofs.send_stream.write_each.Given as goal

abbrev pub invariant-loop-done : goal.invariant-loop-done
invariant-loop-done g l =
    IsWrittenOf g.A.At.acts l.id (drop l.initial.done l.initial.bufs) l.initial.at (drop l.done l.bufs) l.at × Keeps l.initial.cx l.cx
    × (concat (take l.initial.done l.initial.bufs) ≡ [] → concat (take l.done l.bufs) ≡ [])

abbrev pub decreases-loop-done : goal.decreases-loop-done
decreases-loop-done g l = length (text_left l.bufs l.done) + (length l.bufs - l.done)
