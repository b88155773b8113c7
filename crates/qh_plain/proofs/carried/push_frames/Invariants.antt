use Rattle.std.proofs.Common.{◌≡◌, ◌++◌, take}
use Rattle.std.specs.List.{flat_map}
use Rattle.qh_plain.specs.Carried.{runs_in}
use Rattle.qh_plain.proofs.carried.push_frames.Given as goal

abbrev pub invariant-loop-frame : goal.invariant-loop-frame
invariant-loop-frame l = l.runs.items ≡ l.fn.runs.items ++ flat_map runs_in (take l.frame-index l.frames)
