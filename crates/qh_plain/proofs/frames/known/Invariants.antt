use Rattle.std.proofs.Common.{◌≡◌}
use Rattle.qh_spec.specs.Spelling.{known_frames}
use Rattle.qh_plain.proofs.frames.known.Given as goal

-- the known frames so far
abbrev pub invariant-loop-frame : goal.invariant-loop-frame
invariant-loop-frame l = l.known.items ≡ known_frames l.yielded
