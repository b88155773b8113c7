use Rattle.std.proofs.Common.{take, length}
use Rattle.std.specs.Prelude.{min}
use Rattle.qh_spec.specs.Meaning.{AreReadable}
use Rattle.qh_h3wire.proofs.headers.field.fault_of_lines.Given as goal

-- the lines so far can be read
abbrev pub invariant-loop-line : goal.invariant-loop-line
invariant-loop-line l = AreReadable (take l.line-index (take (min (length l.lines) 24576) l.lines))
