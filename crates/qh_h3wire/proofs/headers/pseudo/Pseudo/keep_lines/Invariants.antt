use Rattle.std.proofs.Common.{take}
use Rattle.qh_h3wire.specs.HeadFields.{with_fields}
use Rattle.qh_h3wire.specs.HeadReading.{AreRead}
use Rattle.qh_h3wire.proofs.headers.pseudo.Pseudo.keep_lines.Given as goal

-- the lines so far are kept
abbrev pub invariant-loop-line : goal.invariant-loop-line
invariant-loop-line l = AreRead (take l.line-index l.lines) (with_fields l.fields l.self)
