use Rattle.std.proofs.Common.{length}
use Rattle.qh_plain.proofs.SectionsRead.{LinesRead}
use Rattle.qh_plain.proofs.sections.all_lines.Given as goal

abbrev pub invariant-loop-rest : goal.invariant-loop-rest
invariant-loop-rest l = LinesRead l.bytes l.rest l.fields.items

abbrev pub decreases-loop-rest : goal.decreases-loop-rest
decreases-loop-rest l = length l.rest
