use Rattle.std.proofs.Common.{take}
use Rattle.std.specs.List.{AllByRecursion}
use Rattle.qh_plain.specs.Agreement.{IsCovered}
use Rattle.qh_plain.proofs.meanings.fields.are_covered.Given as goal

-- the fields so far
abbrev pub invariant-loop-field : goal.invariant-loop-field
invariant-loop-field l = AllByRecursion (IsCovered l.map) (take l.field-index l.fields)
