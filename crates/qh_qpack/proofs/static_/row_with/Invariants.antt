use Rattle.std.proofs.Common.{◌≡◌, drop}
use Rattle.qh_qpack.specs.Places.{row_with}
use Rattle.qh_qpack.proofs.static_.row_with.Given as goal

-- the rows that are left answer as all do
abbrev pub invariant-loop-index : goal.invariant-loop-index
invariant-loop-index l = row_with (drop l.index-index l.rows) l.value ≡ row_with l.rows l.value
