use Rattle.std.proofs.Common.{◌≡◌, map, drop}
use Rattle.qh_qpack.specs.Places.{rows_among}
use Rattle.qh_qpack.proofs.static_.rows_in.Given as goal

-- the lists that are left answer as all do
abbrev pub invariant-loop-rows : goal.invariant-loop-rows
invariant-loop-rows l = rows_among (drop l.rows-index (map (λ r. r.now) l.names)) l.name ≡ rows_among (map (λ r. r.now) l.names) l.name
