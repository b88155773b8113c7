use Rattle.qh_spec.proofs.TokenRows.{repeated, tiny, moving, nothing_refused, unlimited_refused, twice_refused}
use Rattle.qh_spec.proofs.laws.tokens.rows.Goals as goal

pub returns-clause-repeated : goal.returns-clause-repeated
returns-clause-repeated c = repeated

pub returns-clause-tiny : goal.returns-clause-tiny
returns-clause-tiny c = tiny

pub returns-clause-moving : goal.returns-clause-moving
returns-clause-moving c = moving

pub returns-clause-nothing : goal.returns-clause-nothing
returns-clause-nothing c = nothing_refused

pub returns-clause-unlimited : goal.returns-clause-unlimited
returns-clause-unlimited c = unlimited_refused

pub returns-clause-limited_twice : goal.returns-clause-limited_twice
returns-clause-limited_twice c = twice_refused
