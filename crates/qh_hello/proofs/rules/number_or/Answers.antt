use Rattle.qh_hello.proofs.Keeping.{map_none, not_number}
use Rattle.qh_hello.proofs.rules.number_or.Goals as goal

pub returns-in-Some-clause-none : goal.returns-in-Some-clause-none
returns-in-Some-clause-none c =
    map_none c.whole_number.result c.whole_number.ensures.none (λ never h are there. not_number _ c.in-Some.value.now (c.in-Some.ensures h.parameters are) never there)
