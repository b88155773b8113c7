use Rattle.std.proofs.Common.{◌∙◌, arith}
use Rattle.std.proofs.lemmas.List.{take_all}
use Rattle.qh_hello.proofs.Keeping.{token_there}
use Rattle.qh_hello.proofs.rules.token_of.Goals as goal

pub returns-clause-found : goal.returns-clause-found
returns-clause-found c h are =
    token_there h c.in-Some.value.now c.in_ok-token.token.now (c.in-Some.ensures h.parameters are) (omega (arith, c.if-value-ne16.false))
    (c.in_ok-token.ensures.cases.same ∙ take_all 16 c.in-Some.value.now (omega (arith, c.if-value-ne16.false)))
