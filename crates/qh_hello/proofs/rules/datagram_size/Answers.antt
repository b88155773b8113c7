use Rattle.qh_hello.proofs.Keeping.{not_number}
use Rattle.qh_base.proofs.CountedBytes.{at_none}
use Rattle.qh_hello.proofs.rules.datagram_size.Goals as goal

pub returns-in_err-whole_number-in-Some-clause-none : goal.returns-in_err-whole_number-in-Some-clause-none
returns-in_err-whole_number-in-Some-clause-none c =
    at_none c.from_residual.result (λ h are there. not_number _ c.in-Some.value.now (c.in-Some.ensures h.parameters are) c.in_err-whole_number-in-Some.ensures.none there)
