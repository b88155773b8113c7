use Rattle.std.proofs.Common.{arith}
use Rattle.qh_token.proofs.Reading.{moment_here}
use Rattle.qh_token.proofs.parts.get_issued.Goals as goal

pub returns-clause-found : goal.returns-clause-found
returns-clause-found c =
    moment_here c.args.bytes.now c.in_ok-issued.issued.now c.in_ok-issued.rest.now c.as_slice.result.now c.from_be_bytes.result (λ i. omega (arith, c.type_inv.bytes i)) (omega (arith, c.in_ok-issued.ensures.cases.2))
    c.in_ok-issued.ensures.cases.0 c.in_ok-issued.ensures.cases.1 c.from_be_bytes.ensures c.if-ne.ensures c.as_slice.ensures
