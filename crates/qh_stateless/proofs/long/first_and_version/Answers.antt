use Rattle.std.proofs.Common.{arith}
use Rattle.qh_packet.proofs.LongHeaders.{first_version}
use Rattle.qh_stateless.proofs.long.first_and_version.Goals as goal

pub returns-clause-found : goal.returns-clause-found
returns-clause-found c = first_version c.args.bytes.now c.in_ok-first.rest.now c.in_ok-version.version.now c.in_ok-version.rest.now c.in_ok-first.first.now c.from_be_bytes.result (λ i. omega (arith, c.type_inv.bytes i))
    c.in_ok-first.ensures.cases.0 (omega (arith, c.in_ok-version.ensures.cases.2)) c.in_ok-version.ensures.cases.0 c.in_ok-version.ensures.cases.1 c.from_be_bytes.ensures
