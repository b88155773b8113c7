use Rattle.std.proofs.Common.{arith, ◌∙◌, sym}
use Rattle.qh_base.proofs.CountedBytes.{at_none}
use Rattle.qh_token.proofs.Forms.{after_id, same_id}
use Rattle.qh_token.proofs.Reading.{parts_here, port_place}
use Rattle.qh_token.proofs.parts.Parts.read.Goals as goal
use Rattle.qh_token.specs.Token.{octets}

pub returns-in_err-original-clause-none : goal.returns-in_err-original-clause-none
returns-in_err-original-clause-none c = at_none c.from_residual-in_err-original.result (λ v p.
    c.in_err-original.ensures.none v.original (after_id v)
    (port_place c.args.bytes.now c.in_ok-nonce.rest.now c.in_ok-kind.rest.now (octets c.in_ok-ip.ip) c.in_ok-ip.rest.now c.in_ok-port.rest.now c.in_ok-kind.kind.now v p c.in_ok-nonce.ensures.cases.1
    c.in_ok-kind.ensures.cases.0 c.in_ok-ip.ensures.found c.in_ok-ip.ensures.size c.in_ok-port.ensures.cases.1))

pub returns-in_err-issued-clause-none : goal.returns-in_err-issued-clause-none
returns-in_err-issued-clause-none c = at_none c.from_residual-in_err-issued.result (λ v p.
    let place = port_place c.args.bytes.now c.in_ok-nonce.rest.now c.in_ok-kind.rest.now (octets c.in_ok-ip.ip) c.in_ok-ip.rest.now c.in_ok-port.rest.now c.in_ok-kind.kind.now v p c.in_ok-nonce.ensures.cases.1
    c.in_ok-kind.ensures.cases.0 c.in_ok-ip.ensures.found c.in_ok-ip.ensures.size c.in_ok-port.ensures.cases.1 in
    c.in_err-issued.ensures.none v.issued
    (same_id c.in_ok-original.original.now c.in_ok-original.rest.now v.original (after_id v) (sym c.in_ok-original.ensures.found ∙ place)).1)

pub returns-clause-found : goal.returns-clause-found
returns-clause-found c =
    parts_here c.args.bytes.now c.in_ok-nonce.nonce.now c.in_ok-nonce.rest.now c.in_ok-kind.rest.now c.in_ok-ip.rest.now c.in_ok-port.port.now c.in_ok-port.rest.now c.in_ok-original.rest.now c.in_ok-kind.kind.now _
    (λ i. omega (arith, c.type_inv.bytes i))
    (omega (arith, c.in_ok-nonce.ensures.cases.2)) c.in_ok-nonce.ensures.cases.0 c.in_ok-nonce.ensures.cases.1 c.from_be_bytes.ensures c.from_be_bytes.type_inv
    c.in_ok-kind.ensures.cases.0 c.in_ok-kind-2.ensures.found
    c.in_ok-ip.ensures.found c.in_ok-ip.ensures.size
    (omega (arith, c.in_ok-port.ensures.cases.2)) c.in_ok-port.ensures.cases.0 c.in_ok-port.ensures.cases.1 c.from_be_bytes-2.ensures c.from_be_bytes-2.type_inv
    c.in_ok-original.ensures.found
    c.in_ok-issued.ensures.found c.in_ok-issued.ensures.bound
