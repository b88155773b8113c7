use Rattle.std.proofs.Common.{◌≡◌, ◌++◌, ◌∷◌, length, arith, inr}
use Rattle.std.specs.Net.Addr.{ipv6_octets}
use Rattle.qh_token.proofs.Addresses.{six}
use Rattle.qh_token.proofs.parts.get_ip.Goals as goal
use Rattle.qh_token.specs.Token.{family_byte}

both : (c : goal.After-from_octets-in-6)
    → (c.args.bytes.now ≡ family_byte (ipv6_octets c.from_octets-in-6.result) ∷ (ipv6_octets c.from_octets-in-6.result ++ c.in_ok-octets-in-6.rest.now))
    × (length (ipv6_octets c.from_octets-in-6.result) ≡ 16)
both c =
    six c.args.bytes.now c.in_ok-family.rest.now c.in_ok-octets-in-6.octets.now c.in_ok-octets-in-6.rest.now c.from_octets-in-6.result.segments c.in_ok-family.family.now (λ i. omega (arith, c.type_inv.bytes i))
    c.in_ok-family.ensures.cases.0 c.in-6.is (omega (arith, c.in_ok-octets-in-6.ensures.cases.2)) c.in_ok-octets-in-6.ensures.cases.0 c.in_ok-octets-in-6.ensures.cases.1 c.from_octets-in-6.ensures

pub returns-in_ok-octets-in-6-clause-found : goal.returns-in_ok-octets-in-6-clause-found
returns-in_ok-octets-in-6-clause-found c = (both c).0

pub returns-in_ok-octets-in-6-clause-size : goal.returns-in_ok-octets-in-6-clause-size
returns-in_ok-octets-in-6-clause-size c = inr (both c).1
