use Rattle.std.proofs.Common.{[], ◌∷◌, length, refl, arith}
use Rattle.std.specs.Int.{w16, w64, w128, to_be_bytes}
use Rattle.qh_token.proofs.Writing.{eight_parts}
use Rattle.qh_token.proofs.parts.Parts.put.Goals as goal
use Rattle.qh_token.specs.Parts.{kind_of}
use Rattle.qh_token.specs.Token.{family_byte, kind_byte, octets}

pub returns-clause-ok : goal.returns-clause-ok
returns-clause-ok c =
    let p = c.args.self.now in
    rw (
      c.in_ok-push-3.ensures.items,
      c.in_ok-extend_from_slice-4.ensures.items,
      c.in_ok-extend_from_slice-3.ensures.items,
      c.in_ok-push-2.ensures.items,
      c.in_ok-extend_from_slice-2.ensures.items,
      c.in_ok-put_ip.ensures.ok,
      c.in_ok-push.ensures.items,
      c.in_ok-extend_from_slice.ensures.items,
      c.byte.ensures,
      c.to_be_bytes.ensures,
      c.to_be_bytes-2.ensures,
      c.to_be_bytes-3.ensures,
    )
    (eight_parts c.args.out.now.items (to_be_bytes w128 p.nonce) (kind_byte (kind_of p.kind) ∷ []) (family_byte (octets p.ip) ∷ octets p.ip) (to_be_bytes w16 p.port) (length p.original.now ∷ []) p.original.now
    (to_be_bytes w64 p.issued.0) (126 ∷ []))

pub returns-clause-are : goal.returns-clause-are
returns-clause-are c =
    record { whole = refl; nonce_fits = omega (arith, c.type_inv.self); address_fits = c.in_ok-put_ip.ensures.size; port_fits = omega (arith, c.type_inv.self); issued_fits = omega (arith, c.type_inv.self) }
