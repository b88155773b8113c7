-- The parts of a token, written one after another.
use Rattle.std.proofs.Common.{◌≡◌, ℕ, ◌+◌, ◌≤◌, List, ◌++◌, length, Result, Ok, Err, false, ap, arith, subst, append_assoc, length-append, inl, inr}
use Rattle.std.specs.Prelude.{OnOk, is_err}
use Rattle.qh_token.proofs.Forms.{after_address, after_id}
use Rattle.qh_token.specs.Parts.{AreParts, IsAllowed}
use Rattle.qh_token.specs.Token.{TokenValue, IsAddress, IsToken, token_bytes}

pub eight_parts : (old a b d e f g h i : List ℕ) → (((((((old ++ a) ++ b) ++ d) ++ e) ++ f) ++ g) ++ h) ++ i ≡ old ++ (a ++ (b ++ (d ++ (e ++ (f ++ (g ++ (h ++ i)))))))
eight_parts old a b d e f g h i = simp append_assoc

pub not_err : {A E P : Type 0} (r : Result A E) → OnOk r P → false ≡ is_err r → P
not_err (Ok x) p e = p
not_err (Err x) p e = cc

-- parts that are allowed are a token
pub token_of : (bytes : List ℕ) (v : TokenValue) → AreParts bytes v → IsAllowed v → IsToken bytes v
token_of bytes v p a = record {
  whole = p.whole;
  fits = record { nonce_fits = p.nonce_fits; address_fits = p.address_fits; port_fits = p.port_fits; original_fits = a.original_fits; issued_fits = p.issued_fits; validation = a.validation };
}

pub written_parts : (v w : TokenValue) → v ≡ w → AreParts (token_bytes v) v → IsAllowed w → IsToken (token_bytes w) w
written_parts v w e p a = token_of (token_bytes w) w (subst (λ (z : TokenValue). AreParts (token_bytes z) z) e p) a

address_short : (address : List ℕ) → IsAddress address → length address ≤ 16
address_short address (inl l) = omega arith
address_short address (inr l) = omega arith

-- 16 bytes and two, an address, two and one, an id, and 8 and one
pub token_short : (old new bytes : List ℕ) (v : TokenValue) → new ≡ old ++ bytes → IsToken bytes v → length new ≤ length old + 66
token_short old new bytes v e t =
    let all = length-append old bytes in
    let front = length-append v.address (after_address v) in
    let back = length-append v.original (after_id v) in
    let few = address_short v.address t.fits.address_fits in
    omega (arith, ap length e, all, ap length t.whole, front, back, few, t.fits.original_fits)
