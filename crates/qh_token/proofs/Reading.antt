-- The parts of a token, read one after another.
use Rattle.std.proofs.Common.{◌≡◌, ℕ, ◌<◌, ◌≤◌, ◌^◌, List, [], ◌∷◌, ◌++◌, length, take, drop, Bool, true, false, not, refl, sym, ap, ◌∙◌, subst}
use Rattle.std.specs.Prelude.{bytes_eq}
use Rattle.std.specs.Int.{w16, w64, w128, to_be_bytes, from_be_bytes}
use Rattle.std.proofs.lemmas.Slice.Eq.{bytes_eq-Decides}
use Rattle.qh_token.proofs.Forms.{after_address, after_kind, after_port, same_address}
use Rattle.qh_token.proofs.Numbers.{IsBytes, back_bytes, later_bytes, front_2, front_8, front_16}
use Rattle.qh_token.specs.Parts.{AreParts}
use Rattle.qh_token.specs.Token.{TokenValue, IsAddress, family_byte, kind_byte}

not_false : (b : Bool) → false ≡ not b → b ≡ true
not_false true e = refl
not_false false e = cc

-- 8 bytes and the last one
pub moment_here : (bytes chunk rest last : List ℕ) (n : ℕ) → IsBytes bytes → 8 ≤ length bytes → chunk ≡ take 8 bytes → rest ≡ drop 8 bytes → n ≡ from_be_bytes w64 chunk
    → false ≡ not (bytes_eq rest last) → last ≡ 126 ∷ [] → bytes ≡ to_be_bytes w64 n ++ 126 ∷ []
moment_here bytes chunk rest last n are fits e f is same end =
    front_8 bytes chunk rest n are fits e f is ∙ ap (λ (z : List ℕ). to_be_bytes w64 n ++ z) ((bytes_eq-Decides rest last).0 (not_false (bytes_eq rest last) same) ∙ end)

-- what stands behind the port
pub port_place : (bytes r1 r2 a r3 r4 : List ℕ) (k : ℕ) (v : TokenValue) → AreParts bytes v → r1 ≡ drop 16 bytes → r1 ≡ k ∷ r2 → r2 ≡ family_byte a ∷ (a ++ r3) → IsAddress a → r4 ≡ drop 2 r3
    → r4 ≡ after_port v
port_place bytes r1 r2 a r3 r4 k v p e f g is h =
    let kinds : k ∷ r2 ≡ kind_byte v.kind ∷ after_kind v = sym f ∙ e ∙ ap (λ (z : List ℕ). drop 16 z) p.whole in
    let addresses : family_byte a ∷ (a ++ r3) ≡ after_kind v = sym g ∙ ap (λ (z : List ℕ). drop 1 z) kinds in
    h ∙ ap (λ (z : List ℕ). drop 2 z) (same_address a r3 v.address (after_address v) is p.address_fits addresses).1

-- the parts that were read are those of the bytes
pub parts_here : (bytes c1 r1 r2 r3 c2 r4 r5 : List ℕ) (k : ℕ) (v : TokenValue) → IsBytes bytes
    → 16 ≤ length bytes → c1 ≡ take 16 bytes → r1 ≡ drop 16 bytes → v.nonce ≡ from_be_bytes w128 c1 → v.nonce < 2 ^ 128
    → r1 ≡ k ∷ r2 → k ≡ kind_byte v.kind
    → r2 ≡ family_byte v.address ∷ (v.address ++ r3) → IsAddress v.address
    → 2 ≤ length r3 → c2 ≡ take 2 r3 → r4 ≡ drop 2 r3 → v.port ≡ from_be_bytes w16 c2 → v.port < 2 ^ 16
    → r4 ≡ length v.original ∷ (v.original ++ r5)
    → r5 ≡ to_be_bytes w64 v.issued ++ 126 ∷ [] → v.issued < 2 ^ 64
    → AreParts bytes v
parts_here bytes c1 r1 r2 r3 c2 r4 r5 k v are long e1 f1 n1 b1 e2 k_is e3 is some e4 f4 n4 b4 e5 e6 b6 =
    let r1_are : IsBytes r1 = subst IsBytes (sym f1) (back_bytes 16 bytes are) in
    let r2_are : IsBytes r2 = later_bytes (k ∷ []) r2 (subst IsBytes e2 r1_are) in
    let r3_are : IsBytes r3 = later_bytes (family_byte v.address ∷ v.address) r3 (subst IsBytes e3 r2_are) in
    let nonce : bytes ≡ to_be_bytes w128 v.nonce ++ r1 = front_16 bytes c1 r1 v.nonce are long e1 f1 n1 in
    let kind : r1 ≡ kind_byte v.kind ∷ r2 = e2 ∙ ap (λ (n : ℕ). n ∷ r2) k_is in
    let port : r3 ≡ to_be_bytes w16 v.port ++ r4 = front_2 r3 c2 r4 v.port r3_are some e4 f4 n4 in
    let id : r4 ≡ after_port v = e5 ∙ ap (λ (z : List ℕ). length v.original ∷ (v.original ++ z)) e6 in
    let address : r2 ≡ after_kind v = e3 ∙ ap (λ (z : List ℕ). family_byte v.address ∷ (v.address ++ z)) (port ∙ ap (λ (z : List ℕ). to_be_bytes w16 v.port ++ z) id) in
    record {
      whole = nonce ∙ ap (λ (z : List ℕ). to_be_bytes w128 v.nonce ++ z) (kind ∙ ap (λ (z : List ℕ). kind_byte v.kind ∷ z) address);
      nonce_fits = b1;
      address_fits = is;
      port_fits = b4;
      issued_fits = b6;
    }
