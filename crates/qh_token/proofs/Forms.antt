-- Bytes are a token in one way at most.
use Rattle.std.proofs.Common.{◌≡◌, ℕ, List, [], ◌∷◌, ◌++◌, length, get_or, take, drop, refl, sym, ap, ◌∙◌, arith, inl, inr, eq-eqb, ne_eqb}
use Rattle.std.specs.Int.{w16, w64, to_be_bytes, from_be_bytes}
use Rattle.std.proofs.lemmas.Nat.{from_be_bytes-to_be_bytes_2, from_be_bytes-to_be_bytes_8}
use Rattle.qh_spec.proofs.Cuts.{halves}
use Rattle.qh_token.proofs.Numbers.{wide_once}
use Rattle.qh_token.specs.Parts.{AreParts, IsAllowed}
use Rattle.qh_token.specs.Token.{TokenKind, Retry, Validation, TokenValue, IsAddress, IsToken, IsTokenValue, family_byte, kind_byte, token_bytes}

family_4 : (a : List ℕ) → length a ≡ 4 → family_byte a ≡ 4
family_4 a l = rw (eq-eqb (length a) 4 l) refl

pub family_6 : (a : List ℕ) → length a ≡ 16 → family_byte a ≡ 6
family_6 a l = rw (ne_eqb (length a) 4 (λ e. absurd (omega arith))) refl

-- behind a byte of the same family stands the same address
pub same_address : (a x b y : List ℕ) → IsAddress a → IsAddress b → family_byte a ∷ (a ++ x) ≡ family_byte b ∷ (b ++ y) → (a ≡ b) × (x ≡ y)
same_address a x b y (inl l) (inl m) e = halves a x b y (l ∙ sym m) (ap (λ (z : List ℕ). drop 1 z) e)
same_address a x b y (inr l) (inr m) e = halves a x b y (l ∙ sym m) (ap (λ (z : List ℕ). drop 1 z) e)
same_address a x b y (inl l) (inr m) e =
    let first : family_byte a ≡ family_byte b = ap (λ (z : List ℕ). get_or z 0 0) e in
    absurd (omega (arith, first, family_4 a l, family_6 b m))
same_address a x b y (inr l) (inl m) e =
    let first : family_byte a ≡ family_byte b = ap (λ (z : List ℕ). get_or z 0 0) e in
    absurd (omega (arith, first, family_6 a l, family_4 b m))

-- behind an id of the same place
pub same_id : (a x b y : List ℕ) → length a ∷ (a ++ x) ≡ length b ∷ (b ++ y) → (a ≡ b) × (x ≡ y)
same_id a x b y e = halves a x b y (ap (λ (z : List ℕ). get_or z 0 0) e) (ap (λ (z : List ℕ). drop 1 z) e)

pub same_kind : (k j : TokenKind) → kind_byte k ≡ kind_byte j → k ≡ j
same_kind Retry Retry e = refl
same_kind Validation Validation e = refl
same_kind Retry Validation e = absurd (omega arith)
same_kind Validation Retry e = absurd (omega arith)

-- what stands behind the kind, the address, the port and the id
abbrev pub after_id : TokenValue → List ℕ
after_id v = to_be_bytes w64 v.issued ++ 126 ∷ []

abbrev pub after_port : TokenValue → List ℕ
after_port v = length v.original ∷ (v.original ++ after_id v)

abbrev pub after_address : TokenValue → List ℕ
after_address v = to_be_bytes w16 v.port ++ after_port v

abbrev pub after_kind : TokenValue → List ℕ
after_kind v = family_byte v.address ∷ (v.address ++ after_address v)

pub parts_once : (bytes : List ℕ) (v w : TokenValue) → AreParts bytes v → AreParts bytes w → v ≡ w
parts_once bytes v w p q =
    let both : token_bytes v ≡ token_bytes w = sym p.whole ∙ q.whole in
    let nonces : v.nonce ≡ w.nonce = wide_once v.nonce w.nonce p.nonce_fits q.nonce_fits (ap (λ (z : List ℕ). take 16 z) both) in
    let kinds : v.kind ≡ w.kind = same_kind v.kind w.kind (ap (λ (z : List ℕ). get_or z 16 0) both) in
    let addresses = same_address v.address (after_address v) w.address (after_address w) p.address_fits q.address_fits (ap (λ (z : List ℕ). drop 17 z) both) in
    let ports : v.port ≡ w.port =
    sym (from_be_bytes-to_be_bytes_2 v.port p.port_fits) ∙ ap (λ (z : List ℕ). from_be_bytes w16 (take 2 z)) addresses.1 ∙ from_be_bytes-to_be_bytes_2 w.port q.port_fits in
    let ids = same_id v.original (after_id v) w.original (after_id w) (ap (λ (z : List ℕ). drop 2 z) addresses.1) in
    let moments : v.issued ≡ w.issued =
    sym (from_be_bytes-to_be_bytes_8 v.issued p.issued_fits) ∙ ap (λ (z : List ℕ). from_be_bytes w64 (take 8 z)) ids.1 ∙ from_be_bytes-to_be_bytes_8 w.issued q.issued_fits in
    λ i. record { nonce = nonces i; kind = kinds i; address = addresses.0 i; port = ports i; original = ids.0 i; issued = moments i }

pub token_parts : (bytes : List ℕ) (v : TokenValue) → IsToken bytes v → AreParts bytes v
token_parts bytes v t = record { whole = t.whole; nonce_fits = t.fits.nonce_fits; address_fits = t.fits.address_fits; port_fits = t.fits.port_fits; issued_fits = t.fits.issued_fits }

pub token_once : (bytes : List ℕ) (v w : TokenValue) → IsToken bytes v → IsToken bytes w → v ≡ w
token_once bytes v w t u = parts_once bytes v w (token_parts bytes v t) (token_parts bytes w u)

pub allowed : (v : TokenValue) → IsTokenValue v → IsAllowed v
allowed v f = record { original_fits = f.original_fits; validation = f.validation }
