-- A datagram of an honest end ends with a tag, and so not as a stateless reset does; nor does a Retry packet.
use Rattle.std.proofs.Common.{◌≡◌, ℕ, ◌+◌, ◌-◌, List, [], ◌∷◌, ◌++◌, length, get_or, take, drop, replicate, Option, None, Some, refl, sym, ap, ◌∙◌, arith, length-append, append_assoc}
use Rattle.std.proofs.lemmas.List.{get_or_at, length-drop, length-replicate, length-take}
use Rattle.std.specs.Int.{w64, to_be_bytes}
use Rattle.qh_base.specs.declared.shared.ResetToken.{ResetToken}
use Rattle.qh_conn.specs.Incoming.{is_reset_by}
use Rattle.qh_packet.specs.Retry.{retry_tag_of}
use Rattle.qh_spec.specs.StreamId.{side_bit}
use Rattle.qh_spec.specs.Tag.{IsTag, padded, space_byte}
use Rattle.qh_spec.specs.declared.sides.Side.{Side}
use Rattle.qh_spec.specs.declared.sides.Space.{Space}
use Rattle.qh_token.specs.Reset.{last_14, reset_token_of}

-- the bytes end with these
abbrev pub EndsIn : (tail bytes : List ℕ) → Type 0
EndsIn tail bytes = (front : List ℕ) × (bytes ≡ front ++ tail)

pub ends_all : (tail : List ℕ) → EndsIn tail tail
ends_all tail = ([], refl)

pub ends_more : (tail front bytes : List ℕ) → EndsIn tail bytes → EndsIn tail (front ++ bytes)
ends_more tail front bytes e = (front ++ e.0, ap (λ (z : List ℕ). front ++ z) e.1 ∙ sym (append_assoc front e.0 tail))

-- ---- sixteen bytes before its end a tag has A5, and a token has 5A

padded_length : (n : ℕ) (bytes : List ℕ) → length (padded n bytes) ≡ n
padded_length n bytes = omega (arith, length-append (take n bytes) (replicate (n - length bytes) 0), length-take n bytes, length-replicate {A = ℕ} (n - length bytes) 0)

last_length : (id : List ℕ) → length (last_14 id) ≡ 14
last_length id = omega (arith, length-append (replicate (14 - length id) 0) (drop (length id - 14) id), length-drop (length id - 14) id, length-replicate {A = ℕ} (14 - length id) 0)

-- the byte so many before the end
from_end : (n : ℕ) (bytes front back : List ℕ) (b : ℕ) → bytes ≡ front ++ b ∷ back → length back + 1 ≡ n → get_or bytes (length bytes - n) 0 ≡ b
from_end n bytes front back b is long =
    let size = ap (λ (z : List ℕ). length z) is ∙ length-append front (b ∷ back) in
    ap (λ (z : List ℕ). get_or z (length bytes - n) 0) is ∙ get_or_at front b back 0 (length bytes - n) (omega (arith, size, long))

tag_byte : (tag bytes : List ℕ) (sender : Side) (space : Space) (number : ℕ) → IsTag tag sender space number → EndsIn tag bytes → get_or bytes (length bytes - 16) 0 ≡ 165
tag_byte tag bytes sender space number t e =
    let back : List ℕ = side_bit sender ∷ (to_be_bytes w64 number ++ (length t.key_id ∷ (padded 4 (drop 16 t.key_id) ++ space_byte space ∷ []))) in
    let long : length back + 1 ≡ 16 =
    omega (
      arith,
      length-append (to_be_bytes w64 number) (length t.key_id ∷ (padded 4 (drop 16 t.key_id) ++ space_byte space ∷ [])),
      length-append (padded 4 (drop 16 t.key_id)) (space_byte space ∷ []),
      padded_length 4 (drop 16 t.key_id),
    ) in
    from_end 16 bytes (e.0 ++ padded 16 t.key_id) back 165 (e.1 ∙ ap (λ (z : List ℕ). e.0 ++ z) t.is ∙ sym (append_assoc e.0 (padded 16 t.key_id) (165 ∷ back))) long

token_byte : (id bytes : List ℕ) → EndsIn (reset_token_of id) bytes → get_or bytes (length bytes - 16) 0 ≡ 90
token_byte id bytes e = from_end 16 bytes e.0 (length id ∷ last_14 id) 90 e.1 (let l = last_length id in omega (arith, l))

pub retry_byte : (original bytes : List ℕ) → EndsIn (retry_tag_of original) bytes → get_or bytes (length bytes - 16) 0 ≡ 165
retry_byte original bytes e = from_end 16 bytes e.0 (length original ∷ padded 14 original) 165 e.1 (let l = padded_length 14 original in omega (arith, l))

-- no datagram ends both ways
pub no_reset_by : (bytes id : List ℕ) (o : Option ResetToken) → get_or bytes (length bytes - 16) 0 ≡ 165 → ((k : ResetToken) → o ≡ Some k → k.0 ≡ reset_token_of id) → is_reset_by o bytes → ⊥
no_reset_by bytes id None its tokens r = r
no_reset_by bytes id (Some k) its tokens r =
    let mine = token_byte id bytes (r.1.0, r.1.1 ∙ ap (λ (z : List ℕ). r.1.0 ++ z) (tokens k refl)) in
    absurd (omega (arith, mine, its))

pub not_a_reset : (tag bytes id : List ℕ) (sender : Side) (space : Space) (number : ℕ) (o : Option ResetToken) → IsTag tag sender space number → EndsIn tag bytes
    → ((k : ResetToken) → o ≡ Some k → k.0 ≡ reset_token_of id) → is_reset_by o bytes → ⊥
not_a_reset tag bytes id sender space number o t e tokens r = no_reset_by bytes id o (tag_byte tag bytes sender space number t e) tokens r
