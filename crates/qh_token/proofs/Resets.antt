-- Reset tokens of short ids tell the ids, and none is the end of a tag.
use Rattle.std.proofs.Common.{◌≡◌, ℕ, ◌-◌, ◌≤◌, List, [], ◌∷◌, ◌++◌, length, get_or, take, drop, drop_at, replicate, sym, ap, ◌∙◌, arith, length-append}
use Rattle.std.specs.Int.{w64, to_be_bytes}
use Rattle.std.proofs.lemmas.List.{length-replicate, length-take}
use Rattle.qh_spec.proofs.Cuts.{halves}
use Rattle.qh_spec.specs.StreamId.{side_bit}
use Rattle.qh_spec.specs.Tag.{IsTag, padded, space_byte}
use Rattle.qh_spec.specs.declared.sides.Side.{Side}
use Rattle.qh_spec.specs.declared.sides.Space.{Space}
use Rattle.qh_token.specs.Reset.{reset_token_of}

whole_id : (id : List ℕ) → length id ≤ 14 → drop (length id - 14) id ≡ id
whole_id id short = let none : length id - 14 ≡ 0 = omega arith in ap (λ (k : ℕ). drop k id) none

pub reset_once : (id other : List ℕ) → length id ≤ 14 → reset_token_of id ≡ reset_token_of other → id ≡ other
reset_once id other short e =
    let sizes : length id ≡ length other = ap (λ (z : List ℕ). get_or z 1 0) e in
    let zeros : length {A = ℕ} (replicate (14 - length id) 0) ≡ length {A = ℕ} (replicate (14 - length other) 0) = ap (λ (n : ℕ). length {A = ℕ} (replicate (14 - n) 0)) sizes in
    let ends = (halves (replicate (14 - length id) 0) (drop (length id - 14) id) (replicate (14 - length other) 0) (drop (length other - 14) other) zeros (ap (λ (z : List ℕ). drop 2 z) e)).1 in
    sym (whole_id id short) ∙ ends ∙ whole_id other (omega (arith, sizes, short))

padded_length : (id : List ℕ) → length (padded 16 id) ≡ 16
padded_length id = omega (arith, length-append (take 16 id) (replicate (16 - length id) 0), length-take 16 id, length-replicate {A = ℕ} (16 - length id) 0)

-- A5 against 5A
pub no_tag_end : (id tag : List ℕ) (sender : Side) (space : Space) (number : ℕ) → IsTag tag sender space number → drop 16 tag ≡ reset_token_of id → ⊥
no_tag_end id tag sender space number t e =
    let end : List ℕ = 165 ∷ side_bit sender ∷ (to_be_bytes w64 number ++ (length t.key_id ∷ (padded 4 (drop 16 t.key_id) ++ space_byte space ∷ []))) in
    let both : end ≡ reset_token_of id = sym (drop_at (padded 16 t.key_id) end 16 (padded_length t.key_id)) ∙ ap (λ (z : List ℕ). drop 16 z) (sym t.is) ∙ e in
    let first : 165 ≡ 90 = ap (λ (z : List ℕ). get_or z 0 0) both in
    absurd (omega (arith, first))
