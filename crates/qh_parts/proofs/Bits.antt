-- A bit of a list of words after one bit was set, and the positions of a fingerprint.
use Rattle.std.proofs.Common.{◌≡◌, ◌≢◌, ℕ, ◌+◌, ◌*◌, ◌/◌, ◌%◌, ◌^◌, ◌<◌, zero, suc, true, false, ◌||◌, eqb, List, length, get_or, set, bit_or, sym, ap, ◌∙◌, ⊎_elim, arith, w64, get_or-set_same, get_or-set_other}
use Rattle.std.specs.Int.{bit_at}
use Rattle.std.specs.List.{list_all}
use Rattle.std.proofs.lemmas.Nat.Bits.{bit_at_set_same, bit_at_set_other}
use Rattle.std.proofs.lemmas.Bool.{cases_eq, eq-eqb, ne_eqb, and_left, and_right}
use Rattle.qh_spec.specs.TokenFilter.{hash_word, positions_to}
use Rattle.qh_parts.specs.BitFilter.{has_bit}

abbrev with_bit : List ℕ → ℕ → List ℕ
with_bit words k = set words (k / 64) (bit_or (get_or words (k / 64) 0) (1 * 2 ^ (k % 64) % 2 ^ 64))

-- at the bit itself
bit_same : (words : List ℕ) (k : ℕ) → k < 64 * length words → has_bit (with_bit words k) k ≡ true
bit_same words k h =
    let within : k / 64 < length words = omega arith in
    let below : k % 64 < 64 = omega arith in
    eq-eqb _ 1 (ap (λ w. bit_at w (k % 64)) (get_or-set_same words (k / 64) _ 0 within)
    ∙ bit_at_set_same w64 (get_or words (k / 64) 0) (k % 64) below)

-- at another bit of the same word
bit_beside : (words : List ℕ) (k p : ℕ) → k < 64 * length words → p / 64 ≡ k / 64 → p % 64 ≢ k % 64 → has_bit (with_bit words k) p ≡ has_bit words p
bit_beside words k p h e ne =
    let within : k / 64 < length words = omega arith in
    let below : k % 64 < 64 = omega arith in
    ap (λ b. eqb b 1) (ap (λ i. bit_at (get_or (with_bit words k) i 0) (p % 64)) e
    ∙ ap (λ w. bit_at w (p % 64)) (get_or-set_same words (k / 64) _ 0 within)
    ∙ bit_at_set_other w64 (get_or words (k / 64) 0) (k % 64) below (p % 64) ne
    ∙ sym (ap (λ i. bit_at (get_or words i 0) (p % 64)) e))

-- in another word
bit_apart : (words : List ℕ) (k p : ℕ) → p / 64 ≢ k / 64 → has_bit (with_bit words k) p ≡ has_bit words p
bit_apart words k p ne = ap (λ w. eqb (bit_at w (p % 64)) 1) (get_or-set_other words (k / 64) (p / 64) _ 0 ne)

bit_other : (words : List ℕ) (k p : ℕ) → k < 64 * length words → (k ≡ p → ⊥) → has_bit (with_bit words k) p ≡ has_bit words p
bit_other words k p h ne =
    ⊎_elim (λ e. bit_beside words k p h e (λ same. ne (omega (arith, e, same))))
    (λ apart. bit_apart words k p apart) (cases_eq (p / 64) (k / 64))

pub has_bit-set : (words : List ℕ) (k p : ℕ) → k < 64 * length words → has_bit (with_bit words k) p ≡ (eqb k p || has_bit words p)
has_bit-set words k p h =
    ⊎_elim (λ e. rw (eq-eqb k p e) (rw (← e) (bit_same words k h)))
    (λ ne. rw (ne_eqb k p ne) (bit_other words k p h ne)) (cases_eq k p)

-- one unset position is enough
pub fails_beyond : (words : List ℕ) (bits fingerprint i n : ℕ) → i < n → has_bit words (hash_word fingerprint (i + 1) % bits) ≡ false → list_all (has_bit words) (positions_to bits fingerprint n) ≡ false
fails_beyond words bits fingerprint i zero l h = absurd (omega arith)
fails_beyond words bits fingerprint i (suc n) l h =
    ⊎_elim (λ e. and_left _ _ (ap (λ j. has_bit words (hash_word fingerprint j % bits)) (sym e) ∙ h))
    (λ ne. and_right _ _ (fails_beyond words bits fingerprint i n (omega arith) h)) (cases_eq (i + 1) (suc n))
