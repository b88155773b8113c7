-- The first line of a text.
use Rattle.std.proofs.Common.{◌≡◌, ℕ, zero, suc, ◌+◌, ◌-◌, ◌<◌, ◌≤◌, ◌==◌, false, List, [], ◌∷◌, length, get_or, take, drop, refl, ap, ◌∙◌, arith, ne_eqb, add-one, take_all, length-drop, drop_of_length-le}
use Rattle.qh_spec.specs.Lines.{lines, onto_first}

-- with a newline behind it
pub ended : (text : List ℕ) (n : ℕ) → n < length text → ((k : ℕ) → k < n → get_or text k 0 ≡ 10 → ⊥) → get_or text n 0 ≡ 10
    → lines text ≡ take n text ∷ lines (drop (suc n) text)
ended [] n lt before is = absurd (omega arith)
ended (b ∷ bs) zero lt before is = rw is refl
ended (b ∷ bs) (suc n) lt before is =
    let other : (b == 10) ≡ false = ne_eqb b 10 (before 0 (omega arith)) in
    let rest = ended bs n (omega arith) (λ k less. before (suc k) (omega arith)) is in
    rw other (ap (onto_first b) rest)

-- and without
pub unended : (text : List ℕ) → 0 < length text → ((k : ℕ) → k < length text → get_or text k 0 ≡ 10 → ⊥) → lines text ≡ text ∷ []
unended [] some before = absurd (omega arith)
unended (b ∷ []) some before =
    let other : (b == 10) ≡ false = ne_eqb b 10 (before 0 (omega arith)) in
    rw other refl
unended (b ∷ c ∷ bs) some before =
    let other : (b == 10) ≡ false = ne_eqb b 10 (before 0 (omega arith)) in
    let rest = unended (c ∷ bs) (omega arith) (λ k less. before (suc k) (omega arith)) in
    rw other (ap (onto_first b) rest)

rest_all : (text : List ℕ) (n : ℕ) → take (length text - n) (drop n text) ≡ drop n text
rest_all text n = take_all (length text - n) (drop n text) (omega (arith, length-drop n text))

-- the same, as the cuts of slices say it
pub ended_cut : (text : List ℕ) (n : ℕ) → n < length text → ((k : ℕ) → k < n → get_or text k 0 ≡ 10 → ⊥) → (n < length text → get_or text n 0 ≡ 10)
    → lines text ≡ take n text ∷ lines (take (length text - (n + 1)) (drop (n + 1) text))
ended_cut text n lt before is =
    rw (rest_all text (n + 1)) (rw (add-one n) (ended text n lt before (is lt)))

pub unended_cut : (text : List ℕ) (n : ℕ) → 0 < length text → length text ≤ n → ((k : ℕ) → k < n → get_or text k 0 ≡ 10 → ⊥)
    → lines text ≡ text ∷ lines (take (length text - n) (drop n text))
unended_cut text n some le before =
    let none : drop n text ≡ [] = drop_of_length-le text le in
    let nothing : take (length text - n) (drop n text) ≡ [] = rest_all text n ∙ none in
    rw nothing (unended text some (λ k less. before k (omega arith)))
