-- How many numbers a set has: counted one by one, and by its ranges.
use Rattle.std.proofs.Common.{◌≡◌, ℕ, zero, suc, ◌+◌, ◌-◌, ◌<◌, ◌≤◌, Bool, true, false, ◌||◌, List, [], ◌∷◌, cond, min, refl, ◌∙◌, arith, inl, inr}
use Rattle.std.proofs.lemmas.Bool.{cases_lt, cases_eq, eq-eqb, ne_eqb, or_left, or_right, both_ways}
use Rattle.qh_buffers.specs.Ranges.{PlainRange, is_in, has, count_of, front_of, AreApart}
use Rattle.qh_buffers.proofs.RangeLaws.{inside, before, behind, none_below}

-- how many numbers below n pass a test
count_below : (ℕ → Bool) → ℕ → ℕ
count_below p zero = 0
count_below p (suc n) = count_below p n + cond (p n) 1 0

one_at_most : (t : Bool) → cond t 1 0 ≤ 1
one_at_most true = omega arith
one_at_most false = omega arith

one_of : (s t : Bool) → (s ≡ true → t ≡ false) → cond (s || t) 1 0 ≡ cond s 1 0 + cond t 1 0
one_of true t apart = rw (apart refl)
one_of false t apart = omega arith

count_same : (p q : ℕ → Bool) (n : ℕ) → ((k : ℕ) → p k ≡ q k) → count_below p n ≡ count_below q n
unfolding count_below
count_same p q zero same = refl
count_same p q (suc n) same = rw (count_same p q n same, same n)

count_le : (p : ℕ → Bool) (n : ℕ) → count_below p n ≤ n
unfolding count_below
count_le p zero = omega arith
count_le p (suc n) = omega (arith, count_le p n, one_at_most (p n))

count_either : (p q : ℕ → Bool) (n : ℕ) → ((k : ℕ) → p k ≡ true → q k ≡ false) → count_below (λ k. p k || q k) n ≡ count_below p n + count_below q n
unfolding count_below
count_either p q zero apart = refl
count_either p q (suc n) apart = omega (arith, count_either p q n apart, one_of (p n) (q n) (apart n))

count_range : (r : PlainRange) (n : ℕ) → r.start ≤ r.end → count_below (is_in r) n ≡ min n r.end - r.start
unfolding count_below
count_range r zero order = omega arith
count_range r (suc n) order =
    let so_far = count_range r n order in
    elim (cases_lt n r.start) [
      | inl low ↦ rw (before r n low) (omega arith)
      | inr above ↦ elim (cases_lt n r.end) [
        | inl under ↦ rw (inside r n above under) (omega arith)
        | inr past ↦ rw (behind r n past) (omega arith)
      ]
    ]

count_none : (n : ℕ) → count_below (has []) n ≡ 0
unfolding count_below
count_none zero = refl
count_none (suc n) = rw (count_none n)

pub in_end : (r : PlainRange) (k : ℕ) → is_in r k ≡ true → k < r.end
in_end r k h =
    elim (cases_lt k r.end) [ inl under ↦ under | inr past ↦ absurd (both_ways (is_in r k) (behind r k past) h) ]

pub in_start : (r : PlainRange) (k : ℕ) → is_in r k ≡ true → r.start ≤ k
in_start r k h =
    elim (cases_lt k r.start) [ inl low ↦ absurd (both_ways (is_in r k) (before r k low) h) | inr above ↦ above ]

-- all numbers of a set are below n
count_is : (rs : List PlainRange) (low n : ℕ) → AreApart low rs → ((k : ℕ) → has rs k ≡ true → k < n) → count_below (has rs) n ≡ count_of rs
count_is [] low n apart below = count_none n
count_is (r ∷ rs) low n apart below =
    let last : r.end - 1 < n = below (r.end - 1) (or_left (is_in r (r.end - 1)) (has rs (r.end - 1)) (inside r (r.end - 1) (omega (arith, apart.1)) (omega (arith, apart.1)))) in
    let here : count_below (is_in r) n ≡ r.end - r.start = count_range r n (omega (arith, apart.1)) ∙ omega (arith, apart.1) in
    let later : count_below (has rs) n ≡ count_of rs = count_is rs (r.end + 1) n apart.2 (λ k h. below k (or_right (is_in r k) (has rs k) h)) in
    let split : count_below (λ k. is_in r k || has rs k) n ≡ count_below (is_in r) n + count_below (has rs) n =
    count_either (is_in r) (has rs) n (λ k h. none_below rs (r.end + 1) k apart.2 (omega (arith, in_end r k h))) in
    split ∙ omega arith

-- where all numbers of a set are below n, it has at most n
pub count_bound : (rs : List PlainRange) (n : ℕ) → AreApart 0 rs → ((k : ℕ) → has rs k ≡ true → k < n) → count_of rs ≤ n
count_bound rs n apart below = omega (arith, count_is rs 0 n apart below, count_le (has rs) n)

-- a range that the set lacks adds its length
pub count_added : (old new : List PlainRange) (r : PlainRange) (n : ℕ) → AreApart 0 old → AreApart 0 new → r.start < r.end → ((k : ℕ) → has new k ≡ (is_in r k || has old k)) → ((k : ℕ) → is_in r k ≡ true → has old k ≡ false)
    → ((k : ℕ) → has new k ≡ true → k < n) → (count_of new ≡ count_of old + (r.end - r.start)) × (count_of new ≤ n)
count_added old new r n apart_old apart_new order added lacks below =
    let of_new = count_is new 0 n apart_new below in
    let of_old = count_is old 0 n apart_old (λ k h. below k (added k ∙ or_right (is_in r k) (has old k) h)) in
    let split = count_same (has new) (λ k. is_in r k || has old k) n added ∙ count_either (is_in r) (has old) n lacks in
    let here = count_range r n (omega arith) in
    let last : r.end - 1 < n = below (r.end - 1) (added (r.end - 1) ∙ or_left (is_in r (r.end - 1)) (has old (r.end - 1)) (inside r (r.end - 1) (omega arith) (omega arith))) in
    (omega arith, omega (arith, count_le (has new) n))

-- the numbers in front
pub front_has : (rs : List PlainRange) (k : ℕ) → k < front_of rs → has rs k ≡ true
front_has [] k h = absurd (omega arith)
front_has (r ∷ rs) k h =
    elim (cases_eq r.start 0) [
      | inl first ↦ or_left (is_in r k) (has rs k) (inside r k (omega arith) (rw (eq-eqb r.start 0 first) at h))
      | inr later ↦ let none : k < 0 = rw (ne_eqb r.start 0 later) at h in absurd (omega arith)
    ]
