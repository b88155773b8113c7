-- Ranges that have the numbers of one range alone are that range.
use Rattle.std.proofs.Common.{◌≡◌, ℕ, ◌+◌, ◌-◌, ◌<◌, ◌≤◌, nat_lt, nat_le, Bool, true, false, ◌||◌, List, [], ◌∷◌, refl, sym, ap, ap₂, ◌∙◌, arith, inl, inr}
use Rattle.std.proofs.lemmas.Bool.{false≢true, and_parts, cases_Bool, leb-true, ltb-true}
use Rattle.qh_buffers.specs.Ranges.{PlainRange, is_in, has, AreApart}
use Rattle.qh_buffers.proofs.RangeLaws.{inside, behind, none_below}

abbrev range : (start end : ℕ) → PlainRange
range start end = record { start = start; end = end }

-- a number of the range, by its bounds
bounds : (start end k : ℕ) → is_in (range start end) k ≡ true → (start ≤ k) × (k < end)
bounds start end k e = let p = and_parts (nat_le start k) (nat_lt k end) e in (leb-true start k p.0, ltb-true k end p.1)

first_has : (r : PlainRange) (rs : List PlainRange) (k : ℕ) → is_in r k ≡ true → has (r ∷ rs) k ≡ true
first_has r rs k e = ap (λ (b : Bool). b || has rs k) e

second_has : (r : PlainRange) (rs : List PlainRange) (k : ℕ) → is_in r k ≡ false → has (r ∷ rs) k ≡ has rs k
second_has r rs k e = ap (λ (b : Bool). b || has rs k) e

module _ (start end : ℕ) (some : start < end) where
  same_start : (r : PlainRange) (rs : List PlainRange) → AreApart 0 (r ∷ rs) → ((k : ℕ) → has (r ∷ rs) k ≡ is_in (range start end) k) → r.start ≡ start
  same_start r rs apart same =
      let there = bounds start end r.start (sym (same r.start) ∙ first_has r rs r.start (inside r r.start (omega arith) apart.1)) in
      elim (cases_Bool (nat_lt start r.start)) [
        | inl before ↦
            let low = ltb-true start r.start before in
            absurd (false≢true (sym (none_below (r ∷ rs) r.start start (omega arith, apart.1, apart.2) low) ∙ same start ∙ inside (range start end) start (omega arith) some))
        | inr from ↦ grind (arith, there, from)
      ]

  same_end : (r : PlainRange) (rs : List PlainRange) → AreApart 0 (r ∷ rs) → ((k : ℕ) → has (r ∷ rs) k ≡ is_in (range start end) k) → r.start ≡ start → r.end ≡ end
  same_end r rs apart same from =
      let last = bounds start end (r.end - 1) (sym (same (r.end - 1)) ∙ first_has r rs (r.end - 1) (inside r (r.end - 1) (omega (arith, apart.1)) (omega (arith, apart.1)))) in
      elim (cases_Bool (nat_lt r.end end)) [
        | inl short ↦
            let inner = inside (range start end) r.end (omega (arith, apart.1, from)) (ltb-true r.end end short) in
            absurd (false≢true (sym (none_below rs (r.end + 1) r.end apart.2 (omega arith)) ∙ sym (second_has r rs r.end (behind r r.end (omega arith))) ∙ same r.end ∙ inner))
        | inr long ↦ grind (arith, last, long, apart.1)
      ]

  no_more : (r : PlainRange) (rs : List PlainRange) → AreApart 0 (r ∷ rs) → ((k : ℕ) → has (r ∷ rs) k ≡ is_in (range start end) k) → r.end ≡ end → rs ≡ []
  no_more r [] apart same to = refl
  no_more r (q ∷ rs) apart same to =
      let out = behind r q.start (omega (arith, apart.2.0)) in
      let there = bounds start end q.start (sym (same q.start) ∙ second_has r (q ∷ rs) q.start out ∙ first_has q rs q.start (inside q q.start (omega arith) apart.2.1)) in
      absurd (omega (arith, there.1, to, apart.2.0))

  pub one_range : (rs : List PlainRange) → AreApart 0 rs → ((k : ℕ) → has rs k ≡ is_in (range start end) k) → rs ≡ range start end ∷ []
  one_range [] apart same = absurd (false≢true (same start ∙ inside (range start end) start (omega arith) some))
  one_range (r ∷ rs) apart same =
      let from = same_start r rs apart same in
      let to = same_end r rs apart same from in
      ap₂ (λ (x : PlainRange) (xs : List PlainRange). x ∷ xs) (ap₂ range from to) (no_more r rs apart same to)

-- a range that stands apart has its start
pub no_range : (rs : List PlainRange) → AreApart 0 rs → ((k : ℕ) → has rs k ≡ false) → rs ≡ []
no_range [] apart none = refl
no_range (r ∷ rs) apart none = absurd (false≢true (sym (none r.start) ∙ first_has r rs r.start (inside r r.start (omega arith) apart.1)))
