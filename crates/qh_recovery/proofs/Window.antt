-- What is kept of the numbers that came answers for all of them.
use Rattle.std.proofs.Common.{◌≡◌, ◌⊎◌, IfSome, ℕ, ◌+◌, ◌-◌, ◌*◌, ◌<◌, ◌≤◌, ◌^◌, max, true, false, ◌||◌, List, [], ◌∷◌, length, Option, Some, None, MatchOption, slice_get, refl, sym, ◌∙◌, subst, arith, inl, inr}
use Rattle.std.proofs.lemmas.Bool.{cases_lt, both_ways, le-leb, lt-leb, or_cases, or_left, or_right, false_from_ne_true}
use Rattle.std.proofs.lemmas.Option.{none-some, same_Some}
use Rattle.qh_spec.specs.Lists.{In}
use Rattle.qh_buffers.specs.Ranges.{PlainRange, is_in, has, AreApart, IsGreatest}
use Rattle.qh_buffers.proofs.RangeLaws.{inside, behind}
use Rattle.qh_buffers.proofs.RangeCounts.{in_start, in_end}
use Rattle.qh_recovery.specs.Accepted.{IsNear, IsNew, IsGreatestOf, IsNextOf, Remembers, IsWindow, IsNextIn, without_below}

-- a list of numbers is empty or has a greatest
greatest_in : (xs : List ℕ) → (xs ≡ []) ⊎ ((g : ℕ) × IsGreatestOf xs g)
greatest_in [] = inl refl
greatest_in (x ∷ xs) =
    elim (greatest_in xs) [
      | inl none ↦ inr (
        x,
        record {
          is_there = inl refl;
          is_last = λ m h. elim h [ inl e ↦ omega (arith, e) | inr q ↦ absurd (subst (λ (ys : List ℕ). In m ys) none q) ];
        },
      )
      | inr some ↦ elim (cases_lt some.0 x) [
        | inl less ↦ inr (
          x,
          record {
            is_there = inl refl;
            is_last = λ m h. elim h [ inl e ↦ omega (arith, e) | inr q ↦ omega (arith, less, some.1.is_last m q) ];
          },
        )
        | inr more ↦ inr (
          some.0,
          record {
            is_there = inr some.1.is_there;
            is_last = λ m h. elim h [ inl e ↦ omega (arith, e, more) | inr q ↦ some.1.is_last m q ];
          },
        )
      ]
    ]

module _ (accepted : List ℕ) (kept : List PlainRange) (memory : Remembers accepted kept) where
  all_below : (next : ℕ) → IsNextIn kept next → (m : ℕ) → In m accepted → m < next
  all_below next last m h =
      elim (greatest_in accepted) [
        | inl none ↦ absurd (subst (λ (ys : List ℕ). In m ys) none h)
        | inr some ↦
            let there : has kept some.0 ≡ true = (memory.agrees some.0 (λ j q. omega (arith, some.1.is_last j q))).1 some.1.is_there in
            omega (arith, last.is_above some.0 there, some.1.is_last m h)
      ]

  -- the number behind the greatest that is kept is the one behind the greatest that came
  pub next_is : (next : ℕ) → IsNextIn kept next → IsNextOf accepted next
  next_is next last = record {
    is_above = all_below next last;
    is_least = λ some. (memory.agrees (next - 1) (λ j q. omega (arith, all_below next last j q))).0 (last.is_least some);
  }

  pub new_is : (next n : ℕ) → IsNextIn kept next → next - 129 ≤ n → has kept n ≡ false → IsNew accepted n
  new_is next n last near none =
      let is_near : IsNear accepted n = λ m h. omega (arith, all_below next last m h) in
      record { is_unseen = λ h. both_ways (has kept n) none ((memory.agrees n is_near).1 h); is_near = is_near }

  pub new_lacks : (n : ℕ) → IsNew accepted n → has kept n ≡ false
  new_lacks n new = false_from_ne_true (has kept n) (λ h. new.is_unseen ((memory.agrees n new.is_near).0 h))

  greatest_is : (g : ℕ) → IsGreatest kept g → IsGreatestOf accepted g
  greatest_is g last =
      let above : (k : ℕ) → has kept k ≡ true → k < g + 1 = λ k h. elim (cases_lt g k) [ inl past ↦ absurd (both_ways (has kept k) (last.is_last k past) h) | inr at ↦ omega arith ] in
      let e : g + 1 - 1 ≡ g = omega arith in
      let next : IsNextIn kept (g + 1) = record { is_above = above; is_least = λ _. subst (λ (k : ℕ). has kept k ≡ true) (sym e) last.is_there } in
      record {
        is_there = subst (λ (k : ℕ). In k accepted) e ((next_is (g + 1) next).is_least (omega arith));
        is_last = λ m h. omega (arith, all_below (g + 1) next m h);
      }

-- nothing is kept only if nothing came
none_is : (accepted : List ℕ) → Remembers accepted [] → accepted ≡ []
none_is [] memory = refl
none_is (x ∷ xs) memory =
    let next : IsNextIn [] 0 = record { is_above = λ k h. absurd (both_ways false refl h); is_least = λ some. absurd (omega arith) } in
    absurd (omega (arith, all_below (x ∷ xs) [] memory 0 next x (inl refl)))

pub greatest_option : (o : Option ℕ) (accepted : List ℕ) (kept : List PlainRange) → Remembers accepted kept → MatchOption o (kept ≡ []) (IsGreatest kept) → MatchOption o (accepted ≡ []) (IsGreatestOf accepted)
greatest_option (Some g) accepted kept memory h = greatest_is accepted kept memory g h
greatest_option None accepted kept memory h = none_is accepted (subst (λ (rs : List PlainRange). Remembers accepted rs) h memory)

pub greatest_bound : (o : Option ℕ) (kept : List PlainRange) → IsWindow kept → MatchOption o (kept ≡ []) (IsGreatest kept) → IfSome o (λ g. g < 2 ^ 62)
greatest_bound (Some g) kept window h = window.below g h.is_there
greatest_bound None kept window h = tt

-- a range of one number
abbrev pub one : ℕ → PlainRange
one n = record { start = n; end = n + 1 }

pub one_is : (n k : ℕ) → is_in (one n) k ≡ true → n ≡ k
one_is n k h = omega (arith, in_start (one n) k h, in_end (one n) k h)

pub one_has : (n k : ℕ) → n ≡ k → is_in (one n) k ≡ true
one_has n k e = inside (one n) k (omega (arith, e)) (omega (arith, e))

-- a number joins what came
pub remembers_more : (accepted : List ℕ) (old new : List PlainRange) (n next floor : ℕ) → Remembers accepted old → IsNextIn old next → floor ≤ max next (n + 1) - 129 → ((k : ℕ) → floor ≤ k → has new k ≡ (is_in (one n) k || has old k)) → Remembers (n ∷ accepted) new
remembers_more accepted old new n next floor memory last low numbers =
    let reaches : (k : ℕ) → IsNear (n ∷ accepted) k → floor ≤ k = λ k near. elim (cases_lt 0 next) [
      | inl some ↦ omega (arith, low, near n (inl refl), near (next - 1) (inr ((next_is accepted old memory next last).is_least some)))
      | inr none ↦ omega (arith, low, near n (inl refl))
    ] in
    let rest : (k : ℕ) → IsNear (n ∷ accepted) k → IsNear accepted k = λ k near m h. near m (inr h) in
    record {
      agrees = λ k near. (
        λ h. elim (or_cases (is_in (one n) k) (has old k) (sym (numbers k (reaches k near)) ∙ h)) [
          | inl here ↦ inl (one_is n k here)
          | inr there ↦ inr ((memory.agrees k (rest k near)).0 there)
        ],
        λ h. numbers k (reaches k near) ∙ elim h [
          | inl e ↦ or_left (is_in (one n) k) (has old k) (one_has n k e)
          | inr q ↦ or_right (is_in (one n) k) (has old k) ((memory.agrees k (rest k near)).1 q)
        ],
      );
    }

-- what goes lies below the floor
pub without_has : (floor : ℕ) (rs : List PlainRange) (k : ℕ) → floor ≤ k → has (without_below floor rs) k ≡ has rs k
without_has floor [] k h = refl
without_has floor (r ∷ rs) k h =
    elim (cases_lt floor r.end) [
      | inl stays ↦ rw (lt-leb r.end floor stays)
      | inr goes ↦ rw (le-leb r.end floor goes, behind r k (omega arith)) (without_has floor rs k h)
    ]

pub without_sub : (floor : ℕ) (rs : List PlainRange) (k : ℕ) → has (without_below floor rs) k ≡ true → has rs k ≡ true
without_sub floor [] k h = h
without_sub floor (r ∷ rs) k h =
    elim (cases_lt floor r.end) [
      | inl stays ↦ rw (lt-leb r.end floor stays) at h
      | inr goes ↦ or_right (is_in r k) (has rs k) (without_sub floor rs k (rw (le-leb r.end floor goes) at h))
    ]

-- ranges from an end on need two numbers each
many : (r : PlainRange) (rs : List PlainRange) (low top : ℕ) → AreApart low (r ∷ rs) → ((k : ℕ) → has (r ∷ rs) k ≡ true → k < top) → 2 * length rs + r.end ≤ top
many r [] low top apart below =
    let last = below (r.end - 1) (or_left (is_in r (r.end - 1)) false (inside r (r.end - 1) (omega (arith, apart.1)) (omega (arith, apart.1)))) in
    omega (arith, last)
many r (s ∷ ss) low top apart below =
    let later = many s ss (r.end + 1) top apart.2 (λ k h. below k (or_right (is_in r k) (has (s ∷ ss) k) h)) in
    omega (arith, later, apart.2.0, apart.2.1)

few : (floor low top : ℕ) (rs : List PlainRange) → AreApart low rs → ((k : ℕ) → has rs k ≡ true → k < top) → top ≤ floor + 129 → length (without_below floor rs) ≤ 65
few floor low top [] apart below h = omega arith
few floor low top (r ∷ rs) apart below h =
    elim (cases_lt floor r.end) [
      | inl stays ↦ rw (lt-leb r.end floor stays) (omega (arith, h, many r rs low top apart below))
      | inr goes ↦ rw (le-leb r.end floor goes) (few floor (r.end + 1) top rs apart.2 (λ k q. below k (or_right (is_in r k) (has rs k) q)) h)
    ]

-- what is kept once a number came
pub window_more : (old mid : List PlainRange) (n next : ℕ) → IsWindow old → n < 2 ^ 62 → AreApart 0 mid → IsNextIn old next → ((k : ℕ) → has mid k ≡ (is_in (one n) k || has old k)) → IsWindow (without_below (max next (n + 1) - 129) mid)
window_more old mid n next window small apart last numbers =
    let floor : ℕ = max next (n + 1) - 129 in
    let top : (k : ℕ) → has mid k ≡ true → k < max next (n + 1) = λ k h. elim (or_cases (is_in (one n) k) (has old k) (sym (numbers k) ∙ h)) [
      | inl here ↦ omega (arith, one_is n k here)
      | inr there ↦ omega (arith, last.is_above k there)
    ] in
    let below : (k : ℕ) → has mid k ≡ true → k < 2 ^ 62 = λ k h. elim (or_cases (is_in (one n) k) (has old k) (sym (numbers k) ∙ h)) [
      | inl here ↦ omega (arith, one_is n k here, small)
      | inr there ↦ window.below k there
    ] in
    record {
      few = few floor 0 (max next (n + 1)) mid apart top (omega arith);
      below = λ k h. below k (without_sub floor mid k h);
    }

pub remembers_kept : (accepted : List ℕ) (old mid : List PlainRange) (n next : ℕ) → Remembers accepted old → IsNextIn old next → ((k : ℕ) → has mid k ≡ (is_in (one n) k || has old k)) → Remembers (n ∷ accepted) (without_below (max next (n + 1) - 129) mid)
remembers_kept accepted old mid n next memory last numbers =
    let floor : ℕ = max next (n + 1) - 129 in
    remembers_more accepted old (without_below floor mid) n next floor memory last (omega arith) (λ k h. without_has floor mid k h ∙ numbers k)

-- the first range reaches above the floor
pub front_stays : (floor : ℕ) (rs : List PlainRange) (r : PlainRange) → slice_get rs 0 ≡ Some r → floor < r.end → without_below floor rs ≡ rs
front_stays floor [] r at h = absurd (none-some r at)
front_stays floor (s ∷ rs) r at h =
    let same : r ≡ s = same_Some r s (sym at) in
    rw (lt-leb s.end floor (rw same at h))
