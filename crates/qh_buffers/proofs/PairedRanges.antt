-- Ranges as a map keeps them: which numbers they have and lack, the first range and the last.
use Rattle.std.proofs.Common.{◌≡◌, ℕ, ◌+◌, ◌-◌, ◌<◌, ◌≤◌, Bool, true, false, ◌||◌, List, [], ◌∷◌, ◌++◌, suc, length, max, Some, nat_cmp, refl, sym, ap, ◌∙◌, subst, arith, inl, inr, append_assoc, slice_get}
use Rattle.std.specs.BTreeMap.{is_at}
use Rattle.std.specs.Map.{lookup}
use Rattle.std.proofs.lemmas.Bool.{cases_lt, both_ways, eq-eqb, ne_eqb, or_left, or_right, or_from}
use Rattle.qh_buffers.specs.Ranges.{PlainRange, is_in, has, AreApart, IsLeast, IsGreatest, front_of, start_behind, paired, up_to, before, above}
use Rattle.qh_buffers.proofs.RangeLaws.{inside, behind, has-append, none_below, none_behind, apart_front, apart_rest, apart_lower, apart_both}
use Rattle.qh_buffers.proofs.PairedLists.{Pair, range_of, paired-append, Rises, apart_rises, up_to_yes, up_to_no, before_yes, before_no, above_no, all_above, parted, found_middle}

-- ---- which numbers there are

pub has_parted : (es : List Pair) (low n k : ℕ) → Rises low es → has (paired es) k ≡ (has (paired (up_to n es)) k || has (paired (above n es)) k)
has_parted es low n k rises =
    ap (λ (l : List Pair). has (paired l) k) (parted es low n rises)
    ∙ ap (λ (l : List PlainRange). has l k) (paired-append (up_to n es) (above n es))
    ∙ has-append (paired (up_to n es)) (paired (above n es)) k

pub rises_here : (e : Pair) (es : List Pair) (low : ℕ) → Rises low (e ∷ es) → Rises e.0 (e ∷ es)
unfolding Rises
rises_here e es low rises = (omega arith, rises.1)

pub above_apart : (es : List Pair) (low n : ℕ) → AreApart low (paired es) → AreApart (n + 1) (paired (above n es))
above_apart [] low n apart = tt
above_apart (e ∷ es) low n apart =
    elim (cases_lt n e.0) [
      | inl later ↦
          let rises = apart_rises (e ∷ es) low low (omega arith) apart in
          let from : Rises e.0 (e ∷ es) = rises_here e es low rises in
          subst (λ (l : List Pair). AreApart (n + 1) (paired l)) (sym (all_above (e ∷ es) e.0 n from later)) (omega arith, apart.1, apart.2)
      | inr earlier ↦ subst (λ (l : List Pair). AreApart (n + 1) (paired l)) (sym (above_no n e es earlier)) (above_apart es (e.1 + 1) n apart.2)
    ]

pub up_to_apart : (es : List Pair) (low n : ℕ) → AreApart low (paired es) → AreApart low (paired (up_to n es))
up_to_apart es low n apart =
    let rises = apart_rises es low low (omega arith) apart in
    apart_front (paired (up_to n es)) (paired (above n es)) low
    (subst (λ (l : List PlainRange). AreApart low l) (ap paired (parted es low n rises) ∙ paired-append (up_to n es) (above n es)) apart)

-- where the first of a list starts up to a number
last_in : (e : Pair) (es front back : List Pair) (f : Pair) (n : ℕ) → e.0 ≤ n → e ∷ up_to n es ≡ front ++ f ∷ back → ((front' : List Pair) → up_to n es ≡ front' ++ f ∷ back → f.0 ≤ n) → f.0 ≤ n
last_in e es [] back f n earlier is more = let same : e ≡ f = cc in subst (λ (g : Pair). g.0 ≤ n) same earlier
last_in e es (g ∷ front) back f n earlier is more = more front (let tail : up_to n es ≡ front ++ f ∷ back = cc in tail)

pub last_low : (es front back : List Pair) (f : Pair) (n : ℕ) → up_to n es ≡ front ++ f ∷ back → f.0 ≤ n
last_low [] [] back f n is = absurd (cc)
last_low [] (g ∷ front) back f n is = absurd (cc)
last_low (e ∷ es) front back f n is =
    elim (cases_lt n e.0) [
      | inl later ↦ last_low es front back f n (sym (up_to_no n e es later) ∙ is)
      | inr earlier ↦ last_in e es front back f n earlier (sym (up_to_yes n e es earlier) ∙ is) (λ front'. last_low es front' back f n)
    ]

last_before_in : (e : Pair) (es front back : List Pair) (f : Pair) (n : ℕ) → e.0 < n → e ∷ before n es ≡ front ++ f ∷ back → ((front' : List Pair) → before n es ≡ front' ++ f ∷ back → f.0 < n) → f.0 < n
last_before_in e es [] back f n earlier is more = let same : e ≡ f = cc in subst (λ (g : Pair). g.0 < n) same earlier
last_before_in e es (g ∷ front) back f n earlier is more = more front (let tail : before n es ≡ front ++ f ∷ back = cc in tail)

pub last_before_low : (es front back : List Pair) (f : Pair) (n : ℕ) → before n es ≡ front ++ f ∷ back → f.0 < n
last_before_low [] [] back f n is = absurd (cc)
last_before_low [] (g ∷ front) back f n is = absurd (cc)
last_before_low (e ∷ es) front back f n is =
    elim (cases_lt e.0 n) [
      | inl earlier ↦ last_before_in e es front back f n earlier (sym (before_yes n e es earlier) ∙ is) (λ front'. last_before_low es front' back f n)
      | inr later ↦ last_before_low es front back f n (sym (before_no n e es later) ∙ is)
    ]

-- the list around the last range that starts up to a number
pub around : (es front : List Pair) (f : Pair) (n : ℕ) → AreApart 0 (paired es) → up_to n es ≡ front ++ f ∷ [] → es ≡ front ++ f ∷ above n es
around es front f n apart is =
    parted es 0 n (apart_rises es 0 0 (omega arith) apart)
    ∙ ap (λ (l : List Pair). l ++ above n es) is
    ∙ append_assoc front (f ∷ []) (above n es)

pub reached_found : (es front : List Pair) (f : Pair) (n : ℕ) → AreApart 0 (paired es) → up_to n es ≡ front ++ f ∷ [] → lookup (is_at (nat_cmp f.0)) es ≡ Some f.1
reached_found es front f n apart is =
    let list = around es front f n apart is in
    let a : AreApart 0 (paired (front ++ f ∷ above n es)) = subst (λ (l : List Pair). AreApart 0 (paired l)) list apart in
    ap (λ (l : List Pair). lookup (is_at (nat_cmp f.0)) l) list ∙ found_middle front (above n es) f 0 (apart_rises (front ++ f ∷ above n es) 0 0 (omega arith) a)

-- a number in the middle of a list
module _ (front back : List Pair) (f : Pair) (apart : AreApart 0 (paired (front ++ f ∷ back))) where
  split_apart : AreApart 0 (paired front ++ range_of f ∷ paired back)
  split_apart = subst (λ (l : List PlainRange). AreApart 0 l) (paired-append front (f ∷ back)) apart

  pub front_apart : AreApart 0 (paired front)
  front_apart = apart_front (paired front) (range_of f ∷ paired back) 0 split_apart

  pub rest_apart : AreApart (start_behind 0 (paired front)) (range_of f ∷ paired back)
  rest_apart = apart_rest (paired front) (range_of f ∷ paired back) 0 split_apart

  pub has_middle : (k : ℕ) → has (paired (front ++ f ∷ back)) k ≡ (has (paired front) k || (is_in (range_of f) k || has (paired back) k))
  has_middle k = ap (λ (l : List PlainRange). has l k) (paired-append front (f ∷ back)) ∙ has-append (paired front) (range_of f ∷ paired back) k

  pub front_lacks : (k : ℕ) → f.0 ≤ k → has (paired front) k ≡ false
  front_lacks k h = none_behind (paired front) 0 k front_apart (omega (arith, rest_apart.0))

module _ (es front : List Pair) (f : Pair) (n : ℕ) (apart : AreApart 0 (paired es)) (is : up_to n es ≡ front ++ f ∷ []) where
  whole : es ≡ front ++ f ∷ above n es
  whole = around es front f n apart is

  whole_apart : AreApart 0 (paired (front ++ f ∷ above n es))
  whole_apart = subst (λ (l : List Pair). AreApart 0 (paired l)) whole apart

  pub full_to : (k : ℕ) → n ≤ k → k < f.1 → has (paired es) k ≡ true
  full_to k low high =
      ap (λ (l : List Pair). has (paired l) k) whole
      ∙ has_middle front (above n es) f whole_apart k
      ∙ or_right (has (paired front) k) (is_in (range_of f) k || has (paired (above n es)) k)
      (or_left (is_in (range_of f) k) (has (paired (above n es)) k) (inside (range_of f) k (omega (arith, last_low es front [] f n is)) high))

  pub end_lacks : has (paired es) (max n f.1) ≡ false
  end_lacks =
      let m : ℕ = max n f.1 in
      let low = last_low es front [] f n is in
      ap (λ (l : List Pair). has (paired l) m) whole
      ∙ has_middle front (above n es) f whole_apart m
      ∙ or_from (has (paired front) m) (is_in (range_of f) m || has (paired (above n es)) m) (front_lacks front (above n es) f whole_apart m (omega arith))
      (or_from (is_in (range_of f) m) (has (paired (above n es)) m) (behind (range_of f) m (omega arith))
      (none_below (paired (above n es)) (max (n + 1) (f.1 + 1)) m (apart_both (paired (above n es)) (n + 1) (f.1 + 1) (above_apart es 0 n apart) (rest_apart front (above n es) f whole_apart).2) (omega arith)))

pub none_lacks : (es : List Pair) (n : ℕ) → AreApart 0 (paired es) → up_to n es ≡ [] → has (paired es) n ≡ false
none_lacks es n apart none =
    has_parted es 0 n n (apart_rises es 0 0 (omega arith) apart)
    ∙ or_from (has (paired (up_to n es)) n) (has (paired (above n es)) n) (ap (λ (l : List Pair). has (paired l) n) none) (none_below (paired (above n es)) (n + 1) n (above_apart es 0 n apart) (omega arith))

or_false : (a b : Bool) → (a || b) ≡ false → (a ≡ false) × (b ≡ false)
or_false true b h = absurd (both_ways true h refl)
or_false false b h = (refl, h)

up_to_lacks : (es : List Pair) (n k : ℕ) → has (paired es) n ≡ false → n ≤ k → has (paired (up_to n es)) k ≡ false
up_to_lacks [] n k lacks h = refl
up_to_lacks (e ∷ es) n k lacks h =
    let parts = or_false (is_in (range_of e) n) (has (paired es) n) lacks in
    elim (cases_lt n e.0) [
      | inl later ↦ ap (λ (l : List Pair). has (paired l) k) (up_to_no n e es later) ∙ up_to_lacks es n k parts.1 h
      | inr earlier ↦
          let ends : e.1 ≤ n = elim (cases_lt n e.1) [
            | inl under ↦ absurd (both_ways (is_in (range_of e) n) parts.0 (inside (range_of e) n earlier under))
            | inr past ↦ past
          ] in
          ap (λ (l : List Pair). has (paired l) k) (up_to_yes n e es earlier)
          ∙ or_from (is_in (range_of e) k) (has (paired (up_to n es)) k) (behind (range_of e) k (omega arith)) (up_to_lacks es n k parts.1 h)
    ]

module _ (es : List Pair) (n : ℕ) (apart : AreApart 0 (paired es)) (lacks : has (paired es) n ≡ false) where
  pub free_all : above n es ≡ [] → (k : ℕ) → n ≤ k → has (paired es) k ≡ false
  free_all none k h =
      has_parted es 0 n k (apart_rises es 0 0 (omega arith) apart)
      ∙ or_from (has (paired (up_to n es)) k) (has (paired (above n es)) k) (up_to_lacks es n k lacks h) (ap (λ (l : List Pair). has (paired l) k) none)

  pub free_to : (f : Pair) (rest : List Pair) → above n es ≡ f ∷ rest → (k : ℕ) → n ≤ k → k < f.0 → has (paired es) k ≡ false
  free_to f rest is k h under =
      let later : AreApart (n + 1) (paired (f ∷ rest)) = subst (λ (l : List Pair). AreApart (n + 1) (paired l)) is (above_apart es 0 n apart) in
      has_parted es 0 n k (apart_rises es 0 0 (omega arith) apart)
      ∙ or_from (has (paired (up_to n es)) k) (has (paired (above n es)) k) (up_to_lacks es n k lacks h)
      (ap (λ (l : List Pair). has (paired l) k) is ∙ none_below (paired (f ∷ rest)) f.0 k (omega arith, later.1, later.2) under)

-- ---- the first range, and the last

pub least_of : (es rest : List Pair) (f : Pair) → AreApart 0 (paired es) → es ≡ f ∷ rest → IsLeast (paired es) f.0
least_of es rest f apart is =
    let a : AreApart 0 (paired (f ∷ rest)) = subst (λ (l : List Pair). AreApart 0 (paired l)) is apart in
    subst (λ (l : List Pair). IsLeast (paired l) f.0) (sym is) (record {
      is_there = or_left (is_in (range_of f) f.0) (has (paired rest) f.0) (inside (range_of f) f.0 (omega arith) a.1);
      is_first = λ j h. none_below (paired (f ∷ rest)) f.0 j (omega arith, a.1, a.2) h;
    })

pub last_split : (xs : List Pair) (x : Pair) → slice_get xs (length xs - 1) ≡ Some x → (front : List Pair) × (xs ≡ front ++ x ∷ [])
last_split [] x h = absurd (cc)
last_split (y ∷ []) x h = ([], let same : y ≡ x = cc in ap (λ (z : Pair). z ∷ []) same)
last_split (y ∷ z ∷ ys) x h =
    let n : length (y ∷ z ∷ ys) - 1 ≡ suc (length (z ∷ ys) - 1) = omega arith in
    let more = last_split (z ∷ ys) x (sym (ap (slice_get (y ∷ z ∷ ys)) n) ∙ h) in
    (y ∷ more.0, ap (λ (l : List Pair). y ∷ l) more.1)

pub greatest_of : (es : List Pair) (f : Pair) → AreApart 0 (paired es) → slice_get es (length es - 1) ≡ Some f → (1 ≤ f.1) × IsGreatest (paired es) (f.1 - 1)
greatest_of es f apart last =
    let split = last_split es f last in
    let a : AreApart 0 (paired (split.0 ++ f ∷ [])) = subst (λ (l : List Pair). AreApart 0 (paired l)) split.1 apart in
    let rest = rest_apart split.0 [] f a in (
      omega (arith, rest.1),
      subst (λ (l : List Pair). IsGreatest (paired l) (f.1 - 1)) (sym split.1) (record {
        is_there = has_middle split.0 [] f a (f.1 - 1) ∙ or_right (has (paired split.0) (f.1 - 1)) (is_in (range_of f) (f.1 - 1) || false) (or_left (is_in (range_of f) (f.1 - 1)) false (inside (range_of f) (f.1 - 1) (omega (arith, rest.1)) (omega (arith, rest.1))));
        is_last = λ j h. has_middle split.0 [] f a j ∙ or_from (has (paired split.0) j) (is_in (range_of f) j || false) (front_lacks split.0 [] f a j (omega (arith, rest.1))) (or_from (is_in (range_of f) j) false (behind (range_of f) j (omega arith)) refl);
      }),
    )

pub front_value : (es rest : List Pair) (f : Pair) → es ≡ f ∷ rest → f.0 ≡ 0 → front_of (paired es) ≡ f.1
front_value es rest f is zero_is = ap (λ (l : List Pair). front_of (paired l)) is ∙ rw (eq-eqb f.0 0 zero_is)

pub front_none : (es rest : List Pair) (f : Pair) → es ≡ f ∷ rest → (f.0 ≡ 0 → ⊥) → front_of (paired es) ≡ 0
front_none es rest f is other = ap (λ (l : List Pair). front_of (paired l)) is ∙ rw (ne_eqb f.0 0 other)

pub first_lacks : (es rest : List Pair) (f : Pair) → AreApart 0 (paired es) → es ≡ f ∷ rest → has (paired es) f.1 ≡ false
first_lacks es rest f apart is =
    let a : AreApart 0 (paired (f ∷ rest)) = subst (λ (l : List Pair). AreApart 0 (paired l)) is apart in
    ap (λ (l : List Pair). has (paired l) f.1) is
    ∙ or_from (is_in (range_of f) f.1) (has (paired rest) f.1) (behind (range_of f) f.1 (omega arith)) (none_below (paired rest) (f.1 + 1) f.1 a.2 (omega arith))

pub zero_lacks : (es rest : List Pair) (f : Pair) → AreApart 0 (paired es) → es ≡ f ∷ rest → (f.0 ≡ 0 → ⊥) → has (paired es) 0 ≡ false
zero_lacks es rest f apart is other =
    let a : AreApart 0 (paired (f ∷ rest)) = subst (λ (l : List Pair). AreApart 0 (paired l)) is apart in
    ap (λ (l : List Pair). has (paired l) 0) is ∙ none_below (paired (f ∷ rest)) 1 0 (omega (arith, other), a.1, a.2) (omega arith)

pub popped_apart : (es rest : List Pair) (f : Pair) → AreApart 0 (paired es) → es ≡ f ∷ rest → AreApart 0 (paired rest)
popped_apart es rest f apart is =
    let a : AreApart 0 (paired (f ∷ rest)) = subst (λ (l : List Pair). AreApart 0 (paired l)) is apart in
    apart_lower (paired rest) 0 (f.1 + 1) (omega arith) a.2
