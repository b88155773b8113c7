-- A range that goes from ranges that a map keeps.
use Rattle.std.proofs.Common.{◌≡◌, ℕ, ◌+◌, ◌<◌, ◌≤◌, Bool, true, false, not, cond, ◌||◌, List, [], ◌∷◌, ◌++◌, min, is_some, ◌&&◌, Option, Some, None, IsSome, nat_cmp, nat_lt, nat_le, Less, Equal, Greater, Ordering, refl, sym, ap, ◌∙◌, subst, arith, inl, inr, append_assoc}
use Rattle.std.specs.BTreeMap.{insert_entry, is_at}
use Rattle.std.specs.BTreeMap.Range.{range_contains, entries_between}
use Rattle.std.specs.declared.ops.Bound.TheVariants.{Included, Excluded}
use Rattle.std.specs.List.{filter}
use Rattle.std.specs.List.Sorted.{IsStrictlySortedBy}
use Rattle.std.specs.Map.{keys_of, lookup, remove_entry, set_value}
use Rattle.std.specs.Ordering.{match_ordering}
use Rattle.std.proofs.lemmas.Bool.{cases_lt, cases_eq, cases_order, lt-ltb, le-ltb, le-leb, lt-leb, and_from, and_left, and_right}
use Rattle.std.proofs.lemmas.List.{map-append, append-nil}
use Rattle.std.proofs.lemmas.List.Elements.{filter-append}
use Rattle.qh_buffers.specs.Ranges.{PlainRange, is_in, has, AreApart, IsTakenOut, IsSplit, start_behind, paired, before, above, from_on, between, clipped}
use Rattle.qh_buffers.proofs.RangeLaws.{inside, before as in_before, behind, has-append, none_below, none_behind, apart_front, apart_join, apart_lower, behind_le}
use Rattle.qh_buffers.proofs.PairedLists.{Pair, range_of, paired-append, less_is, greater_is, equal_is, Rises, sorted_rises, apart_rises, chosen, before_yes, before_no, none_before, middle_low, before_middle, above_middle, here_is, other_is, found_middle, written}
use Rattle.qh_buffers.proofs.PairedRanges.{rises_here, last_before_low, front_apart, rest_apart, has_middle, front_lacks}
use Rattle.qh_buffers.proofs.JoinedRanges.{behind_last, or_none}

-- ---- a range that goes

within_is : (m n q : ℕ) → range_contains nat_cmp (Included m) (Excluded n) q ≡ (nat_le m q && nat_lt q n)
within_is m n q = grind arith

pub between_is : (m n : ℕ) (es : List Pair) → entries_between nat_cmp (Included m) (Excluded n) es ≡ between m n es
between_is m n es = λ i. filter (λ (e : Pair). within_is m n e.0 i) es

from_yes : (n : ℕ) (e : Pair) (es : List Pair) → n ≤ e.0 → from_on n (e ∷ es) ≡ e ∷ from_on n es
from_yes n e es h = ap (λ (b : Bool). chosen b e (from_on n es)) (le-leb n e.0 h)

from_no : (n : ℕ) (e : Pair) (es : List Pair) → e.0 < n → from_on n (e ∷ es) ≡ from_on n es
from_no n e es h = ap (λ (b : Bool). chosen b e (from_on n es)) (lt-leb n e.0 h)

between_yes : (m n : ℕ) (e : Pair) (es : List Pair) → m ≤ e.0 → e.0 < n → between m n (e ∷ es) ≡ e ∷ between m n es
between_yes m n e es low high = ap (λ (b : Bool). chosen b e (between m n es)) (and_from (nat_le m e.0) (nat_lt e.0 n) (le-leb m e.0 low) (lt-ltb e.0 n high))

between_below : (m n : ℕ) (e : Pair) (es : List Pair) → e.0 < m → between m n (e ∷ es) ≡ between m n es
between_below m n e es h = ap (λ (b : Bool). chosen b e (between m n es)) (and_left (nat_le m e.0) (nat_lt e.0 n) (lt-leb m e.0 h))

between_over : (m n : ℕ) (e : Pair) (es : List Pair) → n ≤ e.0 → between m n (e ∷ es) ≡ between m n es
between_over m n e es h = ap (λ (b : Bool). chosen b e (between m n es)) (and_right (nat_le m e.0) (nat_lt e.0 n) (le-ltb e.0 n h))

all_from : (es : List Pair) (low n : ℕ) → Rises low es → n ≤ low → from_on n es ≡ es
unfolding Rises
all_from [] low n rises h = refl
all_from (e ∷ es) low n rises h =
    from_yes n e es (omega (arith, rises.0)) ∙ ap (λ (l : List Pair). e ∷ l) (all_from es (e.0 + 1) n rises.1 (omega (arith, rises.0)))

-- a list is what starts before a number, and what starts from it on
pub parted_from : (es : List Pair) (low n : ℕ) → Rises low es → es ≡ before n es ++ from_on n es
unfolding Rises
parted_from [] low n rises = refl
parted_from (e ∷ es) low n rises =
    elim (cases_lt e.0 n) [
      | inl earlier ↦
          ap (λ (l : List Pair). e ∷ l) (parted_from es (e.0 + 1) n rises.1)
          ∙ sym (ap (λ (l : List Pair). l ++ from_on n (e ∷ es)) (before_yes n e es earlier) ∙ ap (λ (l : List Pair). (e ∷ before n es) ++ l) (from_no n e es earlier))
      | inr later ↦
          let none : before n (e ∷ es) ≡ [] = none_before (e ∷ es) e.0 n (omega arith, rises.1) later in
          let all : from_on n (e ∷ es) ≡ e ∷ es = all_from (e ∷ es) e.0 n (omega arith, rises.1) later in
          sym (ap (λ (l : List Pair). l ++ from_on n (e ∷ es)) none ∙ all)
    ]

-- where none starts between two numbers
none_between : (es : List Pair) (m n : ℕ) → m ≤ n → between m n es ≡ [] → from_on m es ≡ from_on n es
none_between [] m n way none = refl
none_between (e ∷ es) m n way none =
    elim (cases_lt e.0 m) [
      | inl below ↦ from_no m e es below ∙ none_between es m n way (sym (between_below m n e es below) ∙ none) ∙ sym (from_no n e es (omega arith))
      | inr above ↦ elim (cases_lt e.0 n) [
        | inl within ↦ absurd (let h = sym (between_yes m n e es above within) ∙ none in cc)
        | inr over ↦
            from_yes m e es above ∙ ap (λ (l : List Pair). e ∷ l) (none_between es m n way (sym (between_over m n e es over) ∙ none)) ∙ sym (from_yes n e es over)
      ]
    ]

pub all_outside : (es : List Pair) (m n : ℕ) → IsStrictlySortedBy nat_cmp (keys_of es) → m ≤ n → between m n es ≡ [] → es ≡ before m es ++ from_on n es
all_outside es m n sorted way none =
    parted_from es 0 m (sorted_rises es sorted) ∙ ap (λ (l : List Pair). before m es ++ l) (none_between es m n way none)

-- one that fails a test is taken out
removed_keeps : (p : Pair → Bool) (k : ℕ) (es : List Pair) → ((e : Pair) → e.0 ≡ k → p e ≡ false) → filter p (remove_entry (is_at (nat_cmp k)) es) ≡ filter p es
removed_keeps p k [] fails = refl
removed_keeps p k (e ∷ es) fails =
    let less = remove_entry (is_at (nat_cmp k)) es in
    elim (cases_eq e.0 k) [
      | inl same ↦
          let at : is_at (nat_cmp k) e.0 ≡ true = rw same (here_is k) in
          ap (λ (b : Bool). filter p (cond b es (e ∷ less))) at ∙ sym (ap (λ (b : Bool). chosen b e (filter p es)) (fails e same))
      | inr apart ↦
          let at : is_at (nat_cmp k) e.0 ≡ false = other_is k e.0 (λ same. apart (sym same)) in
          ap (λ (b : Bool). filter p (cond b es (e ∷ less))) at ∙ ap (λ (l : List Pair). chosen (p e) e l) (removed_keeps p k es fails)
    ]

pub before_removed : (es : List Pair) (m k : ℕ) → m ≤ k → before m (remove_entry (is_at (nat_cmp k)) es) ≡ before m es
before_removed es m k h = removed_keeps (λ (e : Pair). nat_lt e.0 m) k es (λ e same. le-ltb e.0 m (omega (arith, same)))

pub from_removed : (es : List Pair) (n k : ℕ) → k < n → from_on n (remove_entry (is_at (nat_cmp k)) es) ≡ from_on n es
from_removed es n k h = removed_keeps (λ (e : Pair). nat_le n e.0) k es (λ e same. lt-leb n e.0 (omega (arith, same)))

-- ---- the last that starts before a number is cut

pub clip_same : (es : List Pair) (low n : ℕ) → AreApart low (paired es) → start_behind low (paired es) ≤ n + 1 → clipped n es ≡ es
clip_same [] low n apart ends = refl
clip_same (e ∷ es) low n apart ends =
    let m : min e.1 n ≡ e.1 = omega (arith, ends, behind_le (paired es) (e.1 + 1) apart.2) in
    let f : (e.0, min e.1 n) ≡ e = ap (λ (x : ℕ). let q : Pair = (e.0, x) in q) m in
    ap (λ (x : Pair). x ∷ clipped n es) f ∙ ap (λ (l : List Pair). e ∷ l) (clip_same es (e.1 + 1) n apart.2 ends)

clipped-append : (n : ℕ) (es fs : List Pair) → clipped n (es ++ fs) ≡ clipped n es ++ clipped n fs
clipped-append n es fs = map-append (λ (e : Pair). let q : Pair = (e.0, min e.1 n) in q) es fs

-- nothing is to be cut
pub uncut : (es : List Pair) (n : ℕ) → IsStrictlySortedBy nat_cmp (keys_of es) → AreApart 0 (paired (before n es)) → start_behind 0 (paired (before n es)) ≤ n + 1 → es ≡ clipped n (before n es) ++ from_on n es
uncut es n sorted apart ends =
    parted_from es 0 n (sorted_rises es sorted) ∙ ap (λ (l : List Pair). l ++ from_on n es) (sym (clip_same (before n es) 0 n apart ends))

pub behind_before : (es front : List Pair) (f : Pair) (n : ℕ) → before n es ≡ front ++ f ∷ [] → f.1 ≤ n → start_behind 0 (paired (before n es)) ≤ n + 1
behind_before es front f n is less =
    omega (arith, ap (λ (l : List Pair). start_behind 0 (paired l)) is, behind_last front 0 f)

-- the last one is cut
module _ (es front : List Pair) (f : Pair) (n : ℕ) (sorted : IsStrictlySortedBy nat_cmp (keys_of es)) (is : before n es ≡ front ++ f ∷ []) where
  cut_list : es ≡ front ++ f ∷ from_on n es
  cut_list =
      parted_from es 0 n (sorted_rises es sorted)
      ∙ ap (λ (l : List Pair). l ++ from_on n es) is
      ∙ append_assoc front (f ∷ []) (from_on n es)

  cut_rises : Rises 0 (front ++ f ∷ from_on n es)
  cut_rises = subst (λ (l : List Pair). Rises 0 l) cut_list (sorted_rises es sorted)

  pub cut_found : lookup (is_at (nat_cmp f.0)) es ≡ Some f.1
  cut_found = ap (λ (l : List Pair). lookup (is_at (nat_cmp f.0)) l) cut_list ∙ found_middle front (from_on n es) f 0 cut_rises

  pub cut_is : AreApart 0 (paired (before n es)) → n ≤ f.1 → set_value (is_at (nat_cmp f.0)) es n ≡ clipped n (before n es) ++ from_on n es
  cut_is apart long =
      let some : IsSome (lookup (is_at (nat_cmp f.0)) es) = ap (λ (o : Option ℕ). is_some o) cut_found in
      let a : AreApart 0 (paired (front ++ f ∷ [])) = subst (λ (l : List Pair). AreApart 0 (paired l)) is apart in
      let rest = rest_apart front [] f a in
      let low : f.0 < n = last_before_low es front [] f n is in
      let m : min f.1 n ≡ n = omega arith in
      let clip : clipped n (before n es) ≡ front ++ (f.0, n) ∷ [] =
      ap (clipped n) is ∙ clipped-append n front (f ∷ [])
      ∙ ap (λ (l : List Pair). l ++ (f.0, min f.1 n) ∷ []) (clip_same front 0 n (front_apart front [] f a) (omega (arith, rest.0, low)))
      ∙ ap (λ (x : ℕ). front ++ (f.0, x) ∷ []) m in
      written es 0 f.0 n (sorted_rises es sorted) some
      ∙ ap (λ (l : List Pair). before f.0 l ++ (f.0, n) ∷ above f.0 l) cut_list
      ∙ ap (λ (l : List Pair). l ++ (f.0, n) ∷ above f.0 (front ++ f ∷ from_on n es)) (before_middle front (from_on n es) f 0 cut_rises)
      ∙ ap (λ (l : List Pair). front ++ (f.0, n) ∷ l) (above_middle front (from_on n es) f 0 cut_rises)
      ∙ sym (append_assoc front ((f.0, n) ∷ []) (from_on n es))
      ∙ ap (λ (l : List Pair). l ++ from_on n es) (sym clip)

-- ---- what is left

before_twice : (es : List Pair) (m : ℕ) → before m (before m es) ≡ before m es
before_twice [] m = refl
before_twice (e ∷ es) m =
    elim (cases_lt e.0 m) [
      | inl early ↦ ap (before m) (before_yes m e es early) ∙ before_yes m e (before m es) early ∙ ap (λ (l : List Pair). e ∷ l) (before_twice es m) ∙ sym (before_yes m e es early)
      | inr late ↦ ap (before m) (before_no m e es late) ∙ before_twice es m ∙ sym (before_no m e es late)
    ]

from_of_before : (es : List Pair) (m : ℕ) → from_on m (before m es) ≡ []
from_of_before [] m = refl
from_of_before (e ∷ es) m =
    elim (cases_lt e.0 m) [
      | inl early ↦ ap (from_on m) (before_yes m e es early) ∙ from_no m e (before m es) early ∙ from_of_before es m
      | inr late ↦ ap (from_on m) (before_no m e es late) ∙ from_of_before es m
    ]

before_of_from : (es : List Pair) (m n : ℕ) → m ≤ n → before m (from_on n es) ≡ []
before_of_from [] m n way = refl
before_of_from (e ∷ es) m n way =
    elim (cases_lt e.0 n) [
      | inl early ↦ ap (before m) (from_no n e es early) ∙ before_of_from es m n way
      | inr late ↦ ap (before m) (from_yes n e es late) ∙ before_no m e (from_on n es) (omega arith) ∙ before_of_from es m n way
    ]

from_of_from : (es : List Pair) (m n : ℕ) → m ≤ n → from_on m (from_on n es) ≡ from_on n es
from_of_from [] m n way = refl
from_of_from (e ∷ es) m n way =
    elim (cases_lt e.0 n) [
      | inl early ↦ ap (from_on m) (from_no n e es early) ∙ from_of_from es m n way ∙ sym (from_no n e es early)
      | inr late ↦ ap (from_on m) (from_yes n e es late) ∙ from_yes m e (from_on n es) (omega arith) ∙ ap (λ (l : List Pair). e ∷ l) (from_of_from es m n way) ∙ sym (from_yes n e es late)
    ]

-- the ranges once those between two numbers are out
pub record IsOut (m n : ℕ) (es new : List Pair) : Type 0 where
  pub before_is : before m new ≡ before m es
  pub from_is : from_on m new ≡ from_on n es

pub out_is : (m n : ℕ) (es : List Pair) → m ≤ n → IsOut m n es (before m es ++ from_on n es)
out_is m n es way = record {
  before_is = filter-append (λ (e : Pair). nat_lt e.0 m) (before m es) (from_on n es) ∙ ap (λ (l : List Pair). before m (before m es) ++ l) (before_of_from es m n way) ∙ append-nil (before m (before m es)) ∙ before_twice es m;
  from_is = filter-append (λ (e : Pair). nat_le m e.0) (before m es) (from_on n es) ∙ ap (λ (l : List Pair). l ++ from_on m (from_on n es)) (from_of_before es m) ∙ from_of_from es m n way;
}

before_last_of : (m k v : ℕ) (es : List Pair) → m ≤ k → before m (insert_entry nat_cmp es k v) ≡ before m es
before_last_of m k v [] h = before_no m (k, v) [] h
before_last_of m k v (e ∷ es) h =
    let rest = insert_entry nat_cmp es k v in
    let step : (o : Ordering) → nat_cmp k e.0 ≡ o → insert_entry nat_cmp (e ∷ es) k v ≡ match_ordering o ((k, v) ∷ e ∷ es) ((e.0, v) ∷ es) (e ∷ rest) = λ o is. ap (λ (o : Ordering). match_ordering o ((k, v) ∷ e ∷ es) ((e.0, v) ∷ es) (e ∷ rest)) is in
    elim (cases_order k e.0) [
      | inl same ↦ ap (before m) (step Equal (equal_is k e.0 same)) ∙ before_no m (e.0, v) es (omega arith) ∙ sym (before_no m e es (omega arith))
      | inr apart ↦ elim apart [
        | inl below ↦ ap (before m) (step Less (less_is k e.0 below)) ∙ before_no m (k, v) (e ∷ es) h
        | inr over ↦ ap (before m) (step Greater (greater_is k e.0 over)) ∙ ap (λ (l : List Pair). chosen (nat_lt e.0 m) e l) (before_last_of m k v es h)
      ]
    ]

from_last_of : (k v : ℕ) (es : List Pair) → lookup (is_at (nat_cmp k)) es ≡ None → from_on k (insert_entry nat_cmp es k v) ≡ (k, v) ∷ from_on k es
from_last_of k v [] none = from_yes k (k, v) [] (omega arith)
from_last_of k v (e ∷ es) none =
    let rest = insert_entry nat_cmp es k v in
    let step : (o : Ordering) → nat_cmp k e.0 ≡ o → insert_entry nat_cmp (e ∷ es) k v ≡ match_ordering o ((k, v) ∷ e ∷ es) ((e.0, v) ∷ es) (e ∷ rest) = λ o is. ap (λ (o : Ordering). match_ordering o ((k, v) ∷ e ∷ es) ((e.0, v) ∷ es) (e ∷ rest)) is in
    elim (cases_order k e.0) [
      | inl same ↦ absurd (let at : is_at (nat_cmp k) e.0 ≡ true = rw same (here_is e.0) in let h = sym (ap (λ (b : Bool). cond b (Some e.1) (lookup (is_at (nat_cmp k)) es)) at) ∙ none in cc)
      | inr apart ↦ elim apart [
        | inl below ↦ ap (from_on k) (step Less (less_is k e.0 below)) ∙ from_yes k (k, v) (e ∷ es) (omega arith)
        | inr over ↦
            let at : is_at (nat_cmp k) e.0 ≡ false = other_is k e.0 (λ same. omega arith) in
            let there : lookup (is_at (nat_cmp k)) es ≡ None = sym (ap (λ (b : Bool). cond b (Some e.1) (lookup (is_at (nat_cmp k)) es)) at) ∙ none in
            ap (from_on k) (step Greater (greater_is k e.0 over)) ∙ from_no k e rest over ∙ from_last_of k v es there ∙ sym (ap (λ (l : List Pair). (k, v) ∷ l) (from_no k e es over))
      ]
    ]

from_apart : (es : List Pair) (low n : ℕ) → AreApart low (paired es) → AreApart n (paired (from_on n es))
from_apart [] low n apart = tt
from_apart (e ∷ es) low n apart =
    elim (cases_lt e.0 n) [
      | inl early ↦ subst (λ (l : List Pair). AreApart n (paired l)) (sym (from_no n e es early)) (from_apart es (e.1 + 1) n apart.2)
      | inr late ↦
          let from : Rises e.0 (e ∷ es) = rises_here e es low (apart_rises (e ∷ es) low low (omega arith) apart) in
          subst (λ (l : List Pair). AreApart n (paired l)) (sym (all_from (e ∷ es) e.0 n from late)) (late, apart.1, apart.2)
    ]

has_from : (es : List Pair) (low n k : ℕ) → Rises low es → has (paired es) k ≡ (has (paired (before n es)) k || has (paired (from_on n es)) k)
has_from es low n k rises =
    ap (λ (l : List Pair). has (paired l) k) (parted_from es low n rises)
    ∙ ap (λ (l : List PlainRange). has l k) (paired-append (before n es) (from_on n es))
    ∙ has-append (paired (before n es)) (paired (from_on n es)) k

before_apart : (es : List Pair) (low n : ℕ) → AreApart low (paired es) → AreApart low (paired (before n es))
before_apart es low n apart =
    let rises = apart_rises es low low (omega arith) apart in
    apart_front (paired (before n es)) (paired (from_on n es)) low
    (subst (λ (l : List PlainRange). AreApart low l) (ap paired (parted_from es low n rises) ∙ paired-append (before n es) (from_on n es)) apart)

none_at : (es : List Pair) (low k : ℕ) → Rises low es → k < low → lookup (is_at (nat_cmp k)) es ≡ None
unfolding Rises
none_at [] low k rises h = refl
none_at (e ∷ es) low k rises h =
    ap (λ (b : Bool). cond b (Some e.1) (lookup (is_at (nat_cmp k)) es)) (other_is k e.0 (λ same. omega (arith, rises.0))) ∙ none_at es (e.0 + 1) k rises.1 (omega (arith, rises.0))

-- nothing is to be split
pub whole_split : (es : List Pair) (n : ℕ) → AreApart 0 (paired es) → start_behind 0 (paired (before n es)) ≤ n + 1 → IsSplit n es es
whole_split es n apart ends = record {
  fronts = λ m h. refl;
  apart = from_apart es 0 n apart;
  numbers = λ k. elim (cases_lt k n) [
    | inl low ↦ none_below (paired (from_on n es)) n k (from_apart es 0 n apart) low ∙ sym (and_left (nat_le n k) (has (paired es) k) (lt-leb n k low))
    | inr above ↦
        let lacks : has (paired (before n es)) k ≡ false = none_behind (paired (before n es)) 0 k (before_apart es 0 n apart) (omega arith) in
        sym (ap (λ (t : Bool). t && has (paired es) k) (le-leb n k above) ∙ has_from es 0 n k (apart_rises es 0 0 (omega arith) apart) ∙ ap (λ (t : Bool). t || has (paired (from_on n es)) k) lacks)
  ];
}

covered : (front : List Pair) (f : Pair) (back : List Pair) (low n : ℕ) → Rises low (front ++ f ∷ back) → f.0 < n → Rises (n + 1) back → lookup (is_at (nat_cmp n)) (front ++ f ∷ back) ≡ None
unfolding Rises
covered [] f back low n rises under later =
    ap (λ (b : Bool). cond b (Some f.1) (lookup (is_at (nat_cmp n)) back)) (other_is n f.0 (λ same. omega arith)) ∙ none_at back (n + 1) n later (omega arith)
covered (e ∷ front) f back low n rises under later =
    ap (λ (b : Bool). cond b (Some e.1) (lookup (is_at (nat_cmp n)) (front ++ f ∷ back))) (other_is n e.0 (λ same. omega (arith, middle_low front back f (e.0 + 1) rises.1)))
    ∙ covered front f back (e.0 + 1) n rises.1 under later

-- the last range that starts before a number covers it
module _ (es front : List Pair) (f : Pair) (n : ℕ) (apart : AreApart 0 (paired es)) (is : before n es ≡ front ++ f ∷ []) (over : n < f.1) where
  split_list : es ≡ front ++ f ∷ from_on n es
  split_list =
      parted_from es 0 n (apart_rises es 0 0 (omega arith) apart)
      ∙ ap (λ (l : List Pair). l ++ from_on n es) is
      ∙ append_assoc front (f ∷ []) (from_on n es)

  list_apart : AreApart 0 (paired (front ++ f ∷ from_on n es))
  list_apart = subst (λ (l : List Pair). AreApart 0 (paired l)) split_list apart

  list_rises : Rises 0 (front ++ f ∷ from_on n es)
  list_rises = apart_rises (front ++ f ∷ from_on n es) 0 0 (omega arith) list_apart

  last_before : f.0 < n
  last_before = last_before_low es front [] f n is

  -- no range starts at the number
  no_start : lookup (is_at (nat_cmp n)) es ≡ None
  no_start =
      let later = rest_apart front (from_on n es) f list_apart in
      ap (λ (l : List Pair). lookup (is_at (nat_cmp n)) l) split_list ∙ covered front f (from_on n es) 0 n list_rises last_before (apart_rises (from_on n es) (f.1 + 1) (n + 1) (omega arith) later.2)

  pub split_in : IsSplit n es (insert_entry nat_cmp es n f.1)
  split_in =
      let later = rest_apart front (from_on n es) f list_apart in
      let new = insert_entry nat_cmp es n f.1 in
      let from : from_on n new ≡ (n, f.1) ∷ from_on n es = from_last_of n f.1 es no_start in
      let ordered : AreApart n (paired ((n, f.1) ∷ from_on n es)) = (omega arith, over, later.2) in
      record {
        fronts = λ m h. before_last_of m n f.1 es h;
        apart = subst (λ (l : List Pair). AreApart n (paired l)) (sym from) ordered;
        numbers = λ k. ap (λ (l : List Pair). has (paired l) k) from ∙ elim (cases_lt k n) [
          | inl low ↦ none_below (paired ((n, f.1) ∷ from_on n es)) n k ordered low ∙ sym (and_left (nat_le n k) (has (paired es) k) (lt-leb n k low))
          | inr above ↦
              let lacks = front_lacks front (from_on n es) f list_apart k (omega (arith, last_before)) in
              let same : is_in (range_of (n, f.1)) k ≡ is_in (range_of f) k = elim (cases_lt k f.1) [
                | inl under ↦ inside (range_of (n, f.1)) k above under ∙ sym (inside (range_of f) k (omega (arith, last_before)) under)
                | inr past ↦ behind (range_of (n, f.1)) k past ∙ sym (behind (range_of f) k past)
              ] in
              ap (λ (t : Bool). t || has (paired (from_on n es)) k) same
              ∙ sym (ap (λ (t : Bool). t && has (paired es) k) (le-leb n k above)
              ∙ ap (λ (l : List Pair). has (paired l) k) split_list
              ∙ has_middle front (from_on n es) f list_apart k
              ∙ ap (λ (t : Bool). t || (is_in (range_of f) k || has (paired (from_on n es)) k)) lacks)
        ];
      }

-- what is left of those that start before a number
pub clip_apart : (es : List Pair) (low n : ℕ) → AreApart low (paired es) → AreApart low (paired (clipped n (before n es)))
clip_apart [] low n apart = tt
clip_apart (e ∷ es) low n apart =
    elim (cases_lt e.0 n) [
      | inl early ↦ subst (λ (l : List Pair). AreApart low (paired (clipped n l))) (sym (before_yes n e es early))
          (apart.0, omega (arith, apart.1), clip_apart es (min e.1 n + 1) n (apart_lower (paired es) (min e.1 n + 1) (e.1 + 1) (omega arith) apart.2))
      | inr late ↦ subst (λ (l : List Pair). AreApart low (paired (clipped n l))) (sym (before_no n e es late))
          (clip_apart es low n (apart_lower (paired es) low (e.1 + 1) (omega (arith, apart.0, apart.1)) apart.2))
    ]

pub clip_behind : (es : List Pair) (low n : ℕ) → low ≤ n + 1 → start_behind low (paired (clipped n (before n es))) ≤ n + 1
clip_behind [] low n h = h
clip_behind (e ∷ es) low n h =
    elim (cases_lt e.0 n) [
      | inl early ↦ subst (λ (l : List Pair). start_behind low (paired (clipped n l)) ≤ n + 1) (sym (before_yes n e es early)) (clip_behind es (min e.1 n + 1) n (omega arith))
      | inr late ↦ subst (λ (l : List Pair). start_behind low (paired (clipped n l)) ≤ n + 1) (sym (before_no n e es late)) (clip_behind es low n h)
    ]

clip_one : (e : Pair) (n k : ℕ) → is_in (range_of (e.0, min e.1 n)) k ≡ (nat_lt k n && is_in (range_of e) k)
clip_one e n k =
    elim (cases_lt k n) [
      | inl under ↦ elim (cases_lt k e.0) [
        | inl low ↦ in_before (range_of (e.0, min e.1 n)) k low ∙ sym (and_right (nat_lt k n) (is_in (range_of e) k) (in_before (range_of e) k low))
        | inr above ↦ elim (cases_lt k e.1) [
          | inl within ↦ inside (range_of (e.0, min e.1 n)) k above (omega arith) ∙ sym (and_from (nat_lt k n) (is_in (range_of e) k) (lt-ltb k n under) (inside (range_of e) k above within))
          | inr past ↦ behind (range_of (e.0, min e.1 n)) k (omega arith) ∙ sym (and_right (nat_lt k n) (is_in (range_of e) k) (behind (range_of e) k past))
        ]
      ]
      | inr out ↦ behind (range_of (e.0, min e.1 n)) k (omega arith) ∙ sym (and_left (nat_lt k n) (is_in (range_of e) k) (le-ltb k n out))
    ]

and_spread : (a b c : Bool) → ((a && b) || (a && c)) ≡ (a && (b || c))
and_spread true b c = refl
and_spread false b c = refl

pub clip_has : (es : List Pair) (n k : ℕ) → has (paired (clipped n (before n es))) k ≡ (nat_lt k n && has (paired es) k)
clip_has [] n k = sym (and_right (nat_lt k n) false refl)
clip_has (e ∷ es) n k =
    let rest = clip_has es n k in
    elim (cases_lt e.0 n) [
      | inl early ↦
          ap (λ (l : List Pair). has (paired (clipped n l)) k) (before_yes n e es early)
          ∙ ap (λ (t : Bool). t || has (paired (clipped n (before n es))) k) (clip_one e n k)
          ∙ ap (λ (t : Bool). (nat_lt k n && is_in (range_of e) k) || t) rest
          ∙ and_spread (nat_lt k n) (is_in (range_of e) k) (has (paired es) k)
      | inr late ↦
          ap (λ (l : List Pair). has (paired (clipped n l)) k) (before_no n e es late) ∙ rest ∙ elim (cases_lt k n) [
            | inl under ↦ ap (λ (t : Bool). nat_lt k n && (t || has (paired es) k)) (sym (in_before (range_of e) k (omega arith)))
            | inr out ↦ and_left (nat_lt k n) (has (paired es) k) (le-ltb k n out) ∙ sym (and_left (nat_lt k n) (is_in (range_of e) k || has (paired es) k) (le-ltb k n out))
          ]
    ]

two_sides : (s e k : ℕ) (h : Bool) → s < e → ((nat_lt k s && h) || (nat_le e k && h)) ≡ (not (is_in (range_of (s, e)) k) && h)
two_sides s e k h some =
    elim (cases_lt k s) [
      | inl low ↦ ap (λ (t : Bool). (t && h) || (nat_le e k && h)) (lt-ltb k s low) ∙ ap (λ (t : Bool). h || (t && h)) (lt-leb e k (omega arith)) ∙ or_none h ∙ sym (ap (λ (t : Bool). not t && h) (in_before (range_of (s, e)) k low))
      | inr above ↦ ap (λ (t : Bool). (t && h) || (nat_le e k && h)) (le-ltb k s above) ∙ elim (cases_lt k e) [
        | inl under ↦ ap (λ (t : Bool). t && h) (lt-leb e k under) ∙ sym (ap (λ (t : Bool). not t && h) (inside (range_of (s, e)) k above under))
        | inr past ↦ ap (λ (t : Bool). t && h) (le-leb e k past) ∙ sym (ap (λ (t : Bool). not t && h) (behind (range_of (s, e)) k past))
      ]
    ]

-- split at the end, without those between, cut at the start
module _ (es split out : List Pair) (s e : ℕ) (apart : AreApart 0 (paired es)) (some : s < e) (is : IsSplit e es split) (out_list : out ≡ before s split ++ from_on e split) where
  fronts : before s out ≡ before s es
  fronts = ap (before s) out_list ∙ (out_is s e split (omega arith)).before_is ∙ is.fronts s (omega arith)

  rest : from_on s out ≡ from_on e split
  rest = ap (from_on s) out_list ∙ (out_is s e split (omega arith)).from_is

  pub left_apart : AreApart 0 (paired (before s out))
  left_apart = subst (λ (l : List Pair). AreApart 0 (paired l)) (sym fronts) (before_apart es 0 s apart)

  pub taken_out : IsTakenOut (paired es) (paired (clipped s (before s out) ++ from_on s out)) (range_of (s, e))
  taken_out =
      let first : List Pair = clipped s (before s es) in
      let second : List Pair = from_on e split in
      let parts = ap (λ (l : List Pair). clipped s l ++ from_on s out) fronts ∙ ap (λ (l : List Pair). first ++ l) rest in
      subst (λ (l : List Pair). IsTakenOut (paired es) (paired l) (range_of (s, e))) (sym parts) (record {
        apart = subst (λ (l : List PlainRange). AreApart 0 l) (sym (paired-append first second))
            (apart_join (paired first) (paired second) 0 (clip_apart es 0 s apart) (apart_lower (paired second) (start_behind 0 (paired first)) e (omega (arith, clip_behind es 0 s (omega arith))) is.apart));
        numbers = λ k.
            ap (λ (l : List PlainRange). has l k) (paired-append first second) ∙ has-append (paired first) (paired second) k
            ∙ ap (λ (t : Bool). t || has (paired second) k) (clip_has es s k)
            ∙ ap (λ (t : Bool). (nat_lt k s && has (paired es) k) || t) (is.numbers k)
            ∙ two_sides s e k (has (paired es) k) some;
      })
