-- Ranges as a map keeps them: what starts before a number, at it and behind it, and what a map's calls make of the list.
use Rattle.std.proofs.Common.{◌≡◌, ℕ, ◌+◌, ◌<◌, ◌≤◌, Bool, true, false, cond, List, [], ◌∷◌, ◌++◌, Option, Some, IsSome, nat_cmp, nat_lt, nat_le, Less, Equal, Greater, refl, sym, ap, ◌∙◌, subst, arith, inl, inr}
use Rattle.std.specs.BTreeMap.{is_at}
use Rattle.std.specs.BTreeMap.Range.{range_contains, entries_between}
use Rattle.std.specs.declared.ops.Bound.TheVariants.{Included, Excluded, Unbounded}
use Rattle.std.specs.List.{AllByRecursion, filter}
use Rattle.std.specs.List.Sorted.{IsStrictlySortedBy}
use Rattle.std.specs.Map.{keys_of, lookup, remove_entry, set_value}
use Rattle.std.proofs.lemmas.Bool.{cases_lt, cases_order, lt-ltb, le-ltb, le-leb, lt-leb}
use Rattle.std.proofs.lemmas.List.{map-append}
use Rattle.qh_buffers.specs.Ranges.{PlainRange, AreApart, paired, up_to, before, above}
use Rattle.qh_buffers.proofs.RangeLaws.{behind}

abbrev pub Pair : Type 0
Pair = ℕ × ℕ

abbrev pub range_of : ℕ × ℕ → PlainRange
range_of e = record { start = e.0; end = e.1 }

pub paired-append : (es fs : List Pair) → paired (es ++ fs) ≡ paired es ++ paired fs
paired-append es fs = map-append range_of es fs

pub less_is : (m n : ℕ) → m < n → nat_cmp m n ≡ Less
less_is m n h = grind (arith, h)

pub greater_is : (m n : ℕ) → n < m → nat_cmp m n ≡ Greater
greater_is m n h = grind (arith, h)

pub equal_is : (m n : ℕ) → m ≡ n → nat_cmp m n ≡ Equal
equal_is m n h = grind (arith, h)

less_means : (m n : ℕ) → nat_cmp m n ≡ Less → m < n
less_means m n h = grind (arith, h)

-- ---- the parts that a map's range gives

at_most : (n q : ℕ) → range_contains nat_cmp Unbounded (Included n) q ≡ nat_le q n
at_most n q = grind arith

more_than : (n q : ℕ) → range_contains nat_cmp (Excluded n) Unbounded q ≡ nat_lt n q
more_than n q = grind arith

less_than : (n q : ℕ) → range_contains nat_cmp Unbounded (Excluded n) q ≡ nat_lt q n
less_than n q = grind arith

pub up_to_is : (n : ℕ) (es : List Pair) → entries_between nat_cmp Unbounded (Included n) es ≡ up_to n es
up_to_is n es = λ i. filter (λ (e : Pair). at_most n e.0 i) es

pub above_is : (n : ℕ) (es : List Pair) → entries_between nat_cmp (Excluded n) Unbounded es ≡ above n es
above_is n es = λ i. filter (λ (e : Pair). more_than n e.0 i) es

pub before_is : (n : ℕ) (es : List Pair) → entries_between nat_cmp Unbounded (Excluded n) es ≡ before n es
before_is n es = λ i. filter (λ (e : Pair). less_than n e.0 i) es

-- ---- starts that rise

unfoldable pub Rises : ℕ → List Pair → Type 0
Rises low [] = Unit {0}
Rises low (e ∷ es) = (low ≤ e.0) × Rises (e.0 + 1) es

rises_behind : (x : ℕ) (es : List Pair) → AllByRecursion (λ k. nat_cmp x k ≡ Less) (keys_of es) → IsStrictlySortedBy nat_cmp (keys_of es) → Rises (x + 1) es
unfolding IsStrictlySortedBy Rises
rises_behind x [] behind sorted = tt
rises_behind x (e ∷ es) behind sorted = (omega (arith, less_means x e.0 behind.0), rises_behind e.0 es sorted.0 sorted.1)

pub sorted_rises : (es : List Pair) → IsStrictlySortedBy nat_cmp (keys_of es) → Rises 0 es
unfolding IsStrictlySortedBy Rises
sorted_rises [] sorted = tt
sorted_rises (e ∷ es) sorted = (omega arith, rises_behind e.0 es sorted.0 sorted.1)

pub apart_rises : (es : List Pair) (low low' : ℕ) → low' ≤ low → AreApart low (paired es) → Rises low' es
unfolding Rises
apart_rises [] low low' h apart = tt
apart_rises (e ∷ es) low low' h apart = (omega (arith, apart.0), apart_rises es (e.1 + 1) (e.0 + 1) (omega (arith, apart.1)) apart.2)

-- one entry at a test
abbrev pub chosen : Bool → Pair → List Pair → List Pair
chosen b e es = cond b (e ∷ es) es

pub up_to_yes : (n : ℕ) (e : Pair) (es : List Pair) → e.0 ≤ n → up_to n (e ∷ es) ≡ e ∷ up_to n es
up_to_yes n e es h = ap (λ (b : Bool). chosen b e (up_to n es)) (le-leb e.0 n h)

pub up_to_no : (n : ℕ) (e : Pair) (es : List Pair) → n < e.0 → up_to n (e ∷ es) ≡ up_to n es
up_to_no n e es h = ap (λ (b : Bool). chosen b e (up_to n es)) (lt-leb e.0 n h)

pub before_yes : (n : ℕ) (e : Pair) (es : List Pair) → e.0 < n → before n (e ∷ es) ≡ e ∷ before n es
before_yes n e es h = ap (λ (b : Bool). chosen b e (before n es)) (lt-ltb e.0 n h)

pub before_no : (n : ℕ) (e : Pair) (es : List Pair) → n ≤ e.0 → before n (e ∷ es) ≡ before n es
before_no n e es h = ap (λ (b : Bool). chosen b e (before n es)) (le-ltb e.0 n h)

above_yes : (n : ℕ) (e : Pair) (es : List Pair) → n < e.0 → above n (e ∷ es) ≡ e ∷ above n es
above_yes n e es h = ap (λ (b : Bool). chosen b e (above n es)) (lt-ltb n e.0 h)

pub above_no : (n : ℕ) (e : Pair) (es : List Pair) → e.0 ≤ n → above n (e ∷ es) ≡ above n es
above_no n e es h = ap (λ (b : Bool). chosen b e (above n es)) (le-ltb n e.0 h)

pub none_up_to : (es : List Pair) (low n : ℕ) → Rises low es → n < low → up_to n es ≡ []
unfolding Rises
none_up_to [] low n rises h = refl
none_up_to (e ∷ es) low n rises h =
    up_to_no n e es (omega (arith, rises.0)) ∙ none_up_to es (e.0 + 1) n rises.1 (omega (arith, rises.0))

pub none_before : (es : List Pair) (low n : ℕ) → Rises low es → n ≤ low → before n es ≡ []
unfolding Rises
none_before [] low n rises h = refl
none_before (e ∷ es) low n rises h =
    before_no n e es (omega (arith, rises.0)) ∙ none_before es (e.0 + 1) n rises.1 (omega (arith, rises.0))

pub all_above : (es : List Pair) (low n : ℕ) → Rises low es → n < low → above n es ≡ es
unfolding Rises
all_above [] low n rises h = refl
all_above (e ∷ es) low n rises h =
    above_yes n e es (omega (arith, rises.0)) ∙ ap (λ (l : List Pair). e ∷ l) (all_above es (e.0 + 1) n rises.1 (omega (arith, rises.0)))

-- a list is what starts up to a number, and what starts above it
pub parted : (es : List Pair) (low n : ℕ) → Rises low es → es ≡ up_to n es ++ above n es
unfolding Rises
parted [] low n rises = refl
parted (e ∷ es) low n rises =
    elim (cases_lt n e.0) [
      | inl later ↦
          let none : up_to n (e ∷ es) ≡ [] = none_up_to (e ∷ es) e.0 n (omega arith, rises.1) later in
          let all : above n (e ∷ es) ≡ e ∷ es = all_above (e ∷ es) e.0 n (omega arith, rises.1) later in
          sym (ap (λ (l : List Pair). l ++ above n (e ∷ es)) none ∙ all)
      | inr earlier ↦
          ap (λ (l : List Pair). e ∷ l) (parted es (e.0 + 1) n rises.1)
          ∙ sym (ap (λ (l : List Pair). l ++ above n (e ∷ es)) (up_to_yes n e es earlier) ∙ ap (λ (l : List Pair). (e ∷ up_to n es) ++ l) (above_no n e es earlier))
    ]

-- a list that has an entry in the middle
pub middle_low : (front back : List Pair) (e : Pair) (low : ℕ) → Rises low (front ++ e ∷ back) → low ≤ e.0
unfolding Rises
middle_low [] back e low rises = rises.0
middle_low (f ∷ front) back e low rises = omega (arith, rises.0, middle_low front back e (f.0 + 1) rises.1)

pub before_middle : (front back : List Pair) (e : Pair) (low : ℕ) → Rises low (front ++ e ∷ back) → before e.0 (front ++ e ∷ back) ≡ front
unfolding Rises
before_middle [] back e low rises = none_before (e ∷ back) e.0 e.0 (omega arith, rises.1) (omega arith)
before_middle (f ∷ front) back e low rises =
    before_yes e.0 f (front ++ e ∷ back) (omega (arith, middle_low front back e (f.0 + 1) rises.1))
    ∙ ap (λ (l : List Pair). f ∷ l) (before_middle front back e (f.0 + 1) rises.1)

pub above_middle : (front back : List Pair) (e : Pair) (low : ℕ) → Rises low (front ++ e ∷ back) → above e.0 (front ++ e ∷ back) ≡ back
unfolding Rises
above_middle [] back e low rises = above_no e.0 e back (omega arith) ∙ all_above back (e.0 + 1) e.0 rises.1 (omega arith)
above_middle (f ∷ front) back e low rises =
    above_no e.0 f (front ++ e ∷ back) (omega (arith, middle_low front back e (f.0 + 1) rises.1)) ∙ above_middle front back e (f.0 + 1) rises.1

pub here_is : (k : ℕ) → is_at (nat_cmp k) k ≡ true
here_is k = grind arith

pub other_is : (k q : ℕ) → (k ≡ q → ⊥) → is_at (nat_cmp k) q ≡ false
other_is k q h = grind (arith, h)

pub found_middle : (front back : List Pair) (e : Pair) (low : ℕ) → Rises low (front ++ e ∷ back) → lookup (is_at (nat_cmp e.0)) (front ++ e ∷ back) ≡ Some e.1
unfolding Rises
found_middle [] back e low rises = ap (λ (b : Bool). cond b (Some e.1) (lookup (is_at (nat_cmp e.0)) back)) (here_is e.0)
found_middle (f ∷ front) back e low rises =
    ap (λ (b : Bool). cond b (Some f.1) (lookup (is_at (nat_cmp e.0)) (front ++ e ∷ back))) (other_is e.0 f.0 (λ same. omega (arith, middle_low front back e (f.0 + 1) rises.1)))
    ∙ found_middle front back e (f.0 + 1) rises.1

missing_below : (es : List Pair) (low k : ℕ) → Rises low es → k < low → IsSome (lookup (is_at (nat_cmp k)) es) → ⊥
unfolding Rises
missing_below [] low k rises h some = cc
missing_below (e ∷ es) low k rises h some =
    missing_below es (e.0 + 1) k rises.1 (omega (arith, rises.0))
    (subst (λ (o : Option ℕ). IsSome o) (ap (λ (b : Bool). cond b (Some e.1) (lookup (is_at (nat_cmp k)) es)) (other_is k e.0 (λ same. omega (arith, rises.0)))) some)

pub first_above : (es rest : List Pair) (start : ℕ) (f : Pair) → above start es ≡ f ∷ rest → start < f.0
first_above [] rest start f is = absurd (cc)
first_above (e ∷ es) rest start f is =
    elim (cases_lt start e.0) [
      | inl later ↦
          let list : e ∷ above start es ≡ f ∷ rest = sym (above_yes start e es later) ∙ is in
          let same : e ≡ f = cc in
          subst (λ (g : Pair). start < g.0) same later
      | inr earlier ↦ first_above es rest start f (sym (above_no start e es earlier) ∙ is)
    ]

-- an end is written
pub written : (es : List Pair) (low start w : ℕ) → Rises low es → IsSome (lookup (is_at (nat_cmp start)) es) → set_value (is_at (nat_cmp start)) es w ≡ before start es ++ (start, w) ∷ above start es
unfolding Rises
written [] low start w rises some = absurd (cc)
written (e ∷ es) low start w rises some =
    let rest = set_value (is_at (nat_cmp start)) es w in
    elim (cases_order start e.0) [
      | inl same ↦
          let at : is_at (nat_cmp start) e.0 ≡ true = rw same (here_is e.0) in
          let none : before start (e ∷ es) ≡ [] = none_before (e ∷ es) e.0 start (omega arith, rises.1) (omega arith) in
          let all : above start (e ∷ es) ≡ es = above_no start e es (omega arith) ∙ all_above es (e.0 + 1) start rises.1 (omega arith) in
          ap (λ (b : Bool). cond b ((e.0, w) ∷ es) (e ∷ rest)) at
          ∙ sym (ap (λ (l : List Pair). l ++ (start, w) ∷ above start (e ∷ es)) none ∙ ap (λ (l : List Pair). (start, w) ∷ l) all ∙ ap (λ (k : ℕ). (k, w) ∷ es) same)
      | inr apart ↦
          let at : is_at (nat_cmp start) e.0 ≡ false = other_is start e.0 (λ same. elim apart [ inl below ↦ omega arith | inr over ↦ omega arith ]) in
          let there : IsSome (lookup (is_at (nat_cmp start)) es) = subst (λ (o : Option ℕ). IsSome o) (ap (λ (b : Bool). cond b (Some e.1) (lookup (is_at (nat_cmp start)) es)) at) some in
          let step = ap (λ (b : Bool). cond b ((e.0, w) ∷ es) (e ∷ rest)) at in
          elim apart [
            | inl below ↦ absurd (missing_below es (e.0 + 1) start rises.1 (omega arith) there)
            | inr over ↦
                step ∙ ap (λ (l : List Pair). e ∷ l) (written es (e.0 + 1) start w rises.1 there)
                ∙ sym (ap (λ (l : List Pair). l ++ (start, w) ∷ above start (e ∷ es)) (before_yes start e es over)
                ∙ ap (λ (l : List Pair). (e ∷ before start es) ++ (start, w) ∷ l) (above_no start e es (omega arith)))
          ]
    ]

pub above_found : (es rest : List Pair) (low start : ℕ) (f : Pair) → Rises low es → above start es ≡ f ∷ rest → lookup (is_at (nat_cmp f.0)) es ≡ Some f.1
unfolding Rises
above_found [] rest low start f rises is = absurd (cc)
above_found (e ∷ es) rest low start f rises is =
    elim (cases_lt start e.0) [
      | inl later ↦
          let list : e ∷ above start es ≡ f ∷ rest = sym (above_yes start e es later) ∙ is in
          let same : e ≡ f = cc in
          subst (λ (g : Pair). lookup (is_at (nat_cmp g.0)) (e ∷ es) ≡ Some g.1) same (ap (λ (b : Bool). cond b (Some e.1) (lookup (is_at (nat_cmp e.0)) es)) (here_is e.0))
      | inr earlier ↦
          let there : above start es ≡ f ∷ rest = sym (above_no start e es earlier) ∙ is in
          let later : start < f.0 = first_above es rest start f there in
          ap (λ (b : Bool). cond b (Some e.1) (lookup (is_at (nat_cmp f.0)) es)) (other_is f.0 e.0 (λ same. omega arith))
          ∙ above_found es rest (e.0 + 1) start f rises.1 there
    ]

-- the first that starts above a number is taken out
pub record IsRemoved (start : ℕ) (es : List Pair) (f : Pair) (rest : List Pair) : Type 0 where
  pub before_is : before start (remove_entry (is_at (nat_cmp f.0)) es) ≡ before start es
  pub above_is : above start (remove_entry (is_at (nat_cmp f.0)) es) ≡ rest

pub removed : (es rest : List Pair) (low start : ℕ) (f : Pair) → Rises low es → above start es ≡ f ∷ rest → IsRemoved start es f rest
unfolding Rises
removed [] rest low start f rises is = absurd (cc)
removed (e ∷ es) rest low start f rises is =
    let less = remove_entry (is_at (nat_cmp f.0)) es in
    elim (cases_lt start e.0) [
      | inl later ↦
          let list : e ∷ es ≡ f ∷ rest = sym (all_above (e ∷ es) e.0 start (omega arith, rises.1) later) ∙ is in
          let same : e ≡ f = cc in
          let tail : es ≡ rest = cc in
          let at : is_at (nat_cmp f.0) e.0 ≡ true = ap (λ (g : Pair). is_at (nat_cmp f.0) g.0) same ∙ here_is f.0 in
          let gone : remove_entry (is_at (nat_cmp f.0)) (e ∷ es) ≡ es = ap (λ (b : Bool). cond b es (e ∷ less)) at in
          record {
            before_is = ap (before start) gone ∙ sym (before_no start e es (omega arith));
            above_is = ap (above start) gone ∙ all_above es (e.0 + 1) start rises.1 (omega arith) ∙ tail;
          }
      | inr earlier ↦
          let there : above start es ≡ f ∷ rest = sym (above_no start e es earlier) ∙ is in
          let later : start < f.0 = first_above es rest start f there in
          let at : is_at (nat_cmp f.0) e.0 ≡ false = other_is f.0 e.0 (λ same. omega arith) in
          let kept : remove_entry (is_at (nat_cmp f.0)) (e ∷ es) ≡ e ∷ less = ap (λ (b : Bool). cond b es (e ∷ less)) at in
          let more = removed es rest (e.0 + 1) start f rises.1 there in
          record {
            before_is = ap (before start) kept ∙ ap (λ (l : List Pair). chosen (nat_lt e.0 start) e l) more.before_is;
            above_is = ap (above start) kept ∙ above_no start e less earlier ∙ more.above_is;
          }
    ]
