-- Lists of streams and of answers, of which one element changes.
use Rattle.std.proofs.Common.{◌≡◌, ◌⊎◌, ℕ, ◌+◌, ◌≤◌, zero, suc, Bool, true, false, cond, List, [], ◌∷◌, ◌++◌, length, Option, Some, None, inl, inr, refl, sym, ap, ◌∙◌, subst, arith, append-nil}
use Rattle.std.specs.Prelude.{map, filter, is_some, slice_get, slice_set, replicate, not, if◌then◌else◌}
use Rattle.std.proofs.lemmas.Bool.{both_ways, cases_Bool}
use Rattle.qh_roles.specs.Client.{held}
use Rattle.qh_roles.specs.ClientSteps.{KeepsAnswers, present, with_answer}
use Rattle.qh_spec.proofs.Members.{in_at, in_map}
use Rattle.qh_spec.specs.Lists.{In, Distinct}
use Rattle.qh_spec.specs.Message.{PlainMessage}

-- ---- an element in the place of another

pub in_set : {X : Type 0} (xs : List X) (at : ℕ) (x y : X) → In y (slice_set xs at x) → (x ≡ y) ⊎ In y xs
in_set [] at x y h = absurd h
in_set (z ∷ xs) zero x y (inl e) = inl e
in_set (z ∷ xs) zero x y (inr h) = inr (inr h)
in_set (z ∷ xs) (suc at) x y (inl e) = inr (inl e)
in_set (z ∷ xs) (suc at) x y (inr h) = elim (in_set xs at x y h) [ inl e ↦ inl e | inr m ↦ inr (inr m) ]

-- each other element is apart from the one that it replaced
pub in_set_apart : {X : Type 0} (f : X → ℕ) (xs : List X) (at : ℕ) (old x y : X) → slice_get xs at ≡ Some old → f x ≡ f old → Distinct (map f xs)
    → In y (slice_set xs at x) → (x ≡ y) ⊎ (In y xs × (f y ≡ f x → ⊥))
in_set_apart f [] at old x y is same d h = absurd h
in_set_apart f (z ∷ xs) zero old x y is same d (inl e) = inl e
in_set_apart f (z ∷ xs) zero old x y is same d (inr h) =
    let first : z ≡ old = cc in
    inr (inr h, λ e. d.0 (subst (λ (k : ℕ). In k (map f xs)) (e ∙ same ∙ sym (ap f first)) (in_map f y xs h)))
in_set_apart f (z ∷ xs) (suc at) old x y is same d (inl e) =
    inr (inl e, λ r. d.0 (subst (λ (k : ℕ). In k (map f xs)) (sym same ∙ sym r ∙ sym (ap f e)) (in_map f old xs (in_at xs at old is))))
in_set_apart f (z ∷ xs) (suc at) old x y is same d (inr h) = elim (in_set_apart f xs at old x y is same d.1 h) [
  | inl e ↦ inl e
  | inr m ↦ inr (inr m.0, m.1)
]

pub map_set : {X : Type 0} (f : X → ℕ) (xs : List X) (at : ℕ) (old x : X) → slice_get xs at ≡ Some old → f x ≡ f old → map f (slice_set xs at x) ≡ map f xs
map_set f [] at old x is same = refl
map_set f (z ∷ xs) zero old x is same = let first : z ≡ old = cc in ap (λ (k : ℕ). k ∷ map f xs) (same ∙ sym (ap f first))
map_set f (z ∷ xs) (suc at) old x is same = ap (λ (ks : List ℕ). f z ∷ ks) (map_set f xs at old x is same)

pub length_set : {X : Type 0} (xs : List X) (at : ℕ) (x : X) → length (slice_set xs at x) ≡ length xs
length_set [] at x = refl
length_set (z ∷ xs) zero x = refl
length_set (z ∷ xs) (suc at) x = ap suc (length_set xs at x)

-- ---- what a filter leaves

pub of_filtered : {X : Type 0} (p : X → Bool) (xs : List X) (x : X) → In x (filter p xs) → In x xs × (p x ≡ true)
of_filtered p [] x h = absurd h
of_filtered p (y ∷ ys) x h = elim (cases_Bool (p y)) [
  | inl here ↦ elim (rw here at h) [
    | inl e ↦ (inl e, ap p (sym e) ∙ here)
    | inr more ↦ let one = of_filtered p ys x more in (inr one.0, one.1)
  ]
  | inr gone ↦ let one = of_filtered p ys x (rw gone at h) in (inr one.0, one.1)
]

in_map_filter : {X : Type 0} (p : X → Bool) (f : X → ℕ) (xs : List X) (k : ℕ) → In k (map f (filter p xs)) → In k (map f xs)
in_map_filter p f [] k h = absurd h
in_map_filter p f (x ∷ xs) k h = elim (cases_Bool (p x)) [
  | inl holds ↦
      let among : In k (f x ∷ map f (filter p xs)) = subst (λ (b : Bool). In k (map f (cond b (x ∷ filter p xs) (filter p xs)))) holds h in
      elim among [ inl e ↦ inl e | inr m ↦ inr (in_map_filter p f xs k m) ]
  | inr fails ↦
      let among : In k (map f (filter p xs)) = subst (λ (b : Bool). In k (map f (cond b (x ∷ filter p xs) (filter p xs)))) fails h in
      inr (in_map_filter p f xs k among)
]

pub distinct_filter : {X : Type 0} (p : X → Bool) (f : X → ℕ) (xs : List X) → Distinct (map f xs) → Distinct (map f (filter p xs))
distinct_filter p f [] d = tt
distinct_filter p f (x ∷ xs) d = elim (cases_Bool (p x)) [
  | inl holds ↦ subst (λ (b : Bool). Distinct (map f (cond b (x ∷ filter p xs) (filter p xs)))) (sym holds) (λ h. d.0 (in_map_filter p f xs (f x) h), distinct_filter p f xs d.1)
  | inr fails ↦ subst (λ (b : Bool). Distinct (map f (cond b (x ∷ filter p xs) (filter p xs)))) (sym fails) (distinct_filter p f xs d.1)
]

-- ---- answers

set_kept : (xs : List (Option PlainMessage)) (at k : ℕ) (x a : PlainMessage) → slice_get xs k ≡ Some (Some a) → (b : PlainMessage) × (slice_get (slice_set xs at (Some x)) k ≡ Some (Some b))
set_kept [] at k x a is = (a, is)
set_kept (z ∷ xs) zero zero x a is = (x, refl)
set_kept (z ∷ xs) zero (suc k) x a is = (a, is)
set_kept (z ∷ xs) (suc at) zero x a is = (a, is)
set_kept (z ∷ xs) (suc at) (suc k) x a is = set_kept xs at k x a is

pub answers_kept : (xs : List (Option PlainMessage)) (index : ℕ) (answer : Option PlainMessage) → KeepsAnswers xs (with_answer xs index answer)
answers_kept xs index None = λ k a is. (a, is)
answers_kept xs index (Some x) = λ k a is. set_kept xs index k x a is

pub get_set : {X : Type 0} (xs : List X) (at k : ℕ) (x y : X) → slice_get (slice_set xs at x) k ≡ Some y → (x ≡ y) × (k ≡ at) ⊎ (slice_get xs k ≡ Some y) × (k ≡ at → ⊥)
get_set [] at k x y is = cc
get_set (z ∷ xs) zero zero x y is = inl (cc, refl)
get_set (z ∷ xs) zero (suc k) x y is = inr (is, λ e. omega (arith, e))
get_set (z ∷ xs) (suc at) zero x y is = inr (is, λ e. omega (arith, e))
get_set (z ∷ xs) (suc at) (suc k) x y is = elim (get_set xs at k x y is) [
  | inl h ↦ inl (h.0, ap suc h.1)
  | inr h ↦ inr (h.0, λ e. h.1 (omega (arith, e)))
]

pub held_below : (xs : List (Option PlainMessage)) → held xs ≤ length xs
held_below [] = omega arith
held_below (None ∷ xs) = let rest = held_below xs in omega (arith, rest)
held_below (Some x ∷ xs) = let rest = held_below xs in omega (arith, rest)

-- how many are held more where the answer of a place is there
pub held_set : (xs : List (Option PlainMessage)) (at : ℕ) (old : Option PlainMessage) (x : PlainMessage) → slice_get xs at ≡ Some old → held (slice_set xs at (Some x)) ≡ held xs + cond (is_some old) 0 1
held_set [] at old x is = cc
held_set (None ∷ xs) zero old x is = let first : None ≡ old = cc in rw (← first) (omega arith)
held_set (Some y ∷ xs) zero old x is = let first : Some y ≡ old = cc in rw (← first) (omega arith)
held_set (None ∷ xs) (suc at) old x is = held_set xs at old x is
held_set (Some y ∷ xs) (suc at) old x is = let rest = held_set xs at old x is in omega (arith, rest)

pub held_none : (n : ℕ) → held (replicate n None) ≡ 0
held_none zero = refl
held_none (suc n) = held_none n

pub none_held : (n k : ℕ) (x : PlainMessage) → slice_get (replicate n None) k ≡ Some (Some x) → ⊥
none_held zero k x is = cc
none_held (suc n) zero x is = cc
none_held (suc n) (suc k) x is = none_held n k x is

pub present_more : (xs : List (Option PlainMessage)) (x : Option PlainMessage) → present (xs ++ x ∷ []) ≡ present xs ++ present (x ∷ [])
present_more [] x = refl
present_more (None ∷ xs) x = present_more xs x
present_more (Some y ∷ xs) x = ap (λ (zs : List PlainMessage). y ∷ zs) (present_more xs x)

pub all_present : (xs : List (Option PlainMessage)) → held xs ≡ length xs → map Some (present xs) ≡ xs
all_present [] all = refl
all_present (None ∷ xs) all = let below = held_below xs in absurd (omega (arith, below, all))
all_present (Some x ∷ xs) all = ap (λ (zs : List (Option PlainMessage)). Some x ∷ zs) (all_present xs (omega (arith, all)))

-- one more, where none was there
pub one_where_none : (old : List (Option PlainMessage)) (there none : Bool) (n : ℕ) → n ≡ held old + cond there 0 1 → there ≡ not none → n ≡ held old + (if none then 1 else 0)
one_where_none old true true n is e = absurd (both_ways false refl (sym e))
one_where_none old true false n is e = is
one_where_none old false true n is e = is
one_where_none old false false n is e = absurd (both_ways false refl e)

pub nothing_left : {X : Type 0} (xs : List X) → length xs ≡ 0 → xs ≡ []
nothing_left [] e = refl
nothing_left (x ∷ xs) e = absurd (omega (arith, e))

-- a place without an answer
pub none_present : (xs : List (Option PlainMessage)) (o : Option PlainMessage) → ((x : PlainMessage) → o ≡ Some x → ⊥) → present (xs ++ o ∷ []) ≡ present xs
none_present xs None n = present_more xs None ∙ append-nil (present xs)
none_present xs (Some x) n = absurd (n x refl)
