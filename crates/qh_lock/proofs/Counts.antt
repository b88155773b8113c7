-- Sums over views, places, and prefixes of a history.
use Rattle.std.proofs.Common.{◌≡◌, ◌≢◌, ℕ, zero, suc, ◌+◌, ◌<◌, ◌≤◌, if◌then◌else◌, ltb, List, [], ◌∷◌, ◌++◌, length, drop, set, Bool, true, false, refl, sym, ap, ◌∙◌, append-nil, arith, length-append}
use mathlib.Core.Option.{some, some-ne-none, some-injective}
use mathlib.Core.Logic.{dite}
use native.Mathlib.Decide.{ℕ_discrete, dec_lt}
use lib.ListN.{get_elem?}
use Rattle.qh_lock.specs.Places.{total, times, one_if, once_below, places, StartsWith, longer, shorter}

module _ {A : Type 0} (f : A → ℕ) where
  pub total_part : (l : List A) (i : ℕ) (v : A) → get_elem? l i ≡ some v → f v ≤ total f l
  total_part [] i v e = absurd (some-ne-none v (sym e))
  total_part (x ∷ xs) zero v e = let h : f x ≡ f v = ap f (some-injective x v e) in omega arith
  total_part (x ∷ xs) (suc i) v e = let h = total_part xs i v e in omega arith

module _ {A : Type 0} (f : A → ℕ) where
  pub total_set : (l : List A) (i : ℕ) (v w : A) → get_elem? l i ≡ some v → total f (set l i w) + f v ≡ total f l + f w
  total_set [] i v w e = absurd (some-ne-none v (sym e))
  total_set (x ∷ xs) zero v w e = let h : f x ≡ f v = ap f (some-injective x v e) in omega arith
  total_set (x ∷ xs) (suc i) v w e = let h = total_set xs i v w e in omega arith

  pub total_snoc : (l : List A) (w : A) → total f (l ++ w ∷ []) ≡ total f l + f w
  total_snoc [] w = omega arith
  total_snoc (x ∷ xs) w = let h = total_snoc xs w in omega arith

module _ {A : Type 0} (f : A → ℕ) where
  -- where the others have no part, the sum is one view's
  pub total_none : (parts : A → ℕ) (l : List A) → total parts l ≡ 0 → ((j : ℕ) (u : A) → get_elem? l j ≡ some u → parts u ≡ 0 → f u ≡ 0) → total f l ≡ 0
  total_none parts [] e h = refl
  total_none parts (x ∷ xs) e h = let a : f x ≡ 0 = h 0 x refl (omega arith) in let b = total_none parts xs (omega arith) (λ j u. h (suc j) u) in omega arith

  pub total_sole : (parts : A → ℕ) (l : List A) (i : ℕ) (v : A) → get_elem? l i ≡ some v → total parts l ≡ parts v → ((j : ℕ) (u : A) → get_elem? l j ≡ some u → parts u ≡ 0 → f u ≡ 0) → total f l ≡ f v
  total_sole parts [] i v at e h = absurd (some-ne-none v (sym at))
  total_sole parts (x ∷ xs) zero v at e h =
      let p : parts x ≡ parts v = ap parts (some-injective x v at) in
      let q : f x ≡ f v = ap f (some-injective x v at) in
      let b = total_none parts xs (omega arith) (λ j u. h (suc j) u) in omega arith
  total_sole parts (x ∷ xs) (suc i) v at e h =
      let most = total_part parts xs i v at in
      let none : parts x ≡ 0 = omega arith in
      let a : f x ≡ 0 = h 0 x refl none in
      let b = total_sole parts xs i v at (omega arith) (λ j u. h (suc j) u) in omega arith

  -- where the sum is more than 0, so is what one item gives
  pub total_some : (l : List A) → 0 < total f l → (j : ℕ) × (v : A) × (get_elem? l j ≡ some v) × (0 < f v)
  total_some [] h = absurd (omega arith)
  total_some (x ∷ xs) h = dite (dec_lt 0 (f x))
      (λ here. (0, x, refl, here))
      (λ not_here. let r = total_some xs (omega arith) in (suc r.0, r.1, r.2, r.3))

pub below_most : (n k : ℕ) → once_below n k ≤ 1
below_most n k = grind arith

pub below_yes : (n k : ℕ) → n < k → once_below n k ≡ 1
below_yes n k h = grind arith

pub below_no : (n k : ℕ) → k ≤ n → once_below n k ≡ 0
below_no n k h = grind arith

pub below_pos : (n k : ℕ) → 0 < once_below n k → n < k
below_pos n k h = dite (dec_lt n k) (λ y. y) (λ no. let z = below_no n k (omega arith) in absurd (omega arith))

pub is_here : (n k : ℕ) → k ≡ n → one_if k n ≡ 1
is_here n k e = grind arith

pub is_else : (n k : ℕ) → k ≢ n → one_if k n ≡ 0
is_else n k e = grind arith

next_below : (n k : ℕ) → once_below n (suc k) ≡ one_if k n + once_below n k
next_below n k = dite (ℕ_discrete k n)
    (λ e. let a = below_yes n (suc k) (omega arith) in let b = below_no n k (omega arith) in let c = is_here n k e in omega arith)
    (λ ne. let c = is_else n k ne in dite (dec_lt n k)
    (λ l. let a = below_yes n (suc k) (omega arith) in let b = below_yes n k l in omega arith)
    (λ nl. let a = below_no n (suc k) (omega arith) in let b = below_no n k (omega arith) in omega arith))

pub times_append : (n : ℕ) (xs ys : List ℕ) → times n (xs ++ ys) ≡ times n xs + times n ys
times_append n [] ys = omega arith
times_append n (x ∷ xs) ys = let h = times_append n xs ys in omega arith

module _ {E : Type 0} where
  pub times_places : (n k : ℕ) (xs : List E) → times n (places k xs) + once_below n k ≡ once_below n (k + length xs)
  times_places n k [] = let e : once_below n k ≡ once_below n (k + 0) = ap (once_below n) (omega arith) in omega arith
  times_places n k (x ∷ xs) =
      let h = times_places n (suc k) xs in
      let b = next_below n k in
      let e : once_below n (suc k + length xs) ≡ once_below n (k + suc (length xs)) = ap (once_below n) (omega arith) in omega arith

  pub drop_front : (xs ys : List E) → drop (length xs) (xs ++ ys) ≡ ys
  drop_front [] ys = refl
  drop_front (x ∷ xs) ys = drop_front xs ys

  pub starts_length : (log seen : List E) → StartsWith log seen → length seen ≤ length log
  starts_length log seen s = let e : length log ≡ length (seen ++ s.0) = ap length s.1 in omega (arith, length-append seen s.0)

  pub starts_self : (log : List E) → StartsWith log log
  starts_self log = ([], sym (append-nil log))

  -- a beginning that is as long is the whole
  pub starts_whole : (log seen : List E) → StartsWith log seen → length log ≤ length seen → log ≡ seen
  starts_whole log seen s le =
      let e : length log ≡ length (seen ++ s.0) = ap length s.1 in
      let short : length s.0 ≡ 0 = omega (arith, length-append seen s.0) in
      s.1 ∙ (ap (λ (r : List E). seen ++ r) (empty s.0 short) ∙ append-nil seen)
    where
      empty : (r : List E) → length r ≡ 0 → r ≡ []
      empty [] e = refl
      empty (x ∷ xs) e = absurd (omega arith)

  pick : (P : List E → Type 0) (b : Bool) (xs ys : List E) → P xs → P ys → P (if b then ys else xs)
  pick P true xs ys p q = q
  pick P false xs ys p q = p

  pub longer_starts : (log xs ys : List E) → StartsWith log xs → StartsWith log ys → StartsWith log (longer xs ys)
  longer_starts log xs ys p q = pick (StartsWith log) (ltb (length xs) (length ys)) xs ys p q

  longer_is : (b : Bool) (xs ys : List E) → ltb (length xs) (length ys) ≡ b → (length xs ≤ length (if b then ys else xs)) × (length ys ≤ length (if b then ys else xs))
  longer_is true xs ys e = (grind arith, omega arith)
  longer_is false xs ys e = (omega arith, grind arith)

  pub longer_length : (xs ys : List E) → (length xs ≤ length (longer xs ys)) × (length ys ≤ length (longer xs ys))
  longer_length xs ys = longer_is (ltb (length xs) (length ys)) xs ys refl

  pub starts_shorter : (xs ys r q : List E) → xs ++ r ≡ ys ++ q → length xs ≤ length ys → StartsWith ys xs
  starts_shorter [] ys r q e le = (ys, refl)
  starts_shorter (x ∷ xs) [] r q e le = absurd (omega arith)
  starts_shorter (x ∷ xs) (y ∷ ys) r q e le = let h = starts_shorter xs ys r q (ap tail e) (omega arith) in (h.0, (λ i. first x (sym e i) ∷ h.1 i))
    where
      tail : List E → List E
      tail [] = []
      tail (z ∷ zs) = zs

      first : E → List E → E
      first d [] = d
      first d (z ∷ zs) = z

  either_begins : (b : Bool) (xs ys : List E) → StartsWith (if b then ys else xs) (if b then xs else ys) → StartsWith (if b then ys else xs) xs × StartsWith (if b then ys else xs) ys
  either_begins true xs ys h = (h, starts_self ys)
  either_begins false xs ys h = (starts_self xs, h)

  -- where the shorter begins the longer, both do
  pub longer_begins : (xs ys : List E) → StartsWith (longer xs ys) (shorter xs ys) → StartsWith (longer xs ys) xs × StartsWith (longer xs ys) ys
  longer_begins xs ys h = either_begins (ltb (length xs) (length ys)) xs ys h

  pub shorter_starts : (log xs ys : List E) → StartsWith log xs → StartsWith log ys → StartsWith log (shorter xs ys)
  shorter_starts log xs ys p q = pick (StartsWith log) (ltb (length xs) (length ys)) ys xs q p

  shorter_is : (b : Bool) (xs ys : List E) → ltb (length xs) (length ys) ≡ b → length (if b then xs else ys) ≤ length (if b then ys else xs)
  shorter_is true xs ys e = grind arith
  shorter_is false xs ys e = grind arith

  pub shorter_length : (xs ys : List E) → length (shorter xs ys) ≤ length (longer xs ys)
  shorter_length xs ys = shorter_is (ltb (length xs) (length ys)) xs ys refl
