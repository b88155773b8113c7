-- Laws of membership.
use Rattle.std.proofs.Common.{◌≡◌, ◌⊎◌, inl, inr, ℕ, List, [], ◌∷◌, ◌++◌, zero, suc, length, Some, take, drop, get_or, zero-add, suc-add, refl, sym, ap, subst, arith, ◌<◌, ◌+◌}
use Rattle.std.specs.Prelude.{slice_get, map, remove}
use Rattle.qh_spec.specs.Lists.{In, Distinct}

pub in_left : {X : Type 0} (x : X) (xs ys : List X) → In x xs → In x (xs ++ ys)
in_left x [] ys h = absurd h
in_left x (y ∷ xs) ys (inl e) = inl e
in_left x (y ∷ xs) ys (inr h) = inr (in_left x xs ys h)

pub in_right : {X : Type 0} (x : X) (xs ys : List X) → In x ys → In x (xs ++ ys)
in_right x [] ys h = h
in_right x (y ∷ xs) ys h = inr (in_right x xs ys h)

pub in_split : {X : Type 0} (x : X) (xs ys : List X) → In x (xs ++ ys) → In x xs ⊎ In x ys
in_split x [] ys h = inr h
in_split x (y ∷ xs) ys (inl e) = inl (inl e)
in_split x (y ∷ xs) ys (inr h) = elim (in_split x xs ys h) [ inl a ↦ inl (inr a) | inr b ↦ inr b ]

pub in_last : {X : Type 0} (x : X) (xs : List X) → In x (xs ++ x ∷ [])
in_last x xs = in_right x xs (x ∷ []) (inl refl)

-- of a list with one more at its end
pub in_more : {X : Type 0} (x y : X) (xs : List X) → In x (xs ++ y ∷ []) → In x xs ⊎ (y ≡ x)
in_more x y xs h = elim (in_split x xs (y ∷ []) h) [ inl a ↦ inl a | inr b ↦ elim b [ inl e ↦ inr e | inr n ↦ absurd n ] ]

pub in_map : {X Y : Type 0} (f : X → Y) (x : X) (xs : List X) → In x xs → In (f x) (map f xs)
in_map f x [] h = absurd h
in_map f x (y ∷ xs) (inl e) = inl (ap f e)
in_map f x (y ∷ xs) (inr h) = inr (in_map f x xs h)

-- what a mapped list has comes from the list
pub from_map : {X Y : Type 0} (f : X → Y) (y : Y) (xs : List X) → In y (map f xs) → (x : X) × In x xs × (f x ≡ y)
from_map f y [] h = absurd h
from_map f y (x ∷ xs) (inl e) = (x, inl refl, e)
from_map f y (x ∷ xs) (inr h) = let r = from_map f y xs h in (r.0, inr r.1, r.2)

pub in_at : {X : Type 0} (xs : List X) (k : ℕ) (x : X) → slice_get xs k ≡ Some x → In x xs
in_at [] k x e = cc
in_at (y ∷ xs) zero x e = inl cc
in_at (y ∷ xs) (suc k) x e = inr (in_at xs k x e)

pub distinct_more : {X : Type 0} (xs : List X) (x : X) → Distinct xs → (In x xs → ⊥) → Distinct (xs ++ x ∷ [])
distinct_more [] x d n = (λ h. h, tt)
distinct_more (y ∷ xs) x d n =
    (λ h. elim (in_more y x xs h) [ inl a ↦ d.0 a | inr e ↦ n (inl (sym e)) ], distinct_more xs x d.1 (λ h. n (inr h)))

pub distinct_front : {X : Type 0} (xs ys : List X) → Distinct (xs ++ ys) → Distinct xs
distinct_front [] ys d = tt
distinct_front (x ∷ xs) ys d = (λ h. d.0 (in_left x xs ys h), distinct_front xs ys d.1)

-- the last of a list without repetition isn't among the others
pub last_is_new : {X : Type 0} (xs : List X) (x : X) → Distinct (xs ++ x ∷ []) → In x xs → ⊥
last_is_new [] x d h = h
last_is_new (y ∷ xs) x d (inl e) = d.0 (subst (λ (z : _). In y (xs ++ z ∷ [])) e (in_last y xs))
last_is_new (y ∷ xs) x d (inr h) = last_is_new xs x d.1 h

-- two lists are one where they have one length and the first's elements are the second's
pub same_list : {X : Type 0} (xs ys : List X) → length xs ≡ length ys → ((k : ℕ) (b : X) → slice_get xs k ≡ Some b → slice_get ys k ≡ Some b) → xs ≡ ys
same_list [] [] e f = refl
same_list [] (y ∷ ys) e f = absurd (omega arith)
same_list (x ∷ xs) [] e f = absurd (omega arith)
same_list (x ∷ xs) (y ∷ ys) e f =
    let head : Some y ≡ Some x = f zero x refl in
    let rest : xs ≡ ys = same_list xs ys (omega arith) (λ k b h. f (suc k) b h) in
    cc

pub in_take : {X : Type 0} (x : X) (n : ℕ) (xs : List X) → In x (take n xs) → In x xs
in_take x zero xs h = absurd h
in_take x (suc n) [] h = h
in_take x (suc n) (y ∷ xs) (inl e) = inl e
in_take x (suc n) (y ∷ xs) (inr h) = inr (in_take x n xs h)

pub in_drop : {X : Type 0} (x : X) (n : ℕ) (xs : List X) → In x (drop n xs) → In x xs
in_drop x zero xs h = h
in_drop x (suc n) [] h = h
in_drop x (suc n) (y ∷ xs) h = inr (in_drop x n xs h)

pub in_removed : {X : Type 0} (x : X) (xs : List X) (i : ℕ) → In x (remove xs i) → In x xs
in_removed x xs i h = elim (in_split x (take i xs) (drop (suc i) xs) h) [ inl a ↦ in_take x i xs a | inr b ↦ in_drop x (suc i) xs b ]

pub in_index : {X : Type 0} (xs : List X) (i : ℕ) (d : X) → i < length xs → In (get_or xs i d) xs
in_index [] i d h = absurd (omega arith)
in_index (y ∷ xs) zero d h = inl refl
in_index (y ∷ xs) (suc i) d h = inr (in_index xs i d (omega arith))

-- a part of a list
pub get_drop : {X : Type 0} (xs : List X) (n o : ℕ) (b : X) → slice_get (drop n xs) o ≡ Some b → slice_get xs (n + o) ≡ Some b
get_drop xs zero o b e = rw zero-add e
get_drop [] (suc n) o b e = cc
get_drop (x ∷ xs) (suc n) o b e = rw suc-add (get_drop xs n o b e)

pub get_take : {X : Type 0} (xs : List X) (n o : ℕ) (b : X) → slice_get (take n xs) o ≡ Some b → slice_get xs o ≡ Some b
get_take [] zero o b e = e
get_take [] (suc n) o b e = e
get_take (x ∷ xs) zero o b e = cc
get_take (x ∷ xs) (suc n) zero b e = e
get_take (x ∷ xs) (suc n) (suc o) b e = get_take xs n o b e

-- what stands in two lists one after the other stands in one of them
pub get_split : {X : Type 0} (xs ys : List X) (o : ℕ) (b : X) → slice_get (xs ++ ys) o ≡ Some b
    → (slice_get xs o ≡ Some b) ⊎ ((k : ℕ) × (o ≡ length xs + k) × (slice_get ys k ≡ Some b))
get_split [] ys o b e = inr (o, omega arith, e)
get_split (x ∷ xs) ys zero b e = inl e
get_split (x ∷ xs) ys (suc o) b e =
    elim (get_split xs ys o b e) [ inl a ↦ inl a | inr r ↦ inr (r.0, (let h = r.1 in omega arith), r.2) ]

-- two readings of one place
pub same_at : {X : Type 0} (xs : List X) (i : ℕ) (x y : X) → i < length xs → x ≡ get_or xs i x → y ≡ get_or xs i y → x ≡ y
same_at [] i x y h a b = absurd (omega arith)
same_at (z ∷ xs) zero x y h a b = cc
same_at (z ∷ xs) (suc i) x y h a b = same_at xs i x y (omega arith) a b
