-- What reports are written from: names that a sort has put in order, and pieces that follow one another.
use Rattle.std.proofs.Common.{◌≡◌, append_assoc, ℕ, ◌+◌, ◌<◌, ◌≤◌, List, [], ◌∷◌, ◌++◌, map, length, get_or, take, drop, refl, sym, ap, ◌∙◌, subst, arith, flat_map}
use Rattle.std.specs.Prelude.{OnErr, Result, Ok, Err}
use Rattle.std.specs.Cmp.Lexicographic.{slice_cmp}
use Rattle.std.specs.Ordering.{nat_cmp, is_lt}
use Rattle.std.specs.List.Sorted.{IsPermutation, IsSortedBy}
use Rattle.std.proofs.lemmas.List.{get_or-map, length-map, take_all, take_at, take-append-drop}
use Rattle.std.proofs.lemmas.Result.{on_err_weaker}
use Rattle.std.proofs.lemmas.List.Sorted.{IsPermutation-map}
use Rattle.qh_spec.specs.Report.{comes_before, in_byte_order}
use Rattle.qh_script.specs.Report.{HasGrown}
use Rattle.qh_spec.proofs.ReportLaws.{before_is, sorted_is}

sorted_names : {X : Type 0} (f : X → List ℕ) (xs : List X) → IsSortedBy (λ a b. is_lt (slice_cmp nat_cmp (f a) (f b))) xs → IsSortedBy comes_before (map f xs)
sorted_names f [] s = λ k d low high. absurd (omega arith)
sorted_names f (x ∷ xs) s =
    λ k d low high.
    let same : length (map f (x ∷ xs)) ≡ length (x ∷ xs) = length-map (x ∷ xs) f in
    let next : k + 1 < length (x ∷ xs) = omega (arith, same) in
    let here : k < length (x ∷ xs) = omega arith in
    rw (get_or-map f (x ∷ xs) (k + 1) x d next, get_or-map f (x ∷ xs) k x d here, ← before_is (f (get_or (x ∷ xs) (k + 1) x)) (f (get_or (x ∷ xs) k x)))
    (s k x low next)

-- what a sort by names leaves has them in byte order
pub names_ordered : {X : Type 0} (f : X → List ℕ) (xs ys : List X) (names : List (List ℕ)) → map f xs ≡ names → IsPermutation xs ys
    → IsSortedBy (λ a b. is_lt (slice_cmp nat_cmp (f a) (f b))) ys → map f ys ≡ in_byte_order names
names_ordered f xs ys names e p s =
    sorted_is names (map f ys) (subst (λ (z : List (List ℕ)). IsPermutation z (map f ys)) e (IsPermutation-map f xs ys p)) (sorted_names f ys s)

-- pieces of what a map gives
pub flat_map-map : {X Y A : Type 0} (f : X → Y) (g : Y → List A) (xs : List X) → flat_map g (map f xs) ≡ flat_map (λ x. g (f x)) xs
flat_map-map f g [] = refl
flat_map-map f g (x ∷ xs) = ap (λ z. g (f x) ++ z) (flat_map-map f g xs)

-- a loop over the elements has written the pieces of all
pub pieces_all : {X Y : Type 0} (f : X → Y) (g : Y → List ℕ) (old out : List ℕ) (xs : List X) (i : ℕ) (ys : List Y) → length xs ≤ i
    → out ≡ old ++ flat_map (λ x. g (f x)) (take i xs) → map f xs ≡ ys → out ≡ old ++ flat_map g ys
pieces_all f g old out xs i ys l e m =
    e ∙ ap (λ z. old ++ flat_map (λ x. g (f x)) z) (take_all i xs l) ∙ ap (λ z. old ++ z) (sym (flat_map-map f g xs)) ∙ ap (λ z. old ++ flat_map g z) m

-- ---- want of memory

grown_is : (old new : List ℕ) → HasGrown old new → new ≡ old ++ drop (length old) new
grown_is old new g = sym (take-append-drop (length old) new) ∙ ap (λ (z : List ℕ). z ++ drop (length old) new) g

grown_by : (old new x : List ℕ) → new ≡ old ++ x → HasGrown old new
grown_by old new x e = ap (take (length old)) e ∙ take_at old x (length old) refl

pub grown_on : (old mid new : List ℕ) → HasGrown old mid → HasGrown mid new → HasGrown old new
grown_on old mid new g h =
    grown_by old new (drop (length old) mid ++ drop (length mid) new)
    (grown_is mid new h ∙ ap (λ (z : List ℕ). z ++ drop (length mid) new) (grown_is old mid g) ∙ append_assoc old (drop (length old) mid) (drop (length mid) new))

pub on_err_grown : {T E : Type 0} (r : Result T E) (old mid new x : List ℕ) → mid ≡ old ++ x → OnErr r (HasGrown mid new) → OnErr r (HasGrown old new)
on_err_grown r old mid new x e h = on_err_weaker r (grown_on old mid new (grown_by old mid x e)) h

pub err_grown : {T E : Type 0} (r : Result T E) (old mid new : List ℕ) → HasGrown old mid → HasGrown mid new → OnErr r (HasGrown old new)
err_grown (Ok t) old mid new g h = tt
err_grown (Err f) old mid new g h = grown_on old mid new g h

pub err_grown_by : {T E : Type 0} (r : Result T E) (old mid new x : List ℕ) → mid ≡ old ++ x → HasGrown mid new → OnErr r (HasGrown old new)
err_grown_by r old mid new x e h = err_grown r old mid new (grown_by old mid x e) h
