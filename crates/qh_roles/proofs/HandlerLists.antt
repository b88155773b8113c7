-- Lists in which an element is replaced, or some are dropped, where each has a number of its own.
use Rattle.std.proofs.Common.{◌≡◌, ◌⊎◌, ℕ, ◌<◌, zero, suc, true, false, Bool, List, [], ◌∷◌, ◌++◌, length, take, drop, get_or, inl, inr, refl, sym, ap, ◌∙◌, subst, arith, append-nil}
use Rattle.std.proofs.Math.ListN.{set}
use Rattle.std.proofs.lemmas.List.{drop_all, take_all}
use Rattle.std.specs.List.{items_where_true}
use Rattle.std.specs.Prelude.{map}
use Rattle.qh_spec.proofs.Members.{in_index, in_map}
use Rattle.qh_spec.specs.Lists.{In, Distinct}

-- what stands at a place doesn't depend on what would be given elsewhere
pub same_default : {X : Type 0} (xs : List X) (at : ℕ) (d e : X) → at < length xs → get_or xs at d ≡ get_or xs at e
same_default [] at d e within = absurd (omega arith)
same_default (y ∷ ys) zero d e within = refl
same_default (y ∷ ys) (suc at) d e within = same_default ys at d e (omega arith)

-- an element is the new one, or another of the old ones
pub in_set : {X : Type 0} (f : X → ℕ) (xs : List X) (at : ℕ) (was new x : X) → at < length xs → Distinct (map f xs) → get_or xs at was ≡ was → In x (set xs at new)
    → (new ≡ x) ⊎ (In x xs × (f x ≡ f was → ⊥))
in_set f [] at was new x within apart is h = absurd h
in_set f (y ∷ ys) zero was new x within apart is (inl e) = inl e
in_set f (y ∷ ys) zero was new x within apart is (inr h) = inr (inr h, λ same. apart.0 (subst (λ (k : ℕ). In k (map f ys)) (same ∙ ap f (sym is)) (in_map f x ys h)))
in_set f (y ∷ ys) (suc at) was new x within apart is (inl e) =
    let there = in_map f was ys (subst (λ (z : _). In z ys) is (in_index ys at was (omega arith))) in
    inr (inl e, λ same. apart.0 (subst (λ (k : ℕ). In k (map f ys)) (sym same ∙ ap f (sym e)) there))
in_set f (y ∷ ys) (suc at) was new x within apart is (inr h) = elim (in_set f ys at was new x (omega arith) apart.1 is h) [
  | inl e ↦ inl e
  | inr other ↦ inr (inr other.0, other.1)
]

pub in_kept : {X : Type 0} (bs : List Bool) (xs : List X) (x : X) → In x (items_where_true bs xs) → In x xs
in_kept [] xs x h = absurd h
in_kept (b ∷ bs) [] x h = absurd h
in_kept (true ∷ bs) (y ∷ ys) x (inl e) = inl e
in_kept (true ∷ bs) (y ∷ ys) x (inr h) = inr (in_kept bs ys x h)
in_kept (false ∷ bs) (y ∷ ys) x h = inr (in_kept bs ys x h)

in_map_kept : {X : Type 0} (f : X → ℕ) (bs : List Bool) (xs : List X) (k : ℕ) → In k (map f (items_where_true bs xs)) → In k (map f xs)
in_map_kept f [] xs k h = absurd h
in_map_kept f (b ∷ bs) [] k h = absurd h
in_map_kept f (true ∷ bs) (y ∷ ys) k (inl e) = inl e
in_map_kept f (true ∷ bs) (y ∷ ys) k (inr h) = inr (in_map_kept f bs ys k h)
in_map_kept f (false ∷ bs) (y ∷ ys) k h = inr (in_map_kept f bs ys k h)

pub distinct_kept : {X : Type 0} (f : X → ℕ) (bs : List Bool) (xs : List X) → Distinct (map f xs) → Distinct (map f (items_where_true bs xs))
distinct_kept f [] xs d = tt
distinct_kept f (b ∷ bs) [] d = tt
distinct_kept f (true ∷ bs) (y ∷ ys) d = (λ h. d.0 (in_map_kept f bs ys (f y) h), distinct_kept f bs ys d.1)
distinct_kept f (false ∷ bs) (y ∷ ys) d = distinct_kept f bs ys d.1

-- what a slice of the whole list leaves of it
pub whole_back : {X : Type 0} (n : ℕ) (new old : List X) → length new ≡ n → length old ≡ n → take n (new ++ drop (length new) old) ≡ new
whole_back n new old first second =
    ap (λ (z : List _). take n (new ++ z)) (drop_all (length new) old (omega (arith, first, second))) ∙ ap (take n) (append-nil new) ∙ take_all n new (omega (arith, first))
