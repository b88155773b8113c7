-- Lists and sets with the same members.
use Rattle.std.proofs.Common.{◌≡◌, ℕ, Bool, true, false, ◌||◌, eqb, List, [], ◌∷◌, flat_map, refl, sym, ap, ◌∙◌, ⊎_elim, arith}
use Rattle.std.specs.List.{list_any}
use Rattle.std.specs.Ordering.{nat_cmp}
use Rattle.std.specs.BTreeMap.{is_at}
use Rattle.std.proofs.lemmas.Bool.{or_cases, or_left, or_right, eqb-true}
use Rattle.std.proofs.lemmas.Bool.Decides.{nat_tests}
use Rattle.std.proofs.lemmas.List.Folds.{list_any-append}
use Rattle.qh_spec.specs.TokenFilter.{is_among}

bool_same : (a b : Bool) → (a ≡ true → b ≡ true) → (b ≡ true → a ≡ true) → a ≡ b
bool_same true b to from = sym (to refl)
bool_same false true to from = from refl
bool_same false false to from = refl

-- the test of a set of numbers
pub is_at-eqb : (x k : ℕ) → is_at (nat_cmp x) k ≡ eqb k x
is_at-eqb x k = grind (arith, nat_tests)

pub contains_is : (x : ℕ) (ks : List ℕ) → list_any (is_at (nat_cmp x)) ks ≡ is_among ks x
contains_is x [] = refl
contains_is x (k ∷ ks) = rw (is_at-eqb x k) (rw (contains_is x ks) refl)

any_at_member : (test : ℕ → Bool) (ys : List ℕ) (x : ℕ) → is_among ys x ≡ true → test x ≡ true → list_any test ys ≡ true
any_at_member test [] x h t = h
any_at_member test (y ∷ ys) x h t =
    ⊎_elim (λ e. or_left (test y) (list_any test ys) (ap test (eqb-true y x e) ∙ t))
    (λ r. or_right (test y) (list_any test ys) (any_at_member test ys x r t)) (or_cases (eqb y x) (is_among ys x) h)

any_of_members : (test : ℕ → Bool) (xs ys : List ℕ) → ((x : ℕ) → is_among xs x ≡ true → is_among ys x ≡ true) → list_any test xs ≡ true → list_any test ys ≡ true
any_of_members test [] ys sub h = cc
any_of_members test (x ∷ xs) ys sub h =
    ⊎_elim (λ t. any_at_member test ys x (sub x (or_left (eqb x x) (is_among xs x) (grind (arith, nat_tests)))) t)
    (λ r. any_of_members test xs ys (λ z m. sub z (or_right (eqb x z) (is_among xs z) m)) r) (or_cases (test x) (list_any test xs) h)

-- a test of some member answers alike for lists with the same members
pub list_any-same : (test : ℕ → Bool) (xs ys : List ℕ) → ((x : ℕ) → is_among xs x ≡ is_among ys x) → list_any test xs ≡ list_any test ys
list_any-same test xs ys same =
    bool_same _ _ (any_of_members test xs ys (λ x m. sym (same x) ∙ m)) (any_of_members test ys xs (λ x m. same x ∙ m))

list_any-flat_map : (test : ℕ → Bool) (f : ℕ → List ℕ) (xs : List ℕ) → list_any test (flat_map f xs) ≡ list_any (λ x. list_any test (f x)) xs
list_any-flat_map test f [] = refl
list_any-flat_map test f (x ∷ xs) =
    list_any-append test (f x) (flat_map f xs) ∙ ap (λ b. list_any test (f x) || b) (list_any-flat_map test f xs)

pub is_among-flat_map : (f : ℕ → List ℕ) (xs ys : List ℕ) (p : ℕ) → ((x : ℕ) → is_among xs x ≡ is_among ys x) → is_among (flat_map f xs) p ≡ is_among (flat_map f ys) p
is_among-flat_map f xs ys p same =
    list_any-flat_map _ f xs ∙ list_any-same _ xs ys same ∙ sym (list_any-flat_map _ f ys)
