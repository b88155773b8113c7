-- The positions of one more fingerprint.
use Rattle.std.proofs.Common.{◌≡◌, ℕ, Bool, true, false, ◌||◌, List, [], ◌∷◌, ◌++◌, flat_map, refl, sym, ap, ◌∙◌}
use Rattle.std.proofs.lemmas.List.Folds.{list_any-append}
use Rattle.std.proofs.lemmas.List.Concat.{flat_map-append}
use Rattle.qh_spec.specs.TokenFilter.{TokenLimits, bit_count, position_count, positions_to, positions, is_among}

or_swapped : (a b : Bool) → (a || b) ≡ (b || (a || false))
or_swapped true true = refl
or_swapped true false = refl
or_swapped false true = refl
or_swapped false false = refl

-- at the front of the list
pub set_first : (limits : TokenLimits) (xs : List ℕ) (x p bits count : ℕ) (now before : Bool) → bits ≡ bit_count limits → count ≡ position_count limits → now ≡ (is_among (positions_to bits x count) p || before) → before ≡ is_among (flat_map (positions limits) xs) p → now ≡ is_among (flat_map (positions limits) (x ∷ xs)) p
set_first limits xs x p bits count now before eb ec e h =
    e ∙ ap (λ b. is_among (positions_to b x count) p || before) eb
    ∙ ap (λ n. is_among (positions_to (bit_count limits) x n) p || before) ec
    ∙ ap (λ z. is_among (positions limits x) p || z) h
    ∙ sym (list_any-append _ (positions limits x) (flat_map (positions limits) xs))

-- at the end
pub set_last : (limits : TokenLimits) (xs : List ℕ) (x p bits count : ℕ) (now before : Bool) → bits ≡ bit_count limits → count ≡ position_count limits → now ≡ (is_among (positions_to bits x count) p || before) → before ≡ is_among (flat_map (positions limits) xs) p → now ≡ is_among (flat_map (positions limits) (xs ++ x ∷ [])) p
set_last limits xs x p bits count now before eb ec e h =
    set_first limits xs x p bits count now before eb ec e h
    ∙ list_any-append _ (positions limits x) (flat_map (positions limits) xs)
    ∙ or_swapped _ _
    ∙ ap (λ z. is_among (flat_map (positions limits) xs) p || z) (sym (list_any-append _ (positions limits x) []))
    ∙ sym (list_any-append _ (flat_map (positions limits) xs) (positions limits x ++ []))
    ∙ ap (λ ys. is_among ys p) (sym (flat_map-append (positions limits) xs (x ∷ [])))
