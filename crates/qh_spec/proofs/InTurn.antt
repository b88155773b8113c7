-- Lines that make one state of another in turn, where a line makes one at most.
use Rattle.std.proofs.Common.{◌≡◌, ℕ, suc, List, [], ◌∷◌, ◌++◌, length, refl, sym, ap, ◌∙◌, subst}
use Rattle.qh_spec.specs.Lines.{InTurn}

abbrev pub MakesOne : {S : Type 0} → (List ℕ → S → S → Type 0) → Type 0
MakesOne {S} makes = (text : List ℕ) (s t u : S) → makes text s t → makes text s u → t ≡ u

-- lines make one state at most
pub in_turn_one : {S : Type 0} (makes : List ℕ → S → S → Type 0) → MakesOne makes → (ls : List (List ℕ)) (s t u : S) → InTurn makes ls s t → InTurn makes ls s u
    → t ≡ u
in_turn_one makes one [] s t u p q = p ∙ sym q
in_turn_one {S} makes one (l ∷ ls) s t u p q =
    in_turn_one makes one ls q.0 t u (subst (λ (m : S). InTurn makes ls m t) (one l s p.0 q.0 p.1 q.1) p.2) q.2

-- Lines that are all taken have no first one that isn't.
pub none_refused : {S : Type 0} (makes : List ℕ → S → S → Type 0) → MakesOne makes → (front : List (List ℕ)) (line : List ℕ) (rest : List (List ℕ)) (s mid t : S)
    → InTurn makes (front ++ line ∷ rest) s t → InTurn makes front s mid → ((u : S) → makes line mid u → ⊥) → ⊥
none_refused {S} makes one [] line rest s mid t p q never = never p.0 (subst (λ (m : S). makes line m p.0) (sym q) p.1)
none_refused {S} makes one (l ∷ front) line rest s mid t p q never =
    none_refused makes one front line rest q.0 mid t
    (subst (λ (m : S). InTurn makes (front ++ line ∷ rest) m t) (one l s p.0 q.0 p.1 q.1) p.2) q.2 never

-- there is one first
pub first_refused : {S : Type 0} (makes : List ℕ → S → S → Type 0) → MakesOne makes → (front : List (List ℕ)) (line : List ℕ) (rest others : List (List ℕ))
    (other : List ℕ) (more : List (List ℕ)) (s t u : S) → front ++ line ∷ rest ≡ others ++ other ∷ more → InTurn makes front s t → ((v : S) → makes line t v → ⊥)
    → InTurn makes others s u → ((v : S) → makes other u v → ⊥) → length front ≡ length others
first_refused makes one [] line rest [] other more s t u e p never q not = refl
first_refused {S} makes one [] line rest (o ∷ others) other more s t u e p never q not =
    let first : line ≡ o = cc in
    let here : makes line s q.0 = subst (λ (z : List ℕ). makes z s q.0) (sym first) q.1 in
    absurd (never q.0 (subst (λ (m : S). makes line m q.0) (sym p) here))
first_refused {S} makes one (f ∷ front) line rest [] other more s t u e p never q not =
    let first : f ≡ other = cc in
    let here : makes other s p.0 = subst (λ (z : List ℕ). makes z s p.0) first p.1 in
    absurd (not p.0 (subst (λ (m : S). makes other m p.0) (sym q) here))
first_refused {S} makes one (f ∷ front) line rest (o ∷ others) other more s t u e p never q not =
    let first : f ≡ o = cc in
    let tails : front ++ line ∷ rest ≡ others ++ other ∷ more = cc in
    let here : makes o s p.0 = subst (λ (z : List ℕ). makes z s p.0) first p.1 in
    let mids : p.0 ≡ q.0 = one o s p.0 q.0 here q.1 in
    let r = first_refused makes one front line rest others other more q.0 t u tails (subst (λ (m : S). InTurn makes front m t) mids p.2) never q.2 not in
    ap (λ (n : ℕ). suc n) r

-- Lines are all taken, or have a first one that isn't.
pub lines_judged : {S : Type 0} (makes : List ℕ → S → S → Type 0) (ls : List (List ℕ)) (s : S) → ((t : S) → InTurn makes ls s t → ⊥)
    → ((front : List (List ℕ)) (line : List ℕ) (rest : List (List ℕ)) (mid : S) → ls ≡ front ++ line ∷ rest → InTurn makes front s mid
    → ((t : S) → makes line mid t → ⊥) → ⊥) → ⊥
lines_judged makes [] s none first = none s refl
lines_judged makes (l ∷ ls) s none first =
    first [] l ls s refl refl
    (λ t taken.
    lines_judged makes ls t (λ u all. none u (t, taken, all))
    (λ front line rest mid is before never. first (l ∷ front) line rest mid (ap (λ (z : List (List ℕ)). l ∷ z) is) (t, taken, before) never))
