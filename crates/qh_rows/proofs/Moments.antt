-- Moments of a link's events, one event more.
use Rattle.std.proofs.Common.{◌≡◌, ◌≤◌, ◌<◌, ℕ, zero, suc, refl, arith, ◌+◌, List, [], ◌∷◌, ◌++◌, length, take, get_or, append-nil, sym, ap, ◌∙◌, subst}
use Rattle.std.specs.Prelude.{All}
use Rattle.std.proofs.lemmas.List.Elements.{All-append, All-weaker}
use Rattle.qh_spec.specs.declared.link.Event.{Event}
use Rattle.qh_spec.specs.declared.link.Event.TheVariants.{Sent, Given, Dry, Round}
use Rattle.qh_spec.specs.declared.sides.Side.{Side}
use Rattle.qh_spec.specs.Link.{moments_of}
use Rattle.qh_spec.proofs.EventLaws.{moments_of-append}

pub sent_keeps : (es : List Event) (s : Side) (d : List ℕ) → moments_of (es ++ Sent s d ∷ []) ≡ moments_of es
sent_keeps es s d = moments_of-append es (Sent s d ∷ []) ∙ append-nil (moments_of es)

pub given_keeps : (es : List Event) (s : Side) (d : List ℕ) → moments_of (es ++ Given s d ∷ []) ≡ moments_of es
given_keeps es s d = moments_of-append es (Given s d ∷ []) ∙ append-nil (moments_of es)

pub dry_keeps : (es : List Event) (s : Side) → moments_of (es ++ Dry s ∷ []) ≡ moments_of es
dry_keeps es s = moments_of-append es (Dry s ∷ []) ∙ append-nil (moments_of es)

pub round_adds : (es : List Event) (n : ℕ) → moments_of (es ++ Round n ∷ []) ≡ moments_of es ++ n ∷ []
round_adds es n = moments_of-append es (Round n ∷ [])

at_last : (es : List Event) (i : ℕ) (d : Event) → i < length es → take (suc i) es ≡ take i es ++ get_or es i d ∷ []
at_last [] i d l = absurd (omega arith)
at_last (e ∷ es) zero d l = refl
at_last (e ∷ es) (suc i) d l = ap (λ (z : List Event). e ∷ z) (at_last es i d (omega arith))

-- a moment that isn't before those of some events, and one that isn't before it nor before the next event's
pub later_still : (es : List Event) (i m n : ℕ) (e : Event) → i < length es → get_or es i e ≡ e → All (λ (k : ℕ). k ≤ m) (moments_of (take i es)) → m ≤ n
    → All (λ (k : ℕ). k ≤ n) (moments_of (e ∷ [])) → All (λ (k : ℕ). k ≤ n) (moments_of (take (i + 1) es))
later_still es i m n e l at so_far old new =
    let both : moments_of (take (suc i) es) ≡ moments_of (take i es) ++ moments_of (e ∷ []) =
    ap moments_of (at_last es i e l ∙ ap (λ (z : Event). take i es ++ z ∷ []) at) ∙ moments_of-append (take i es) (e ∷ []) in
    let next : suc i ≡ i + 1 = omega arith in
    subst (λ (z : ℕ). All (λ (k : ℕ). k ≤ n) (moments_of (take z es))) next
    (subst (All (λ (k : ℕ). k ≤ n)) (sym both)
    (All-append (λ (k : ℕ). k ≤ n) (moments_of (take i es)) (moments_of (e ∷ []))
    (All-weaker (λ (k : ℕ). k ≤ m) (λ (k : ℕ). k ≤ n) (λ k h. omega (arith, h, old)) (moments_of (take i es)) so_far) new))
