-- What an ACK covers is in its first range or below it.
use Rattle.std.proofs.Common.{◌≡◌, ◌⊎◌, ℕ, ◌+◌, ◌≤◌, List, [], ◌∷◌, Option, Some, None, refl, sym, inl, inr, arith, subst}
use Rattle.std.specs.Prelude.{◌↔◌, MatchOption}
use Rattle.qh_frame.specs.Plain.{GoesOn, IsCovered, ranges_of}
use Rattle.qh_frame.specs.declared.ack.Ack.{Ack}
use Rattle.qh_spec.specs.Acknowledged.{InRange, InRanges}

in_first : (greatest range least n : ℕ) → greatest ≡ least + range → InRange greatest range n → (least ≤ n) × (n ≤ greatest)
in_first greatest range least n e h = let sum = h.1 in let low = h.2 in (omega (arith, sum, low, e), h.3)

first_in : (greatest range least n : ℕ) → greatest ≡ least + range → (least ≤ n) × (n ≤ greatest) → InRange greatest range n
first_in greatest range least n e h = (least, e, h.0, h.1)

there : (greatest range least n : ℕ) (ranges : List ℕ) (r : Option Ack) → greatest ≡ least + range → MatchOption r (ranges ≡ range ∷ []) (λ a. GoesOn greatest range ranges a.greatest (ranges_of a))
    → InRanges greatest ranges n → ((least ≤ n) × (n ≤ greatest)) ⊎ IsCovered r n
there greatest range least n ranges None e m h = inl (in_first greatest range least n e (subst (λ (z : List ℕ). InRanges greatest z n) m h))
there greatest range least n ranges (Some a) e m h =
    elim (subst (λ (z : List ℕ). InRanges greatest z n) m.ranges_are h) [
      | inl first ↦ inl (in_first greatest range least n e first)
      | inr below ↦
          let sum = below.1 in
          let next = m.next_is in
          let same : below.0 ≡ a.greatest = omega (arith, sum, next) in
          inr (refl, subst (λ (z : ℕ). InRanges z (ranges_of a) n) same below.2)
    ]

back : (greatest range least n : ℕ) (ranges : List ℕ) (r : Option Ack) → greatest ≡ least + range → MatchOption r (ranges ≡ range ∷ []) (λ a. GoesOn greatest range ranges a.greatest (ranges_of a))
    → ((least ≤ n) × (n ≤ greatest)) ⊎ IsCovered r n → InRanges greatest ranges n
back greatest range least n ranges None e m (inl first) = subst (λ (z : List ℕ). InRanges greatest z n) (sym m) (first_in greatest range least n e first)
back greatest range least n ranges None e m (inr none) = absurd none
back greatest range least n ranges (Some a) e m (inl first) = subst (λ (z : List ℕ). InRanges greatest z n) (sym m.ranges_are) (inl (first_in greatest range least n e first))
back greatest range least n ranges (Some a) e m (inr below) = subst (λ (z : List ℕ). InRanges greatest z n) (sym m.ranges_are) (inr (a.greatest, m.next_is, below.1))

pub split_covers : (greatest range least top n : ℕ) (ranges : List ℕ) (r : Option Ack) → top ≡ greatest → greatest ≡ least + range → MatchOption r (ranges ≡ range ∷ []) (λ a. GoesOn greatest range ranges a.greatest (ranges_of a))
    → (◌≡◌ {A = ℕ} 1 1 × InRanges greatest ranges n) ↔ (((least ≤ n) × (n ≤ top)) ⊎ IsCovered r n)
split_covers greatest range least top n ranges r t e m =
    subst (λ (z : ℕ). (◌≡◌ {A = ℕ} 1 1 × InRanges greatest ranges n) ↔ (((least ≤ n) × (n ≤ z)) ⊎ IsCovered r n)) (sym t)
    (λ h. there greatest range least n ranges r e m h.1, λ h. (refl, back greatest range least n ranges r e m h))
