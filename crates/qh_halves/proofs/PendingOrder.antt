-- The order in which streams are served is total.
use Rattle.std.proofs.Common.{◌≡◌, Bool, true, false, cond, ◌&&◌, ◌||◌, nat_lt, ◌==◌, int_lt, int_eq, int_cmp, nat_cmp, is_eq, is_lt, Ordering, Less, Equal, Greater, ℤ, ℕ, refl, sym, ap, ap₂, ◌∙◌, arith}
use Rattle.std.specs.Ordering.{on, then_cmp, flip_args, ordering_then, ordering_reverse}
use Rattle.std.specs.Cmp.{IsTotalOrder}
use Rattle.std.proofs.lemmas.Cmp.{then_total, on_total, back_total, nat_cmp_total, int_cmp_total, tied_itself}
use Rattle.std.proofs.lemmas.Bool.{eqb-true, and_parts, both_ways}
use Rattle.std.proofs.lemmas.Bool.Decides.{Decides-int_eq}
use Rattle.qh_halves.specs.declared.pending.PendingStream.{PendingStream}
use Rattle.qh_halves.specs.Pending.{goes_before}

-- the same id and priority
abbrev pub is_same : PendingStream → PendingStream → Bool
is_same p q = int_eq p.priority q.priority && p.id == q.id

-- by priority, then by id
abbrev rank : PendingStream → PendingStream → Ordering
rank = then_cmp (flip_args (on (λ (p : PendingStream). p.priority) int_cmp)) (on (λ (p : PendingStream). p.id) nat_cmp)

rank_total : IsTotalOrder rank
rank_total = then_total (back_total (on_total (λ (p : PendingStream). p.priority) int_cmp_total)) (on_total (λ (p : PendingStream). p.id) nat_cmp_total)

before_cases : (above below less same : Bool)
    → (above || (is_eq (cond below Less (cond above Greater Equal)) && less)) ≡ is_lt (ordering_then (cond above Less (cond below Greater Equal)) (cond less Less (cond same Equal Greater)))
before_cases true true less same = refl
before_cases true false less same = refl
before_cases false true less same = refl
before_cases false false true same = refl
before_cases false false false true = refl
before_cases false false false false = refl

-- it goes before the other exactly if it ranks lower
before_is : (p q : PendingStream) → goes_before p q ≡ is_lt (rank p q)
before_is p q = before_cases (int_lt q.priority p.priority) (int_lt p.priority q.priority) (nat_lt p.id q.id) (p.id == q.id)

less_is : (o : Ordering) → is_lt o ≡ true → o ≡ Less
less_is Less h = refl
less_is Equal h = absurd (both_ways false refl h)
less_is Greater h = absurd (both_ways false refl h)

rank_less : (p q : PendingStream) → goes_before p q ≡ true → rank p q ≡ Less
rank_less p q h = less_is (rank p q) (sym (before_is p q) ∙ h)

pub before_trans : (p q r : PendingStream) → goes_before p q ≡ true → goes_before q r ≡ true → goes_before p r ≡ true
before_trans p q r h k = before_is p r ∙ ap is_lt (rank_total.trans p q r (rank_less p q h) (rank_less q r k))

pub not_before_itself : (p : PendingStream) → goes_before p p ≡ false
not_before_itself p = before_is p p ∙ ap is_lt (tied_itself rank_total p)

pub not_both_before : (p q : PendingStream) → goes_before p q ≡ true → goes_before q p ≡ true → ⊥
not_both_before p q h k = both_ways (goes_before p p) (not_before_itself p) (before_trans p q p h k)

before_or_not : (o : Ordering) → is_lt o ≡ false → is_eq o ≡ false → is_lt (ordering_reverse o) ≡ true
before_or_not Less h k = absurd (both_ways true h refl)
before_or_not Equal h k = absurd (both_ways true k refl)
before_or_not Greater h k = refl

stream_of : ℤ → ℕ → PendingStream
stream_of priority id = record { priority = priority; id = id }

pub same_parts : (p q : PendingStream) → p.priority ≡ q.priority → p.id ≡ q.id → p ≡ q
unfolding stream_of
same_parts p q e f = ap₂ stream_of e f

-- the same stream with the same priority
pub same_is : (p q : PendingStream) → is_same p q ≡ true → p ≡ q
same_is p q h =
    let parts = and_parts (int_eq p.priority q.priority) (p.id == q.id) h in
    same_parts p q ((Decides-int_eq p.priority q.priority).0 parts.0) (eqb-true p.id q.id parts.1)

same_cases : (above below less same : Bool) → (less ≡ true → same ≡ false)
    → (is_eq (cond below Less (cond above Greater Equal)) && same) ≡ is_eq (ordering_then (cond above Less (cond below Greater Equal)) (cond less Less (cond same Equal Greater)))
same_cases true true less same apart = refl
same_cases true false less same apart = refl
same_cases false true less same apart = refl
same_cases false false true same apart = apart refl
same_cases false false false true apart = refl
same_cases false false false false apart = refl

same_rank : (p q : PendingStream) → is_same p q ≡ is_eq (rank p q)
same_rank p q = same_cases (int_lt q.priority p.priority) (int_lt p.priority q.priority) (nat_lt p.id q.id) (p.id == q.id) (λ h. grind (arith, h))

-- of two streams that differ one goes before the other
pub before_otherwise : (p q : PendingStream) → goes_before p q ≡ false → is_same p q ≡ false → goes_before q p ≡ true
before_otherwise p q h k =
    before_is q p ∙ ap is_lt (rank_total.antisymm q p) ∙ before_or_not (rank p q) (sym (before_is p q) ∙ h) (sym (same_rank p q) ∙ k)
