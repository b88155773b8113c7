-- The frames that an ACK leaves, range by range.
use Rattle.std.proofs.Common.{◌≡◌, ◌⊎◌, ◌↔◌, ℕ, ◌+◌, ◌≤◌, nat_lt, Bool, true, false, ◌||◌, List, [], ◌∷◌, filter, length, Option, Some, None, refl, sym, ap, subst, ◌∙◌, inl, inr, arith}
use Rattle.std.proofs.lemmas.Bool.{cond_both, ltb-false, or_parts}
use Rattle.std.proofs.lemmas.Bool.Decides.{nat_tests}
use Rattle.qh_control.specs.Queue.{AreAcknowledged, AreLeft, PlainQueue}
use Rattle.qh_control.specs.declared.queue.SentControl.{SentControl}
use Rattle.qh_frame.specs.Plain.{ack_of, IsCovered}
use Rattle.qh_frame.specs.declared.ack.Ack.{Ack}
use Rattle.qh_spec.specs.Acknowledged.{Covers}

-- what is left of a list: of those that went G holds, and K of those that stayed
pub data AreParted (G K : SentControl → Type 0) : (old new : List SentControl) → Type 0 where
  none : AreParted G K [] []
  gone : (s : SentControl) (old new : List SentControl) → G s → AreParted G K old new → AreParted G K (s ∷ old) new
  kept : (s : SentControl) (old new : List SentControl) → K s → AreParted G K old new → AreParted G K (s ∷ old) (s ∷ new)

all_kept : (G K : SentControl → Type 0) → ((s : SentControl) → K s) → (sent : List SentControl) → AreParted G K sent sent
all_kept G K each [] = none
all_kept G K each (s ∷ sent) = kept s sent sent (each s) (all_kept G K each sent)

parted_filter : (G K L : SentControl → Type 0) (test : SentControl → Bool) → ((s : SentControl) → K s → test s ≡ true → L s) → ((s : SentControl) → K s → test s ≡ false → G s)
    → (old new : List SentControl) → AreParted G K old new → AreParted G L old (filter test new)
parted_filter G K L test stays goes old new none = none
parted_filter G K L test stays goes old' new' (gone s old new went rest) = gone s old _ went (parted_filter G K L test stays goes old new rest)
parted_filter G K L test stays goes old' new' (kept s old new stayed rest) =
    let more = parted_filter G K L test stays goes old new rest in
    cond_both (test s) (s ∷ filter test new) (filter test new) (λ (left : List SentControl). AreParted G L (s ∷ old) left)
    (λ e. kept s old _ (stays s stayed e) more)
    (λ e. gone s old _ (goes s stayed e) more)

left_from : (P : SentControl → Type 0) (old new : List SentControl) → AreParted P (λ s. P s → ⊥) old new → AreLeft P old new
left_from P old new none = AreLeft.none
left_from P old' new' (gone s old new went rest) = AreLeft.gone s old new went (left_from P old new rest)
left_from P old' new' (kept s old new stayed rest) = AreLeft.kept s old new stayed (left_from P old new rest)

-- the numbers at or below the greatest that the ranges that are left cover
abbrev pub ranges_left : Option Ack → ℕ
ranges_left None = 0
ranges_left (Some a) = a.greatest + 1

-- of the frames that are out those may be covered still that the ranges that are left cover
pub record AreRangesSoFar (ack : Ack) (rest : Option Ack) (old now : PlainQueue) : Type 0 where
  pub parted : AreParted (λ s. Covers (ack_of ack) s.number) (λ s. Covers (ack_of ack) s.number → IsCovered rest s.number) old.sent now.sent
  pub covered : (n : ℕ) → IsCovered rest n → Covers (ack_of ack) n
  pub rest_is : now ≡ record old { sent = now.sent; room = now.room }

pub no_range_yet : (ack : Ack) (old : PlainQueue) → AreRangesSoFar ack (Some ack) old old
no_range_yet ack old = record { parted = all_kept _ _ (λ s covers. covers) old.sent; covered = λ n there. there; rest_is = refl }

abbrev pub is_outside : (least greatest : ℕ) → SentControl → Bool
is_outside least greatest s = nat_lt s.number least || nat_lt greatest s.number

within : (least greatest n : ℕ) → (nat_lt n least || nat_lt greatest n) ≡ false → (least ≤ n) × (n ≤ greatest)
within least greatest n e =
    let parts = or_parts (nat_lt n least) (nat_lt greatest n) e in
    (ltb-false n least parts.0, ltb-false greatest n parts.1)

outside : (least greatest n : ℕ) → (nat_lt n least || nat_lt greatest n) ≡ true → (least ≤ n) × (n ≤ greatest) → ⊥
outside least greatest n e inside = grind (arith, nat_tests, e, inside.0, inside.1)

pub one_more_range : (ack : Ack) (rest below : Option Ack) (least greatest : ℕ) (old now new : PlainQueue) → AreRangesSoFar ack rest old now
    → ((n : ℕ) → IsCovered rest n ↔ (((least ≤ n) × (n ≤ greatest)) ⊎ IsCovered below n))
    → new ≡ record now { sent = filter (λ (s : SentControl). nat_lt s.number least || nat_lt greatest s.number) now.sent; room = new.room }
    → AreRangesSoFar ack below old new
one_more_range ack rest below least greatest old now new ranges covers more = record {
  parted = subst (λ (sent : List SentControl). AreParted (λ s. Covers (ack_of ack) s.number) (λ s. Covers (ack_of ack) s.number → IsCovered below s.number) old.sent sent) (sym (ap (λ (q : PlainQueue). q.sent) more))
      (parted_filter _ _ _ (is_outside least greatest)
      (λ s kept e is_covered. elim ((covers s.number).0 (kept is_covered)) [ inl inside ↦ absurd (outside least greatest s.number e inside) | inr beyond ↦ beyond ])
      (λ s kept e. ranges.covered s.number ((covers s.number).1 (inl (within least greatest s.number e))))
      old.sent now.sent ranges.parted);
  covered = λ n there. ranges.covered n ((covers n).1 (inr there));
  rest_is = more ∙ ap (λ (q : PlainQueue). record { waiting = q.waiting; sent = filter (is_outside least greatest) now.sent; room = new.room }) ranges.rest_is
      ∙ ap (λ (q : PlainQueue). record { waiting = old.waiting; sent = q.sent; room = new.room }) (sym more);
}

pub ranges_at_end : (ack : Ack) (old now : PlainQueue) → AreRangesSoFar ack None old now → AreAcknowledged ack old now
ranges_at_end ack old now ranges = record { left = left_from _ old.sent now.sent ranges.parted; rest_is = ranges.rest_is }

pub none_left : (ack : Ack) (old : PlainQueue) → old.sent ≡ [] → AreAcknowledged ack old old
none_left ack old empty = record { left = subst (λ (sent : List SentControl). AreLeft (λ s. Covers (ack_of ack) s.number) sent sent) (sym empty) AreLeft.none; rest_is = refl }

pub empty_list : {X : Type 0} (xs : List X) → length xs ≡ 0 → xs ≡ []
empty_list [] is_zero = refl
empty_list (x ∷ xs) is_zero = absurd (omega (arith, is_zero))
