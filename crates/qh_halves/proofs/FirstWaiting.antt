-- The stream in front of the queue, if something waits in its half and if nothing does.
use Rattle.std.proofs.Common.{◌≡◌, ℕ, ℤ, ◌==◌, Bool, Option, Some, None, IsSomeAnd, IfSome, unwrap_or, if◌then◌else◌, refl, sym, ap, ◌∙◌, inl, inr}
use Rattle.std.proofs.lemmas.Bool.Decides.{eqb_tells}
use Rattle.qh_halves.specs.declared.pending.PendingStream.{PendingStream}
use Rattle.qh_halves.specs.Pending.{PlainPending, has_room, waits, goes_before, IsFirst}
use Rattle.qh_half.specs.Send.{PlainSend, Waits}
use Rattle.qh_halves.specs.SendHalves.{PlainSendHalves, send_at, half_in, half_priority, entry_of, AreSendHalves, NoneWaits, IsFirstToSend, IsNextToSend, IsSentNext, IsStep, Gives}
use Rattle.qh_halves.specs.declared.send_halves.Transmission.{Transmission}
use Rattle.qh_halves.proofs.PendingOrder.{same_parts}
use Rattle.qh_halves.proofs.HalfTransmits.{gives_what_waited}

module _ (s : PlainSendHalves) (pending : PlainPending) (max_data data_sent count : ℕ) (ok : AreSendHalves s.halves pending max_data data_sent count) where
  -- none waits if none waits in the queue
  pub none_waits : ((k : ℕ) → waits pending k ≡ None) → NoneWaits s
  none_waits empty = λ k h e waiting. let listed = ok.listed k h e waiting in let none = empty k in absurd (cc)

  first_of : (p : PendingStream) → IsFirst pending p → (o : Option PlainSend) → half_in s.halves p.id ≡ o → IsSomeAnd o Waits → IsSomeAnd o (λ h. Waits h × IsFirstToSend s p.id h)
  first_of p first None here waiting = waiting
  first_of p first (Some h) here waiting =
      let live = ok.live p.id p.priority first.is_there in
      let priority : p.priority ≡ h.priority = ap (λ (o : Option ℤ). unwrap_or o p.priority) (sym live ∙ ap half_priority here) in (
        waiting,
        λ k g e others apart.
            ap (λ (x : PendingStream). goes_before x (entry_of g k)) (sym (same_parts p (entry_of h p.id) priority refl))
            ∙ first.before k g.priority (ok.listed k g e others) apart,
      )

  -- the first in the queue is the next if something waits in it
  pub next_is : (p : PendingStream) → IsFirst pending p → IsSomeAnd (half_in s.halves p.id) Waits → IsNextToSend s p.id
  next_is p first waiting = first_of p first (half_in s.halves p.id) refl waiting

  -- a stream in which nothing waits leaves the queue
  pub skipped : (queue : PlainPending) (id : ℕ) → IfSome (half_in s.halves id) (λ h. Waits h → ⊥) → ((k : ℕ) → waits queue k ≡ (if k == id then None else waits pending k)) → ((k : ℕ) → has_room queue k ≡ has_room pending k)
      → AreSendHalves s.halves queue max_data data_sent count
  skipped queue id nothing taken room = record {
    live = λ k n there. elim (eqb_tells k id) [
      | inl same ↦ absurd (let gone = taken k ∙ ap (λ (b : Bool). if b then None else waits pending k) same.0 in cc)
      | inr apart ↦ ok.live k n (sym (taken k ∙ ap (λ (b : Bool). if b then None else waits pending k) apart.0) ∙ there)
    ];
    listed = λ k h e waiting. elim (eqb_tells k id) [
      | inl same ↦ absurd ((rw (rw same.1 at e) at nothing) waiting)
      | inr apart ↦ taken k ∙ ap (λ (b : Bool). if b then None else waits pending k) apart.0 ∙ ok.listed k h e waiting
    ];
    room = λ k. room k ∙ ok.room k;
    counted = ok.counted;
    undone = ok.undone;
    credit = ok.credit;
  }

-- what the stream that comes first gives is sent next
pub sent_next : (old new : PlainSendHalves) (room id : ℕ) (t : Transmission) → IsNextToSend old id → IsStep (Gives room t) old new id 0 → IsSentNext old new room id t
sent_next old new room id t next step =
    let found = rw step.was at next in
    record { step = step; is_first = found.1 }

-- something waits if one is the next to be sent
pub one_waits : (s : PlainSendHalves) (id : ℕ) → IsNextToSend s id → NoneWaits s → ⊥
one_waits s id next none = waits_in (send_at s id) refl next
  where
    waits_in : (o : Option PlainSend) → send_at s id ≡ o → IsSomeAnd o (λ h. Waits h × IsFirstToSend s id h) → ⊥
    waits_in None is next = next
    waits_in (Some h) is next = none id h is next.0

-- the first in the queue comes first if it gives something
pub gave_next : (s : PlainSendHalves) (pending : PlainPending) (max_data data_sent count : ℕ) → AreSendHalves s.halves pending max_data data_sent count
    → (p : PendingStream) → IsFirst pending p → (new : PlainSendHalves) (room : ℕ) (t : Transmission) → IsStep (Gives room t) s new p.id 0 → IsSentNext s new room p.id t
gave_next s pending max_data data_sent count ok p first new room t step =
    let waiting : IsSomeAnd (half_in s.halves p.id) Waits = rw step.was (gives_what_waited t step.half step.next room step.step) in
    sent_next s new room p.id t (next_is s pending max_data data_sent count ok p first waiting) step
