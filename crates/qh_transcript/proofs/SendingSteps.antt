-- How the streams stand to what was written, where one half takes a step and all else stays.
use Rattle.std.proofs.Common.{◌≡◌, ℕ, ℤ, ◌==◌, false, List, [], ◌∷◌, ◌++◌, Option, Some, None, refl, sym, ap, subst, ◌∙◌, inl, inr}
use Rattle.std.proofs.lemmas.Bool.Decides.{eqb_tells}
use Rattle.qh_spec.specs.Lists.{In}
use Rattle.qh_spec.specs.QuicFrame.{StreamFrame as Run}
use Rattle.qh_spec.specs.Transcript.{Act, Wrote, Finished, Reset, written, finished}
use Rattle.qh_half.specs.Send.{PlainSend, is_reset, write_fault}
use Rattle.qh_halves.specs.SendHalves.{PlainSendHalves, send_at, write_limit, write_fault_at, half_write_fault, IsStep, Takes, Finishes, IsResetWith, HasPriority}
use Rattle.qh_streams.specs.Streams.{PlainStreams, was_opened}
use Rattle.qh_streams.proofs.StreamsTracked.{Goes, step_goes}
use Rattle.qh_transcript.specs.Sending.{IsRunOf, IsHalfOf, StandsOut, WriteNothing}
use Rattle.qh_transcript.proofs.SendingHalves.{KeepsHalf, ready_state, not_closed, priority_keeps, reset_keeps}
use Rattle.qh_transcript.proofs.SendingLists.{wrote_here, wrote_apart, wrote_finished, finished_written, finished_here, finished_apart, nothing_written, nothing_finished, reset_nothing, run_longer, run_ended, half_longer, half_ended}

none_unless : {X : Type 0} (o : Option X) → ((x : X) → o ≡ Some x → ⊥) → o ≡ None
none_unless None never = refl
none_unless (Some x) never = absurd (never x refl)

-- ---- what was done reads the same

pub restated : (s : PlainStreams) (sent : List Run) (t u : List Act) → ((k : ℕ) → written u k ≡ written t k) → ((k : ℕ) → finished u k ≡ finished t k) → StandsOut s sent t → StandsOut s sent u
restated s sent t u bytes ends p = record {
  halves = λ k h is live. rw (bytes k, ends k) (p.halves k h is live);
  runs = λ run is. rw (bytes run.id, ends run.id) (p.runs run is);
  unopened = λ k closed. let was = p.unopened k closed in (was.0, bytes k ∙ was.1, ends k ∙ was.2);
}

pub others : (s : PlainStreams) (sent : List Run) (t u : List Act) → WriteNothing u → StandsOut s sent t → StandsOut s sent (t ++ u)
others s sent t u none p = restated s sent t (t ++ u) (nothing_written t u none) (nothing_finished t u none) p

pub fewer : (s : PlainStreams) (sent less : List Run) (t : List Act) → ((run : Run) → In run less → In run sent) → StandsOut s sent t → StandsOut s less t
fewer s sent less t among p = record { halves = p.halves; runs = λ run is. p.runs run (among run is); unopened = p.unopened }

-- ---- the halves stay

pub kept : (old new : PlainStreams) (sent : List Run) (t : List Act) → new.send.halves ≡ old.send.halves → ((k : ℕ) → was_opened new k ≡ was_opened old k) → StandsOut old sent t → StandsOut new sent t
kept old new sent t same opened p = record {
  halves = λ k h is live. p.halves k h (rw same at is) live;
  runs = p.runs;
  unopened = λ k closed. let was = p.unopened k (sym (opened k) ∙ closed) in (rw same was.0, was.1, was.2);
}

-- ---- one half changes

-- of all other streams the same was written
abbrev pub IsAlikeBut : (id : ℕ) → (t u : List Act) → Type 0
IsAlikeBut id t u = (k : ℕ) → (k == id) ≡ false → (written u k ≡ written t k) × (finished u k ≡ finished t k)

-- how the half of one stream, its runs, and what was written of it go on
pub record GoesOn (P : PlainSend → PlainSend → Type 0) (old : PlainSendHalves) (id : ℕ) (t u : List Act) : Type 0 where
  pub live : (h next : PlainSend) → send_at old id ≡ Some h → P h next → is_reset next.state ≡ false → is_reset h.state ≡ false
  pub half : (h next : PlainSend) → send_at old id ≡ Some h → P h next → is_reset next.state ≡ false → IsHalfOf (written t id) (finished t id) h → IsHalfOf (written u id) (finished u id) next
  pub run : (run : Run) → IsRunOf (written t id) (finished t id) run → IsRunOf (written u id) (finished u id) run
  pub none : send_at old id ≡ None → written t id ≡ [] → finished t id ≡ false → (written u id ≡ []) × (finished u id ≡ false)

run_at : {k id : ℕ} {run : Run} (t : List Act) → k ≡ id → IsRunOf (written t k) (finished t k) run → IsRunOf (written t id) (finished t id) run
run_at {run = run} t same r = subst (λ (k : ℕ). IsRunOf (written t k) (finished t k) run) same r

pub changed_with : {P : PlainSend → PlainSend → Type 0} {id : ℕ} (old new : PlainStreams) (sent : List Run) (t u : List Act) → Goes P (send_at old.send) (send_at new.send) id
    → ((k : ℕ) → was_opened new k ≡ was_opened old k) → IsAlikeBut id t u → GoesOn P old.send id t u → StandsOut old sent t → StandsOut new sent u
changed_with {id = id} old new sent t u goes opened away here p = record {
  halves = λ k h is live. elim (eqb_tells k id) [
    | inl same ↦ let b = goes.here k h same.0 is in rw same.1 (here.half b.half h b.was b.step live (p.halves id b.half b.was (here.live b.half h b.was b.step live)))
    | inr apart ↦ let e = away k apart.0 in rw (e.0, e.1) (p.halves k h (sym (goes.apart k apart.0) ∙ is) live)
  ];
  runs = λ run is. elim (eqb_tells run.id id) [
    | inl same ↦ run_at u (sym same.1) (here.run run (run_at t same.1 (p.runs run is)))
    | inr apart ↦ let e = away run.id apart.0 in rw (e.0, e.1) (p.runs run is)
  ];
  unopened = λ k closed.
      let was = p.unopened k (sym (opened k) ∙ closed) in
      elim (eqb_tells k id) [
        | inl same ↦
            let none : send_at old.send id ≡ None = rw same.1 at was.0 in
            let after = here.none none (rw same.1 at was.1) (rw same.1 at was.2) in
            (none_unless (send_at new.send k) (λ g is. let b = goes.here k g same.0 is in let some = b.was in cc), rw same.1 after.0, rw same.1 after.1)
        | inr apart ↦ let e = away k apart.0 in (goes.apart k apart.0 ∙ was.0, e.0 ∙ was.1, e.1 ∙ was.2)
      ];
}

pub changed : {P : PlainSend → PlainSend → Type 0} {id : ℕ} (old new : PlainStreams) (sent : List Run) (t : List Act) → Goes P (send_at old.send) (send_at new.send) id
    → ((k : ℕ) → was_opened new k ≡ was_opened old k) → ((h next : PlainSend) → P h next → KeepsHalf h next) → StandsOut old sent t → StandsOut new sent t
changed {id = id} old new sent t goes opened keeps p = changed_with old new sent t t goes opened (λ k apart. (refl, refl)) (record {
  live = λ h next is step live. (keeps h next step).live live;
  half = λ h next is step live q. (keeps h next step).half (written t id) (finished t id) live q;
  run = λ run q. q;
  none = λ none bytes ends. (bytes, ends);
}) p

-- only the sending halves are others
pub same_opened : (old new : PlainStreams) → new ≡ record old { send = new.send } → (k : ℕ) → was_opened new k ≡ was_opened old k
same_opened old new rest k = ap (λ (s : PlainStreams). was_opened s k) rest

-- ---- calls of a writer

some_none : {X Y : Type 0} (o : Option X) (x : X) → o ≡ Some x → o ≡ None → Y
some_none o x some none = absurd (cc)

pub wrote : (old new : PlainStreams) (sent : List Run) (t : List Act) (id taken : ℕ) (bytes : List ℕ) → write_fault_at old.send id ≡ None
    → IsStep (Takes bytes) old.send new.send id taken → new ≡ record old { send = new.send } → StandsOut old sent t → StandsOut new sent (t ++ Wrote id bytes ∷ [])
wrote old new sent t id taken bytes can step rest p =
    let fault : write_fault step.half (write_limit old.send) ≡ None = sym (ap (λ (o : Option PlainSend). half_write_fault o (write_limit old.send)) step.was) ∙ can in
    let ready = ready_state step.half.state _ fault in
    let unended : finished t id ≡ false = sym (p.halves id step.half step.was ready.0).end ∙ ready.1 in
    changed_with old new sent t (t ++ Wrote id bytes ∷ []) (step_goes step) (same_opened old new rest) (λ k apart. (wrote_apart t id k bytes apart, wrote_finished t id k bytes)) (record {
      live = λ h next is e live. sym (ap (λ (h : PlainSend). is_reset h.state) e) ∙ live;
      half = λ h next is e live q. rw (e, wrote_here t id bytes, wrote_finished t id id bytes) (half_longer (written t id) bytes (finished t id) h q);
      run = λ run r. rw (wrote_here t id bytes) (run_longer (written t id) bytes (finished t id) _ run unended r);
      none = λ none empty ends. some_none (send_at old.send id) step.half step.was none;
    }) p

pub finish : (old new : PlainStreams) (sent : List Run) (t : List Act) (id : ℕ) → IsStep Finishes old.send new.send id 0 → new ≡ record old { send = new.send }
    → StandsOut old sent t → StandsOut new sent (t ++ Finished id ∷ [])
finish old new sent t id step rest p =
    changed_with old new sent t (t ++ Finished id ∷ []) (step_goes step) (same_opened old new rest) (λ k apart. (finished_written t id k, finished_apart t id k apart)) (record {
      live = λ h next is e live. not_closed h.stop_reason h.state e.0;
      half = λ h next is e live q. rw (e.1, finished_written t id id, finished_here t id) (half_ended (written t id) (finished t id) h q);
      run = λ run r. rw (finished_written t id id, finished_here t id) (run_ended (written t id) (finished t id) run r);
      none = λ none empty ends. some_none (send_at old.send id) step.half step.was none;
    }) p

pub reset : (old new : PlainStreams) (sent : List Run) (t : List Act) (id code : ℕ) → IsStep (IsResetWith code) old.send new.send id 0 → new ≡ record old { send = new.send }
    → StandsOut old sent t → StandsOut new sent (t ++ Reset id code ∷ [])
reset old new sent t id code step rest p =
    others new sent t (Reset id code ∷ []) (reset_nothing id code) (changed old new sent t (step_goes step) (same_opened old new rest) (reset_keeps code) p)

pub prioritized : (old new : PlainStreams) (sent : List Run) (t : List Act) (id : ℕ) (priority : ℤ) → IsStep (HasPriority priority) old.send new.send id 0 → new ≡ record old { send = new.send }
    → StandsOut old sent t → StandsOut new sent t
prioritized old new sent t id priority step rest p = changed old new sent t (step_goes step) (same_opened old new rest) (priority_keeps priority) p
