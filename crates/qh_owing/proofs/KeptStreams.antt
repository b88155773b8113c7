-- Streams whose frames are handed over, lost or acknowledged, and calls of writers: what was written and isn't acknowledged is kept.
use Rattle.std.proofs.Common.{◌≡◌, ◌⊎◌, ℕ, ℤ, ◌-◌, ◌<◌, ◌≤◌, ◌==◌, Bool, true, false, List, [], ◌∷◌, ◌++◌, length, Option, Some, None, if◌then◌else◌, refl, sym, ap, subst, ◌∙◌, inl, inr}
use Rattle.std.specs.Prelude.{◌||◌}
use Rattle.std.proofs.lemmas.Bool.{eq-eqb}
use Rattle.std.proofs.lemmas.Bool.Decides.{eqb_tells}
use Rattle.std.proofs.lemmas.List.{length-append}
use Rattle.qh_half.specs.Send.{PlainSend, is_done}
use Rattle.qh_halves.specs.SendHalves.{PlainSendHalves, send_at, Finishes, HasPriority, IsAbsent, IsLast, IsResetWith, IsSettledBy, IsStep, Takes}
use Rattle.qh_halves.specs.SendHalves.IsSettledBy.{absent, on as on_step, done as last_step}
use Rattle.qh_halves.specs.declared.counts.StreamCounts.{StreamCounts}
use Rattle.qh_owing.proofs.KeptHalves.{IsQuiet, acked_keeps, finished_keeps, gives_piece_quiet, gives_reset_quiet, gone_keeps, lost_quiet, priority_quiet, quiet_keeps, reset_acked_quiet, reset_keeps, reset_lost_quiet, wrote_keeps}
use Rattle.qh_owing.specs.Owing.{AreKept, KeepsStream}
use Rattle.qh_spec.proofs.Members.{in_left, in_last}
use Rattle.qh_spec.specs.Lists.{In}
use Rattle.qh_spec.specs.Transcript.{Act, Finished, Reset, Wrote, finished, resets, was_reset, written}
use Rattle.qh_streams.proofs.StreamsSettled.{counts_alone}
use Rattle.qh_streams.proofs.StreamsTracked.{step_goes, last_goes}
use Rattle.qh_streams.specs.Streams.{PlainStreams, AreAcked, IsAckedFrame, IsHandedOver, IsLostFrame, counts_of, finished_events, max_frame_header, is_live, is_two_way, was_opened, with_counts}
use Rattle.qh_streams.specs.Streams.AreAcked.{none as none_acked, more as more_acked}
use Rattle.qh_streams.specs.Streams.IsHandedOver.{stream as stream_handed, reset as reset_handed, stop as stop_handed, max_stream_data as max_stream_data_handed, max_data as max_data_handed, max_streams as max_streams_handed}
use Rattle.qh_streams.specs.Streams.IsLostFrame.{stream as stream_lost, reset as reset_lost, stop as stop_lost, max_stream_data as max_stream_data_lost, max_data as max_data_lost, max_streams as max_streams_lost}
use Rattle.qh_streams.specs.Streams.IsAckedFrame.{stream as stream_acked, reset as reset_acked, stop as stop_acked, max_stream_data as max_stream_data_acked, max_data as max_data_acked, max_streams as max_streams_acked}
use Rattle.qh_streams.specs.declared.frames.SentFrame.{SentFrame}
use Rattle.qh_streams.specs.declared.frames.SentFrame.TheVariants as sent
use Rattle.qh_transcript.proofs.SendingFrames.{closed_opened, counts_opened}
use Rattle.qh_transcript.proofs.SendingLists.{finished_apart, finished_here, finished_written, nothing_finished, nothing_written, other_way, reset_nothing, wrote_apart, wrote_finished, wrote_here}
use Rattle.qh_transcript.proofs.SendingSteps.{same_opened}
use Rattle.qh_transcript.specs.Sending.{WriteNothing}

-- ---- one half goes on, or goes

pub data Went (P : PlainSend → PlainSend → Type 0) : (old new : Option PlainSend) → Type 0 where
  stayed : (o : Option PlainSend) → Went P o o
  went_on : (h next : PlainSend) → P h next → Went P (Some h) (Some next)
  went_off : (h next : PlainSend) → P h next → is_done next ≡ true → Went P (Some h) None

pub record SendsGo (P : PlainSend → PlainSend → Type 0) (old new : PlainSendHalves) (id : ℕ) : Type 0 where
  pub here : Went P (send_at old id) (send_at new id)
  pub apart : (k : ℕ) → (k == id) ≡ false → send_at new k ≡ send_at old k

pub step_next : {P : PlainSend → PlainSend → Type 0} {old new : PlainSendHalves} {id n : ℕ} (s : IsStep P old new id n) → send_at new id ≡ Some s.next
step_next {old = old} {id = id} s = s.is.halves_are id ∙ ap (λ (b : Bool). if b then Some s.next else send_at old id) (eq-eqb id id refl)

pub step_sends : {P : PlainSend → PlainSend → Type 0} {old new : PlainSendHalves} {id n : ℕ} → IsStep P old new id n → SendsGo P old new id
step_sends s = record { here = rw (s.was, step_next s) (went_on s.half s.next s.step); apart = (step_goes s).apart }

last_sends : {P : PlainSend → PlainSend → Type 0} {old new : PlainSendHalves} {id : ℕ} → IsLast P old new id → SendsGo P old new id
last_sends {old = old} {id = id} s =
    let none = s.is.halves_are id ∙ ap (λ (b : Bool). if b then None else send_at old id) (eq-eqb id id refl) in
    record { here = rw (s.was, none) (went_off s.half s.next s.step s.is_done); apart = (last_goes s).apart }

absent_sends : {P : PlainSend → PlainSend → Type 0} {old new : PlainSendHalves} {id : ℕ} → IsAbsent old new id → SendsGo P old new id
absent_sends {P = P} {old = old} {id = id} a = record {
  here = subst (λ (s : PlainSendHalves). Went P (send_at old id) (send_at s id)) (sym a.same) (stayed (send_at old id));
  apart = λ k e. ap (λ (s : PlainSendHalves). send_at s k) a.same;
}

pub step_or_absent : {P : PlainSend → PlainSend → Type 0} {old new : PlainSendHalves} {id n : ℕ} → IsStep P old new id n ⊎ IsAbsent old new id → SendsGo P old new id
step_or_absent (inl step) = step_sends step
step_or_absent (inr none) = absent_sends none

settled_sends : {P : PlainSend → PlainSend → Type 0} {old new : PlainSendHalves} {id : ℕ} {was_last : Bool} → IsSettledBy P old new id was_last → SendsGo P old new id
settled_sends (absent a) = absent_sends a
settled_sends (on_step step) = step_sends step
settled_sends (last_step last) = last_sends last

went_keeps : (P : PlainSend → PlainSend → Type 0) (Byte : ℕ → Type 0) (End : Type 0) (count : ℕ) (ended reset : Bool) (o after : Option PlainSend) → Went P o after
    → ((h next : PlainSend) → P h next → KeepsStream Byte End count ended reset (Some h) → KeepsStream Byte End count ended reset (Some next))
    → KeepsStream Byte End count ended reset o → KeepsStream Byte End count ended reset after
went_keeps P Byte End count ended reset o after (stayed _) step k = k
went_keeps P Byte End count ended reset o after (went_on h next p) step k = step h next p k
went_keeps P Byte End count ended reset o after (went_off h next p last) step k = gone_keeps Byte End count ended reset next last (step h next p k)

went_none : (P : PlainSend → PlainSend → Type 0) (o after : Option PlainSend) → Went P o after → o ≡ None → after ≡ None
went_none P o after (stayed _) e = e
went_none P o after (went_on h next p) e = absurd (cc)
went_none P o after (went_off h next p last) e = refl

some_none : {X Y : Type 0} (o : Option X) (x : X) → o ≡ Some x → o ≡ None → Y
some_none o x some none = absurd (cc)

-- ---- what was done reads the same

abbrev pub Reads : (t u : List Act) (k : ℕ) → Type 0
Reads t u k = (written u k ≡ written t k) × (finished u k ≡ finished t k) × (was_reset u k ≡ was_reset t k)

pub was_reset-append : (t u : List Act) (id : ℕ) → was_reset (t ++ u) id ≡ was_reset t id || was_reset u id
was_reset-append [] u id = refl
was_reset-append (a ∷ t) u id = ap (λ (z : Bool). resets id a || z) (was_reset-append t u id) ∙ or_assoc (resets id a) (was_reset t id) (was_reset u id) where
  or_assoc : (a b c : Bool) → a || (b || c) ≡ (a || b) || c
  or_assoc true b c = refl
  or_assoc false b c = refl

or_false : (b : Bool) → b || false ≡ b
or_false true = refl
or_false false = refl

or_true : (b : Bool) → b || true ≡ true
or_true true = refl
or_true false = refl

-- acts that reset nothing
pub resets_nothing : (t u : List Act) (k : ℕ) → was_reset u k ≡ false → was_reset (t ++ u) k ≡ was_reset t k
resets_nothing t u k none = was_reset-append t u k ∙ ap (λ (z : Bool). was_reset t k || z) none ∙ or_false (was_reset t k)

-- acts that write, finish and reset nothing
pub reads_nothing : (t u : List Act) → WriteNothing u → ((k : ℕ) → was_reset u k ≡ false) → (k : ℕ) → Reads t (t ++ u) k
reads_nothing t u none unreset k = (nothing_written t u none k, nothing_finished t u none k, resets_nothing t u k (unreset k))

reset_apart : (t : List Act) (id code k : ℕ) → (k == id) ≡ false → was_reset (t ++ Reset id code ∷ []) k ≡ was_reset t k
reset_apart t id code k apart = resets_nothing t (Reset id code ∷ []) k (rw (other_way k id apart) refl)

reset_here : (t : List Act) (id code : ℕ) → was_reset (t ++ Reset id code ∷ []) id ≡ true
reset_here t id code =
    let one : was_reset (Reset id code ∷ []) id ≡ true = rw (eq-eqb id id refl) refl in
    was_reset-append t (Reset id code ∷ []) id ∙ ap (λ (z : Bool). was_reset t id || z) one ∙ or_true (was_reset t id)

-- ---- more is acknowledged

module _ (Byte Byte' : ℕ → ℕ → Type 0) (End End' : ℕ → Type 0) (bytes : (id k : ℕ) → Byte id k → Byte' id k) (ends : (id : ℕ) → End id → End' id) where
  more_keeps : (id count : ℕ) (ended reset : Bool) (o : Option PlainSend) → KeepsStream (Byte id) (End id) count ended reset o → KeepsStream (Byte' id) (End' id) count ended reset o
  more_keeps id count ended reset o k = record {
    half = k.half;
    bytes = λ not n below. elim (k.bytes not n below) [ inl acked ↦ inl (bytes id n acked) | inr kept ↦ inr kept ];
    end = λ not was. elim (k.end not was) [ inl acked ↦ inl (ends id acked) | inr kept ↦ inr kept ];
  }

  -- and what was done reads the same
  pub restated : (t u : List Act) (s : PlainStreams) → ((k : ℕ) → Reads t u k) → AreKept Byte End t s → AreKept Byte' End' u s
  restated t u s reads p = record {
    streams = λ k. let r = reads k in rw (r.0, r.1, r.2) (more_keeps k (length (written t k)) (finished t k) (was_reset t k) (send_at s.send k) (p.streams k));
    unopened = λ k closed. let r = reads k in let was = p.unopened k closed in (was.0, r.0 ∙ was.1, r.1 ∙ was.2);
  }

-- ---- steps

-- nothing of a STREAM frame is owed: it has bytes that were written, and they and its end are acknowledged
abbrev pub IsPaid : (Byte : ℕ → ℕ → Type 0) → (End : ℕ → Type 0) → List Act → SentFrame → Type 0
IsPaid Byte End t (sent.Stream id piece) =
    (piece.offsets.end ≤ length (written t id.0)) × ((k : ℕ) → piece.offsets.start ≤ k → k < piece.offsets.end → Byte id.0 k) × (piece.fin ≡ true → End id.0)
IsPaid Byte End t other = Unit {0}

module _ (Byte : ℕ → ℕ → Type 0) (End : ℕ → Type 0) where
  abbrev Keeps : List Act → PlainSendHalves → ℕ → Type 0
  Keeps t s k = KeepsStream (Byte k) (End k) (length (written t k)) (finished t k) (was_reset t k) (send_at s k)

  module _ (old new : PlainStreams) (t : List Act) where
    pub kept : new.send.halves ≡ old.send.halves → ((k : ℕ) → was_opened new k ≡ was_opened old k) → AreKept Byte End t old → AreKept Byte End t new
    kept same opened p = record {
      streams = λ k. rw same (p.streams k);
      unopened = λ k closed. let was = p.unopened k (sym (opened k) ∙ closed) in (rw same was.0, was.1, was.2);
    }

    changed : {P : PlainSend → PlainSend → Type 0} {id : ℕ} → SendsGo P old.send new.send id → ((k : ℕ) → was_opened new k ≡ was_opened old k)
        → ((h next : PlainSend) → P h next → KeepsStream (Byte id) (End id) (length (written t id)) (finished t id) (was_reset t id) (Some h)
        → KeepsStream (Byte id) (End id) (length (written t id)) (finished t id) (was_reset t id) (Some next))
        → AreKept Byte End t old → AreKept Byte End t new
    changed {P = P} {id = id} goes opened step p = record {
      streams = λ k. elim (eqb_tells k id) [
        | inl here ↦ subst (λ (k : ℕ). Keeps t new.send k) (sym here.1)
            (went_keeps P (Byte id) (End id) (length (written t id)) (finished t id) (was_reset t id) (send_at old.send id) (send_at new.send id) goes.here step (p.streams id))
        | inr apart ↦ rw (goes.apart k apart.0) (p.streams k)
      ];
      unopened = λ k closed.
          let was = p.unopened k (sym (opened k) ∙ closed) in
          elim (eqb_tells k id) [
            | inl here ↦ (subst (λ (k : ℕ). send_at new.send k ≡ None) (sym here.1) (went_none P (send_at old.send id) (send_at new.send id) goes.here (subst (λ (k : ℕ). send_at old.send k ≡ None) here.1 was.0)), was.1, was.2)
            | inr apart ↦ (goes.apart k apart.0 ∙ was.0, was.1, was.2)
          ];
    }

    pub quiet : {P : PlainSend → PlainSend → Type 0} {id : ℕ} → SendsGo P old.send new.send id → ((k : ℕ) → was_opened new k ≡ was_opened old k)
        → ((h next : PlainSend) → P h next → IsQuiet h next) → AreKept Byte End t old → AreKept Byte End t new
    quiet {id = id} goes opened step p =
        changed goes opened (λ h next made. quiet_keeps (Byte id) (End id) (length (written t id)) (finished t id) (was_reset t id) h next (step h next made)) p

    -- a call of a writer's on one stream
    called : (u : List Act) (id : ℕ) (h next : PlainSend) → send_at old.send id ≡ Some h → send_at new.send id ≡ Some next → ((k : ℕ) → (k == id) ≡ false → send_at new.send k ≡ send_at old.send k)
        → ((k : ℕ) → was_opened new k ≡ was_opened old k) → ((k : ℕ) → (k == id) ≡ false → Reads t u k)
        → (Keeps t old.send id → KeepsStream (Byte id) (End id) (length (written u id)) (finished u id) (was_reset u id) (Some next))
        → AreKept Byte End t old → AreKept Byte End u new
    called u id h next was now apart opened reads step p = record {
      streams = λ k. elim (eqb_tells k id) [
        | inl here ↦ subst (λ (k : ℕ). Keeps u new.send k) (sym here.1) (rw now (step (p.streams id)))
        | inr away ↦ let r = reads k away.0 in rw (r.0, r.1, r.2, apart k away.0) (p.streams k)
      ];
      unopened = λ k closed.
          let before = p.unopened k (sym (opened k) ∙ closed) in
          elim (eqb_tells k id) [
            | inl here ↦ some_none (send_at old.send id) h was (subst (λ (k : ℕ). send_at old.send k ≡ None) here.1 before.0)
            | inr away ↦ let r = reads k away.0 in (apart k away.0 ∙ before.0, r.0 ∙ before.1, r.1 ∙ before.2)
          ];
    }

    -- ---- calls of a writer

    pub wrote : (id taken : ℕ) (bytes : List ℕ) → IsStep (Takes bytes) old.send new.send id taken → new ≡ record old { send = new.send } → AreKept Byte End t old → AreKept Byte End (t ++ Wrote id bytes ∷ []) new
    wrote id taken bytes s rest p =
        let more = wrote_here t id bytes in
        let sum = length-append (written t id) bytes in
        called (t ++ Wrote id bytes ∷ []) id s.half s.next s.was (step_next s) (step_goes s).apart (same_opened old new rest)
        (λ k apart. (wrote_apart t id k bytes apart, wrote_finished t id k bytes, resets_nothing t (Wrote id bytes ∷ []) k refl))
        (λ k. rw (more, sum, wrote_finished t id id bytes, resets_nothing t (Wrote id bytes ∷ []) id refl, s.step)
        (wrote_keeps (Byte id) (End id) (length (written t id)) (finished t id) (was_reset t id) s.half (rw (s.was) at k) bytes)) p

    pub finish : (id : ℕ) → IsStep Finishes old.send new.send id 0 → new ≡ record old { send = new.send } → AreKept Byte End t old → AreKept Byte End (t ++ Finished id ∷ []) new
    finish id s rest p =
        called (t ++ Finished id ∷ []) id s.half s.next s.was (step_next s) (step_goes s).apart (same_opened old new rest)
        (λ k apart. (finished_written t id k, finished_apart t id k apart, resets_nothing t (Finished id ∷ []) k refl))
        (λ k. rw (finished_written t id id, finished_here t id, resets_nothing t (Finished id ∷ []) id refl)
        (finished_keeps (Byte id) (End id) (length (written t id)) (finished t id) (was_reset t id) s.half (rw (s.was) at k) s.next s.step)) p

    pub reset_by : (id code : ℕ) → IsStep (IsResetWith code) old.send new.send id 0 → new ≡ record old { send = new.send } → AreKept Byte End t old → AreKept Byte End (t ++ Reset id code ∷ []) new
    reset_by id code s rest p =
        let u = Reset id code ∷ [] in
        let same_bytes = nothing_written t u (reset_nothing id code) in
        let same_end = nothing_finished t u (reset_nothing id code) in
        called (t ++ u) id s.half s.next s.was (step_next s) (step_goes s).apart (same_opened old new rest)
        (λ k apart. (same_bytes k, same_end k, reset_apart t id code k apart))
        (λ k. rw (same_bytes id, same_end id, reset_here t id code)
        (reset_keeps (Byte id) (End id) (length (written t id)) (finished t id) (was_reset t id) s.half (rw (s.was) at k) code s.next s.step)) p

    pub prioritized : (id : ℕ) (priority : ℤ) → IsStep (HasPriority priority) old.send new.send id 0 → new ≡ record old { send = new.send } → AreKept Byte End t old → AreKept Byte End t new
    prioritized id priority s rest p = quiet (step_sends s) (same_opened old new rest) (priority_quiet priority) p

    -- ---- frames

    pub counts_kept : (s : PlainStreams) (two_way : Bool) (c : StreamCounts) → new ≡ with_counts s two_way c → s.send.halves ≡ old.send.halves → ((k : ℕ) → was_opened s k ≡ was_opened old k)
        → c.opened ≡ (counts_of s two_way).opened → c.arrived ≡ (counts_of s two_way).arrived → AreKept Byte End t old → AreKept Byte End t new
    counts_kept s two_way c rest send_is opened_is opened arrived p =
        kept (ap (λ (s : PlainStreams). s.send.halves) rest ∙ ap (λ (h : PlainSendHalves). h.halves) (counts_alone s two_way c).send_is ∙ send_is)
        (λ k. ap (λ (s : PlainStreams). was_opened s k) rest ∙ counts_opened s two_way c opened arrived k ∙ opened_is k) p

  -- a frame is lost
  pub again : (t : List Act) (old new : PlainStreams) (f : SentFrame) → IsLostFrame old new f → AreKept Byte End t old → AreKept Byte End t new
  again t old new f (stream_lost id piece step rest) p = quiet old new t (step_or_absent step) (same_opened old new rest) (lost_quiet piece) p
  again t old new f (reset_lost id frame step rest) p = quiet old new t (step_or_absent step) (same_opened old new rest) reset_lost_quiet p
  again t old new f (stop_lost id code step rest) p = kept old new t (ap (λ (s : PlainStreams). s.send.halves) rest) (λ k. ap (λ (s : PlainStreams). was_opened s k) rest) p
  again t old new f (max_data_lost limit rest) p = kept old new t (ap (λ (s : PlainStreams). s.send.halves) rest) (λ k. ap (λ (s : PlainStreams). was_opened s k) rest) p
  again t old new f (max_stream_data_lost id limit step rest) p = kept old new t (ap (λ (s : PlainStreams). s.send.halves) rest) (λ k. ap (λ (s : PlainStreams). was_opened s k) rest) p
  again t old new f (max_streams_lost dir n rest) p = counts_kept old new t old (is_two_way dir) _ rest refl (λ k. refl) refl refl p

  -- a frame is acknowledged
  pub acked : (t : List Act) (old new : PlainStreams) (f : SentFrame) → IsAckedFrame old new f → IsPaid Byte End t f → AreKept Byte End t old → AreKept Byte End t new
  acked t old new f (stream_acked id piece finished_now step rest) paid p =
      let mid : PlainStreams = record old { send = new.send; events = old.events ++ finished_events finished_now id } in
      changed old new t (settled_sends step) (λ k. ap (λ (s : PlainStreams). was_opened s k) rest ∙ closed_opened mid id.0 (is_live old id.0) k)
      (λ h next made. acked_keeps (Byte id.0) (End id.0) (length (written t id.0)) (finished t id.0) (was_reset t id.0) piece h next made paid.0 paid.1 paid.2) p
  acked t old new f (reset_acked id frame last step rest) paid p =
      let mid : PlainStreams = record old { send = new.send } in
      quiet old new t (settled_sends step) (λ k. ap (λ (s : PlainStreams). was_opened s k) rest ∙ closed_opened mid id.0 (is_live old id.0) k) reset_acked_quiet p
  acked t old new f (stop_acked id code step rest) paid p = kept old new t (ap (λ (s : PlainStreams). s.send.halves) rest) (λ k. ap (λ (s : PlainStreams). was_opened s k) rest) p
  acked t old new f (max_data_acked limit rest) paid p = kept old new t (ap (λ (s : PlainStreams). s.send.halves) rest) (λ k. ap (λ (s : PlainStreams). was_opened s k) rest) p
  acked t old new f (max_stream_data_acked id limit step rest) paid p = kept old new t (ap (λ (s : PlainStreams). s.send.halves) rest) (λ k. ap (λ (s : PlainStreams). was_opened s k) rest) p
  acked t old new f (max_streams_acked dir n rest) paid p = counts_kept old new t old (is_two_way dir) _ rest refl (λ k. refl) refl refl p

  pub all_acked : (t : List Act) (old new : PlainStreams) (fs : List SentFrame) → AreAcked old new fs → ((f : SentFrame) → In f fs → IsPaid Byte End t f) → AreKept Byte End t old → AreKept Byte End t new
  all_acked t old new fs (none_acked _) paid p = p
  all_acked t old new fs (more_acked _ mid _ front f before last) paid p =
      acked t mid new f last (paid f (in_last f front)) (all_acked t old mid front before (λ g among. paid g (in_left g front (f ∷ []) among)) p)

  -- a frame is handed over
  pub handed : (t : List Act) (old new : PlainStreams) (room : ℕ) (f : SentFrame) → IsHandedOver old new room f → AreKept Byte End t old → AreKept Byte End t new
  handed t old new room f (stream_handed id piece next rest) p = quiet old new t (step_sends next.step) (same_opened old new rest) (gives_piece_quiet (room - max_frame_header) piece) p
  handed t old new room f (reset_handed id frame next rest) p = quiet old new t (step_sends next.step) (same_opened old new rest) (gives_reset_quiet frame) p
  handed t old new room f (stop_handed id code step rest) p = kept old new t (ap (λ (s : PlainStreams). s.send.halves) rest) (λ k. ap (λ (s : PlainStreams). was_opened s k) rest) p
  handed t old new room f (max_stream_data_handed id limit step rest) p = kept old new t (ap (λ (s : PlainStreams). s.send.halves) rest) (λ k. ap (λ (s : PlainStreams). was_opened s k) rest) p
  handed t old new room f (max_data_handed limit is due rest) p = kept old new t (ap (λ (s : PlainStreams). s.send.halves) rest) (λ k. ap (λ (s : PlainStreams). was_opened s k) rest) p
  handed t old new room f (max_streams_handed dir n is due rest) p = counts_kept old new t old (is_two_way dir) _ rest refl (λ k. refl) refl refl p
