-- What calls on sending halves do to the connection.
use Rattle.std.proofs.Common.{◌≡◌, ◌⊎◌, ℕ, Bool, true, false, List, [], ◌∷◌, Option, Some, None, is_some, if◌then◌else◌, refl, sym, ap, ◌∙◌, inl, inr, subst}
use Rattle.std.specs.Prelude.{MatchResult, Result, Ok, Err}
use Rattle.qh_base.specs.declared.memory.Memory.{Memory}
use Rattle.qh_base.specs.declared.stream_id.StreamId.{StreamId}
use Rattle.qh_book.specs.Book.{Book}
use Rattle.qh_book.specs.Pages.{SendPage, live_send}
use Rattle.qh_book.specs.Shown.{Note, ShowsStreams, write_reply}
use Rattle.qh_book.specs.declared.call.Call.TheVariants as call
use Rattle.qh_book.specs.declared.reply.Reply.{Reply}
use Rattle.qh_book.specs.declared.reply.Reply.TheVariants as reply
use Rattle.qh_conn.specs.Whole.{CarriesOn}
use Rattle.qh_conn.specs.declared.connection.Connection.{Connection}
use Rattle.qh_core.specs.Streams.{IsWriteRefused}
use Rattle.qh_core.specs.declared.inner.Inner.{Inner}
use Rattle.qh_half.specs.Send.{PlainSend, is_ready, stopped_or_closed}
use Rattle.qh_half.specs.declared.fault.FinishFault.TheVariants as finish
use Rattle.qh_half.specs.declared.fault.WriteFault.{WriteFault}
use Rattle.qh_half.specs.declared.fault.WriteFault.TheVariants as write
use Rattle.qh_half.specs.declared.send.SendState.{SendState}
use Rattle.qh_halves.specs.SendHalves.{Finishes, IsStep, PlainSendHalves, finish_fault_at, half_finish_fault, send_at}
use Rattle.qh_quinn.proofs.CallParts.{carries_as, undone, woken_at}
use Rattle.qh_quinn.specs.Calls.{CallsOf, IsCallOf, IsSending, call_acts, finish_acts, finished_by}
use Rattle.qh_quinn.specs.Streaming.{IsRefusedAs, IsSendChange, WritesTo}
use Rattle.qh_quinn.specs.declared.inner.StateInner.{StateInner}
use Rattle.qh_shown.specs.Connections.{is_wanting}
use Rattle.qh_spec.specs.Transcript.{Finished}
use Rattle.qh_streams.specs.Streams.{PlainStreams}

-- ---- a stream is finished

-- the law of a book by which a half that is there has a live page
abbrev pub HalfLaw : Type 0
HalfLaw = (s : PlainStreams) (notes : ℕ → Note) (b : Book) (id : StreamId) → ShowsStreams s notes b → (h : PlainSend) → send_at s.send id.0 ≡ Some h
    → (p : SendPage) × (live_send (b.sends id.0) ≡ Some p) × (p.stop_code ≡ h.stop_reason) × (p.priority ≡ h.priority)

unstopped : (stop : Option ℕ) (state : SendState) → stopped_or_closed stop state ≡ None → stop ≡ None
unstopped None state is = refl
unstopped (Some code) state is = let z : Some (finish.Stopped code) ≡ None = is in absurd (cc)

stopped_with : (stop : Option ℕ) (state : SendState) (code : ℕ) → stopped_or_closed stop state ≡ Some (finish.Stopped code) → stop ≡ Some code
stopped_with None state code is = no (is_ready state) is
  where
    no : (ready : Bool) → (if ready then None else Some finish.ClosedStream) ≡ Some (finish.Stopped code) → None ≡ Some code
    no true e = let z : None ≡ Some (finish.Stopped code) = e in absurd (cc)
    no false e = let z : Some finish.ClosedStream ≡ Some (finish.Stopped code) = e in absurd (cc)
stopped_with (Some other) state code is = let z : Some (finish.Stopped other) ≡ Some (finish.Stopped code) = is in cc

acts_of : (id : ℕ) (o : Option SendPage) (p : SendPage) (stop : Option ℕ) → o ≡ Some p → p.stop_code ≡ stop → finish_acts id o ≡ finished_by id stop
acts_of id o p stop live code = ap (λ (x : Option SendPage). finish_acts id x) live ∙ ap (λ (x : Option ℕ). finished_by id x) code

-- a half that is finished wasn't stopped
pub finish_made : HalfLaw → (s : PlainStreams) (new : PlainSendHalves) (notes : ℕ → Note) (b : Book) (id : StreamId) → ShowsStreams s notes b → IsStep Finishes s.send new id.0 0 → finish_acts id.0 (live_send (b.sends id.0)) ≡ Finished id.0 ∷ []
finish_made law s new notes b id shown step =
    let p = law s notes b id shown step.half step.was in
    acts_of id.0 (live_send (b.sends id.0)) p.0 None p.1 (p.2 ∙ unstopped step.half.stop_reason step.half.state step.step.0)

-- one that was stopped needs no end
pub finish_needless : HalfLaw → (s : PlainStreams) (notes : ℕ → Note) (b : Book) (id : StreamId) (code : ℕ) → ShowsStreams s notes b → finish_fault_at s.send id.0 ≡ Some (finish.Stopped code) → finish_acts id.0 (live_send (b.sends id.0)) ≡ []
finish_needless law s notes b id code shown fault = at (send_at s.send id.0) refl fault
  where
    at : (o : Option PlainSend) → send_at s.send id.0 ≡ o → half_finish_fault o ≡ Some (finish.Stopped code) → finish_acts id.0 (live_send (b.sends id.0)) ≡ []
    at None there is = let z : Some finish.ClosedStream ≡ Some (finish.Stopped code) = is in absurd (cc)
    at (Some h) there is =
        let p = law s notes b id shown h there in
        acts_of id.0 (live_send (b.sends id.0)) p.0 (Some code) p.1 (p.2 ∙ stopped_with h.stop_reason h.state code is)

-- the fault is of the half, since the connection was greeted
pub finish_stopped : {P : Type 0} (peer : Option P) (s : PlainSendHalves) (id code : ℕ) → (((is_some peer ≡ false) × (finish.Stopped code ≡ finish.ClosedStream)) ⊎ ((is_some peer ≡ true) × (finish_fault_at s id ≡ Some (finish.Stopped code))))
    → finish_fault_at s id ≡ Some (finish.Stopped code)
finish_stopped peer s id code (inl u) = let z : finish.Stopped code ≡ finish.ClosedStream = u.1 in absurd (cc)
finish_stopped peer s id code (inr u) = u.1

module _ {S : Type 0} where
  pub finished_calls : {T : Type 0} (id : StreamId) (old new : StateInner S) (to : Connection S) → HalfLaw → is_wanting old.connection ≡ false → new ≡ record old { connection = to; driver = None }
      → IsSendChange Finishes id.0 0 old.connection to → CarriesOn old.connection to (Finished id.0 ∷ []) → IsCallOf {T = T} (call.Finish id) reply.Done old new
  finished_calls id old new to law calm is change carries =
      woken_at (call.Finish id) reply.Done old new to is
      (λ b shown.
      carries_as old.connection to (finish_acts id.0 (live_send (b.sends id.0))) (Finished id.0 ∷ [])
      (finish_made law old.connection.core.space.streams to.core.space.streams.send shown.notes b id (shown.shows.connection.live calm).streams change.step) carries)
      (inl change)

  pub needless_calls : {T : Type 0} (id : StreamId) (code : ℕ) (old new : StateInner S) → HalfLaw → is_wanting old.connection ≡ false → new.connection ≡ old.connection
      → ((is_some old.connection.handshake.peer ≡ false) × (finish.Stopped code ≡ finish.ClosedStream)) ⊎ ((is_some old.connection.handshake.peer ≡ true) × (finish_fault_at old.connection.core.space.streams.send id.0 ≡ Some (finish.Stopped code)))
      → IsCallOf {T = T} (call.Finish id) reply.Done old new
  needless_calls id code old new law calm same fault =
      undone (call.Finish id) reply.Done old new same
      (λ b shown.
      finish_needless law old.connection.core.space.streams shown.notes b id code (shown.shows.connection.live calm).streams (finish_stopped old.connection.handshake.peer old.connection.core.space.streams.send id.0 code fault))
      (inr (record { code = code; stopped = finish_stopped old.connection.handshake.peer old.connection.core.space.streams.send id.0 code fault; same = same }))

-- ---- a write is refused

no_write_acts : (T : Type 0) (b : Book) (id : StreamId) (payload : List ℕ) (e : WriteFault) → call_acts {T = T} b (call.Write id payload) (write_reply e) ≡ []
no_write_acts T b id payload write.Blocked = refl
no_write_acts T b id payload (write.Stopped code) = refl
no_write_acts T b id payload write.ClosedStream = refl
no_write_acts T b id payload write.Memory = refl

no_write_sent : (T : Type 0) (id : StreamId) (payload : List ℕ) (e : WriteFault) → IsSending {T = T} (call.Write id payload) (write_reply e) → ⊥
no_write_sent T id payload write.Blocked sends = sends
no_write_sent T id payload (write.Stopped code) sends = sends
no_write_sent T id payload write.ClosedStream sends = sends
no_write_sent T id payload write.Memory sends = sends

module _ {S : Type 0} where
  -- the connection refuses it
  abbrev pub RefusesWrite : (id : ℕ) → WriteFault → (old new : Connection S) → Type 0
  RefusesWrite id e old new = ((is_some old.handshake.peer ≡ false) × (e ≡ write.ClosedStream) × (new ≡ old)) ⊎ ((is_some old.handshake.peer ≡ true) × IsWriteRefused id e old.core new.core)

  same_core : (old new : Connection S) → new ≡ record old { core = new.core } → new.core ≡ old.core → new ≡ old
  same_core old new rest same = rest ∙ ap (λ (k : Inner S). record old { core = k }) same

  refused_as : (id : ℕ) (e : WriteFault) (old new : Connection S) → new ≡ record old { core = new.core } → RefusesWrite id e old new → IsRefusedAs e id old new
  refused_as id e old new rest (inl u) = inl u
  refused_as id e old new rest (inr u) = inr (u.1, rest)

  writes_none : (T : Type 0) (id : ℕ) (payload : List ℕ) (e : WriteFault) (old new : Connection S) → (e ≡ write.Memory → ⊥) → IsRefusedAs e id old new → WritesTo {T = T} id payload (write_reply e) old new
  writes_none T id payload write.Blocked old new isnt h = h
  writes_none T id payload (write.Stopped code) old new isnt h = h
  writes_none T id payload write.ClosedStream old new isnt h = h
  writes_none T id payload write.Memory old new isnt h = absurd (isnt refl)

  wanting_same : (id : ℕ) (e : WriteFault) (old new : Connection S) → new ≡ record old { core = new.core } → e ≡ write.Memory → RefusesWrite id e old new → new ≡ old
  wanting_same id e old new rest memory (inl u) = u.2
  wanting_same id e old new rest memory (inr u) = same_core old new rest (at (subst (λ (x : WriteFault). IsWriteRefused id x old.core new.core) memory u.1))
    where
      at : IsWriteRefused id write.Memory old.core new.core → new.core ≡ old.core
      at (IsWriteRefused.closed shut blocked same) = same
      at (IsWriteRefused.wanting up may wants same) = same
      at (IsWriteRefused.refused up fault same) = same

  write_kept : {T : Type 0} (id : StreamId) (payload : List ℕ) (e : WriteFault) (old new : StateInner S) → WritesTo {T = T} id.0 payload (write_reply e) old.connection new.connection → CarriesOn old.connection new.connection [] → IsCallOf {T = T} (call.Write id payload) (write_reply e) old new
  write_kept {T} id payload e old new writes carries = record {
    carries = λ b shown. carries_as old.connection new.connection (call_acts {T = T} b (call.Write id payload) (write_reply e)) [] (no_write_acts T b id payload e) carries;
    called = writes;
    wakes = λ sends. absurd (no_write_sent T id payload e sends);
  }

  pub write_calls : {T : Type 0} (id : StreamId) (payload : List ℕ) (e : WriteFault) (result : Result (Reply T) Memory) (old new : StateInner S) → new.connection ≡ record old.connection { core = new.connection.core } → RefusesWrite id.0 e old.connection new.connection
      → CarriesOn old.connection new.connection [] → MatchResult result (λ r. (r ≡ write_reply e) × (e ≡ write.Memory → ⊥)) (λ x. e ≡ write.Memory) → CallsOf (call.Write id payload) result old new
  write_calls {T} id payload e (Ok r) old new rest refused carries m =
      subst (λ (x : Reply T). IsCallOf (call.Write id payload) x old new) (sym m.0)
      (write_kept {T = T} id payload e old new (writes_none T id.0 payload e old.connection new.connection m.1 (refused_as id.0 e old.connection new.connection rest refused)) carries)
  write_calls id payload e (Err x) old new rest refused carries m = wanting_same id.0 e old.connection new.connection rest m refused
