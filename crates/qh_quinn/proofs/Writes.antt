-- Calls of a connection on sending halves, as the state makes them.
use Rattle.std.proofs.Common.{◌≡◌, ◌⊎◌, ℕ, ℤ, ◌==◌, Bool, true, false, List, Option, Some, None, is_some, if◌then◌else◌, refl, sym, ap, ◌∙◌, inl, inr, subst}
use Rattle.std.proofs.lemmas.Bool.{false≢true}
use Rattle.std.proofs.lemmas.Option.{none-some, same_Some}
use Rattle.std.specs.BTreeSet.{insert_key}
use Rattle.std.specs.Ordering.{nat_cmp}
use Rattle.std.specs.Prelude.{IfSome, IsSome, MatchResult, Result, Ok, Err}
use Rattle.qh_base.specs.declared.memory.Memory.{Memory}
use Rattle.qh_base.specs.declared.connection_error.ConnectionError.{ConnectionError}
use Rattle.qh_base.specs.declared.stream_id.StreamId.{StreamId}
use Rattle.qh_book.specs.Book.{Book}
use Rattle.qh_book.specs.Pages.{live_send}
use Rattle.qh_book.specs.Sending.{Finishes, IsStopUnknown, TellsPriority, Writes}
use Rattle.qh_book.specs.Shown.{Note, ShowsStreams, finish_reply, write_reply}
use Rattle.qh_book.specs.Step.{Allows}
use Rattle.qh_book.specs.declared.call.Call.{Call}
use Rattle.qh_book.specs.declared.call.Call.TheVariants as call
use Rattle.qh_book.specs.declared.reply.Reply.{Reply}
use Rattle.qh_conn.specs.Whole.{IsWhole}
use Rattle.qh_conn.specs.declared.connection.Connection.{Connection}
use Rattle.qh_core.specs.Inner.{with_streams}
use Rattle.qh_core.specs.Streams.{IsWriteRefused}
use Rattle.qh_core.specs.declared.inner.Inner.{Inner}
use Rattle.qh_book.specs.declared.reply.Reply.TheVariants as reply
use Rattle.qh_half.specs.Send.{PlainSend}
use Rattle.qh_half.specs.declared.fault.FinishFault.{FinishFault}
use Rattle.qh_half.specs.declared.fault.FinishFault.TheVariants as finish
use Rattle.qh_half.specs.declared.fault.WriteFault.{WriteFault}
use Rattle.qh_half.specs.declared.fault.WriteFault.TheVariants as write
use Rattle.qh_halves.specs.SendHalves.{finish_fault_at, half_finish_fault, half_is_reset_refused, half_priority, half_write_fault, is_reset_refused_at, send_at, write_fault_at, write_limit}
use Rattle.qh_quinn.proofs.Moving.{IsOnward, calm_if_none, onward, open_if_none, stays_same}
use Rattle.qh_quinn.proofs.Sends.{send_gone, told, told_at}
use Rattle.qh_quinn.specs.Acting.{Answers, IsAnswered, Stays}
use Rattle.qh_quinn.specs.States.{IsState, ShowsWith}
use Rattle.qh_quinn.specs.declared.inner.StateInner.{StateInner}
use Rattle.qh_shown.specs.Connections.{ShowsLive, is_wanting}
use Rattle.qh_streams.specs.Streams.{PlainStreams, with_blocked}
use Rattle.qh_streams.specs.declared.frames.StreamEvent.{StreamEvent}

-- what is told of streams, and which writers wait for that, is in no book
abbrev pub ToldShown : Type 0
ToldShown = (s : PlainStreams) (notes : ℕ → Note) (b : Book) (events : List StreamEvent) (blocked : List ℕ) → ShowsStreams s notes b → ShowsStreams (record s { events = events; blocked = blocked }) notes b

blocked_shown : ToldShown → (s : PlainStreams) (notes : ℕ → Note) (b : Book) (id : ℕ) (e : WriteFault) → ShowsStreams s notes b → ShowsStreams (with_blocked s id e) notes b
blocked_shown law s notes b id write.Blocked shown = at (write_limit s.send == 0)
  where
    at : (x : Bool) → ShowsStreams (if x then record s { blocked = insert_key nat_cmp s.blocked id } else s) notes b
    at true = law s notes b s.events (insert_key nat_cmp s.blocked id) shown
    at false = shown
blocked_shown law s notes b id (write.Stopped code) shown = shown
blocked_shown law s notes b id write.ClosedStream shown = shown
blocked_shown law s notes b id write.Memory shown = shown

-- the half of which the peer's stop is told
pub half_there : (o : Option PlainSend) (code : Option ℕ) → IsSome o → IfSome o (λ h. code ≡ h.stop_reason) → (h : PlainSend) × (o ≡ Some h) × (h.stop_reason ≡ code)
half_there None code some is = absurd (false≢true some)
half_there (Some h) code some is = (h, refl, sym is)

module _ {S : Type 0} where
  -- the streams of a connection are these
  pub on_streams : (old new : Connection S) (streams : PlainStreams) → new.core ≡ with_streams old.core streams → new ≡ record old { core = new.core } → IsOnward old new × (new.core.space.streams ≡ streams)
  on_streams old new streams core rest =
      let are : new.core.space.streams ≡ streams = ap (λ (k : Inner S). k.space.streams) core in
      (onward old new (core ∙ ap (λ (s : PlainStreams). with_streams old.core s) (sym are)) rest, are)

  same_state : (old new : StateInner S) (to : Connection S) → new ≡ record old { connection = to } → to ≡ old.connection → new ≡ old
  same_state old new to is same = is ∙ ap (λ (x : Connection S). record old { connection = x }) same

  pub told_as : {T : Type 0} (c : Call) (r : Reply T) (old new : StateInner S) → new ≡ old → IsAnswered c r old old → IsAnswered c r old new
  told_as c r old new is a = subst (λ (s : StateInner S). IsAnswered c r old s) (sym is) a

  -- a call that the connection refuses leaves it as it is
  pub refused_as : {T : Type 0} (c : Call) (r : Reply T) (old new : StateInner S) (to : Connection S) → IsState old → is_wanting old.connection ≡ false → new ≡ record old { connection = to } → to ≡ old.connection
      → ((notes : ℕ → Note) (b : Book) → ShowsLive old.connection notes b → Allows {T = T} b c r b) → IsAnswered c r old new
  refused_as c r old new to state calm is same allows = told_as c r old new (same_state old new to is same) (told c r old state (λ notes b shown. allows notes b (shown.connection.live calm)))

  pub finish_refused : {T : Type 0} (id : StreamId) (e : FinishFault) (old new : StateInner S) (to : Connection S) → IsState old → is_wanting old.connection ≡ false → new ≡ record old { connection = to }
      → (((is_some old.connection.handshake.peer ≡ false) × (e ≡ finish.ClosedStream)) ⊎ ((is_some old.connection.handshake.peer ≡ true) × (finish_fault_at old.connection.core.space.streams.send id.0 ≡ Some e))) × (to ≡ old.connection)
      → ((notes : ℕ → Note) (b : Book) → ShowsStreams old.connection.core.space.streams notes b → finish_fault_at old.connection.core.space.streams.send id.0 ≡ Some e → Finishes {T = T} b id (finish_reply e) b)
      → IsAnswered {T = T} (call.Finish id) (finish_reply e) old new
  finish_refused id e old new to state calm is fault law =
      refused_as (call.Finish id) (finish_reply e) old new to state calm is fault.1 (λ notes b live. law notes b live.streams (at notes b live fault.0))
    where
      at : (notes : ℕ → Note) (b : Book) → ShowsLive old.connection notes b → ((is_some old.connection.handshake.peer ≡ false) × (e ≡ finish.ClosedStream)) ⊎ ((is_some old.connection.handshake.peer ≡ true) × (finish_fault_at old.connection.core.space.streams.send id.0 ≡ Some e))
          → finish_fault_at old.connection.core.space.streams.send id.0 ≡ Some e
      at notes b live (inl u) = ap half_finish_fault (send_gone old.connection notes b id.0 live (inl u.0)) ∙ ap (λ (x : FinishFault). Some x) (sym u.1)
      at notes b live (inr u) = u.1

  pub reset_refused : (old : Connection S) (notes : ℕ → Note) (b : Book) (k : ℕ) → ShowsLive old notes b → (is_some old.handshake.peer ≡ false) ⊎ (is_reset_refused_at old.core.space.streams.send k ≡ true) → is_reset_refused_at old.core.space.streams.send k ≡ true
  reset_refused old notes b k live (inl u) = ap half_is_reset_refused (send_gone old notes b k live (inl u))
  reset_refused old notes b k live (inr is) = is

  pub write_refused : {T : Type 0} (id : StreamId) (payload : List ℕ) (e : WriteFault) (old new : StateInner S) (to : Connection S) → IsState old → old.error ≡ None → (e ≡ write.Memory → ⊥) → new ≡ record old { connection = to }
      → to ≡ record old.connection { core = to.core } → IsWhole to
      → ((is_some old.connection.handshake.peer ≡ false) × (e ≡ write.ClosedStream) × (to ≡ old.connection)) ⊎ ((is_some old.connection.handshake.peer ≡ true) × IsWriteRefused id.0 e old.connection.core to.core)
      → ((notes : ℕ → Note) (b : Book) → ShowsStreams old.connection.core.space.streams notes b → b.error ≡ None → write_fault_at old.connection.core.space.streams.send id.0 ≡ Some e → Writes {T = T} b id payload (write_reply e) b)
      → ToldShown → IsAnswered {T = T} (call.Write id payload) (write_reply e) old new
  write_refused id payload e old new to state none some is rest whole (inl u) law told_law =
      told_as (call.Write id payload) (write_reply e) old new (same_state old new to is u.2)
      (told (call.Write id payload) (write_reply e) old state
      (λ notes b shown.
      let live = shown.connection.live (calm_if_none old state none) in
      let gone = send_gone old.connection notes b id.0 live (inl u.0) in
      law notes b live.streams (shown.error ∙ none) (ap (λ (o : Option _). half_write_fault o (write_limit old.connection.core.space.streams.send)) gone ∙ ap (λ (x : WriteFault). Some x) (sym u.1))))
  write_refused {T} id payload e old new to state none some is rest whole (inr u) law told_law = at u.1
    where
      at : IsWriteRefused id.0 e old.connection.core to.core → IsAnswered {T = T} (call.Write id payload) (write_reply e) old new
      at (IsWriteRefused.closed shut blocked same) = absurd (false≢true (sym shut ∙ open_if_none old state none))
      at (IsWriteRefused.wanting up may memory same) = absurd (some memory)
      at (IsWriteRefused.refused up fault core) =
          let on = on_streams old.connection to (with_blocked old.connection.core.space.streams id.0 e) core rest in
          told_at (call.Write id payload) (write_reply e) old new to state (calm_if_none old state none) u.0 is on.0 whole
          (λ notes b shown streams.
          (law notes b streams (shown.error ∙ none) fault, subst (λ (s : PlainStreams). ShowsStreams s notes b) (sym on.1) (blocked_shown told_law old.connection.core.space.streams notes b id.0 e streams)))

  pub write_wanting : (id : StreamId) (old new : StateInner S) (to : Connection S) → IsState old → old.error ≡ None → new ≡ record old { connection = to } → to ≡ record old.connection { core = to.core }
      → ((is_some old.connection.handshake.peer ≡ false) × (write.Memory ≡ write.ClosedStream) × (to ≡ old.connection)) ⊎ ((is_some old.connection.handshake.peer ≡ true) × IsWriteRefused id.0 write.Memory old.connection.core to.core)
      → Stays old new
  write_wanting id old new to state none is rest (inl u) = subst (λ (s : StateInner S). Stays old s) (sym (same_state old new to is u.2)) (stays_same old state)
  write_wanting id old new to state none is rest (inr u) = subst (λ (s : StateInner S). Stays old s) (sym (same_state old new to is (at u.1))) (stays_same old state)
    where
      same : to.core ≡ old.connection.core → to ≡ old.connection
      same e = rest ∙ ap (λ (k : Inner S). record old.connection { core = k }) e

      at : IsWriteRefused id.0 write.Memory old.connection.core to.core → to ≡ old.connection
      at (IsWriteRefused.closed shut blocked e) = same e
      at (IsWriteRefused.wanting up may memory e) = same e
      at (IsWriteRefused.refused up fault e) = same e

  pub priority_told : (T : Type 0) (old : Connection S) (notes : ℕ → Note) (b : Book) (id : StreamId) (n : ℤ) → ShowsLive old notes b → half_priority (send_at old.core.space.streams.send id.0) ≡ Some n
      → (ShowsStreams old.core.space.streams notes b → (h : PlainSend) → send_at old.core.space.streams.send id.0 ≡ Some h → TellsPriority {T = T} b id (reply.Priority h.priority) b) → TellsPriority {T = T} b id (reply.Priority n) b
  priority_told T old notes b id n live is law = at (send_at old.core.space.streams.send id.0) refl is
    where
      at : (o : Option PlainSend) → send_at old.core.space.streams.send id.0 ≡ o → half_priority o ≡ Some n → TellsPriority {T = T} b id (reply.Priority n) b
      at None e none = absurd (none-some n none)
      at (Some h) e same = subst (λ (x : ℤ). TellsPriority {T = T} b id (reply.Priority x) b) (same_Some _ _ same) (law live.streams h e)

  -- want of memory took the half
  pub stop_unknown : (s : StateInner S) (notes : ℕ → Note) (b : Book) (id : ℕ) (e : ConnectionError) → ShowsWith notes s b → is_wanting s.connection ≡ true → b.error ≡ Some e → IsStopUnknown b id
  stop_unknown s notes b id e shown wanting error = let emptied = shown.connection.emptied wanting in inr (ap live_send (emptied.sends id), rw (emptied.emptied, error) refl)

  pub write_answers : {T : Type 0} (id : StreamId) (payload : List ℕ) (e : WriteFault) (result : Result (Reply T) Memory) (old new : StateInner S) (to : Connection S) → IsState old → old.error ≡ None → new ≡ record old { connection = to }
      → to ≡ record old.connection { core = to.core } → IsWhole to
      → ((is_some old.connection.handshake.peer ≡ false) × (e ≡ write.ClosedStream) × (to ≡ old.connection)) ⊎ ((is_some old.connection.handshake.peer ≡ true) × IsWriteRefused id.0 e old.connection.core to.core)
      → ((notes : ℕ → Note) (b : Book) → ShowsStreams old.connection.core.space.streams notes b → b.error ≡ None → write_fault_at old.connection.core.space.streams.send id.0 ≡ Some e → Writes {T = T} b id payload (write_reply e) b)
      → ToldShown → MatchResult result (λ r. (r ≡ write_reply e) × (e ≡ write.Memory → ⊥)) (λ x. e ≡ write.Memory) → Answers (call.Write id payload) result old new
  write_answers {T} id payload e (Ok r) old new to state none is rest whole fault law told_law m =
      subst (λ (x : Reply T). IsAnswered (call.Write id payload) x old new) (sym m.0) (write_refused id payload e old new to state none m.1 is rest whole fault law told_law)
  write_answers id payload e (Err x) old new to state none is rest whole fault law told_law m =
      write_wanting id old new to state none is rest
      (subst (λ (x : WriteFault). ((is_some old.connection.handshake.peer ≡ false) × (x ≡ write.ClosedStream) × (to ≡ old.connection)) ⊎ ((is_some old.connection.handshake.peer ≡ true) × IsWriteRefused id.0 x old.connection.core to.core)) m fault)
