-- Each public call is a call of `IsMade`, and what lists of calls do.
use Rattle.std.proofs.Common.{◌≡◌, ◌⊎◌, ℕ, ℤ, ◌<◌, Bool, true, false, List, [], ◌∷◌, ◌++◌, length, take, Option, Some, None, Result, Ok, Err, OnOk, OnErr, IfOk, IfErr, IfSome, refl, sym, ap, subst, ◌∙◌}
use Rattle.std.proofs.lemmas.List.{append-nil}
use Rattle.std.specs.List.{concat}
use Rattle.qh_base.specs.declared.memory.Memory.{Memory as OutOfMemory}
use Rattle.qh_base.specs.declared.stream_id.StreamId.{StreamId}
use Rattle.qh_buffers.specs.declared.assembler.Chunk.{Chunk}
use Rattle.qh_core.specs.Follows.{Follows, write_acts, write_chunks_acts, finish_acts, reset_by_acts, stop_acts, take_acts, received_reset_acts}
use Rattle.qh_core.specs.Inner.{IsSameEnd, is_open, with_streams}
use Rattle.qh_core.specs.Made.{GoesOn, IsMadeOnStreams}
use Rattle.qh_core.specs.Made.IsStreamCall.{unchanged, opened, accepted, wrote, unwritten, finished, reset, prioritized, read, stopped, took_reset, concurrent, send_window, receive_window}
use Rattle.qh_core.specs.Streams.{IsRead, IsReadFault, IsWriteRefused}
use Rattle.qh_core.specs.declared.fault.TakeFault.{TakeFault}
use Rattle.qh_core.specs.declared.inner.Inner.{Inner}
use Rattle.qh_half.specs.declared.fault.ClosedStream.{ClosedStream}
use Rattle.qh_half.specs.declared.fault.FinishFault.{FinishFault}
use Rattle.qh_half.specs.declared.fault.WriteFault.{WriteFault}
use Rattle.qh_half.specs.declared.send.Written.{Written}
use Rattle.qh_halves.specs.RecvHalves.{IsRecvStep, Stops, TakesReset}
use Rattle.qh_halves.specs.SendHalves.{IsStep, Takes, Finishes, IsResetWith, HasPriority, write_fault_at}
use Rattle.qh_spec.specs.StreamId.{stream_id}
use Rattle.qh_spec.specs.Transcript.{Act}
use Rattle.qh_spec.specs.declared.sides.Dir.{Dir}
use Rattle.qh_streams.specs.Streams.{PlainStreams, IsOpened, counted_closed, counts_of, is_live, is_two_way, with_accepted, with_counts}

module _ {S : Type 0} where
  -- ---- what holds of every call

  abbrev pub Carries : (old new : Inner S) → List Act → Type 0
  Carries old new acts = (t : List Act) → Follows old t → Follows new (t ++ acts)

  abbrev pub CarriesAlone : (old new : Inner S) → Type 0
  CarriesAlone old new = (t : List Act) → Follows old t → Follows new t

  pub alone : (old new : Inner S) → CarriesAlone old new → Carries old new []
  alone old new f t p = subst (λ (z : List Act). Follows new z) (sym (append-nil t)) (f t p)

  abbrev IsSame : (old new : Inner S) → Type 0
  IsSame old new = IsSameEnd old new × (new.session ≡ old.session)

  itself : (c : Inner S) → IsSame c c
  itself c = (record { side = refl; local_id = refl; remote_length = refl; config = refl }, refl)

  same_by : (old new c : Inner S) → IsSame old c → new ≡ c → IsSame old new
  same_by old new c same is = subst (λ (z : Inner S). IsSame old z) (sym is) same

  with_other : (old : Inner S) (s : PlainStreams) → IsSame old (with_streams old s)
  with_other old s = (record { side = refl; local_id = refl; remote_length = refl; config = refl }, refl)

  goes_on : (old new : Inner S) (acts : List Act) → IsSame old new → Carries old new acts → GoesOn old new acts
  goes_on old new acts same carries = record { follows = carries; same_end = same.0; same_session = same.1 }

  on_other : (old new : Inner S) (acts : List Act) (s : PlainStreams) → new ≡ with_streams old s → Carries old new acts → GoesOn old new acts
  on_other old new acts s is carries = goes_on old new acts (same_by old new (with_streams old s) (with_other old s) is) carries

  still : (old new : Inner S) → new ≡ old → CarriesAlone old new → IsMadeOnStreams old new []
  still old new is carries = (unchanged is, goes_on old new [] (same_by old new old (itself old) is) (alone old new carries))

  -- ---- calls on streams

  pub open_made : (dir : Dir) (result : Result (Option StreamId) OutOfMemory) (old new : Inner S)
      → IfOk result (λ o. IfSome o (λ id. (is_open old.state ≡ true) × (id.0 ≡ stream_id old.space.streams.side dir (counts_of old.space.streams (is_two_way dir)).opened)
      × ((counts_of old.space.streams (is_two_way dir)).opened < (counts_of old.space.streams (is_two_way dir)).max_opened)
      × IsOpened old.space.streams new.space.streams id.0 × (new ≡ with_streams old new.space.streams)))
      → IfOk result (λ o. o ≡ None → (new ≡ old)
      × ((is_open old.state ≡ false) ⊎ ((counts_of old.space.streams (is_two_way dir)).opened ≡ (counts_of old.space.streams (is_two_way dir)).max_opened)))
      → OnErr result (new ≡ old) → CarriesAlone old new → IsMadeOnStreams old new []
  open_made dir (Ok (Some id)) old new some denied err carries =
      (opened dir id.0 some.0 some.1 some.2 some.3 some.4, on_other old new [] new.space.streams some.4 (alone old new carries))
  open_made dir (Ok None) old new some denied err carries = still old new (denied refl).0 carries
  open_made dir (Err e) old new some denied err carries = still old new err carries

  pub accept_made : (dir : Dir) (result : Option StreamId) (old new : Inner S)
      → IfSome result (λ id. (counts_of old.space.streams (is_two_way dir)).accepted < (counts_of old.space.streams (is_two_way dir)).arrived)
      → IfSome result (λ id. new ≡ with_streams old (with_counts old.space.streams (is_two_way dir) (with_accepted (counts_of old.space.streams (is_two_way dir)))))
      → (result ≡ None → new ≡ old) → CarriesAlone old new → IsMadeOnStreams old new []
  accept_made dir (Some id) old new below is denied carries = (accepted dir below is, on_other old new [] _ is (alone old new carries))
  accept_made dir None old new below is denied carries = still old new (denied refl) carries

  refused_same : (id : ℕ) (e : WriteFault) (old new : Inner S) → IsWriteRefused id e old new → IsSame old new
  refused_same id e old new (IsWriteRefused.closed _ _ is) = same_by old new old (itself old) is
  refused_same id e old new (IsWriteRefused.wanting _ _ _ is) = same_by old new old (itself old) is
  refused_same id e old new (IsWriteRefused.refused _ _ is) = same_by old new _ (with_other old _) is

  unwritten_made : (id : ℕ) (e : WriteFault) (old new : Inner S) → IsWriteRefused id e old new → Carries old new [] → IsMadeOnStreams old new []
  unwritten_made id e old new denied carries = (unwritten id e denied, goes_on old new [] (refused_same id e old new denied) carries)

  pub write_made : (id : ℕ) (payload : List ℕ) (result : Result ℕ WriteFault) (old new : Inner S)
      → IfOk result (λ n. (is_open old.state ≡ true) × IsStep (Takes (take n payload)) old.space.streams.send new.space.streams.send id n
      × (new ≡ with_streams old (record old.space.streams { send = new.space.streams.send })))
      → OnOk result (write_fault_at old.space.streams.send id ≡ None) → IfErr result (λ e. IsWriteRefused id e old new)
      → Carries old new (write_acts id payload result) → IsMadeOnStreams old new (write_acts id payload result)
  write_made id payload (Ok n) old new ok free err carries = (wrote id n (take n payload) ok.0 free ok.1 ok.2, on_other old new _ _ ok.2 carries)
  write_made id payload (Err e) old new ok free err carries = unwritten_made id e old new err carries

  pub write_chunks_made : (id : ℕ) (chunks : List (List ℕ)) (result : Result Written WriteFault) (old new : Inner S)
      → IfOk result (λ w. (is_open old.state ≡ true) × IsStep (Takes (take w.bytes (concat chunks))) old.space.streams.send new.space.streams.send id w.bytes
      × (new ≡ with_streams old (record old.space.streams { send = new.space.streams.send })))
      → OnOk result (write_fault_at old.space.streams.send id ≡ None) → IfErr result (λ e. IsWriteRefused id e old new)
      → Carries old new (write_chunks_acts id chunks result) → IsMadeOnStreams old new (write_chunks_acts id chunks result)
  write_chunks_made id chunks (Ok w) old new ok free err carries =
      (wrote id w.bytes (take w.bytes (concat chunks)) ok.0 free ok.1 ok.2, on_other old new _ _ ok.2 carries)
  write_chunks_made id chunks (Err e) old new ok free err carries = unwritten_made id e old new err carries

  pub finish_made : (id : ℕ) (result : Result Unit FinishFault) (old new : Inner S)
      → OnOk result (IsStep Finishes old.space.streams.send new.space.streams.send id 0 × (new ≡ with_streams old (record old.space.streams { send = new.space.streams.send })))
      → OnErr result (new ≡ old) → Carries old new (finish_acts id result) → IsMadeOnStreams old new (finish_acts id result)
  finish_made id (Ok _) old new ok err carries = (finished id ok.0 ok.1, on_other old new _ _ ok.1 carries)
  finish_made id (Err e) old new ok err carries = (unchanged err, goes_on old new [] (same_by old new old (itself old) err) carries)

  pub reset_made : (id code : ℕ) (result : Result Unit ClosedStream) (old new : Inner S)
      → OnOk result (IsStep (IsResetWith code) old.space.streams.send new.space.streams.send id 0 × (new ≡ with_streams old (record old.space.streams { send = new.space.streams.send })))
      → OnErr result (new ≡ old) → Carries old new (reset_by_acts id code result) → IsMadeOnStreams old new (reset_by_acts id code result)
  reset_made id code (Ok _) old new ok err carries = (reset id code ok.0 ok.1, on_other old new _ _ ok.1 carries)
  reset_made id code (Err e) old new ok err carries = (unchanged err, goes_on old new [] (same_by old new old (itself old) err) carries)

  pub priority_made : (id : ℕ) (priority : ℤ) (result : Result Unit ClosedStream) (old new : Inner S)
      → OnOk result (IsStep (HasPriority priority) old.space.streams.send new.space.streams.send id 0 × (new ≡ with_streams old (record old.space.streams { send = new.space.streams.send })))
      → OnErr result (new ≡ old) → CarriesAlone old new → IsMadeOnStreams old new []
  priority_made id priority (Ok _) old new ok err carries = (prioritized id priority ok.0 ok.1, on_other old new _ _ ok.1 (alone old new carries))
  priority_made id priority (Err e) old new ok err carries = still old new err carries

  pub read_made : (id max_length : ℕ) (ordered : Bool) (result : Result (Option Chunk) TakeFault) (old new : Inner S)
      → IfOk result (λ o. IsRead max_length ordered id (Ok o) old.space.streams new.space.streams)
      → IfErr result (λ e. IsReadFault max_length ordered id e old.space.streams new.space.streams)
      → new ≡ with_streams old new.space.streams → Carries old new (take_acts id result) → IsMadeOnStreams old new (take_acts id result)
  read_made id max_length ordered result old new ok err rest carries = (read max_length ordered id result ok err rest, on_other old new _ _ rest carries)

  pub stop_made : (id code : ℕ) (result : Result Unit ClosedStream) (old new : Inner S)
      → OnOk result (IsRecvStep (Stops code) old.space.streams.recv new.space.streams.recv id 0
      × (new ≡ with_streams old (counted_closed (record old.space.streams { recv = new.space.streams.recv }) id (is_live old.space.streams id))))
      → OnErr result (new ≡ old) → Carries old new (stop_acts id code result) → IsMadeOnStreams old new (stop_acts id code result)
  stop_made id code (Ok _) old new ok err carries = (stopped id code ok.0 ok.1, on_other old new _ _ ok.1 carries)
  stop_made id code (Err e) old new ok err carries = (unchanged err, goes_on old new [] (same_by old new old (itself old) err) carries)

  pub received_reset_made : (id : ℕ) (result : Result (Option ℕ) ClosedStream) (old new : Inner S)
      → IfOk result (λ code. IsRecvStep (TakesReset code) old.space.streams.recv new.space.streams.recv id 0
      × (new ≡ with_streams old (counted_closed (record old.space.streams { recv = new.space.streams.recv }) id (is_live old.space.streams id))))
      → OnErr result (new ≡ old) → Carries old new (received_reset_acts id result) → IsMadeOnStreams old new (received_reset_acts id result)
  received_reset_made id (Ok code) old new ok err carries = (took_reset id code ok.0 ok.1, on_other old new _ _ ok.1 carries)
  received_reset_made id (Err e) old new ok err carries = (unchanged err, goes_on old new [] (same_by old new old (itself old) err) carries)

  pub concurrent_made : (dir : Dir) (count : ℕ) (old new : Inner S)
      → new ≡ with_streams old (with_counts old.space.streams (is_two_way dir) (record (counts_of old.space.streams (is_two_way dir)) { max_concurrent = count }))
      → CarriesAlone old new → IsMadeOnStreams old new []
  concurrent_made dir count old new is carries = (concurrent dir count is, on_other old new _ _ is (alone old new carries))

  pub send_window_made : (bytes : ℕ) (old new : Inner S) → new ≡ with_streams old (record old.space.streams { send = record old.space.streams.send { send_window = bytes } })
      → CarriesAlone old new → IsMadeOnStreams old new []
  send_window_made bytes old new is carries = (send_window bytes is, on_other old new _ _ is (alone old new carries))

  pub receive_window_made : (bytes : ℕ) (old new : Inner S) → new ≡ with_streams old (record old.space.streams { recv = record old.space.streams.recv { receive_window = bytes } })
      → CarriesAlone old new → IsMadeOnStreams old new []
  receive_window_made bytes old new is carries = (receive_window bytes is, on_other old new _ _ is (alone old new carries))
