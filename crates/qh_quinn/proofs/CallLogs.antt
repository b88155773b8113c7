-- No call changes what the connection logs.
use Rattle.std.proofs.Common.{◌≡◌, ℕ, ◌==◌, ◌&&◌, ◌-◌, Bool, true, false, not, ℤ, List, [], take, Option, None, Some, is_some, MatchBool, refl, ap, inl, inr, ◌∙◌}
use Rattle.qh_base.specs.declared.connection_error.ConnectionError.{ConnectionError}
use Rattle.qh_base.specs.declared.time.Moment.{Moment}
use Rattle.std.specs.Prelude.{MatchOption}
use Rattle.qh_book.specs.declared.call.Call.{Call}
use Rattle.qh_book.specs.declared.call.Call.TheVariants as call
use Rattle.qh_book.specs.declared.call.Setting.{Setting}
use Rattle.qh_book.specs.declared.call.Setting.TheVariants as setting
use Rattle.qh_book.specs.declared.reply.Reply.{Reply}
use Rattle.qh_book.specs.declared.reply.Reply.TheVariants as reply
use Rattle.qh_conn.specs.Items.{came}
use Rattle.qh_conn.specs.Telling.{IsEndpointTold}
use Rattle.qh_conn.specs.declared.connection.Connection.{Connection}
use Rattle.qh_control.specs.Items.{logged, streamed}
use Rattle.qh_control.specs.declared.event.EndpointEvent.{EndpointEvent}
use Rattle.qh_control.specs.declared.items.ConnectionItem.{ConnectionItem}
use Rattle.qh_core.specs.Event.{IsDrainedTold}
use Rattle.qh_core.specs.Inner.{is_open, with_streams}
use Rattle.qh_core.specs.Streams.{IsWriteRefused}
use Rattle.qh_core.specs.declared.event.EndpointEvent.{EndpointEvent as CoreEndpointEvent}
use Rattle.qh_core.specs.declared.inner.Inner.{Inner}
use Rattle.qh_half.specs.Recv.{PlainRecv}
use Rattle.qh_half.specs.Send.{PlainSend}
use Rattle.qh_half.specs.declared.fault.WriteFault.{WriteFault}
use Rattle.qh_half.specs.declared.fault.WriteFault.TheVariants as write_faults
use Rattle.qh_halves.specs.RecvHalves.{Stops, TakesReset}
use Rattle.qh_halves.specs.SendHalves.{Finishes, HasPriority, IsResetWith, Takes}
use Rattle.qh_quinn.specs.Calls.{ClosesWith, EndsHalfOf, EndsHandleOf, IsCalled, IsQueued, IsReceived, IsSet}
use Rattle.qh_quinn.specs.Readers.{reader_in}
use Rattle.qh_quinn.specs.Streaming.{AcceptsOne, EndsReading, EndsSending, FinishesOne, GivesNone, IsOnStreams, IsRecvChange, IsRefusedAs, IsSendChange, OpensOne, PrioritizesOne, ReadsIn, ResetsOne, StopsReading, WritesTo, asks_reset, is_reading, is_stopped_by_end, told_code}
use Rattle.qh_quinn.specs.declared.inner.StateInner.{StateInner}
use Rattle.qh_quinn.specs.declared.readers.Reader.{Reader}
use Rattle.qh_spec.specs.declared.sides.Dir.{Dir}
use Rattle.qh_streams.specs.Streams.{counted_closed, counts_of, is_live, is_two_way, with_accepted, with_counts}
use Rattle.qh_streams.specs.declared.items.Item.{Item}

module _ {S : Type 0} where
  -- the logs of the connection, and of its streams, are the same
  pub record KeepsLogs (old new : Connection S) : Type 0 where
    pub own : new.control.log ≡ old.control.log
    pub streams : new.core.space.log ≡ old.core.space.log

  pub came_by : (old new : Connection S) → KeepsLogs old new → came new ≡ came old
  came_by old new h =
      ap (λ (l : Option (List ConnectionItem)). logged l (streamed new.core.space.log)) h.own ∙ ap (λ (l : Option (List Item)). logged old.control.log (streamed l)) h.streams

  -- it is this one, whose logs are those of the old one
  by : (old new to : Connection S) → new ≡ to → to.control.log ≡ old.control.log → to.core.space.log ≡ old.core.space.log → KeepsLogs old new
  by old new to is own streams = record { own = ap (λ (z : Connection S). z.control.log) is ∙ own; streams = ap (λ (z : Connection S). z.core.space.log) is ∙ streams }

  itself : (old new : Connection S) → new ≡ old → KeepsLogs old new
  itself old new is = by old new old is refl refl

  then : (old mid new : Connection S) → KeepsLogs old mid → KeepsLogs mid new → KeepsLogs old new
  then old mid new x y = record { own = y.own ∙ x.own; streams = y.streams ∙ x.streams }

  on_streams : (old new : Connection S) → IsOnStreams old new → KeepsLogs old new
  on_streams old new is = by old new (record old { core = with_streams old.core new.core.space.streams }) is refl refl

  sends : (P : PlainSend → PlainSend → Type 0) (id taken : ℕ) (old new : Connection S) → IsSendChange P id taken old new → KeepsLogs old new
  sends P id taken old new h = by old new (record old { core = with_streams old.core (record old.core.space.streams { send = new.core.space.streams.send }) }) h.rest refl refl

  recvs : (P : PlainRecv → PlainRecv → Type 0) (id : ℕ) (old new : Connection S) → IsRecvChange P id old new → KeepsLogs old new
  recvs P id old new h =
      by old new (record old { core = with_streams old.core (counted_closed (record old.core.space.streams { recv = new.core.space.streams.recv }) id (is_live old.core.space.streams id)) }) h.rest refl refl

  -- ---- closes

  closes : (one other : Moment) (code : ℕ) (reason : List ℕ) (old new : Connection S) → ClosesWith one other code reason old new → KeepsLogs old new
  closes one other code reason old new h = at (is_open old.core.state) refl
    where
      at : (up : Bool) → is_open old.core.state ≡ up → KeepsLogs old new
      at false shut = itself old new (h.kept shut)
      at true up = record {
        own = ap (λ (z : Connection S). z.control.log) h.rest;
        streams = ap (λ (z : Inner S). z.space.log) (h.closed up).rest_is;
      }

  ends_handle : (handles : ℕ) (error : Option ConnectionError) (last_turn : Moment) (old new : Connection S) → EndsHandleOf handles error last_turn old new → KeepsLogs old new
  ends_handle handles error last_turn old new h = at (handles - 1 == 0 && not (is_some error)) h
    where
      at : (last : Bool) → MatchBool last (ClosesWith last_turn last_turn 0 [] old new) (new ≡ old) → KeepsLogs old new
      at true closed = closes last_turn last_turn 0 [] old new closed
      at false same = itself old new same

  ends_half : (Half : Connection S → Connection S → Type 0) (handles : ℕ) (error : Option ConnectionError) (last_turn : Moment) (old new : Connection S) → ((mid : Connection S) → Half old mid → KeepsLogs old mid)
      → EndsHalfOf Half handles error last_turn old new → KeepsLogs old new
  ends_half Half handles error last_turn old new halves h = then old h.mid new (halves h.mid h.half) (ends_handle handles error last_turn h.mid new h.ends)

  -- ---- what the endpoint is told

  told_drained : (told : Option CoreEndpointEvent) (old new : Inner S) → IsDrainedTold old new told → new.space.log ≡ old.space.log
  told_drained _ old new (IsDrainedTold.drained is untold rest) = ap (λ (z : Inner S). z.space.log) rest
  told_drained _ old new (IsDrainedTold.none quiet same) = ap (λ (z : Inner S). z.space.log) same

  pub tells_endpoint : (told : Option EndpointEvent) (old new : Connection S) → IsEndpointTold old new told → KeepsLogs old new
  tells_endpoint _ old new (IsEndpointTold.control told is rest) = by old new (record old { control = record old.control { endpoint_events = new.control.endpoint_events } }) rest refl refl
  tells_endpoint _ old new (IsEndpointTold.of_core told none over rest) = by old new (record old { core = new.core }) rest refl (told_drained _ old.core new.core over)

  -- ---- streams

  either : (t : Bool) (A : Type 0) (old new : Connection S) → MatchBool t A (new ≡ old) → (A → KeepsLogs old new) → KeepsLogs old new
  either true A old new h f = f h
  either false A old new h f = itself old new h

  read_or : (t : Bool) (A B : Type 0) (old new : Connection S) → MatchBool t A (B × (new ≡ old)) → (A → KeepsLogs old new) → KeepsLogs old new
  read_or true A B old new h f = f h
  read_or false A B old new h f = itself old new h.1

  stops : (id code : ℕ) (old new : Connection S) → StopsReading id code old new → KeepsLogs old new
  stops id code old new (StopsReading.stopped mid x y) = then old mid new (recvs (TakesReset None) id old mid x) (recvs (Stops code) id mid new y)
  stops id code old new (StopsReading.was_reset reset x) = recvs (TakesReset (Some reset)) id old new x

  ends_sending : (id : ℕ) (old new : Connection S) → EndsSending id old new → KeepsLogs old new
  ends_sending id old new (EndsSending.finished h) = sends Finishes id 0 old new h
  ends_sending id old new (EndsSending.reset code h) = sends (IsResetWith code) id 0 old new h
  ends_sending id old new (EndsSending.kept h) = itself old new h

  refused : (e : WriteFault) (id : ℕ) (old new : Connection S) → IsRefusedAs e id old new → KeepsLogs old new
  refused e id old new (inl h) = itself old new h.2
  refused e id old new (inr (IsWriteRefused.closed up is same, rest)) = by old new (record old { core = new.core }) rest refl (ap (λ (z : Inner S). z.space.log) same)
  refused e id old new (inr (IsWriteRefused.wanting up may is same, rest)) = by old new (record old { core = new.core }) rest refl (ap (λ (z : Inner S). z.space.log) same)
  refused e id old new (inr (IsWriteRefused.refused up is noted, rest)) = by old new (record old { core = new.core }) rest refl (ap (λ (z : Inner S). z.space.log) noted)

  sets : (s : Setting) (old new : Connection S) → IsSet s old new → KeepsLogs old new
  sets (setting.MaxConcurrentUniStreams count) old new h = record { own = ap (λ (z : Connection S). z.control.log) h; streams = ap (λ (z : Connection S). z.core.space.log) h }
  sets (setting.MaxConcurrentBiStreams count) old new h = record { own = ap (λ (z : Connection S). z.control.log) h; streams = ap (λ (z : Connection S). z.core.space.log) h }
  sets (setting.SendWindow bytes) old new h = record { own = ap (λ (z : Connection S). z.control.log) h; streams = ap (λ (z : Connection S). z.core.space.log) h }
  sets (setting.ReceiveWindow bytes) old new h = record { own = ap (λ (z : Connection S). z.control.log) h; streams = ap (λ (z : Connection S). z.core.space.log) h }

  module _ {T : Type 0} where
    opens : (dir : Dir) (r : Reply T) (old new : Connection S) → OpensOne dir r old new → KeepsLogs old new
    opens dir (reply.Opened id) old new h = on_streams old new h.rest
    opens dir r old new h = itself old new h

    accepts : (dir : Dir) (r : Reply T) (old new : Connection S) → AcceptsOne dir r old new → KeepsLogs old new
    accepts dir (reply.Opened id) old new h = by old new (record old { core = with_streams old.core (with_counts old.core.space.streams (is_two_way dir) (with_accepted (counts_of old.core.space.streams (is_two_way dir)))) }) h.is refl refl
    accepts dir r old new h = itself old new h

    writes : (id : ℕ) (payload : List ℕ) (r : Reply T) (old new : Connection S) → WritesTo id payload r old new → KeepsLogs old new
    writes id payload (reply.Count n) old new h = sends (Takes (take n payload)) id n old new h.change
    writes id payload reply.Pending old new h = refused write_faults.Blocked id old new h
    writes id payload (reply.Stopped code) old new h = refused (write_faults.Stopped code) id old new h
    writes id payload reply.ClosedStream old new h = refused write_faults.ClosedStream id old new h
    writes id payload r old new h = itself old new h

    finishes : (id : ℕ) (r : Reply T) (old new : Connection S) → FinishesOne id r old new → KeepsLogs old new
    finishes id reply.Done old new (inl h) = sends Finishes id 0 old new h
    finishes id reply.Done old new (inr h) = itself old new h.same
    finishes id r old new h = itself old new h

    resets : (id code : ℕ) (r : Reply T) (old new : Connection S) → ResetsOne id code r old new → KeepsLogs old new
    resets id code reply.Done old new h = sends (IsResetWith code) id 0 old new h
    resets id code r old new h = itself old new h

    prioritizes : (id : ℕ) (priority : ℤ) (r : Reply T) (old new : Connection S) → PrioritizesOne id priority r old new → KeepsLogs old new
    prioritizes id priority reply.Done old new h = sends (HasPriority priority) id 0 old new h
    prioritizes id priority r old new h = itself old new h

    reads : (id max_length : ℕ) (is_ordered : Bool) (r : Reply T) (old new : Connection S) → ReadsIn id max_length is_ordered r old new → KeepsLogs old new
    reads id max_length is_ordered (reply.Bytes offset bytes) old new (inl h) = on_streams old new h.1
    reads id max_length is_ordered (reply.Bytes offset bytes) old new (inr h) = itself old new h.2
    reads id max_length is_ordered reply.Ended old new h = on_streams old new h.1
    reads id max_length is_ordered (reply.Reset code) old new h = on_streams old new h.1
    reads id max_length is_ordered reply.Pending old new h = on_streams old new h.1
    reads id max_length is_ordered (reply.ConnectionLost e) old new h = on_streams old new h.1
    reads id max_length is_ordered r old new h = itself old new h

    queues : (payload : List ℕ) (wait : Bool) (r : Reply T) (old new : Connection S) → IsQueued payload wait r old new → KeepsLogs old new
    queues payload wait reply.Done old new h = record { own = ap (λ (z : Connection S). z.control.log) h; streams = ap (λ (z : Connection S). z.core.space.log) h }
    queues payload wait reply.Pending old new h = record { own = ap (λ (z : Connection S). z.control.log) h; streams = ap (λ (z : Connection S). z.core.space.log) h }
    queues payload wait r old new h = itself old new h

    receives : (r : Reply T) (old new : Connection S) → IsReceived r old new → KeepsLogs old new
    receives (reply.Datagram payload) old new h = record { own = ap (λ (z : Connection S). z.control.log) h.rest; streams = ap (λ (z : Connection S). z.core.space.log) h.rest }
    receives r old new h = itself old new h

    pub called : (c : Call) (r : Reply T) (old new : StateInner S) → IsCalled c r old new → KeepsLogs old.connection new.connection
    called (call.Close now code reason) r old new h = closes now old.last_turn code reason old.connection new.connection h
    called call.EndHandle r old new h = ends_handle old.handles old.error old.last_turn old.connection new.connection h
    called (call.EndSend id) r old new h = ends_half (EndsSending id.0) old.handles old.error old.last_turn old.connection new.connection (λ mid. ends_sending id.0 old.connection mid) h
    called (call.EndRecv id) r old new h = at (reader_in old.readers id.0) h
      where
        at : (reader : Option Reader) → MatchOption reader (new.connection ≡ old.connection) (λ reader. EndsHalfOf (EndsReading old.error reader id.0) old.handles old.error old.last_turn old.connection new.connection) → KeepsLogs old.connection new.connection
        at None same = itself old.connection new.connection same
        at (Some reader) half =
            ends_half (EndsReading old.error reader id.0) old.handles old.error old.last_turn old.connection new.connection
            (λ mid x. either (is_stopped_by_end old.error reader) (StopsReading id.0 0 old.connection mid) old.connection mid x (stops id.0 0 old.connection mid)) half
    called (call.Set setting) r old new h = sets setting old.connection new.connection h
    called (call.SendDatagram payload wait) r old new h = queues payload wait r old.connection new.connection h
    called call.ReadDatagram r old new h = receives r old.connection new.connection h
    called (call.Open dir) r old new h = opens dir r old.connection new.connection h
    called (call.Accept dir) r old new h = accepts dir r old.connection new.connection h
    called (call.Read id max_length is_ordered) r old new h =
        read_or (is_reading old id.0) (ReadsIn id.0 max_length is_ordered r old.connection new.connection) (GivesNone r) old.connection new.connection h (reads id.0 max_length is_ordered r old.connection new.connection)
    called (call.Write id payload) r old new h = writes id.0 payload r old.connection new.connection h
    called (call.Finish id) r old new h = finishes id.0 r old.connection new.connection h
    called (call.Reset id code) r old new h = resets id.0 code r old.connection new.connection h
    called (call.Stop id code) r old new h = either (is_reading old id.0) (StopsReading id.0 code old.connection new.connection) old.connection new.connection h (stops id.0 code old.connection new.connection)
    called (call.ReceivedReset id) r old new h =
        either (asks_reset old id.0) (IsRecvChange (TakesReset (told_code r)) id.0 old.connection new.connection) old.connection new.connection h (recvs (TakesReset (told_code r)) id.0 old.connection new.connection)
    called (call.SetPriority id priority) r old new h = prioritizes id.0 priority r old.connection new.connection h
    called c r old new h = itself old.connection new.connection h
