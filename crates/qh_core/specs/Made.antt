-- What the public calls do with a connection, each as its contract says it, with what it adds to all that was done with it; and what
-- lists of calls do. So whatever each call carries on is carried on by all that stands above and makes only calls.
use Rattle.std.specs.Prelude.{◌≡◌, ℕ, ℤ, ◌<◌, Bool, true, false, List, [], ◌∷◌, ◌++◌, length, Option, Some, None, Result, Ok, IfOk, IfErr}
use Rattle.std.specs.Option.{option_map}
use Rattle.qh_base.specs.declared.connection_error.ConnectionError.{ConnectionError}
use Rattle.qh_base.specs.declared.connection_error.ConnectionError.TheVariants.{LocallyClosed, Memory}
use Rattle.qh_base.specs.declared.path.Transmit.{Transmit}
use Rattle.qh_base.specs.declared.time.Moment.{Moment}
use Rattle.qh_base.specs.declared.transport_error.TransportError.{TransportError}
use Rattle.qh_buffers.specs.declared.assembler.Chunk.{Chunk}
use Rattle.qh_core.specs.Event.{IsDrainedTold, IsPolledEvent, is_drained}
use Rattle.qh_core.specs.Follows.{Follows, control_acts, event_acts, transmit_acts, take_acts}
use Rattle.qh_core.specs.Inner.{IsFailedBy, IsSameEnd, is_open, with_space, with_streams}
use Rattle.qh_core.specs.Receiving.{IsClosedHeard, IsClosedWith, IsDrainingFrom, IsEventTaken, IsFaulted, IsWantingFor, handed_at, received}
use Rattle.qh_core.specs.Sending.{ClosesReadBack, IsControlSent, IsDatagramMade, NothingIsSent, without_close_due}
use Rattle.qh_core.specs.Streams.{IsRead, IsReadFault, IsWriteRefused}
use Rattle.qh_core.specs.Timers.{IsKeptByTimers, IsTimedOut, IsUndisturbed, restarted, sent_at}
use Rattle.qh_core.specs.declared.control.ControlFrame.{ControlFrame}
use Rattle.qh_core.specs.declared.control.ControlSent.{ControlSent}
use Rattle.qh_core.specs.declared.event.ConnectionEvent.{ConnectionEvent}
use Rattle.qh_core.specs.declared.event.EndpointEvent.{EndpointEvent}
use Rattle.qh_core.specs.declared.event.Event.{Event}
use Rattle.qh_core.specs.declared.fault.TakeFault.{TakeFault}
use Rattle.qh_core.specs.declared.inner.Inner.{Inner}
use Rattle.qh_core.specs.declared.state.Close.TheVariants.{Application}
use Rattle.qh_half.specs.declared.fault.WriteFault.{WriteFault}
use Rattle.qh_halves.specs.RecvHalves.{IsRecvStep, Stops, TakesReset}
use Rattle.qh_halves.specs.SendHalves.{IsStep, Takes, Finishes, IsResetWith, HasPriority, write_fault_at}
use Rattle.qh_space.specs.Space.{AreUnused}
use Rattle.qh_spec.specs.StreamId.{stream_id}
use Rattle.qh_spec.specs.Transcript.{Act, Wrote, Finished, Reset, Stopped}
use Rattle.qh_spec.specs.declared.sides.Dir.{Dir}
use Rattle.qh_spec.specs.declared.sides.Side.{Side}
use Rattle.qh_spec.specs.declared.sides.Space.{Space}
use Rattle.qh_streams.specs.Items.{first_items}
use Rattle.qh_streams.specs.Streams.{IsOpened, counts_of, counted_closed, is_live, is_two_way, with_accepted, with_counts}
use Rattle.qh_transcript.specs.Receiving.{reset_acts}

-- what a session takes for the tag of a packet, by its sender, space and number, and which tag it makes
abbrev pub AcceptsTags : Type 0 → Type 0
AcceptsTags S = S → Side → Space → ℕ → List ℕ → Bool

abbrev pub MakesTagsOf : Type 0 → Type 0
MakesTagsOf S = S → Side → Space → ℕ → List ℕ

module _ {S : Type 0} where
  -- a call on streams, with what it adds
  pub data IsStreamCall (old new : Inner S) : List Act → Type 0 where
    -- it was refused, or there was nothing for it to do, or memory lacked
    unchanged : new ≡ old → IsStreamCall old new []
    opened : (dir : Dir) (id : ℕ) → is_open old.state ≡ true → id ≡ stream_id old.space.streams.side dir (counts_of old.space.streams (is_two_way dir)).opened
        → (counts_of old.space.streams (is_two_way dir)).opened < (counts_of old.space.streams (is_two_way dir)).max_opened
        → IsOpened old.space.streams new.space.streams id → new ≡ with_streams old new.space.streams → IsStreamCall old new []
    accepted : (dir : Dir) → (counts_of old.space.streams (is_two_way dir)).accepted < (counts_of old.space.streams (is_two_way dir)).arrived
        → new ≡ with_streams old (with_counts old.space.streams (is_two_way dir) (with_accepted (counts_of old.space.streams (is_two_way dir)))) → IsStreamCall old new []
    wrote : (id count : ℕ) (bytes : List ℕ) → is_open old.state ≡ true → write_fault_at old.space.streams.send id ≡ None
        → IsStep (Takes bytes) old.space.streams.send new.space.streams.send id count → new ≡ with_streams old (record old.space.streams { send = new.space.streams.send })
        → IsStreamCall old new (Wrote id bytes ∷ [])
    unwritten : (id : ℕ) (fault : WriteFault) → IsWriteRefused id fault old new → IsStreamCall old new []
    finished : (id : ℕ) → IsStep Finishes old.space.streams.send new.space.streams.send id 0
        → new ≡ with_streams old (record old.space.streams { send = new.space.streams.send }) → IsStreamCall old new (Finished id ∷ [])
    reset : (id code : ℕ) → IsStep (IsResetWith code) old.space.streams.send new.space.streams.send id 0
        → new ≡ with_streams old (record old.space.streams { send = new.space.streams.send }) → IsStreamCall old new (Reset id code ∷ [])
    prioritized : (id : ℕ) (priority : ℤ) → IsStep (HasPriority priority) old.space.streams.send new.space.streams.send id 0
        → new ≡ with_streams old (record old.space.streams { send = new.space.streams.send }) → IsStreamCall old new []
    read : (max_length : ℕ) (ordered : Bool) (id : ℕ) (answer : Result (Option Chunk) TakeFault)
        → IfOk answer (λ o. IsRead max_length ordered id (Ok o) old.space.streams new.space.streams)
        → IfErr answer (λ e. IsReadFault max_length ordered id e old.space.streams new.space.streams)
        → new ≡ with_streams old new.space.streams → IsStreamCall old new (take_acts id answer)
    stopped : (id code : ℕ) → IsRecvStep (Stops code) old.space.streams.recv new.space.streams.recv id 0
        → new ≡ with_streams old (counted_closed (record old.space.streams { recv = new.space.streams.recv }) id (is_live old.space.streams id))
        → IsStreamCall old new (Stopped id code ∷ [])
    took_reset : (id : ℕ) (code : Option ℕ) → IsRecvStep (TakesReset code) old.space.streams.recv new.space.streams.recv id 0
        → new ≡ with_streams old (counted_closed (record old.space.streams { recv = new.space.streams.recv }) id (is_live old.space.streams id))
        → IsStreamCall old new (reset_acts id code)
    concurrent : (dir : Dir) (count : ℕ)
        → new ≡ with_streams old (with_counts old.space.streams (is_two_way dir) (record (counts_of old.space.streams (is_two_way dir)) { max_concurrent = count }))
        → IsStreamCall old new []
    send_window : (bytes : ℕ) → new ≡ with_streams old (record old.space.streams { send = record old.space.streams.send { send_window = bytes } }) → IsStreamCall old new []
    receive_window : (bytes : ℕ) → new ≡ with_streams old (record old.space.streams { recv = record old.space.streams.recv { receive_window = bytes } }) → IsStreamCall old new []

  -- a call of a handshake beside the end, whose packets are of the other packet number spaces
  pub data IsTurned (old new : Inner S) : Type 0 where
    faulted : (now : Moment) (error : TransportError) → is_drained old.state ≡ false → IsFaulted now error old new → IsTurned old new
    draining : (now : Moment) (error : ConnectionError) → is_drained old.state ≡ false → (error ≡ Memory → ⊥) → IsDrainingFrom now error old new → IsTurned old new
    -- memory lacked outside of the end
    failed : IsFailedBy old new → new.space.packets_lost ≡ old.space.packets_lost → new.space.probes_sent ≡ old.space.probes_sent → IsTurned old new
    close_told : new ≡ record old { state = without_close_due old.state } → IsTurned old new
    closed_heard : (brings_close : Bool) → is_open old.state ≡ false → IsClosedHeard brings_close old new → IsTurned old new
    packet_accepted : (now : Moment) → new ≡ record old { idle = restarted now old.idle } → IsTurned old new
    packet_sent : (now : Moment) → new ≡ record old { idle = sent_at now old.idle } → IsTurned old new
    -- the peer is heard under another id
    renamed : (id : List ℕ) → length id ≡ length old.remote_id → new ≡ record old { remote_id = id } → IsTurned old new
    log_started : AreUnused old.space.streams old.space.streams.peer → ((two_way : Bool) → (counts_of old.space.streams two_way).arrived ≡ 0) → old.space.log ≡ None
        → new ≡ with_space old (record old.space { log = Some (first_items old.space.streams.peer) }) → IsTurned old new
    items_taken : new ≡ with_space old (record old.space { log = option_map (λ _. []) old.space.log }) → IsTurned old new

  -- a call that hands no datagram in or out, with what it adds
  pub data IsLocalCall (old new : Inner S) : List Act → Type 0 where
    timeout : (now : ℕ) → IsTimedOut now old new → IsKeptByTimers now old new → IsLocalCall old new []
    closed : (now : Moment) (code : ℕ) (reason : List ℕ)
        → (is_open old.state ≡ true → IsClosedWith now (Application (record { error_code = code; reason = reason })) LocallyClosed old new)
        → (is_open old.state ≡ false → new ≡ old) → IsLocalCall old new []
    polled : (told : Option Event) → IsPolledEvent old new told → IsLocalCall old new []
    endpoint_polled : (told : Option EndpointEvent) → IsDrainedTold old new told → IsLocalCall old new []
    on_streams : (acts : List Act) → IsStreamCall old new acts → IsLocalCall old new acts
    turned : IsTurned old new → IsLocalCall old new []

  -- a call, with what it adds, of a connection whose session takes these tags, and makes those
  pub data IsAnyCall (accepts : AcceptsTags S) (sealed : MakesTagsOf S) (old new : Inner S) : List Act → Type 0 where
    handed_in : (event : ConnectionEvent) → IsEventTaken (accepts old.session) event old new → IsUndisturbed (handed_at event) old new
        → IsAnyCall accepts sealed old new (event_acts event)
    -- memory lacked for what was handed in
    lost : (event : ConnectionEvent) → IsFailedBy (received event old) new → IsWantingFor (accepts old.session) event old → IsAnyCall accepts sealed old new (event_acts event)
    handed_out : (now : Moment) (before after : List ℕ) (transmit : Transmit) → IsDatagramMade (sealed old.session) now old new before after transmit → ClosesReadBack old.state
        → IsUndisturbed now old new → IsAnyCall accepts sealed old new (transmit_acts before after (Ok (Some transmit)))
    -- a datagram of frames of the connection's own
    control_out : (now : Moment) (before after : List ℕ) (frames : List ControlFrame) (sent : ControlSent) → IsControlSent (sealed old.session) now old new before after frames sent
        → IsUndisturbed now old new → IsAnyCall accepts sealed old new (control_acts before after (Ok (Some sent)))
    nothing_sent : NothingIsSent old new → IsAnyCall accepts sealed old new []
    -- memory lacked for a datagram
    unsent : IsFailedBy old new → IsAnyCall accepts sealed old new []
    local : (acts : List Act) → IsLocalCall old new acts → IsAnyCall accepts sealed old new acts

  -- what holds of every call: the connection goes on following all that was done with it, and is the same end, with the same session
  pub record GoesOn (old new : Inner S) (acts : List Act) : Type 0 where
    pub follows : (t : List Act) → Follows old t → Follows new (t ++ acts)
    pub same_end : IsSameEnd old new
    pub same_session : new.session ≡ old.session

  -- a call on streams, one without a datagram, any call
  abbrev pub IsMadeOnStreams : (old new : Inner S) → List Act → Type 0
  IsMadeOnStreams old new acts = IsStreamCall old new acts × GoesOn old new acts

  abbrev pub IsMadeLocally : (old new : Inner S) → List Act → Type 0
  IsMadeLocally old new acts = IsLocalCall old new acts × GoesOn old new acts

  abbrev pub IsMade : AcceptsTags S → MakesTagsOf S → (old new : Inner S) → List Act → Type 0
  IsMade accepts sealed old new acts = IsAnyCall accepts sealed old new acts × GoesOn old new acts

  -- steps one after another, with what they add together
  pub data AreSteps (Step : Inner S → Inner S → List Act → Type 0) (old : Inner S) : (new : Inner S) → List Act → Type 0 where
    none : AreSteps Step old old []
    more : (mid new : Inner S) (acts last : List Act) → AreSteps Step old mid acts → Step mid new last → AreSteps Step old new (acts ++ last)

  -- the connection was made the other by such calls, and these acts are what they add
  abbrev pub AreMadeOnStreams : (old new : Inner S) → List Act → Type 0
  AreMadeOnStreams old new acts = AreSteps IsMadeOnStreams old new acts

  abbrev pub AreMadeLocally : (old new : Inner S) → List Act → Type 0
  AreMadeLocally old new acts = AreSteps IsMadeLocally old new acts

  abbrev pub AreMade : AcceptsTags S → MakesTagsOf S → (old new : Inner S) → List Act → Type 0
  AreMade accepts sealed old new acts = AreSteps (IsMade accepts sealed) old new acts
