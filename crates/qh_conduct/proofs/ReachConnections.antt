-- What a connection knows of its streams came in datagrams, over each of its calls.
use Rattle.std.proofs.Common.{◌≡◌, ◌⊎◌, ℕ, ◌+◌, ◌==◌, if◌then◌else◌, Bool, true, false, List, [], ◌∷◌, ◌++◌, length, Option, Some, None, Result, Err, refl, sym, ap, subst, ◌∙◌, inl, inr}
use Rattle.std.specs.Prelude.{MatchBool, ◌||◌}
use Rattle.std.proofs.lemmas.Bool.{both_ways}
use Rattle.qh_base.specs.declared.connection_error.ConnectionError.{ConnectionError}
use Rattle.qh_base.specs.declared.connection_error.ConnectionError.TheVariants as error
use Rattle.qh_base.specs.declared.path.Transmit.{Transmit}
use Rattle.qh_base.specs.declared.time.Moment.{Moment}
use Rattle.qh_base.specs.declared.transport_error.TransportError.{TransportError}
use Rattle.qh_buffers.specs.declared.assembler.Chunk.{Chunk}
use Rattle.qh_conduct.proofs.ReachFrames.{opened_reached}
use Rattle.qh_conduct.proofs.ReachSpaces.{Came, all_frames}
use Rattle.qh_conduct.proofs.ReachSteps as step
use Rattle.qh_conduct.proofs.SpaceGoesOn.{bare_streams}
use Rattle.qh_conduct.proofs.TurnedAside.{IsAside}
use Rattle.qh_conduct.specs.Reached.{AreNamed, AreReached, CameIn, HasNothingYet, HasReached, IsLostForMemory, IsUntouched, Reached}
use Rattle.qh_core.proofs.Ends.{ended_with}
use Rattle.qh_core.specs.Event.{IsDrainedTold, IsPolledEvent}
use Rattle.qh_core.specs.Event.IsDrainedTold.{drained as told_drained, none as not_drained}
use Rattle.qh_core.specs.Event.IsPolledEvent.{stream as told_stream, lost as told_lost, none as told_nothing}
use Rattle.qh_core.specs.Follows.{HasComing, HasFrame, event_acts}
use Rattle.qh_core.specs.Inner.{IsFailedBy, is_open, with_streams}
use Rattle.qh_core.specs.Receiving.{GoesOnWith, HasContent, IsClosedWith, IsDatagramTaken, IsEventTaken, IsFaulted, IsOpenedBy, IsPacketHandled, IsPacketTaken, received}
use Rattle.qh_core.specs.Receiving.IsDatagramTaken.{dropped, handled, told_again, closed_too, draining as in_draining, drained as in_drained}
use Rattle.qh_core.specs.Receiving.IsPacketHandled.{repeated, empty, faulty, unnoted, taken as in_taken}
use Rattle.qh_core.specs.Sending.{AreFramesMade, IsDatagramMade, NothingIsSent, overhead}
use Rattle.qh_core.specs.Sending.AreFramesMade.{packet as packet_made, control as control_made, close as close_made}
use Rattle.qh_core.specs.Streams.{IsRead, IsReadFault, IsWriteRefused}
use Rattle.qh_core.specs.Streams.IsWriteRefused.{closed as write_closed, wanting as write_wanting, refused as write_refused}
use Rattle.qh_core.specs.Timers.{AreLostByAge, IsProbed, IsTimedOut}
use Rattle.qh_core.specs.Timers.AreLostByAge.{due as some_lost, not_yet as no_loss}
use Rattle.qh_core.specs.Timers.IsProbed.{due as some_probe, not_yet as no_probe}
use Rattle.qh_core.specs.Timers.IsTimedOut.{idle, recovery, closed as out_closed, draining as out_draining, waits, drained as out_drained}
use Rattle.qh_core.specs.declared.event.ConnectionEvent.{ConnectionEvent}
use Rattle.qh_core.specs.declared.event.ConnectionEvent.TheVariants.{Datagram, Close}
use Rattle.qh_core.specs.declared.event.EndpointEvent.{EndpointEvent}
use Rattle.qh_core.specs.declared.event.Event.{Event}
use Rattle.qh_core.specs.declared.fault.TakeFault.{TakeFault}
use Rattle.qh_core.specs.declared.fault.TakeFault.TheVariants.{Readable, Read}
use Rattle.qh_core.specs.declared.inner.Inner.{Inner}
use Rattle.qh_core.specs.declared.state.Close.{Close as CloseReason}
use Rattle.qh_core.specs.declared.state.Close.TheVariants.{Application}
use Rattle.qh_core.specs.declared.state.State.{State}
use Rattle.qh_core.specs.declared.state.State.TheVariants.{Closed, Drained}
use Rattle.qh_half.specs.declared.fault.ReadFault.{ReadFault}
use Rattle.qh_half.specs.declared.fault.WriteFault.{WriteFault}
use Rattle.qh_half.specs.declared.fault.WriteFault.TheVariants as write_fault
use Rattle.qh_halves.specs.RecvHalves.{IsRecvStep, is_wanting, Stops, TakesReset}
use Rattle.qh_halves.specs.SendHalves.{write_limit}
use Rattle.qh_history.proofs.Carried.{by_loss, by_packet, by_probe}
use Rattle.qh_packet.proofs.Packets.{has_packet}
use Rattle.qh_space.specs.declared.data_space.DataSpace.{DataSpace}
use Rattle.qh_spec.proofs.Members.{in_last, in_left}
use Rattle.qh_spec.proofs.TranscriptLaws.{handed_in-append}
use Rattle.qh_spec.specs.Carried.{HasRun}
use Rattle.qh_spec.specs.Link.{other}
use Rattle.qh_spec.specs.Lists.{In}
use Rattle.qh_spec.specs.QuicFrames.{QuicFrame, AreQuicFrames}
use Rattle.qh_spec.specs.StreamId.{stream_id}
use Rattle.qh_spec.specs.Transcript.{Act, HandedIn, handed_in}
use Rattle.qh_spec.specs.declared.sides.Dir.{Dir}
use Rattle.qh_spec.specs.declared.sides.Side.{Side}
use Rattle.qh_spec.specs.declared.sides.Space.{Space}
use Rattle.qh_spec.specs.declared.sides.Space.TheVariants.{Data}
use Rattle.qh_streams.specs.Streams.{PlainStreams, counted_closed, counts_of, is_live, is_two_way, with_accepted, with_blocked, with_counts, IsOpened, IsPolled}
use Rattle.qh_streams.specs.Streams.IsPolled.{writable, queued, none as none_polled}
use Rattle.qh_streams.specs.declared.frames.StreamEvent.{StreamEvent}
use Rattle.qh_streams.specs.declared.frames.StreamFrame.{StreamFrame}
use Rattle.qh_streams.specs.declared.frames.StreamFrame.TheVariants as coming

-- ---- datagrams that came are among those with more

module _ (own : ℕ) (side : Side) (xs ys : List (List ℕ)) (among : (d : List ℕ) → In d xs → In d ys) where
  run_among : (run : _) → HasRun own xs side run → HasRun own ys side run
  run_among run q = record { datagram = q.datagram; among = among q.datagram q.among; packet = q.packet; has = q.has; space_is = q.space_is; sender_is = q.sender_is; frame = q.frame; frame_among = q.frame_among; is = q.is }

  frame_among : (f : QuicFrame) → HasFrame own xs side f → HasFrame own ys side f
  frame_among f q = record { datagram = q.datagram; among = among q.datagram q.among; packet = q.packet; has = q.has; space_is = q.space_is; sender_is = q.sender_is; frame_among = q.frame_among }

  coming_among : (f : StreamFrame) → HasComing own xs side f → HasComing own ys side f
  coming_among f q = record { frame = q.frame; is = q.is; has = frame_among _ q.has }

  pub came_among : (f : StreamFrame) → CameIn own xs side f → CameIn own ys side f
  came_among (coming.Stream id offset payload fin) q = run_among _ q
  came_among (coming.Reset id code size) q = coming_among _ q
  came_among (coming.Stop id code) q = coming_among _ q
  came_among (coming.MaxData limit) q = coming_among _ q
  came_among (coming.MaxStreamData id limit) q = coming_among _ q
  came_among (coming.MaxStreams dir count) q = coming_among _ q

in_more_acts : (t u : List Act) (d : List ℕ) → In d (handed_in t) → In d (handed_in (t ++ u))
in_more_acts t u d is = subst (λ (z : List (List ℕ)). In d z) (sym (handed_in-append t u)) (in_left d (handed_in t) (handed_in u) is)

in_last_act : (t : List Act) (d : List ℕ) → In d (handed_in (t ++ HandedIn d ∷ []))
in_last_act t d = subst (λ (z : List (List ℕ)). In d z) (sym (handed_in-append t (HandedIn d ∷ []))) (in_last d (handed_in t))

-- ---- the streams, where nothing comes

pub polled_untouched : (old new : PlainStreams) (o : Option StreamEvent) → IsPolled old new o → IsUntouched old new
polled_untouched old new o (writable id front rest some is before may e) = step.parts_untouched old new _ e refl refl refl refl refl
polled_untouched old new o (queued event rest none is e) = step.parts_untouched old new _ e refl refl refl refl refl
polled_untouched old new o (none_polled none is e) = step.parts_untouched old new _ e refl refl refl refl refl

nothing_touched : (s : PlainStreams) → IsUntouched s s
nothing_touched s = record { halves = refl; received = refl; opened = λ k. refl; side = refl; arrived = λ b. refl }

may_block : (is_none : Bool) (s t : PlainStreams) → IsUntouched s t → IsUntouched s (if is_none then t else s)
may_block true s t u = u
may_block false s t u = nothing_touched s

pub blocked_untouched : (s : PlainStreams) (id : ℕ) (e : WriteFault) → IsUntouched s (with_blocked s id e)
blocked_untouched s id write_fault.Blocked = may_block (write_limit s.send == 0) s _ (step.parts_untouched s _ _ refl refl refl refl refl refl)
blocked_untouched s id write_fault.Memory = nothing_touched s
blocked_untouched s id write_fault.ClosedStream = nothing_touched s
blocked_untouched s id (write_fault.Stopped code) = nothing_touched s

module _ (side : Side) (frames : List StreamFrame) where
  aged_reached : (now : ℕ) (old new : DataSpace) → AreLostByAge now old new → AreReached side old.streams frames → AreReached side new.streams frames
  aged_reached now old new (some_lost moment largest is before acked lost) p = by_loss (λ s. AreReached side s frames) (step.lost side frames) largest now old new lost p
  aged_reached now old new (no_loss later same) p = subst (λ (s : DataSpace). AreReached side s.streams frames) (sym same) p

  probed_reached : (now : ℕ) (old new : DataSpace) → IsProbed now old new → AreReached side old.streams frames → AreReached side new.streams frames
  probed_reached now old new (some_probe moment is before due) p = by_probe (λ s. AreReached side s frames) (step.lost side frames) old new due p
  probed_reached now old new (no_probe later same) p = subst (λ (s : DataSpace). AreReached side s.streams frames) (sym same) p

  read_reached : (old new : PlainStreams) (max : ℕ) (ordered : Bool) (id : ℕ) (answer : Result (Option Chunk) ReadFault) → IsRead max ordered id answer old new → AreReached side old frames → AreReached side new frames
  read_reached old new max ordered id answer r p = step.read side frames r.mid new id max answer r.reads r.new_is (step.begun side frames old r.mid id (ordered || is_wanting answer) r.begun r.mid_is p)

  read_fault_reached : (old new : PlainStreams) (max : ℕ) (ordered : Bool) (id : ℕ) (e : TakeFault) → IsReadFault max ordered id e old new → AreReached side old frames → AreReached side new frames
  read_fault_reached old new max ordered id (Readable fault) r p = subst (λ (s : PlainStreams). AreReached side s frames) (sym r.1) p
  read_fault_reached old new max ordered id (Read fault) r p = read_reached old new max ordered id (Err fault) r p

module _ {S : Type 0} where
  -- ---- what a connection is, told apart

  abbrev Knows : Inner S → List Act → Type 0
  Knows c t = Reached c t ⊎ IsLostForMemory c

  not_lost : {X : Type 0} (c : Inner S) → is_open c.state ≡ true → IsLostForMemory c → X
  not_lost c opened lost = absurd (both_ways (is_open c.state) (ap is_open lost.0) opened)

  more_acts : (c : Inner S) (t u : List Act) → Knows c t → Knows c (t ++ u)
  more_acts c t u (inl p) = inl (record {
    frames = p.frames;
    came = λ f is. came_among (length c.local_id) (other c.side) (handed_in t) (handed_in (t ++ u)) (in_more_acts t u) f (p.came f is);
    are = p.are;
  })
  more_acts c t u (inr lost) = inr lost

  -- an end of the same side and id, whose streams know what those knew
  known : (old new : Inner S) (t : List Act) → new.side ≡ old.side → new.local_id ≡ old.local_id → ((frames : List StreamFrame) → AreReached old.side old.space.streams frames → AreReached old.side new.space.streams frames)
      → Reached old t → Reached new t
  known old new t side local_id step p = record {
    frames = p.frames;
    came = λ f is. rw (side, local_id) (p.came f is);
    are = rw side (step p.frames p.are);
  }

  moved : (old new : Inner S) (t : List Act) → new.side ≡ old.side → new.local_id ≡ old.local_id → ((frames : List StreamFrame) → AreReached old.side old.space.streams frames → AreReached old.side new.space.streams frames)
      → (IsLostForMemory old → IsLostForMemory new) → Knows old t → Knows new t
  moved old new t side local_id step lost (inl p) = inl (known old new t side local_id step p)
  moved old new t side local_id step lost (inr gone) = inr (lost gone)

  same_knows : (old new : Inner S) (t : List Act) → new ≡ old → Knows old t → Knows new t
  same_knows old new t e = subst (λ (c : Inner S). Knows c t) (sym e)

  -- ---- a call on the streams

  called : (old new : Inner S) (t : List Act) → new ≡ with_streams old new.space.streams → ((frames : List StreamFrame) → AreReached old.side old.space.streams frames → AreReached old.side new.space.streams frames)
      → Knows old t → Knows new t
  called old new t e step =
      moved old new t (ap (λ (c : Inner S). c.side) e) (ap (λ (c : Inner S). c.local_id) e) step
      (λ lost. (ap (λ (c : Inner S). c.state) e ∙ lost.0, ap (λ (c : Inner S). c.error) e ∙ lost.1))

  -- ---- a packet that is taken

  -- what a datagram opens is a packet of the peer's
  pub has_content : (accepts : Side → Space → ℕ → List ℕ → Bool) (c : Inner S) (datagram : List ℕ) (number : ℕ) (bytes : List ℕ) (fs : List QuicFrame) → AreNamed accepts → IsOpenedBy accepts c datagram number bytes
      → AreQuicFrames bytes fs → HasContent c datagram number fs
  has_content accepts c datagram number bytes fs named o are =
      let p = o.is in
      has_packet (length c.local_id) datagram p.packet (other c.side) o.expected number fs p.is.fits p.is.whole (named (other c.side) Data number p.packet.tag p.is_number p.accepted) p.expanded
      (subst (λ (b : List ℕ). AreQuicFrames b fs) (sym p.frames_are) are)

  content_frame : (c : Inner S) (t : List Act) (datagram : List ℕ) (number : ℕ) (fs : List QuicFrame) → HasContent c datagram number fs
      → (q : QuicFrame) → In q fs → HasFrame (length c.local_id) (handed_in (t ++ HandedIn datagram ∷ [])) (other c.side) q
  content_frame c t d number fs has q there = record { datagram = d; among = in_last_act t d; packet = _; has = has; space_is = refl; sender_is = refl; frame_among = there }

  record SamePlace (old new : Inner S) : Type 0 where
    side : new.side ≡ old.side
    local_id : new.local_id ≡ old.local_id
    space : new.space ≡ old.space

  goes_on : (now : Moment) (end : Option ConnectionError) (old new : Inner S) → GoesOnWith now end old new → SamePlace old new
  goes_on now None old new e = rw e (record { side = refl; local_id = refl; space = refl })
  goes_on now (Some e) old new on = rw (ended_with now e old new on).rest_is (record { side = refl; local_id = refl; space = refl })

  packet_taken : (now : Moment) (number : ℕ) (bytes : List ℕ) (old new : Inner S) (t : List Act) → (p : IsPacketTaken now number bytes old new)
      → ((q : QuicFrame) → In q p.surveyed.frames → HasFrame (length old.local_id) (handed_in t) (other old.side) q) → Reached old t → Reached new t
  packet_taken now number bytes old new t a has p =
      let on = goes_on now a.end _ new a.goes_on in
      let begun : AreReached old.side a.mid.streams p.frames = rw (ap (λ (s : DataSpace). s.streams) a.accepted.rest_is) p.are in
      let before : Came old.side (length old.local_id) (handed_in t) a.mid.streams = record { frames = p.frames; came = p.came; are = begun } in
      let after = all_frames old.side (length old.local_id) (handed_in t) now.0 bytes a.mid a.space a.taken a.end a.surveyed.frames a.are_taken a.surveyed.are has before in
      record {
        frames = after.frames;
        came = λ f is. rw (on.side, on.local_id) (after.came f is);
        are = rw (on.side, on.space) after.are;
      }

  faulted : (now : Moment) (e : TransportError) (old new : Inner S) (t : List Act) → is_open old.state ≡ true → IsFaulted now e old new → Knows old t → Knows new t
  faulted now e old new t opened f =
      let is = f.closed.rest_is in
      moved old new t (ap (λ (c : Inner S). c.side) is) (ap (λ (c : Inner S). c.local_id) is) (λ frames p. rw (ap (λ (c : Inner S). c.space) is) p) (not_lost old opened)

  -- ---- a datagram

  module _ (accepts : Side → Space → ℕ → List ℕ → Bool) (now : Moment) (datagram : List ℕ) (named : AreNamed accepts) where
    packet_handled : (number : ℕ) (bytes : List ℕ) (old new : Inner S) (t : List Act) → is_open old.state ≡ true → IsOpenedBy accepts old datagram number bytes → IsPacketHandled now number bytes old new
        → Knows old (t ++ HandedIn datagram ∷ []) → Knows new (t ++ HandedIn datagram ∷ [])
    packet_handled number bytes old new t opened by (repeated is e) p = same_knows old new _ e p
    packet_handled number bytes old new t opened by (empty fault is none says f) p = faulted now fault old new _ opened f p
    packet_handled number bytes old new t opened by (faulty fault kind is at says f) p = faulted now fault old new _ opened f p
    packet_handled number bytes old new t opened by (unnoted fault eliciting is read at f) p = faulted now fault old new _ opened f p
    packet_handled number bytes old new t opened by (in_taken is a) (inl p) =
        let has = has_content accepts old datagram number bytes a.surveyed.frames named by a.surveyed.are in
        inl (packet_taken now number bytes old new (t ++ HandedIn datagram ∷ []) a (content_frame old t datagram number a.surveyed.frames has) p)
    packet_handled number bytes old new t opened by (in_taken is a) (inr lost) = not_lost old opened lost

    -- the state alone changed, of a connection that isn't drained
    shut : (old new : Inner S) (t : List Act) (before state : State) → old.state ≡ before → (before ≡ Drained → ⊥) → new ≡ record old { state = state } → Knows old t → Knows new t
    shut old new t before state was lives e = moved old new t (ap (λ (c : Inner S). c.side) e) (ap (λ (c : Inner S). c.local_id) e) (λ frames p. rw (ap (λ (c : Inner S). c.space) e) p)
        (λ lost. absurd (lives (sym was ∙ lost.0)))

    datagram_taken : (old new : Inner S) (t : List Act) → IsDatagramTaken accepts now datagram old new → Knows old (t ++ HandedIn datagram ∷ []) → Knows new (t ++ HandedIn datagram ∷ [])
    datagram_taken old new t (dropped opened none e) p = same_knows old new _ e p
    datagram_taken old new t (handled number bytes opened by h) p = packet_handled number bytes old new t opened by h p
    datagram_taken old new t (told_again reason due until is none e) p = shut old new _ (Closed reason due until) _ is (λ same. cc) e p
    datagram_taken old new t (closed_too reason due until is brings e) p = shut old new _ (Closed reason due until) _ is (λ same. cc) e p
    datagram_taken old new t (in_draining until is e) p = same_knows old new _ e p
    datagram_taken old new t (in_drained is e) p = same_knows old new _ e p

  -- ---- what is handed in from outside

  counted : (event : ConnectionEvent) (c : Inner S) (t : List Act) → Knows c t → Knows (received event c) t
  counted (Datagram now remote payload) c t (inl p) = inl (record { frames = p.frames; came = p.came; are = p.are })
  counted (Datagram now remote payload) c t (inr lost) = inr lost
  counted (Close now code reason) c t p = p

  closes : (up : Bool) (now : Moment) (reason : CloseReason) (old new : Inner S) (t : List Act) → is_open old.state ≡ up → MatchBool up (IsClosedWith now reason error.LocallyClosed old new) (new ≡ old) → Knows old t → Knows new t
  closes true now reason old new t opened c =
      moved old new t (ap (λ (c : Inner S). c.side) c.rest_is) (ap (λ (c : Inner S). c.local_id) c.rest_is) (λ frames p. rw (ap (λ (c : Inner S). c.space) c.rest_is) p) (not_lost old opened)
  closes false now reason old new t opened e = same_knows old new t e

  event_taken : (accepts : Side → Space → ℕ → List ℕ → Bool) (event : ConnectionEvent) (old new : Inner S) (t : List Act) → AreNamed accepts → IsEventTaken accepts event old new → Knows old t → Knows new (t ++ event_acts event)
  event_taken accepts (Datagram now remote payload) old new t named e p =
      let c : Inner S = received (Datagram now remote payload) old in
      datagram_taken accepts now payload named c new t e (more_acts c t (HandedIn payload ∷ []) (counted (Datagram now remote payload) old t p))
  event_taken accepts (Close now code reason) old new t named e p =
      more_acts new t [] (closes (is_open old.state) now (Application (record { error_code = code; reason = reason })) old new t refl e p)

  -- ---- want of memory

  failed : (old new : Inner S) (t : List Act) → IsFailedBy old new → Knows new t
  failed old new t f = inr (ap (λ (c : Inner S). c.state) f.rest_is, ap (λ (c : Inner S). c.error) f.rest_is)

  -- ---- datagrams that are sent

  none_sent : (old new : Inner S) (t : List Act) → NothingIsSent old new → Knows old t → Knows new t
  none_sent old new t n p = same_knows old new t n.0 p

  frames_made : (now : Moment) (old new : Inner S) (t : List Act) (before frames : List ℕ) → AreFramesMade now old new before frames → Knows old t → Knows new t
  frames_made now old new t before bytes (packet_made opened packet e) =
      moved old new t (ap (λ (c : Inner S). c.side) e) (ap (λ (c : Inner S). c.local_id) e)
      (λ frames. by_packet (λ s. AreReached old.side s frames) (step.lost old.side frames) (step.handed old.side frames) _ _ _ old.space new.space _ _ packet) (not_lost old opened)
  frames_made now old new t before bytes (control_made opened packet e) =
      moved old new t (ap (λ (c : Inner S). c.side) e) (ap (λ (c : Inner S). c.local_id) e)
      (λ frames p. rw (bare_streams now.0 (overhead old + length bytes) old.space new.space packet.sent) p) (not_lost old opened)
  frames_made now old new t before bytes (close_made reason until is are e) =
      moved old new t (ap (λ (c : Inner S). c.side) e) (ap (λ (c : Inner S). c.local_id) e) (λ frames p. rw (ap (λ (c : Inner S). c.space.streams) e) p)
      (λ lost. let never : Closed reason true until ≡ Drained = sym is ∙ lost.0 in absurd (cc))

  datagram_made : (sealed : Side → Space → ℕ → List ℕ) (now : Moment) (old new : Inner S) (before after : List ℕ) (transmit : Transmit) (t : List Act) → IsDatagramMade sealed now old new before after transmit → Knows old t → Knows new t
  datagram_made sealed now old new before after transmit t made = frames_made now old new t _ _ made.bytes.made

  -- ---- moments that are due

  drained_by : (old new : Inner S) (t : List Act) → new ≡ record old { state = Drained } → Knows old t → Knows new t
  drained_by old new t e = moved old new t (ap (λ (c : Inner S). c.side) e) (ap (λ (c : Inner S). c.local_id) e) (λ frames p. rw (ap (λ (c : Inner S). c.space) e) p)
      (λ lost. (ap (λ (c : Inner S). c.state) e, ap (λ (c : Inner S). c.error) e ∙ lost.1))

  timed_out : (now : ℕ) (old new : Inner S) (t : List Act) → IsTimedOut now old new → Knows old t → Knows new t
  timed_out now old new t (idle opened due e) p =
      moved old new t (ap (λ (c : Inner S). c.side) e) (ap (λ (c : Inner S). c.local_id) e) (λ frames q. rw (ap (λ (c : Inner S). c.space) e) q) (not_lost old opened) p
  timed_out now old new t (recovery mid opened early lost probed e) p =
      moved old new t (ap (λ (c : Inner S). c.side) e) (ap (λ (c : Inner S). c.local_id) e)
      (λ frames q. probed_reached old.side frames now mid new.space probed (aged_reached old.side frames now old.space mid lost q)) (not_lost old opened) p
  timed_out now old new t (out_closed reason due until is by e) p = drained_by old new t e p
  timed_out now old new t (out_draining until is by e) p = drained_by old new t e p
  timed_out now old new t (waits moment ends later e) p = same_knows old new t e p
  timed_out now old new t (out_drained is e) p = same_knows old new t e p

  -- ---- what is told

  polled : (old new : Inner S) (o : Option Event) (t : List Act) → IsPolledEvent old new o → Knows old t → Knows new t
  polled old new _ t (told_stream e happened e_is) p = called old new t e_is (λ frames. step.untouched old.side old.space.streams new.space.streams frames (polled_untouched old.space.streams new.space.streams (Some e) happened)) p
  polled old new _ t (told_nothing happened why e_is) p = called old new t e_is (λ frames. step.untouched old.side old.space.streams new.space.streams frames (polled_untouched old.space.streams new.space.streams None happened)) p
  polled old new _ t (told_lost mid err happened is untold e_is) p =
      moved old new t (ap (λ (c : Inner S). c.side) e_is) (ap (λ (c : Inner S). c.local_id) e_is)
      (λ frames q. rw (ap (λ (c : Inner S). c.space.streams) e_is) (step.untouched old.side old.space.streams mid frames (polled_untouched old.space.streams mid None happened) q))
      (λ lost. (ap (λ (c : Inner S). c.state) e_is ∙ lost.0, ap (λ (c : Inner S). c.error) e_is ∙ lost.1)) p

  drain_told : (old new : Inner S) (o : Option EndpointEvent) (t : List Act) → IsDrainedTold old new o → Knows old t → Knows new t
  drain_told old new _ t (told_drained is untold e) p =
      moved old new t (ap (λ (c : Inner S). c.side) e) (ap (λ (c : Inner S). c.local_id) e) (λ frames q. rw (ap (λ (c : Inner S). c.space) e) q)
      (λ lost. (ap (λ (c : Inner S). c.state) e ∙ lost.0, ap (λ (c : Inner S). c.error) e ∙ lost.1)) p
  drain_told old new _ t (not_drained why e) p = same_knows old new t e p

  -- the application closes, where the connection is open
  closed_by : (now : Moment) (reason : CloseReason) (old new : Inner S) (t : List Act) → is_open old.state ≡ true → IsClosedWith now reason error.LocallyClosed old new → Knows old t → Knows new t
  closed_by now reason old new t opened c = closes true now reason old new t opened c

  -- ---- calls on streams

  write_is_refused : (old new : Inner S) (id : ℕ) (e : WriteFault) (t : List Act) → IsWriteRefused id e old new → Knows old t → Knows new t
  write_is_refused old new id e t (write_closed opened is same) p = same_knows old new t same p
  write_is_refused old new id e t (write_wanting opened may is same) p = same_knows old new t same p
  write_is_refused old new id e t (write_refused opened why is) p =
      moved old new t (ap (λ (c : Inner S). c.side) is) (ap (λ (c : Inner S). c.local_id) is)
      (λ frames q. rw (ap (λ (c : Inner S). c.space.streams) is) (step.untouched old.side old.space.streams _ frames (blocked_untouched old.space.streams id e) q))
      (λ lost. (ap (λ (c : Inner S). c.state) is ∙ lost.0, ap (λ (c : Inner S). c.error) is ∙ lost.1)) p

  -- the streams are these now, of which what came is known as before
  on_streams : (old new : Inner S) (s : PlainStreams) (t : List Act) → new ≡ with_streams old s → IsUntouched old.space.streams s → Knows old t → Knows new t
  on_streams old new s t e u =
      moved old new t (ap (λ (c : Inner S). c.side) e) (ap (λ (c : Inner S). c.local_id) e)
      (λ frames q. rw (ap (λ (c : Inner S). c.space.streams) e) (step.untouched old.side old.space.streams s frames u q))
      (λ lost. (ap (λ (c : Inner S). c.state) e ∙ lost.0, ap (λ (c : Inner S). c.error) e ∙ lost.1))

  -- ---- the law

  pub fresh_law : (c : Inner S) → HasNothingYet c.side c.space.streams → HasReached c []
  unfolding HasReached
  fresh_law c n = inl (record { frames = []; came = λ f none. absurd none; are = step.nothing_reached c.side c.space.streams n })

  pub acts_law : (c : Inner S) (t u : List Act) → HasReached c t → HasReached c (t ++ u)
  unfolding HasReached
  acts_law c t u p = more_acts c t u p

  pub event_law : (accepts : Side → Space → ℕ → List ℕ → Bool) (event : ConnectionEvent) (old new : Inner S) (t : List Act) → AreNamed accepts → IsEventTaken accepts event old new → HasReached old t → HasReached new (t ++ event_acts event)
  unfolding HasReached
  event_law accepts event old new t named e p = event_taken accepts event old new t named e p

  pub failed_law : (old new : Inner S) (t : List Act) → IsFailedBy old new → HasReached new t
  unfolding HasReached
  failed_law old new t f = failed old new t f

  pub made_law : (sealed : Side → Space → ℕ → List ℕ) (now : Moment) (old new : Inner S) (before after : List ℕ) (transmit : Transmit) (t : List Act) → IsDatagramMade sealed now old new before after transmit
      → HasReached old t → HasReached new t
  unfolding HasReached
  made_law sealed now old new before after transmit t made p = datagram_made sealed now old new before after transmit t made p

  pub none_law : (old new : Inner S) (t : List Act) → NothingIsSent old new → HasReached old t → HasReached new t
  unfolding HasReached
  none_law old new t none p = none_sent old new t none p

  pub timeout_law : (now : ℕ) (old new : Inner S) (t : List Act) → IsTimedOut now old new → HasReached old t → HasReached new t
  unfolding HasReached
  timeout_law now old new t out p = timed_out now old new t out p

  pub polled_law : (old new : Inner S) (o : Option Event) (t : List Act) → IsPolledEvent old new o → HasReached old t → HasReached new t
  unfolding HasReached
  polled_law old new o t happened p = polled old new o t happened p

  pub told_law : (old new : Inner S) (o : Option EndpointEvent) (t : List Act) → IsDrainedTold old new o → HasReached old t → HasReached new t
  unfolding HasReached
  told_law old new o t happened p = drain_told old new o t happened p

  pub aside_law : (old new : Inner S) (t : List Act) → IsAside old new → HasReached old t → HasReached new t
  unfolding HasReached
  aside_law old new t a p =
      moved old new t a.same.side a.same.local_id (λ frames q. rw (ap (λ (s : DataSpace). s.streams) a.space) q)
      (λ lost. let stays = a.drained lost.0 in (stays.0, stays.1 ∙ lost.1)) p

  pub closed_law : (now : Moment) (reason : CloseReason) (old new : Inner S) (t : List Act) → is_open old.state ≡ true → IsClosedWith now reason error.LocallyClosed old new → HasReached old t → HasReached new t
  unfolding HasReached
  closed_law now reason old new t opened c p = closed_by now reason old new t opened c p

  pub opened_law : (old new : Inner S) (id : ℕ) (dir : Dir) (t : List Act) → id ≡ stream_id old.space.streams.side dir (counts_of old.space.streams (is_two_way dir)).opened
      → IsOpened old.space.streams new.space.streams id → new ≡ with_streams old new.space.streams → HasReached old t → HasReached new t
  unfolding HasReached
  opened_law old new id dir t id_is o e p = called old new t e (λ frames. opened_reached old.side frames old.space.streams new.space.streams id dir id_is o) p

  pub read_law : (old new : Inner S) (max_length : ℕ) (ordered : Bool) (id : ℕ) (answer : Result (Option Chunk) ReadFault) (t : List Act) → IsRead max_length ordered id answer old.space.streams new.space.streams
      → new ≡ with_streams old new.space.streams → HasReached old t → HasReached new t
  unfolding HasReached
  read_law old new max ordered id answer t r e p = called old new t e (λ frames. read_reached old.side frames old.space.streams new.space.streams max ordered id answer r) p

  pub unread_law : (old new : Inner S) (max_length : ℕ) (ordered : Bool) (id : ℕ) (fault : TakeFault) (t : List Act) → IsReadFault max_length ordered id fault old.space.streams new.space.streams
      → new ≡ with_streams old new.space.streams → HasReached old t → HasReached new t
  unfolding HasReached
  unread_law old new max ordered id fault t r e p = called old new t e (λ frames. read_fault_reached old.side frames old.space.streams new.space.streams max ordered id fault r) p

  pub stopped_law : (old new : Inner S) (id code : ℕ) (t : List Act) → IsRecvStep (Stops code) old.space.streams.recv new.space.streams.recv id 0
      → new ≡ with_streams old (counted_closed (record old.space.streams { recv = new.space.streams.recv }) id (is_live old.space.streams id)) → HasReached old t → HasReached new t
  unfolding HasReached
  stopped_law old new id code t s e p =
      let streams = ap (λ (c : Inner S). c.space.streams) e in
      called old new t (e ∙ ap (λ (s : PlainStreams). with_streams old s) (sym streams)) (λ frames. step.stopped old.side frames old.space.streams new.space.streams id code s streams) p

  pub told_reset_law : (old new : Inner S) (id : ℕ) (code : Option ℕ) (t : List Act) → IsRecvStep (TakesReset code) old.space.streams.recv new.space.streams.recv id 0
      → new ≡ with_streams old (counted_closed (record old.space.streams { recv = new.space.streams.recv }) id (is_live old.space.streams id)) → HasReached old t → HasReached new t
  unfolding HasReached
  told_reset_law old new id code t s e p =
      let streams = ap (λ (c : Inner S). c.space.streams) e in
      called old new t (e ∙ ap (λ (s : PlainStreams). with_streams old s) (sym streams)) (λ frames. step.told_reset old.side frames old.space.streams new.space.streams id code s streams) p

  pub written_law : (old new : Inner S) (t : List Act) → new ≡ with_streams old (record old.space.streams { send = new.space.streams.send }) → HasReached old t → HasReached new t
  unfolding HasReached
  written_law old new t e p = on_streams old new _ t e (step.parts_untouched old.space.streams _ _ refl refl refl refl refl refl) p

  pub unwritten_law : (old new : Inner S) (id : ℕ) (fault : WriteFault) (t : List Act) → IsWriteRefused id fault old new → HasReached old t → HasReached new t
  unfolding HasReached
  unwritten_law old new id fault t r p = write_is_refused old new id fault t r p

  pub untouched_law : (old new : Inner S) (s : PlainStreams) (t : List Act) → new ≡ with_streams old s → IsUntouched old.space.streams s → HasReached old t → HasReached new t
  unfolding HasReached
  untouched_law old new s t e u p = on_streams old new s t e u p

  pub accepted_law : (old new : Inner S) (dir : Dir) (t : List Act) → new ≡ with_streams old (with_counts old.space.streams (is_two_way dir) (with_accepted (counts_of old.space.streams (is_two_way dir))))
      → HasReached old t → HasReached new t
  unfolding HasReached
  accepted_law old new dir t e p = on_streams old new _ t e (step.counts_untouched old.space.streams (is_two_way dir) _ refl refl) p

  pub concurrent_law : (old new : Inner S) (dir : Dir) (count : ℕ) (t : List Act)
      → new ≡ with_streams old (with_counts old.space.streams (is_two_way dir) (record (counts_of old.space.streams (is_two_way dir)) { max_concurrent = count })) → HasReached old t → HasReached new t
  unfolding HasReached
  concurrent_law old new dir count t e p = on_streams old new _ t e (step.counts_untouched old.space.streams (is_two_way dir) _ refl refl) p

  pub window_law : (old new : Inner S) (bytes : ℕ) (t : List Act) → new ≡ with_streams old (record old.space.streams { recv = record old.space.streams.recv { receive_window = bytes } }) → HasReached old t → HasReached new t
  unfolding HasReached
  window_law old new bytes t e p = on_streams old new _ t e (step.parts_untouched old.space.streams _ _ refl refl refl refl refl refl) p

  pub means_law : (c : Inner S) (t : List Act) → HasReached c t → (c.error ≡ Some error.Memory → ⊥) → Reached c t
  unfolding HasReached
  means_law c t (inl p) whole = p
  means_law c t (inr lost) whole = absurd (whole lost.1)
