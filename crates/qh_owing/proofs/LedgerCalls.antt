-- The ledger of a connection is kept over whatever calls are made.
use Rattle.std.proofs.Common.{◌≡◌, ◌⊎◌, ℕ, ◌+◌, Bool, true, false, List, [], ◌∷◌, ◌++◌, length, length-append, drop, Option, Some, None, refl, sym, ap, subst, ◌∙◌, inl, inr}
use Rattle.std.proofs.Math.Seq.{drop-append_seam}
use Rattle.std.proofs.lemmas.Bool.{both_ways, cases_Bool}
use Rattle.std.proofs.lemmas.List.{append-nil}
use Rattle.std.proofs.lemmas.List.Concat.{flat_map-append}
use Rattle.std.specs.Prelude.{MatchBool, Ok}
use Rattle.qh_base.specs.declared.connection_error.ConnectionError.{ConnectionError}
use Rattle.qh_base.specs.declared.path.Transmit.{Transmit}
use Rattle.qh_base.specs.declared.time.Moment.{Moment}
use Rattle.qh_base.specs.declared.transport_error.TransportError.{TransportError}
use Rattle.qh_buffers.specs.Ranges.{PlainRange}
use Rattle.qh_core.proofs.ControlFrames.{bare_rest}
use Rattle.qh_core.proofs.Ends.{ended_with, goes_on_open, goes_on_space}
use Rattle.qh_core.proofs.ExpectedNumbers.{expected_of}
use Rattle.qh_core.proofs.MadeTogether.{carried_on}
use Rattle.qh_core.proofs.PacketsAccepted.{packet_accepted}
use Rattle.qh_core.proofs.PacketsMade.{datagram_made as progress_made}
use Rattle.qh_core.proofs.PacketsOut.{fewer_progress, fresh_progress, same_fewer, timed_out as progress_timed_out}
use Rattle.qh_core.proofs.WaitingKept.{made_keeps, taken_keeps, taken_whole, timed_out_keeps}
use Rattle.qh_core.specs.Event.{IsDrainedTold, IsPolledEvent}
use Rattle.qh_core.specs.Event.IsDrainedTold.{drained as drained_told, none as none_told}
use Rattle.qh_core.specs.Event.IsPolledEvent.{stream as stream_told, lost as lost_told, none as nothing_told}
use Rattle.qh_core.specs.Follows.{event_acts, transmit_acts}
use Rattle.qh_core.specs.Inner.{IsFailedBy, IsNewSpace, IsSameEnd, is_open, with_streams}
use Rattle.qh_core.specs.Made.{AcceptsTags, MakesTagsOf, AreMade, IsAnyCall, IsLocalCall, IsStreamCall, IsTurned}
use Rattle.qh_core.specs.Made.IsAnyCall.{handed_in as datagram_in, lost as unheard, handed_out as datagram_out, control_out, nothing_sent, unsent, local}
use Rattle.qh_core.specs.Made.IsLocalCall.{timeout, closed, polled, endpoint_polled, turned, on_streams}
use Rattle.qh_core.specs.Progress.{NumberedPacket, Progress}
use Rattle.qh_core.specs.Receiving.{GoesOnWith, IsClosedWith, IsDatagramTaken, IsEventTaken, IsFaulted, IsNewTo, IsOldTo, IsOpenedBy, IsPacketHandled, IsPacketTaken, received}
use Rattle.qh_core.specs.Receiving.IsDatagramTaken.{dropped as dropped_datagram, handled as handled_datagram, told_again, closed_too, draining as draining_datagram, drained as drained_datagram}
use Rattle.qh_core.specs.Receiving.IsPacketHandled.{repeated, empty, faulty, unnoted, taken as taken_packet}
use Rattle.qh_core.specs.Sending.{AreFramesMade, ClosesReadBack, IsDatagramMade, close_frame, datagram_of}
use Rattle.qh_core.specs.Sending.AreFramesMade.{packet as packet_frames, control as control_frames, close as close_frames}
use Rattle.qh_core.specs.Timers.{IsTimedOut, restarted}
use Rattle.qh_core.specs.Timers.IsTimedOut.{idle as idle_out, recovery as recovery_out, closed as closed_out, draining as draining_out, waits as waits_out, drained as drained_out}
use Rattle.qh_core.specs.declared.event.ConnectionEvent.{ConnectionEvent}
use Rattle.qh_core.specs.declared.event.ConnectionEvent.TheVariants.{Datagram, Close}
use Rattle.qh_core.specs.declared.event.EndpointEvent.{EndpointEvent}
use Rattle.qh_core.specs.declared.event.Event.{Event}
use Rattle.qh_core.specs.declared.inner.Inner.{Inner}
use Rattle.qh_core.specs.declared.state.Close.{Close as CloseReason}
use Rattle.qh_core.specs.declared.state.State.{State}
use Rattle.qh_core.specs.declared.state.State.TheVariants.{Closed, Drained}
use Rattle.qh_frame.specs.FrameBytes.{frame_bytes}
use Rattle.qh_half.specs.Recv.{PlainRecv}
use Rattle.qh_halves.specs.RecvHalves.{recv_half_in}
use Rattle.qh_owing.proofs.LedgerNext.{aged_next, frames_next, probed_next}
use Rattle.qh_owing.proofs.TurnedAside.{IsAside, open_back, turned_aside}
use Rattle.qh_owing.proofs.LedgerStreams.{call_keeps, hands_none, only_streams, polled_keeps}
use Rattle.qh_owing.proofs.NumbersKept.{aged_same, frames_same, made_same, probed_same}
use Rattle.qh_owing.specs.Ledger.{AreNoted, AreSent, HasLedger, IsLedger, IsSentIn, KeepsLedger, packet_of, runs_accepted}
use Rattle.qh_owing.specs.Ledger.AreNoted.{none as none_noted, more as more_noted}
use Rattle.qh_owing.specs.Ledger.AreSent.{none as none_sent, more as more_sent}
use Rattle.qh_owing.specs.Owing.{AreAccepted, numbers_of}
use Rattle.qh_packet.specs.Session.{AcceptsTag}
use Rattle.qh_owing.specs.Owing.AreAccepted.{none as none_accepted, dropped as brings_none, repeated as brings_old, taken as brings_one}
use Rattle.qh_recovery.specs.Accepted.{Remembers}
use Rattle.qh_recovery.specs.PendingAcks.{PlainPendingAcks}
use Rattle.qh_space.specs.declared.data_space.DataSpace.{DataSpace}
use Rattle.qh_spec.proofs.TranscriptLaws.{handed_in-append, handed_out-append}
use Rattle.qh_spec.specs.Datagram.{Packet}
use Rattle.qh_spec.specs.Link.{other}
use Rattle.qh_spec.specs.QuicFrame.{StreamFrame as Run}
use Rattle.qh_spec.specs.QuicFrames.{QuicFrame, AreQuicFrames, IsQuicFrame}
use Rattle.qh_spec.specs.Transcript.{Act, HandedIn, HandedOut, handed_in, handed_out}
use Rattle.qh_spec.specs.declared.sides.Side.{Side}
use Rattle.qh_spec.specs.declared.sides.Space.{Space}
use Rattle.qh_streams.specs.Streams.{PlainStreams, IsReadBack}
use Rattle.qh_transcript.specs.Sending.{runs_of}
use Rattle.qh_transcript.specs.Waiting.{KeepsWhatCame}

-- the runs of one packet more
runs_more : (accepted : List NumberedPacket) (p : NumberedPacket) → runs_accepted (accepted ++ p ∷ []) ≡ runs_accepted accepted ++ runs_of p.frames
runs_more accepted p =
    flat_map-append (λ (q : NumberedPacket). runs_of q.frames) accepted (p ∷ []) ∙ ap (λ (z : List Run). runs_accepted accepted ++ z) (append-nil (runs_of p.frames))

-- a frame that is read back is all frames of its bytes
one_frame : (f : QuicFrame) (bytes : List ℕ) → bytes ≡ frame_bytes f → IsReadBack f → AreQuicFrames bytes (f ∷ [])
one_frame f bytes is back = ([], subst (λ (z : List ℕ). IsQuicFrame z f []) (append-nil (frame_bytes f) ∙ sym is) (back []), refl)

-- nothing came to halves that aren't there
fresh_came : (s : PlainStreams) → s.recv.halves ≡ [] → KeepsWhatCame s []
fresh_came s none = record {
  halves = λ id r is. let there : recv_half_in [] id ≡ Some r = subst (λ (hs : List (ℕ × PlainRecv)). recv_half_in hs id ≡ Some r) none is in absurd (cc);
  opened = λ run there. absurd there;
}

-- ---- lists of datagrams

nothing_out : (t u : List Act) → handed_out u ≡ [] → handed_out (t ++ u) ≡ handed_out t
nothing_out t u none = handed_out-append t u ∙ (ap (λ (z : List (List ℕ)). handed_out t ++ z) none ∙ append-nil (handed_out t))

one_come : (t : List Act) (d : List ℕ) → handed_in (t ++ HandedIn d ∷ []) ≡ handed_in t ++ d ∷ []
one_come t d = handed_in-append t (HandedIn d ∷ [])

one_gone : (t : List Act) (d : List ℕ) → handed_out (t ++ HandedOut d ∷ []) ≡ handed_out t ++ d ∷ []
one_gone t d = handed_out-append t (HandedOut d ∷ [])

open_not_drained : (state : State) → is_open state ≡ true → state ≡ Drained → ⊥
open_not_drained state up is = both_ways (is_open state) (ap is_open is) up

module _ {S : Type 0} where
  went_end : (now : Moment) (end : Option ConnectionError) (b c : Inner S) → GoesOnWith now end b c → IsSameEnd b c
  went_end now None b c e = rw e (record { side = refl; local_id = refl; remote_length = refl; config = refl })
  went_end now (Some e) b c on_so = rw ((ended_with now e b c on_so).rest_is) (record { side = refl; local_id = refl; remote_length = refl; config = refl })

  taken_end : (now : Moment) (number : ℕ) (bytes : List ℕ) (b c : Inner S) → IsPacketTaken now number bytes b c → IsSameEnd b c
  taken_end now number bytes b c taken =
      let e = went_end now taken.end (record b { space = taken.space; idle = restarted now b.idle }) c taken.goes_on in
      record { side = e.side; local_id = e.local_id; remote_length = e.remote_length; config = e.config }

-- ---- of the same end

module _ {S : Type 0} where
  noted_for : (b c : Inner S) (accepted : List NumberedPacket) (packets : List Packet) → IsSameEnd b c → AreNoted (other b.side) accepted packets → AreNoted (other c.side) accepted packets
  noted_for b c accepted packets same = subst (λ (z : Side). AreNoted (other z) accepted packets) (sym same.side)

  accepted_for : (accepts : AcceptsTag) (b c : Inner S) (datagrams : List (List ℕ)) (packets : List Packet) → IsSameEnd b c → AreAccepted accepts b.local_id (other b.side) datagrams packets
      → AreAccepted accepts c.local_id (other c.side) datagrams packets
  accepted_for accepts b c datagrams packets same p =
      subst (λ (z : Side). AreAccepted accepts c.local_id (other z) datagrams packets) (sym same.side)
      (subst (λ (z : List ℕ). AreAccepted accepts z (other b.side) datagrams packets) (sym same.local_id) p)

module _ {S : Type 0} (accepts : AcceptsTag) (sealed : Side → Space → ℕ → List ℕ) where
  -- ---- a call that neither brings a packet nor makes one

  record IsQuiet (b c : Inner S) : Type 0 where
    same : IsSameEnd b c
    drained : b.state ≡ Drained → c.state ≡ Drained
    next : (c.state ≡ Drained) ⊎ (c.space.next_number ≡ b.space.next_number)
    opens : is_open c.state ≡ true → is_open b.state ≡ true
    dedup : is_open c.state ≡ true → c.space.dedup ≡ b.space.dedup
    progress : is_open c.state ≡ true → (sent accepted : List NumberedPacket) → Progress b sent accepted → Progress c sent accepted
    came : is_open c.state ≡ true → (came : List Run) → KeepsWhatCame b.space.streams came → KeepsWhatCame c.space.streams came

  -- a packet was made, and nothing came
  record IsQuietButSent (b c : Inner S) : Type 0 where
    same : IsSameEnd b c
    dedup : c.space.dedup ≡ b.space.dedup

  -- what was sent stays so, where nothing is handed out
  sent_still : (b c : Inner S) (t u : List Act) (sent : List NumberedPacket) → IsSameEnd b c → handed_out u ≡ [] → AreSent sealed b.side (length b.remote_id) (handed_out t) sent
      → AreSent sealed c.side (length c.remote_id) (handed_out (t ++ u)) sent
  sent_still b c t u sent same none p = rw (same.side, same.remote_length, nothing_out t u none) p

  next_still : (b c : Inner S) (sent : List NumberedPacket) → IsQuiet b c → (b.state ≡ Drained) ⊎ (b.space.next_number ≡ length sent) → (c.state ≡ Drained) ⊎ (c.space.next_number ≡ length sent)
  next_still b c sent q (inl over) = inl (q.drained over)
  next_still b c sent q (inr is) = elim q.next [ inl over ↦ inl over | inr e ↦ inr (e ∙ is) ]

  -- what brings no packet: the accepted ones are the same, with the datagrams that came
  abbrev BringsNone : (c : Inner S) → (t u : List Act) → Type 0
  BringsNone c t u = (packets : List Packet) → Remembers (numbers_of packets) c.space.dedup
      → AreAccepted accepts c.local_id (other c.side) (handed_in t) packets → AreAccepted accepts c.local_id (other c.side) (handed_in (t ++ u)) packets

  nothing_in : (c : Inner S) (t u : List Act) → handed_in u ≡ [] → BringsNone c t u
  nothing_in c t u none packets known are =
      subst (λ (z : List (List ℕ)). AreAccepted accepts c.local_id (other c.side) z packets)
      (sym (handed_in-append t u ∙ (ap (λ (z : List (List ℕ)). handed_in t ++ z) none ∙ append-nil (handed_in t)))) are

  ledger_still : (b c : Inner S) (t u : List Act) (sent accepted : List NumberedPacket) → IsQuiet b c → (is_open c.state ≡ true → BringsNone b t u) → is_open c.state ≡ true
      → IsLedger accepts sealed b sent accepted t → IsLedger accepts sealed c sent accepted (t ++ u)
  ledger_still b c t u sent accepted q comes up l =
      let a = l.accepted_are in
      record {
        accepted_are = record {
          packets = a.packets;
          noted = noted_for b c accepted a.packets q.same a.noted;
          are = accepted_for accepts b c (handed_in (t ++ u)) a.packets q.same (comes up a.packets a.remembers a.are);
          remembers = subst (λ (z : List PlainRange). Remembers (numbers_of a.packets) z) (sym (q.dedup up)) a.remembers;
        };
        progress = q.progress up sent accepted l.progress;
        came = q.came up (runs_accepted accepted) l.came;
      }

  either_still : (b c : Inner S) (t u : List Act) (sent : List NumberedPacket) → IsQuiet b c → (is_open c.state ≡ true → BringsNone b t u)
      → (is_open b.state ≡ false) ⊎ ((accepted : List NumberedPacket) × IsLedger accepts sealed b sent accepted t)
      → (is_open c.state ≡ false) ⊎ ((accepted : List NumberedPacket) × IsLedger accepts sealed c sent accepted (t ++ u))
  either_still b c t u sent q comes l = elim (cases_Bool (is_open c.state)) [
    | inl up ↦ elim l [
      | inl shut ↦ absurd (both_ways (is_open b.state) shut (q.opens up))
      | inr (accepted, is) ↦ inr (accepted, ledger_still b c t u sent accepted q comes up is)
    ]
    | inr down ↦ inl down
  ]

  quiet : (b c : Inner S) (t u : List Act) → IsQuiet b c → handed_out u ≡ [] → (is_open c.state ≡ true → BringsNone b t u) → KeepsLedger accepts sealed b t → KeepsLedger accepts sealed c (t ++ u)
  quiet b c t u q out comes k = record {
    sent = k.sent;
    sent_are = sent_still b c t u k.sent q.same out k.sent_are;
    next = next_still b c k.sent q k.next;
    ledger = either_still b c t u k.sent q comes k.ledger;
  }

  quiet_by : (b d c : Inner S) → c ≡ d → IsQuiet b d → IsQuiet b c
  quiet_by b d c is q = subst (λ (z : Inner S). IsQuiet b z) (sym is) q

  -- the streams alone changed
  streams_quiet : (b : Inner S) (s : PlainStreams) → ((came : List Run) → KeepsWhatCame b.space.streams came → KeepsWhatCame s came) → IsQuiet b (with_streams b s)
  streams_quiet b s keep = record {
    same = record { side = refl; local_id = refl; remote_length = refl; config = refl };
    drained = λ e. e;
    next = inr refl;
    opens = λ e. e;
    dedup = λ _. refl;
    progress = λ _ sent accepted p. fewer_progress b (with_streams b s) sent accepted (same_fewer b.space (with_streams b s).space refl refl refl) p;
    came = λ _. keep;
  }

  -- the connection isn't open any more, or wasn't
  shut_quiet : (b : Inner S) (state : State) (error : Option ConnectionError) → is_open state ≡ false → (b.state ≡ Drained → state ≡ Drained) → IsQuiet b (record b { state = state; error = error })
  shut_quiet b state error down stays = record {
    same = record { side = refl; local_id = refl; remote_length = refl; config = refl };
    drained = stays;
    next = inr refl;
    opens = λ up. absurd (both_ways (is_open state) down up);
    dedup = λ _. refl;
    progress = λ up. absurd (both_ways (is_open state) down up);
    came = λ up. absurd (both_ways (is_open state) down up);
  }

  -- nothing of this speaks of what changed
  same_quiet : (b c : Inner S) → IsSameEnd b c → c.state ≡ b.state → c.space ≡ b.space → IsQuiet b c
  same_quiet b c same state space = record {
    same = same;
    drained = λ e. state ∙ e;
    next = inr (ap (λ (s : DataSpace). s.next_number) space);
    opens = λ up. sym (ap is_open state) ∙ up;
    dedup = λ _. ap (λ (s : DataSpace). s.dedup) space;
    progress = λ _ sent accepted p.
        fewer_progress b c sent accepted
        (same_fewer b.space c.space (ap (λ (s : DataSpace). s.next_number) space) (ap (λ (s : DataSpace). s.acks) space) (ap (λ (s : DataSpace). s.sent) space)) p;
    came = λ _ came p. subst (λ (s : DataSpace). KeepsWhatCame s.streams came) (sym space) p;
  }

  own : (b : Inner S) → IsSameEnd b b
  own b = record { side = refl; local_id = refl; remote_length = refl; config = refl }

  stays : (b : Inner S) → IsQuiet b b
  stays b = same_quiet b b (own b) refl refl

  -- ---- calls on streams

  stream_quiet : (b c : Inner S) (u : List Act) → IsStreamCall b c u → IsQuiet b c
  stream_quiet b c u call =
      let rest = only_streams b c u call in
      quiet_by b _ c rest (streams_quiet b c.space.streams (call_keeps b c u call))

  -- ---- calls without a datagram

  timed_quiet : (now : ℕ) (b c : Inner S) → IsTimedOut now b c → IsQuiet b c
  timed_quiet now b c (idle_out _ _ is) = quiet_by b _ c is (shut_quiet b Drained _ refl (λ e. refl))
  timed_quiet now b c (recovery_out mid up idle aged probed is) = quiet_by b _ c is (record {
    same = record { side = refl; local_id = refl; remote_length = refl; config = refl };
    drained = λ e. e;
    next = inr (probed_next now mid c.space probed ∙ aged_next now b.space mid aged);
    opens = λ e. e;
    dedup = λ _. probed_same now mid c.space probed ∙ aged_same now b.space mid aged;
    progress = λ _ sent accepted p. subst (λ (z : Inner S). Progress z sent accepted) is (progress_timed_out now b c sent accepted (recovery_out mid up idle aged probed is) p);
    came = λ _ came p. timed_out_keeps now b c came (recovery_out mid up idle aged probed is) p;
  })
  timed_quiet now b c (closed_out reason due until was _ is) = quiet_by b _ c is (shut_quiet b Drained b.error refl (λ e. refl))
  timed_quiet now b c (draining_out until was _ is) = quiet_by b _ c is (shut_quiet b Drained b.error refl (λ e. refl))
  timed_quiet now b c (waits_out _ _ _ is) = quiet_by b b c is (stays b)
  timed_quiet now b c (drained_out _ is) = quiet_by b b c is (stays b)

  -- this end closes: it was open
  closed_quiet : (now : Moment) (reason : CloseReason) (error : ConnectionError) (b c : Inner S) → is_open b.state ≡ true → IsClosedWith now reason error b c → IsQuiet b c
  closed_quiet now reason error b c up is = quiet_by b _ c is.rest_is (shut_quiet b _ _ refl (λ e. absurd (open_not_drained b.state up e)))

  close_quiet : (now : Moment) (reason : CloseReason) (error : ConnectionError) (b c : Inner S)
      → (is_open b.state ≡ true → IsClosedWith now reason error b c) → (is_open b.state ≡ false → c ≡ b) → IsQuiet b c
  close_quiet now reason error b c closes keeps = elim (cases_Bool (is_open b.state)) [
    | inl up ↦ closed_quiet now reason error b c up (closes up)
    | inr down ↦ quiet_by b b c (keeps down) (stays b)
  ]

  polled_quiet : (b c : Inner S) (told : Option Event) → IsPolledEvent b c told → IsQuiet b c
  polled_quiet b c _ (stream_told e tells is) = quiet_by b _ c is (streams_quiet b c.space.streams (polled_keeps b.space.streams c.space.streams (Some e) tells))
  polled_quiet b c _ (nothing_told tells _ is) = quiet_by b _ c is (streams_quiet b c.space.streams (polled_keeps b.space.streams c.space.streams None tells))
  polled_quiet b c _ (lost_told mid error tells _ _ is) =
      quiet_by b _ c is
      (record {
        same = record { side = refl; local_id = refl; remote_length = refl; config = refl };
        drained = λ e. e;
        next = inr refl;
        opens = λ e. e;
        dedup = λ _. refl;
        progress = λ _ sent accepted p. fewer_progress b (record (with_streams b mid) { is_lost_told = true }) sent accepted (same_fewer b.space (with_streams b mid).space refl refl refl) p;
        came = λ _. polled_keeps b.space.streams mid None tells;
      })

  told_quiet : (b c : Inner S) (told : Option EndpointEvent) → IsDrainedTold b c told → IsQuiet b c
  told_quiet b c _ (drained_told _ _ is) = quiet_by b _ c is (same_quiet b (record b { is_drained_told = true }) (record { side = refl; local_id = refl; remote_length = refl; config = refl }) refl refl)
  told_quiet b c _ (none_told _ is) = quiet_by b b c is (stays b)

  -- a handshake beside it
  aside_quiet : (b c : Inner S) → IsAside b c → IsQuiet b c
  aside_quiet b c a = record {
    same = a.same;
    drained = λ is. (a.drained is).0;
    next = inr (ap (λ (s : DataSpace). s.next_number) a.space);
    opens = a.opens;
    dedup = λ _. ap (λ (s : DataSpace). s.dedup) a.space;
    progress = λ _ sent accepted p.
        fewer_progress b c sent accepted
        (same_fewer b.space c.space (ap (λ (s : DataSpace). s.next_number) a.space) (ap (λ (s : DataSpace). s.acks) a.space) (ap (λ (s : DataSpace). s.sent) a.space)) p;
    came = λ _ came p. subst (λ (s : DataSpace). KeepsWhatCame s.streams came) (sym a.space) p;
  }

  failed_quiet : (b c : Inner S) → IsFailedBy b c → IsQuiet b c
  failed_quiet b c f = quiet_by b _ c f.rest_is (record {
    same = record { side = refl; local_id = refl; remote_length = refl; config = refl };
    drained = λ e. refl;
    next = inl refl;
    opens = λ up. absurd (both_ways false refl up);
    dedup = λ up. absurd (both_ways false refl up);
    progress = λ up. absurd (both_ways false refl up);
    came = λ up. absurd (both_ways false refl up);
  })

  turned_quiet : (b c : Inner S) → IsTurned b c → IsQuiet b c
  turned_quiet b c is = elim (turned_aside b c is) [ inl lacks ↦ failed_quiet b c lacks | inr aside ↦ aside_quiet b c aside ]

  local_quiet : (b c : Inner S) (u : List Act) → IsLocalCall b c u → IsQuiet b c
  local_quiet b c u (timeout now timed _) = timed_quiet now b c timed
  local_quiet b c u (closed now code reason closes keeps) = close_quiet now _ _ b c closes keeps
  local_quiet b c u (polled told is) = polled_quiet b c told is
  local_quiet b c u (endpoint_polled told is) = told_quiet b c told is
  local_quiet b c u (turned is) = turned_quiet b c is
  local_quiet b c u (on_streams _ call) = stream_quiet b c u call

  local_none : (b c : Inner S) (u : List Act) → IsLocalCall b c u → (handed_in u ≡ []) × (handed_out u ≡ [])
  local_none b c u (timeout now timed _) = (refl, refl)
  local_none b c u (closed now code reason closes keeps) = (refl, refl)
  local_none b c u (polled told is) = (refl, refl)
  local_none b c u (endpoint_polled told is) = (refl, refl)
  local_none b c u (turned is) = (refl, refl)
  local_none b c u (on_streams _ call) = hands_none b c u call

  local_ledger : (b c : Inner S) (u t : List Act) → IsLocalCall b c u → KeepsLedger accepts sealed b t → KeepsLedger accepts sealed c (t ++ u)
  local_ledger b c u t call = let none = local_none b c u call in quiet b c t u (local_quiet b c u call) none.1 (λ _. nothing_in b t u none.0)

  -- a call that adds nothing
  alone : (b c : Inner S) (t : List Act) → IsQuiet b c → KeepsLedger accepts sealed b t → KeepsLedger accepts sealed c (t ++ [])
  alone b c t q = quiet b c t [] q refl (λ _. nothing_in b t [] refl)

  itself : (b c : Inner S) (t : List Act) → IsQuiet b c → KeepsLedger accepts sealed b t → KeepsLedger accepts sealed c t
  itself b c t q k = subst (λ (z : List Act). KeepsLedger accepts sealed c z) (append-nil t) (alone b c t q k)

  -- ---- a datagram comes

  unopened : (c : Inner S) (t : List Act) (d : List ℕ) → ((number : ℕ) (bytes : List ℕ) → IsOpenedBy accepts c d number bytes → ⊥) → BringsNone c t (HandedIn d ∷ [])
  unopened c t d never packets known are =
      let e = expected_of c.space in
      subst (λ (z : List (List ℕ)). AreAccepted accepts c.local_id (other c.side) z packets) (sym (one_come t d))
      (brings_none (handed_in t) d packets e.0 are (e.1 (numbers_of packets) known) (λ number bytes is. never number bytes (record { expected = e.0; is_expected = e.1; is = is })))

  not_new : (c : Inner S) (t : List Act) (d : List ℕ) (number : ℕ) (bytes : List ℕ) → IsOpenedBy accepts c d number bytes → IsOldTo c.space number → BringsNone c t (HandedIn d ∷ [])
  not_new c t d number bytes o known_already packets known are =
      subst (λ (z : List (List ℕ)). AreAccepted accepts c.local_id (other c.side) z packets) (sym (one_come t d))
      (brings_old (handed_in t) d packets o.expected number bytes are (o.is_expected (numbers_of packets) known) o.is (known_already (numbers_of packets) known))

  -- the end isn't open any more
  over : (b c : Inner S) (t : List Act) (d : List ℕ) → IsQuiet b c → is_open c.state ≡ false → KeepsLedger accepts sealed b t → KeepsLedger accepts sealed c (t ++ HandedIn d ∷ [])
  over b c t d q down = quiet b c t (HandedIn d ∷ []) q refl (λ up. absurd (both_ways (is_open c.state) down up))

  faulted : (now : Moment) (e : TransportError) (b c : Inner S) (t : List Act) (d : List ℕ) → is_open b.state ≡ true → IsFaulted now e b c → KeepsLedger accepts sealed b t
      → KeepsLedger accepts sealed c (t ++ HandedIn d ∷ [])
  faulted now e b c t d up f = over b c t d (closed_quiet now _ _ b c up f.closed) (ap (λ (z : Inner S). is_open z.state) f.closed.rest_is)

  -- ---- a packet is taken

  module _ (now : Moment) (number : ℕ) (bytes d : List ℕ) (b c : Inner S) (t : List Act) (o : IsOpenedBy accepts b d number bytes) (fresh : IsNewTo b.space number)
      (p : IsPacketTaken now number bytes b c) (was : is_open b.state ≡ true) (k : KeepsLedger accepts sealed b t) where
    abbrev fs : List QuicFrame
    fs = p.surveyed.frames

    abbrev packet : NumberedPacket
    packet = record { number = number; at = now; frames = fs }

    next_is : c.space.next_number ≡ b.space.next_number
    next_is = ap (λ (s : DataSpace). s.next_number) (goes_on_space now p.end _ c p.goes_on) ∙ (frames_next now.0 bytes p.mid p.space p.taken p.end p.are_taken ∙ ap (λ (s : DataSpace). s.next_number) p.accepted.rest_is)

    next_number : (c.state ≡ Drained) ⊎ (c.space.next_number ≡ length k.sent)
    next_number = elim k.next [ inl drained ↦ absurd (open_not_drained b.state was drained) | inr is ↦ inr (next_is ∙ is) ]

    same_end : IsSameEnd b c
    same_end = taken_end now number bytes b c p

    taken_ledger : is_open c.state ≡ true → (accepted : List NumberedPacket) → IsLedger accepts sealed b k.sent accepted t
        → IsLedger accepts sealed c k.sent (accepted ++ packet ∷ []) (t ++ HandedIn d ∷ [])
    taken_ledger up accepted l =
        let a = l.accepted_are in
        let went = goes_on_open now p.end (record b { space = p.space; idle = restarted now b.idle }) c p.goes_on up in
        let dedup : c.space.dedup ≡ p.mid.dedup = ap (λ (z : Inner S). z.space.dedup) went.1 ∙ frames_same now.0 bytes p.mid p.space p.taken p.end p.are_taken in
        let kept = taken_keeps now number bytes b c (runs_accepted accepted) p l.came in
        record {
          accepted_are = record {
            packets = packet_of (other b.side) packet ∷ a.packets;
            noted = noted_for b c (accepted ++ packet ∷ []) (packet_of (other b.side) packet ∷ a.packets) same_end (more_noted accepted a.packets packet a.noted);
            are = accepted_for accepts b c (handed_in (t ++ HandedIn d ∷ [])) (packet_of (other b.side) packet ∷ a.packets) same_end
                (subst (λ (z : List (List ℕ)). AreAccepted accepts b.local_id (other b.side) z (packet_of (other b.side) packet ∷ a.packets)) (sym (one_come t d))
                (brings_one (handed_in t) d a.packets (packet_of (other b.side) packet) o.expected bytes a.are (o.is_expected (numbers_of a.packets) a.remembers) o.is p.surveyed.are refl refl
                (fresh (numbers_of a.packets) a.remembers)));
            remembers = subst (λ (z : List PlainRange). Remembers (number ∷ numbers_of a.packets) z) (sym dedup) (p.accepted.remembers (numbers_of a.packets) a.remembers);
          };
          progress = packet_accepted now number bytes b c fs k.sent accepted p up p.surveyed.are l.progress;
          came = subst (λ (z : List Run). KeepsWhatCame c.space.streams z)
              (ap (λ (z : List Run). runs_accepted accepted ++ z) (taken_whole now number bytes b c fs p up p.surveyed.are) ∙ sym (runs_more accepted packet)) kept;
        }

    taken_keeps_ledger : KeepsLedger accepts sealed c (t ++ HandedIn d ∷ [])
    taken_keeps_ledger = record {
      sent = k.sent;
      sent_are = sent_still b c t (HandedIn d ∷ []) k.sent same_end refl k.sent_are;
      next = next_number;
      ledger = elim (cases_Bool (is_open c.state)) [
        | inl up ↦ elim k.ledger [
          | inl shut ↦ absurd (both_ways (is_open b.state) shut was)
          | inr (accepted, l) ↦ inr (accepted ++ packet ∷ [], taken_ledger up accepted l)
        ]
        | inr down ↦ inl down
      ];
    }

  handled : (now : Moment) (number : ℕ) (bytes d : List ℕ) (b c : Inner S) (t : List Act) → is_open b.state ≡ true → IsOpenedBy accepts b d number bytes → IsPacketHandled now number bytes b c
      → KeepsLedger accepts sealed b t → KeepsLedger accepts sealed c (t ++ HandedIn d ∷ [])
  handled now number bytes d b c t was o (repeated known is) k = quiet b c t (HandedIn d ∷ []) (quiet_by b b c is (stays b)) refl (λ _. not_new b t d number bytes o known) k
  handled now number bytes d b c t was o (empty e _ _ _ f) k = faulted now e b c t d was f k
  handled now number bytes d b c t was o (faulty e _ _ _ _ f) k = faulted now e b c t d was f k
  handled now number bytes d b c t was o (unnoted e _ _ _ _ f) k = faulted now e b c t d was f k
  handled now number bytes d b c t was o (taken_packet fresh p) k = taken_keeps_ledger now number bytes d b c t o fresh p was k

  datagram_ledger : (now : Moment) (d : List ℕ) (b c : Inner S) (t : List Act) → IsDatagramTaken accepts now d b c → KeepsLedger accepts sealed b t → KeepsLedger accepts sealed c (t ++ HandedIn d ∷ [])
  datagram_ledger now d b c t (dropped_datagram was none is) k = quiet b c t (HandedIn d ∷ []) (quiet_by b b c is (stays b)) refl (λ _. unopened b t d none) k
  datagram_ledger now d b c t (handled_datagram number bytes was o h) k = handled now number bytes d b c t was o h k
  datagram_ledger now d b c t (told_again reason due until was _ is) k =
      over b c t d (quiet_by b _ c is (shut_quiet b _ b.error refl (λ e. let never = sym e ∙ was in absurd (cc)))) (ap (λ (z : Inner S). is_open z.state) is) k
  datagram_ledger now d b c t (closed_too reason due until was _ is) k =
      over b c t d (quiet_by b _ c is (shut_quiet b _ b.error refl (λ e. let never = sym e ∙ was in absurd (cc)))) (ap (λ (z : Inner S). is_open z.state) is) k
  datagram_ledger now d b c t (draining_datagram until was is) k = over b c t d (quiet_by b b c is (stays b)) (ap (λ (z : Inner S). is_open z.state) is ∙ ap is_open was) k
  datagram_ledger now d b c t (drained_datagram was is) k = over b c t d (quiet_by b b c is (stays b)) (ap (λ (z : Inner S). is_open z.state) is ∙ ap is_open was) k

  counted : (b : Inner S) (u : _) (t : List Act) → KeepsLedger accepts sealed b t → KeepsLedger accepts sealed (record b { udp_rx = u }) t
  counted b u t = itself b (record b { udp_rx = u }) t (same_quiet b (record b { udp_rx = u }) (record { side = refl; local_id = refl; remote_length = refl; config = refl }) refl refl)

  maybe_closed : (up : Bool) (now : Moment) (reason : CloseReason) (error : ConnectionError) (b c : Inner S) (t : List Act) → is_open b.state ≡ up → MatchBool up (IsClosedWith now reason error b c) (c ≡ b)
      → KeepsLedger accepts sealed b t → KeepsLedger accepts sealed c (t ++ [])
  maybe_closed true now reason error b c t up is = alone b c t (closed_quiet now reason error b c up is)
  maybe_closed false now reason error b c t down is = alone b c t (quiet_by b b c is (stays b))

  event_ledger : (event : ConnectionEvent) (b c : Inner S) (t : List Act) → IsEventTaken accepts event b c → KeepsLedger accepts sealed b t → KeepsLedger accepts sealed c (t ++ event_acts event)
  event_ledger (Datagram now remote payload) b c t taken k = datagram_ledger now payload (received (Datagram now remote payload) b) c t taken (counted b _ t k)
  event_ledger (Close now code reason) b c t taken k = maybe_closed (is_open b.state) now _ _ b c t refl taken k

  unheard_ledger : (event : ConnectionEvent) (b c : Inner S) (t : List Act) → IsFailedBy (received event b) c → KeepsLedger accepts sealed b t → KeepsLedger accepts sealed c (t ++ event_acts event)
  unheard_ledger (Datagram now remote payload) b c t f k =
      let d = received (Datagram now remote payload) b in
      over d c t payload (failed_quiet d c f) (ap (λ (z : Inner S). is_open z.state) f.rest_is) (counted b _ t k)
  unheard_ledger (Close now code reason) b c t f k = alone b c t (failed_quiet b c f) k

  -- ---- a datagram goes

  -- one packet more was sent
  sent_more : (b c : Inner S) (t : List Act) (sent : List NumberedPacket) (d : List ℕ) (p : NumberedPacket) → IsSameEnd b c → AreSent sealed b.side (length b.remote_id) (handed_out t) sent
      → p.number ≡ length sent → IsSentIn sealed b.side (length b.remote_id) d p → AreSent sealed c.side (length c.remote_id) (handed_out (t ++ HandedOut d ∷ [])) (sent ++ p ∷ [])
  sent_more b c t sent d p same are number is = rw (same.side, same.remote_length, one_gone t d) (more_sent (handed_out t) sent d p are number is)

  module _ (now : Moment) (b c : Inner S) (before after : List ℕ) (transmit : Transmit) (t : List Act) (m : IsDatagramMade sealed now b c before after transmit) (back : ClosesReadBack b.state)
      (k : KeepsLedger accepts sealed b t) where
    abbrev d : List ℕ
    d = datagram_of sealed b m.bytes.frames

    by_packet : is_open b.state ≡ true → IsQuietButSent b c → KeepsLedger accepts sealed c (t ++ HandedOut d ∷ [])
    by_packet up q = elim k.ledger [
      | inl shut ↦ absurd (both_ways (is_open b.state) shut up)
      | inr (accepted, l) ↦
          let g = progress_made sealed now b c before after transmit k.sent accepted m up l.progress in
          let p : NumberedPacket = record { number = b.space.next_number; at = now; frames = g.0 } in
          let a = l.accepted_are in
          record {
            sent = k.sent ++ p ∷ [];
            sent_are = sent_more b c t k.sent d p q.same k.sent_are l.progress.next (record { destination = b.remote_id; length_is = refl; bytes = m.bytes.frames; below = m.bytes.number; is = refl; are = g.1 });
            next = inr (g.2.next);
            ledger = inr (
              accepted,
              record {
                accepted_are = record {
                  packets = a.packets;
                  noted = rw (q.same.side) a.noted;
                  are = rw (q.same.side, q.same.local_id) (nothing_in b t (HandedOut d ∷ []) refl a.packets a.remembers a.are);
                  remembers = rw (q.dedup) a.remembers;
                };
                progress = g.2;
                came = made_keeps sealed now b c before after transmit (runs_accepted accepted) m l.came;
              },
            );
          }
    ]

    by_close : (reason : CloseReason) (until : Moment) → b.state ≡ Closed reason true until → m.bytes.frames ≡ frame_bytes (close_frame reason) → IsSameEnd b c → is_open c.state ≡ false
        → c.space.next_number ≡ b.space.next_number + 1 → KeepsLedger accepts sealed c (t ++ HandedOut d ∷ [])
    by_close reason until was frames_are same down next = elim k.next [
      | inl drained ↦ let never = sym drained ∙ was in absurd (cc)
      | inr is ↦
          let p : NumberedPacket = record { number = b.space.next_number; at = now; frames = close_frame reason ∷ [] } in
          record {
            sent = k.sent ++ p ∷ [];
            sent_are = sent_more b c t k.sent d p same k.sent_are is
                (record { destination = b.remote_id; length_is = refl; bytes = m.bytes.frames; below = m.bytes.number; is = refl; are = one_frame (close_frame reason) m.bytes.frames frames_are (back reason until was) });
            next = inr (next ∙ (ap (λ (n : ℕ). n + 1) is ∙ sym (length-append k.sent (p ∷ []))));
            ledger = inl down;
          }
    ]

    frames_ledger : (first : List ℕ) → AreFramesMade now b c first m.bytes.frames → KeepsLedger accepts sealed c (t ++ HandedOut d ∷ [])
    frames_ledger first (packet_frames up made is) = by_packet up (record {
      same = subst (λ (z : Inner S). IsSameEnd b z) (sym is) (record { side = refl; local_id = refl; remote_length = refl; config = refl });
      dedup = made_same _ _ _ b.space c.space _ _ made;
    })
    frames_ledger first (control_frames up made is) = by_packet up (record {
      same = subst (λ (z : Inner S). IsSameEnd b z) (sym is) (record { side = refl; local_id = refl; remote_length = refl; config = refl });
      dedup = (bare_rest _ _ b.space c.space made.sent).dedup;
    })
    frames_ledger first (close_frames reason until was frames_are is) =
        by_close reason until was frames_are (subst (λ (z : Inner S). IsSameEnd b z) (sym is) (record { side = refl; local_id = refl; remote_length = refl; config = refl }))
        (ap (λ (z : Inner S). is_open z.state) is) (ap (λ (z : Inner S). z.space.next_number) is)

    made_ledger : KeepsLedger accepts sealed c (t ++ transmit_acts before after (Ok (Some transmit)))
    made_ledger =
        let behind : drop (length before) after ≡ d = ap (λ (z : List ℕ). drop (length before) z) m.bytes.after_is ∙ drop-append_seam before d in
        rw behind (frames_ledger _ m.bytes.made)

-- ---- the law

module _ {S : Type 0} where
  any_ledger : (accepts : AcceptsTags S) (sealed : MakesTagsOf S) (b c : Inner S) (u t : List Act) → IsAnyCall accepts sealed b c u
      → KeepsLedger (accepts b.session) (sealed b.session) b t → KeepsLedger (accepts b.session) (sealed b.session) c (t ++ u)
  any_ledger accepts sealed b c u t (datagram_in event taken _) k = event_ledger (accepts b.session) (sealed b.session) event b c t taken k
  any_ledger accepts sealed b c u t (unheard event f _) k = unheard_ledger (accepts b.session) (sealed b.session) event b c t f k
  any_ledger accepts sealed b c u t (datagram_out now before after transmit m back _) k = made_ledger (accepts b.session) (sealed b.session) now b c before after transmit t m back k
  any_ledger accepts sealed b c u t (control_out now before after frames sent is _) k =
      made_ledger (accepts b.session) (sealed b.session) now b c before after sent.transmit t is.made (open_back b.state is.opened) k
  any_ledger accepts sealed b c u t (nothing_sent none) k = alone (accepts b.session) (sealed b.session) b c t (quiet_by (accepts b.session) (sealed b.session) b b c none.0 (stays (accepts b.session) (sealed b.session) b)) k
  any_ledger accepts sealed b c u t (unsent f) k = alone (accepts b.session) (sealed b.session) b c t (failed_quiet (accepts b.session) (sealed b.session) b c f) k
  any_ledger accepts sealed b c u t (local _ call) k = local_ledger (accepts b.session) (sealed b.session) b c u t call k

  pub ledger_made : (accepts : AcceptsTags S) (sealed : MakesTagsOf S) (old new : Inner S) (acts t : List Act) → AreMade accepts sealed old new acts
      → HasLedger (accepts old.session) (sealed old.session) old t → HasLedger (accepts old.session) (sealed old.session) new (t ++ acts)
  unfolding HasLedger
  ledger_made accepts sealed old new acts t made =
      carried_on accepts sealed (λ (c : Inner S) (z : List Act). KeepsLedger (accepts old.session) (sealed old.session) c z) old new acts t
      (λ b c u v session step k.
      subst (λ (s : S). KeepsLedger (accepts s) (sealed s) c (v ++ u)) session
      (any_ledger accepts sealed b c u v step.0 (subst (λ (s : S). KeepsLedger (accepts s) (sealed s) b v) (sym session) k))) made

  pub ledger_fresh : (accepts : AcceptsTag) (sealed : Side → Space → ℕ → List ℕ) (c : Inner S) → IsNewSpace c.config c.side c.space → HasLedger accepts sealed c []
  unfolding HasLedger
  ledger_fresh accepts sealed c new = record {
    sent = [];
    sent_are = none_sent;
    next = inr new.next;
    ledger = inr (
      [],
      record {
        accepted_are = record { packets = []; noted = none_noted; are = none_accepted; remembers = new.remembers };
        progress = fresh_progress c new.sent new.next (ap (λ (a : PlainPendingAcks). a.ranges) new.acks);
        came = fresh_came c.space.streams (ap (λ (s : PlainStreams). s.recv.halves) new.streams_are);
      },
    );
  }

  pub ledger_open : (accepts : AcceptsTag) (sealed : Side → Space → ℕ → List ℕ) (c : Inner S) (t : List Act) → is_open c.state ≡ true → HasLedger accepts sealed c t
      → (sent : List NumberedPacket) × AreSent sealed c.side (length c.remote_id) (handed_out t) sent × ((accepted : List NumberedPacket) × IsLedger accepts sealed c sent accepted t)
  unfolding HasLedger
  ledger_open accepts sealed c t up k = elim k.ledger [
    | inl shut ↦ absurd (both_ways (is_open c.state) shut up)
    | inr is ↦ (k.sent, k.sent_are, is)
  ]

  pub ledger_sent : (accepts : AcceptsTag) (sealed : Side → Space → ℕ → List ℕ) (c : Inner S) (t : List Act) → HasLedger accepts sealed c t
      → (sent : List NumberedPacket) × AreSent sealed c.side (length c.remote_id) (handed_out t) sent
  unfolding HasLedger
  ledger_sent accepts sealed c t k = (k.sent, k.sent_are)
