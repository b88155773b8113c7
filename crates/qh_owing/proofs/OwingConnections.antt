-- A connection that is handed datagrams and moments, and hands datagrams out: what it owes is kept while it is open.
use Rattle.std.proofs.Common.{◌≡◌, ℕ, ◌+◌, ◌-◌, ◌<◌, ◌^◌, Bool, true, false, List, [], ◌∷◌, ◌++◌, length, drop, Option, Some, None, refl, sym, ap, subst, ◌∙◌, inl, inr, arith, append_assoc}
use Rattle.std.proofs.Math.Seq.{drop-append_seam}
use Rattle.std.proofs.lemmas.Bool.{both_ways, cases_Bool}
use Rattle.std.proofs.lemmas.List.{append-nil, append_cancel_left}
use Rattle.std.specs.Prelude.{IfOk, IfSome, MatchBool, OnErr, OnOk, Result, Ok, Err}
use Rattle.qh_base.specs.declared.connection_error.ConnectionError.{ConnectionError}
use Rattle.qh_base.specs.declared.memory.Memory.{Memory as OutOfMemory}
use Rattle.qh_base.specs.declared.path.Transmit.{Transmit}
use Rattle.qh_base.specs.declared.time.Moment.{Moment}
use Rattle.qh_base.specs.declared.transport_error.TransportError.{TransportError}
use Rattle.qh_core.proofs.ControlFrames.{bare_rest}
use Rattle.qh_core.proofs.Ends.{ended_with, goes_on_open}
use Rattle.qh_core.proofs.ExpectedNumbers.{expected_of}
use Rattle.qh_core.specs.Follows.{event_acts, transmit_acts}
use Rattle.qh_core.specs.Inner.{IsFailedBy, IsSameEnd, is_open, with_space}
use Rattle.qh_core.specs.Receiving.{AreFramesTaken, GoesOnWith, IsAccepted, IsClosedWith, IsDatagramTaken, IsEventTaken, IsFaulted, IsNewTo, IsOldTo, IsOpenedBy, IsPacketHandled, IsPacketTaken, received}
use Rattle.qh_core.specs.Receiving.IsDatagramTaken.{dropped as dropped_datagram, handled as handled_datagram, told_again, closed_too, draining as draining_datagram, drained as drained_datagram}
use Rattle.qh_core.specs.Receiving.IsPacketHandled.{repeated, empty, faulty, unnoted, taken as taken_packet}
use Rattle.qh_core.specs.Sending.{AreFramesMade, IsDatagramMade, NothingIsSent, datagram_of, overhead}
use Rattle.qh_core.specs.Sending.AreFramesMade.{packet as packet_frames, control as control_frames, close as close_frames}
use Rattle.qh_core.specs.Timers.{AreLostByAge, IsProbed, IsTimedOut, restarted}
use Rattle.qh_core.specs.Timers.IsTimedOut.{idle as idle_out, recovery as recovery_out, closed as closed_out, draining as draining_out, waits as waits_out, drained as drained_out}
use Rattle.qh_core.specs.declared.event.ConnectionEvent.{ConnectionEvent}
use Rattle.qh_core.specs.declared.event.ConnectionEvent.TheVariants.{Datagram, Close}
use Rattle.qh_core.specs.declared.inner.Inner.{Inner}
use Rattle.qh_core.specs.declared.state.Close.{Close as CloseReason}
use Rattle.qh_frame.specs.declared.frame.Frame.{Frame}
use Rattle.qh_owing.proofs.KeptStreams.{Reads, reads_nothing}
use Rattle.qh_owing.proofs.NumbersKept.{HasSameNumbers, aged_same, frames_same, made_same, probed_same}
use Rattle.qh_owing.proofs.OwingAcks.{aged_owing, frames_owing, probed_owing}
use Rattle.qh_owing.proofs.OwingDatagrams.{come_more, in_before, out_before, owing_more}
use Rattle.qh_owing.proofs.OwingPackets.{bare_owing, low_value, made_owing}
use Rattle.qh_owing.specs.Owing.{AreAccepted, IsOwing, Owes, Owing, WasAccepted, numbers_of}
use Rattle.qh_packet.specs.Session.{AcceptsTag, MakesTags, NamesTags}
use Rattle.qh_owing.specs.Owing.AreAccepted.{dropped as brings_none, repeated as brings_old, taken as brings_one}
use Rattle.qh_packet.proofs.Packets.{has_packet}
use Rattle.qh_packet.specs.Packet.{header_bytes, low_bytes, short_of}
use Rattle.qh_recovery.specs.Accepted.{Remembers}
use Rattle.qh_space.specs.declared.data_space.DataSpace.{DataSpace}
use Rattle.qh_spec.proofs.Members.{in_last}
use Rattle.qh_spec.proofs.PacketLaws.{tag_length}
use Rattle.qh_spec.proofs.TranscriptLaws.{handed_in-append}
use Rattle.qh_spec.specs.Datagram.{Packet, HasPacket, one_rtt}
use Rattle.qh_spec.specs.Link.{other}
use Rattle.qh_spec.specs.Lists.{In}
use Rattle.qh_spec.specs.QuicFrames.{QuicFrame, AreQuicFrames}
use Rattle.qh_spec.specs.Transcript.{Act, HandedIn, HandedOut, handed_in}
use Rattle.qh_spec.specs.declared.sides.Side.{Side}
use Rattle.qh_spec.specs.declared.sides.Space.{Space}
use Rattle.qh_spec.specs.declared.sides.Space.TheVariants.{Data}
use Rattle.qh_transcript.specs.Sending.{WriteNothing}

pub in_writes_nothing : (d : List ℕ) → WriteNothing (HandedIn d ∷ [])
in_writes_nothing d = record { bytes = λ id. refl; ends = λ id. refl }

pub reads_in : (t : List Act) (d : List ℕ) → (k : ℕ) → Reads t (t ++ HandedIn d ∷ []) k
reads_in t d k = reads_nothing t (HandedIn d ∷ []) (in_writes_nothing d) (λ id. refl) k

last_in : (t : List Act) (d : List ℕ) → In d (handed_in (t ++ HandedIn d ∷ []))
last_in t d = subst (λ (z : List (List ℕ)). In d z) (sym (handed_in-append t (HandedIn d ∷ []))) (in_last d (handed_in t))

pub one_come : (t : List Act) (d : List ℕ) → handed_in (t ++ HandedIn d ∷ []) ≡ handed_in t ++ d ∷ []
one_come t d = handed_in-append t (HandedIn d ∷ [])

-- the space that took a packet owes what it owed, but what the packet acknowledges
taken_space : (id_length : ℕ) (side : Side) (accepted : List Packet) (t : List Act) (now number : ℕ) (is_eliciting : Bool) (bytes : List ℕ) (old mid space : DataSpace) (taken : List Frame) (packet : Packet)
    → In packet accepted → packet.space ≡ Data → IsAccepted number is_eliciting old mid → AreFramesTaken now bytes mid space taken None → AreQuicFrames bytes packet.frames
    → IsOwing id_length side accepted t old → IsOwing id_length side accepted t space
taken_space id_length side accepted t now number is_eliciting bytes old mid space taken packet among is a are reading p =
    frames_owing id_length side t accepted packet among is now bytes mid space taken are reading
    (subst (λ (s : DataSpace). IsOwing id_length side accepted t s) (sym a.rest_is) (record { kept = p.kept; in_packets = p.in_packets; out = p.out }))

module _ {S : Type 0} (accepts : AcceptsTag) where
  -- ---- how a connection goes on

  -- it is the same end, and open only where it was; then it accepted no more packets
  pub record GoesOn (old new : Inner S) : Type 0 where
    pub side : new.side ≡ old.side
    pub local : new.local_id ≡ old.local_id
    pub remote : length new.remote_id ≡ length old.remote_id
    pub opens : is_open new.state ≡ true → is_open old.state ≡ true
    pub numbers : is_open new.state ≡ true → HasSameNumbers old.space new.space

  -- while it is open, what it accepted in all is what it accepted before: what comes brings no packet
  abbrev pub BringsNone : Inner S → Inner S → (t u : List Act) → Type 0
  BringsNone old new t u = (accepted : List Packet) → is_open new.state ≡ true → Remembers (numbers_of accepted) old.space.dedup
      → AreAccepted accepts old.local_id (other old.side) (handed_in t) accepted → AreAccepted accepts old.local_id (other old.side) (handed_in (t ++ u)) accepted

  pub none_come : (old new : Inner S) (t u : List Act) → handed_in u ≡ [] → BringsNone old new t u
  none_come old new t u e = λ accepted up known are.
      subst (λ (z : List (List ℕ)). AreAccepted accepts old.local_id (other old.side) z accepted)
      (sym (handed_in-append t u ∙ (ap (λ (z : List (List ℕ)). handed_in t ++ z) e ∙ append-nil (handed_in t)))) are

  abbrev pub OwesIn : Inner S → Inner S → List Packet → List Act → Type 0
  OwesIn old c accepted t = IsOwing (length old.remote_id) old.side accepted t c.space

  going_on : (old new : Inner S) (accepted : List Packet) (t u : List Act) → GoesOn old new → BringsNone old new t u → (is_open new.state ≡ true → OwesIn old old accepted t → OwesIn old new accepted (t ++ u))
      → Owing accepts old accepted t → Owing accepts new accepted (t ++ u)
  going_on old new accepted t u g comes step o = record {
    come = λ p is. rw (g.local, g.side) (come_more accepts old.local_id (handed_in t) (handed_in (t ++ u)) (other old.side) p (in_before t u) (o.come p is));
    once = o.once;
    are = λ up. rw (g.local, g.side) (comes accepted up (o.remembers (g.opens up)) (o.are (g.opens up)));
    remembers = λ up. rw (g.numbers up) (o.remembers (g.opens up));
    space = λ up. rw (g.remote, g.side) (step up (o.space (g.opens up)));
  }

  -- what is owed goes on so where the space does
  pub on : (old new : Inner S) (t u : List Act) → GoesOn old new → BringsNone old new t u → ((accepted : List Packet) → is_open new.state ≡ true → OwesIn old old accepted t → OwesIn old new accepted (t ++ u))
      → Owes accepts old t → Owes accepts new (t ++ u)
  unfolding Owes
  on old new t u g comes step (accepted, o) = (accepted, going_on old new accepted t u g comes (step accepted) o)

  pub nothing_more : (c : Inner S) (t : List Act) → Owes accepts c t → Owes accepts c (t ++ [])
  nothing_more c t o = subst (λ (z : List Act). Owes accepts c z) (sym (append-nil t)) o

  pub without_more : (c : Inner S) (t : List Act) → Owes accepts c (t ++ []) → Owes accepts c t
  without_more c t o = subst (λ (z : List Act). Owes accepts c z) (append-nil t) o

  -- one that isn't open owes nothing any more
  pub shut : (old new : Inner S) (t u : List Act) → new.side ≡ old.side → new.local_id ≡ old.local_id → length new.remote_id ≡ length old.remote_id → is_open new.state ≡ false → Owes accepts old t → Owes accepts new (t ++ u)
  shut old new t u side local remote closed o =
      on old new t u (record { side = side; local = local; remote = remote; opens = λ up. absurd (both_ways (is_open new.state) closed up); numbers = λ up. absurd (both_ways (is_open new.state) closed up) })
      (λ accepted up known are. absurd (both_ways (is_open new.state) closed up))
      (λ accepted up p. absurd (both_ways (is_open new.state) closed up)) o

  -- it is as it was, but for what nothing of this speaks of
  pub same : (old new : Inner S) (t : List Act) → GoesOn old new → new.space ≡ old.space → Owes accepts old t → Owes accepts new t
  same old new t g e o =
      without_more new t (on old new t [] g (none_come old new t [] refl) (λ accepted up p. subst (λ (s : DataSpace). IsOwing (length old.remote_id) old.side accepted (t ++ []) s) (sym e)
      (subst (λ (z : List Act). IsOwing (length old.remote_id) old.side accepted z old.space) (sym (append-nil t)) p)) o)

  stays : (c : Inner S) → GoesOn c c
  stays c = record { side = refl; local = refl; remote = refl; opens = λ e. e; numbers = λ up. refl }

  -- ---- a datagram comes

  dropped : (c : Inner S) (t : List Act) (d : List ℕ) → BringsNone c c t (HandedIn d ∷ []) → Owes accepts c t → Owes accepts c (t ++ HandedIn d ∷ [])
  dropped c t d comes o = on c c t (HandedIn d ∷ []) (stays c) comes
      (λ accepted up p. owing_more (length c.remote_id) c.side accepted accepted t (t ++ HandedIn d ∷ []) c.space (λ x is. is) (out_before t (HandedIn d ∷ [])) (reads_in t d) p) o

  -- a datagram that is no packet for this end brings none
  pub unopened : (c : Inner S) (t : List Act) (d : List ℕ) → ((number : ℕ) (bytes : List ℕ) → IsOpenedBy accepts c d number bytes → ⊥) → BringsNone c c t (HandedIn d ∷ [])
  unopened c t d never = λ accepted up known are.
      let e = expected_of c.space in
      subst (λ (z : List (List ℕ)). AreAccepted accepts c.local_id (other c.side) z accepted) (sym (one_come t d))
      (brings_none (handed_in t) d accepted e.0 are (e.1 (numbers_of accepted) known) (λ number bytes is. never number bytes (record { expected = e.0; is_expected = e.1; is = is })))

  -- nor one whose number isn't new
  pub not_new : (c : Inner S) (t : List Act) (d : List ℕ) (number : ℕ) (bytes : List ℕ) → IsOpenedBy accepts c d number bytes → IsOldTo c.space number → BringsNone c c t (HandedIn d ∷ [])
  not_new c t d number bytes o known_already = λ accepted up known are.
      subst (λ (z : List (List ℕ)). AreAccepted accepts c.local_id (other c.side) z accepted) (sym (one_come t d))
      (brings_old (handed_in t) d accepted o.expected number bytes are (o.is_expected (numbers_of accepted) known) o.is (known_already (numbers_of accepted) known))

  -- nothing comes to an end that isn't open
  shut_out : (c : Inner S) (t u : List Act) → is_open c.state ≡ false → BringsNone c c t u
  shut_out c t u closed = λ accepted up known are. absurd (both_ways (is_open c.state) closed up)

  module _ (names : NamesTags accepts) where
    -- a packet that opens is one of its datagram's
    opened_packet : (c : Inner S) (d : List ℕ) (number : ℕ) (bytes : List ℕ) (fs : List QuicFrame) → IsOpenedBy accepts c d number bytes → AreQuicFrames bytes fs
        → HasPacket (length c.local_id) (record { space = Data; sender = other c.side; number = number; frames = fs }) d
    opened_packet c d number bytes fs o are =
        let i = o.is in
        has_packet (length c.local_id) d i.packet (other c.side) o.expected number fs i.is.fits i.is.whole (names (other c.side) Data number i.packet.tag i.is_number i.accepted) i.expanded
        (subst (λ (b : List ℕ). AreQuicFrames b fs) (sym i.frames_are) are)

    taken_open : (now : Moment) (number : ℕ) (bytes d : List ℕ) (old new : Inner S) (t : List Act) → IsOpenedBy accepts old d number bytes → IsNewTo old.space number → IsPacketTaken now number bytes old new
        → is_open new.state ≡ true → is_open old.state ≡ true → Owes accepts old t → Owes accepts new (t ++ HandedIn d ∷ [])
    unfolding Owes
    taken_open now number bytes d old new t opened is_new taken is_still was (accepted, o) =
        let u = HandedIn d ∷ [] in
        let went = goes_on_open now taken.end (record old { space = taken.space; idle = restarted now old.idle }) new taken.goes_on is_still in
        let fs = taken.surveyed.frames in
        let p : Packet = record { space = Data; sender = other old.side; number = number; frames = fs } in
        let more = p ∷ accepted in
        let has = opened_packet old d number bytes fs opened taken.surveyed.are in
        let are = subst (λ (end : Option ConnectionError). AreFramesTaken now.0 bytes taken.mid taken.space taken.taken end) went.0 taken.are_taken in
        let before = owing_more (length old.remote_id) old.side accepted more t (t ++ u) old.space (λ x is. inr is) (out_before t u) (reads_in t d) (o.space was) in
        let after = taken_space (length old.remote_id) old.side more (t ++ u) now.0 number taken.is_eliciting bytes old.space taken.mid taken.space taken.taken p (inl refl) refl taken.accepted are taken.surveyed.are before in
        let known = o.remembers was in
        let no_more = frames_same now.0 bytes taken.mid taken.space taken.taken None are in (
          more,
          rw (went.1) (record {
            come = λ q is. elim is [
              | inl last ↦ subst (λ (x : Packet). WasAccepted accepts old.local_id (handed_in (t ++ u)) (other old.side) x) last (record {
                datagram = d;
                among = last_in t d;
                expected = opened.expected;
                bytes = bytes;
                opened = opened.is;
                are = taken.surveyed.are;
                has = has;
                space_is = refl;
                sender_is = refl;
              })
              | inr earlier ↦ come_more accepts old.local_id (handed_in t) (handed_in (t ++ u)) (other old.side) q (in_before t u) (o.come q earlier)
            ];
            once = ((is_new (numbers_of accepted) known).is_unseen, o.once);
            are = λ up.
                subst (λ (z : List (List ℕ)). AreAccepted accepts old.local_id (other old.side) z more) (sym (one_come t d))
                (brings_one (handed_in t) d accepted p opened.expected bytes (o.are was) (opened.is_expected (numbers_of accepted) known) opened.is taken.surveyed.are refl refl (is_new (numbers_of accepted) known));
            remembers = λ up. rw no_more (taken.accepted.remembers (numbers_of accepted) known);
            space = λ up. after;
          }),
        )

    faulted : (now : Moment) (e : TransportError) (old new : Inner S) (t u : List Act) → IsFaulted now e old new → Owes accepts old t → Owes accepts new (t ++ u)
    faulted now e old new t u f o =
        let c = f.closed in
        subst (λ (n : Inner S). Owes accepts n (t ++ u)) (sym c.rest_is) (shut old _ t u refl refl refl refl o)

    went_end : (now : Moment) (end : Option ConnectionError) (old new : Inner S) → GoesOnWith now end old new → IsSameEnd old new
    went_end now None old new e = rw e (record { side = refl; local_id = refl; remote_length = refl; config = refl })
    went_end now (Some e) old new on_so = rw ((ended_with now e old new on_so).rest_is) (record { side = refl; local_id = refl; remote_length = refl; config = refl })

    taken_end : (now : Moment) (number : ℕ) (bytes : List ℕ) (old new : Inner S) → IsPacketTaken now number bytes old new → IsSameEnd old new
    taken_end now number bytes old new taken =
        let e = went_end now taken.end (record old { space = taken.space; idle = restarted now old.idle }) new taken.goes_on in
        record { side = e.side; local_id = e.local_id; remote_length = e.remote_length; config = e.config }

    handled : (now : Moment) (number : ℕ) (bytes d : List ℕ) (old new : Inner S) (t : List Act) → is_open old.state ≡ true → IsOpenedBy accepts old d number bytes → IsPacketHandled now number bytes old new
        → Owes accepts old t → Owes accepts new (t ++ HandedIn d ∷ [])
    handled now number bytes d old new t was opened (repeated known e) o = subst (λ (c : Inner S). Owes accepts c (t ++ HandedIn d ∷ [])) (sym e) (dropped old t d (not_new old t d number bytes opened known) o)
    handled now number bytes d old new t was opened (empty e fresh none fault f) o = faulted now e old new t (HandedIn d ∷ []) f o
    handled now number bytes d old new t was opened (faulty e kind fresh bad fault f) o = faulted now e old new t (HandedIn d ∷ []) f o
    handled now number bytes d old new t was opened (unnoted e eliciting fresh read at f) o = faulted now e old new t (HandedIn d ∷ []) f o
    handled now number bytes d old new t was opened (taken_packet fresh taken) o = elim (cases_Bool (is_open new.state)) [
      | inl still ↦ taken_open now number bytes d old new t opened fresh taken still was o
      | inr closed ↦ let e = taken_end now number bytes old new taken in shut old new t (HandedIn d ∷ []) e.side e.local_id e.remote_length closed o
    ]

    datagram_taken : (now : Moment) (d : List ℕ) (old new : Inner S) (t : List Act) → IsDatagramTaken accepts now d old new → Owes accepts old t → Owes accepts new (t ++ HandedIn d ∷ [])
    datagram_taken now d old new t (dropped_datagram was none e) o = subst (λ (c : Inner S). Owes accepts c (t ++ HandedIn d ∷ [])) (sym e) (dropped old t d (unopened old t d none) o)
    datagram_taken now d old new t (handled_datagram number bytes was opened h) o = handled now number bytes d old new t was opened h o
    datagram_taken now d old new t (told_again reason due until is quiet e) o = subst (λ (c : Inner S). Owes accepts c (t ++ HandedIn d ∷ [])) (sym e) (shut old _ t (HandedIn d ∷ []) refl refl refl refl o)
    datagram_taken now d old new t (closed_too reason due until is closes e) o = subst (λ (c : Inner S). Owes accepts c (t ++ HandedIn d ∷ [])) (sym e) (shut old _ t (HandedIn d ∷ []) refl refl refl refl o)
    datagram_taken now d old new t (draining_datagram until is e) o = subst (λ (c : Inner S). Owes accepts c (t ++ HandedIn d ∷ [])) (sym e) (dropped old t d (shut_out old t (HandedIn d ∷ []) (ap is_open is)) o)
    datagram_taken now d old new t (drained_datagram is e) o = subst (λ (c : Inner S). Owes accepts c (t ++ HandedIn d ∷ [])) (sym e) (dropped old t d (shut_out old t (HandedIn d ∷ []) (ap is_open is)) o)

  closed_by : (now : Moment) (reason : CloseReason) (error : ConnectionError) (old new : Inner S) (t : List Act) → IsClosedWith now reason error old new → Owes accepts old t → Owes accepts new t
  closed_by now reason error old new t c o = subst (λ (n : Inner S). Owes accepts n t) (sym c.rest_is) (without_more _ t (shut old _ t [] refl refl refl refl o))

  maybe_closed : (b : Bool) (now : Moment) (reason : CloseReason) (error : ConnectionError) (old new : Inner S) (t : List Act) → MatchBool b (IsClosedWith now reason error old new) (new ≡ old) → Owes accepts old t → Owes accepts new t
  maybe_closed true now reason error old new t c o = closed_by now reason error old new t c o
  maybe_closed false now reason error old new t e o = subst (λ (n : Inner S). Owes accepts n t) (sym e) o

  pub close_owes : (now : Moment) (reason : CloseReason) (error : ConnectionError) (old new : Inner S) (t : List Act)
      → (is_open old.state ≡ true → IsClosedWith now reason error old new) → (is_open old.state ≡ false → new ≡ old) → Owes accepts old t → Owes accepts new t
  close_owes now reason error old new t closed kept o = elim (cases_Bool (is_open old.state)) [
    | inl up ↦ closed_by now reason error old new t (closed up) o
    | inr down ↦ subst (λ (n : Inner S). Owes accepts n t) (sym (kept down)) o
  ]

  counted_owes : (c : Inner S) (u : _) (t : List Act) → Owes accepts c t → Owes accepts (record c { udp_rx = u }) t
  counted_owes c u t o = same c (record c { udp_rx = u }) t (record { side = refl; local = refl; remote = refl; opens = λ e. e; numbers = λ up. refl }) refl o

  pub failed : (old new : Inner S) (t u : List Act) → IsFailedBy old new → Owes accepts old t → Owes accepts new (t ++ u)
  failed old new t u f o = subst (λ (n : Inner S). Owes accepts n (t ++ u)) (sym f.rest_is) (shut old _ t u refl refl refl refl o)

  pub event_taken : (event : ConnectionEvent) (old new : Inner S) (t : List Act) → NamesTags accepts → IsEventTaken accepts event old new → Owes accepts old t → Owes accepts new (t ++ event_acts event)
  event_taken (Datagram now remote payload) old new t names taken o = datagram_taken names now payload _ new t taken (counted_owes old _ t o)
  event_taken (Close now code reason) old new t names taken o = nothing_more new t (maybe_closed (is_open old.state) now _ _ old new t taken o)

  pub event_failed : (event : ConnectionEvent) (old new : Inner S) (t : List Act) → IsFailedBy (received event old) new → Owes accepts old t → Owes accepts new (t ++ event_acts event)
  event_failed (Datagram now remote payload) old new t f o = failed _ new t (HandedIn payload ∷ []) f (counted_owes old _ t o)
  event_failed (Close now code reason) old new t f o = failed old new t [] f o

  pub event_owes : (event : ConnectionEvent) (answer : Result Unit OutOfMemory) (old new : Inner S) (t : List Act) → NamesTags accepts
      → OnOk answer (IsEventTaken accepts event old new) → OnErr answer (IsFailedBy (received event old) new) → Owes accepts old t → Owes accepts new (t ++ event_acts event)
  event_owes event (Ok done) old new t names ok err o = event_taken event old new t names ok o
  event_owes event (Err e) old new t names ok err o = event_failed event old new t err o

  -- ---- a datagram goes

  -- the datagram has the packet with these frames
  sealed_packet : (sealed : Side → Space → ℕ → List ℕ) (c : Inner S) (bytes : List ℕ) (fs : List QuicFrame) → MakesTags sealed → c.space.next_number < 2 ^ 62 → AreQuicFrames bytes fs
      → HasPacket (length c.remote_id) (record { space = Data; sender = c.side; number = c.space.next_number; frames = fs }) (datagram_of sealed c bytes)
  sealed_packet sealed c bytes fs makes below are =
      let number = c.space.next_number in
      let tag = sealed c.side Data number in
      let tagged = makes c.side Data number below in
      one_rtt (datagram_of sealed c bytes) (record {
        short = short_of c.remote_id number bytes tag;
        fits = record { destination = refl; some_number = omega arith; short_number = omega arith; tag = tag_length tag c.side Data number tagged };
        whole = ap (λ (z : List ℕ). 67 ∷ z) (append_assoc c.remote_id (low_bytes number) (bytes ++ tag));
        content = record { space_is = refl; tagged = tagged; low = low_value number; frames = are };
      })

  frames_made : (sealed : Side → Space → ℕ → List ℕ) (now : Moment) (old new : Inner S) (header bytes : List ℕ) (t : List Act) → MakesTags sealed → old.space.next_number < 2 ^ 62
      → AreFramesMade now old new header bytes → Owes accepts old t → Owes accepts new (t ++ HandedOut (datagram_of sealed old bytes) ∷ [])
  frames_made sealed now old new header bytes t makes below (packet_frames opened packet_made e) o =
      let u = HandedOut (datagram_of sealed old bytes) ∷ [] in
      on old new t u (record { side = ap (λ (c : Inner S). c.side) e; local = ap (λ (c : Inner S). c.local_id) e; remote = ap (λ (c : Inner S). length c.remote_id) e; opens = λ up. opened; numbers = λ up. made_same now.0 (overhead old) (1200 - overhead old) old.space new.space header (header ++ bytes) packet_made })
      (none_come old new t u refl)
      (λ accepted up p.
      let m = made_owing (length old.remote_id) old.side accepted t now.0 (overhead old) (1200 - overhead old) old.space new.space header (header ++ bytes) packet_made p in
      let same_bytes : m.bytes ≡ bytes = sym (append_cancel_left header bytes m.bytes m.appended) in
      m.owing (datagram_of sealed old bytes) (sealed_packet sealed old bytes m.frames makes below (subst (λ (z : List ℕ). AreQuicFrames z m.frames) same_bytes m.are))) o
  frames_made sealed now old new header bytes t makes below (control_frames opened made e) o =
      let d = datagram_of sealed old bytes in
      let u = HandedOut d ∷ [] in
      let size = overhead old + length bytes in
      on old new t u (record { side = ap (λ (c : Inner S). c.side) e; local = ap (λ (c : Inner S). c.local_id) e; remote = ap (λ (c : Inner S). length c.remote_id) e; opens = λ up. opened; numbers = λ up. (bare_rest now.0 size old.space new.space made.sent).dedup })
      (none_come old new t u refl)
      (λ accepted up p. bare_owing (length old.remote_id) old.side accepted t now.0 size old.space new.space made.sent d p) o
  frames_made sealed now old new header bytes t makes below (close_frames reason until is frames_are e) o =
      subst (λ (c : Inner S). Owes accepts c (t ++ HandedOut (datagram_of sealed old bytes) ∷ [])) (sym e) (shut old _ t (HandedOut (datagram_of sealed old bytes) ∷ []) refl refl refl refl o)

  pub datagram_made : (sealed : Side → Space → ℕ → List ℕ) (now : Moment) (old new : Inner S) (before after : List ℕ) (transmit : Transmit) (t : List Act) → MakesTags sealed
      → IsDatagramMade sealed now old new before after transmit → Owes accepts old t → Owes accepts new (t ++ HandedOut (drop (length before) after) ∷ [])
  datagram_made sealed now old new before after transmit t makes m o =
      let d = datagram_of sealed old m.bytes.frames in
      let behind : drop (length before) after ≡ d = ap (λ (z : List ℕ). drop (length before) z) m.bytes.after_is ∙ drop-append_seam before d in
      rw behind (frames_made sealed now old new (header_bytes old.remote_id old.space.next_number) m.bytes.frames t makes m.bytes.number m.bytes.made o)

  pub nothing_sent : (old new : Inner S) (t : List Act) → NothingIsSent old new → Owes accepts old t → Owes accepts new t
  nothing_sent old new t n o = subst (λ (c : Inner S). Owes accepts c t) (sym n.0) o

  pub transmit_owes : (sealed : Side → Space → ℕ → List ℕ) (now : Moment) (before after : List ℕ) (answer : Result (Option Transmit) OutOfMemory) (old new : Inner S) (t : List Act) → MakesTags sealed
      → IfOk answer (λ o. IfSome o (λ transmit. IsDatagramMade sealed now old new before after transmit)) → IfOk answer (λ o. o ≡ None → (after ≡ before) × NothingIsSent old new)
      → OnErr answer ((after ≡ before) × IsFailedBy old new) → Owes accepts old t → Owes accepts new (t ++ transmit_acts before after answer)
  transmit_owes sealed now before after (Ok (Some transmit)) old new t makes some none err o = datagram_made sealed now old new before after transmit t makes some o
  transmit_owes sealed now before after (Ok None) old new t makes some none err o = nothing_more new t (nothing_sent old new t (none refl).1 o)
  transmit_owes sealed now before after (Err e) old new t makes some none err o = failed old new t [] err.1 o

  -- ---- moments

  recovered : (now : ℕ) (old : Inner S) (mid space : DataSpace) (t : List Act) → AreLostByAge now old.space mid → IsProbed now mid space → Owes accepts old t → Owes accepts (with_space old space) t
  recovered now old mid space t aged probed o =
      without_more _ t (on old (with_space old space) t [] (record { side = refl; local = refl; remote = refl; opens = λ e. e; numbers = λ up. probed_same now mid space probed ∙ aged_same now old.space mid aged })
      (none_come old (with_space old space) t [] refl)
      (λ accepted up p. subst (λ (z : List Act). IsOwing (length old.remote_id) old.side accepted z space) (sym (append-nil t))
      (probed_owing (length old.remote_id) old.side t accepted now mid space probed (aged_owing (length old.remote_id) old.side t accepted now old.space mid aged p))) o)

  pub timed_out : (now : ℕ) (old new : Inner S) (t : List Act) → IsTimedOut now old new → Owes accepts old t → Owes accepts new t
  timed_out now old new t (idle_out was due e) o = subst (λ (c : Inner S). Owes accepts c t) (sym e) (without_more _ t (shut old _ t [] refl refl refl refl o))
  timed_out now old new t (recovery_out mid was idle aged probed e) o = subst (λ (c : Inner S). Owes accepts c t) (sym e) (recovered now old mid new.space t aged probed o)
  timed_out now old new t (closed_out reason due until is passed e) o = subst (λ (c : Inner S). Owes accepts c t) (sym e) (without_more _ t (shut old _ t [] refl refl refl refl o))
  timed_out now old new t (draining_out until is passed e) o = subst (λ (c : Inner S). Owes accepts c t) (sym e) (without_more _ t (shut old _ t [] refl refl refl refl o))
  timed_out now old new t (waits_out moment is early e) o = subst (λ (c : Inner S). Owes accepts c t) (sym e) o
  timed_out now old new t (drained_out is e) o = subst (λ (c : Inner S). Owes accepts c t) (sym e) o
