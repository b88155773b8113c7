-- A datagram of a peer's that says few ids: what an end keeps behind it, and that none of its frames of ids is refused.
use Rattle.std.proofs.Common.{◌≡◌, ◌≢◌, ℕ, Bool, true, false, List, [], ◌∷◌, ◌++◌, length, is_some, Option, Some, None, refl, sym, ap, subst, ◌∙◌, inl, inr, arith}
use Rattle.std.specs.Prelude.{if◌then◌else◌}
use Rattle.std.proofs.lemmas.Bool.{cond_both}
use Rattle.std.proofs.lemmas.List.Elements.{All-nil}
use Rattle.qh_base.specs.declared.connection_error.ConnectionError.{ConnectionError}
use Rattle.qh_base.specs.declared.connection_error.ConnectionError.TheVariants as error
use Rattle.qh_base.specs.declared.time.Moment.{Moment}
use Rattle.qh_base.specs.declared.transport_error.TransportError.{TransportError}
use Rattle.qh_cids.specs.CidQueue.{PlainCids}
use Rattle.qh_cids.specs.declared.cid_queue.RemoteCid.{RemoteCid}
use Rattle.qh_conduct.proofs.ReachSpaces.{form_same}
use Rattle.qh_conn.proofs.InFed.{met_session, rest_ends, fed_tags}
use Rattle.qh_conn.proofs.InHears.{opened_short}
use Rattle.qh_conn.proofs.InSound.{shut_heard, shut_taken}
use Rattle.qh_conn.specs.Greeting.{IsGreetedNow, connected, control_greeted, ids_asked, with_core}
use Rattle.qh_conn.specs.Incoming.{AreFramesHandled, BeginsWithFrames, EndsBy, IsClosingHeard, IsDatagramHandled, IsFed, IsMet, IsRestTaken, IsRestarted, IsShutConnected, connected_if, counted_at}
use Rattle.qh_conn.specs.Items.{noted, streams_taken}
use Rattle.qh_conn.specs.Whole.{IsSound}
use Rattle.qh_conn.specs.declared.connection.Connection.{Connection}
use Rattle.qh_control.specs.Queue.{PlainQueue}
use Rattle.qh_control.specs.declared.control.ControlState.{ControlState}
use Rattle.qh_control.specs.declared.items.ConnectionItem.{ConnectionItem}
use Rattle.qh_core.proofs.Ends.{ended_with}
use Rattle.qh_core.specs.Inner.{is_client, is_open}
use Rattle.qh_core.specs.Receiving.{BringsPacket, GoesOnWith, IsClosedHeard, IsDatagramTaken as IsCoreTaken, IsDrainingFrom, IsFaulted, IsPacketHandled, IsPacketTaken, counted_in}
use Rattle.qh_core.specs.Timers.{restarted}
use Rattle.qh_core.specs.declared.inner.Inner.{Inner}
use Rattle.qh_core.specs.declared.state.Close.{Close}
use Rattle.qh_core.specs.declared.state.State.{State}
use Rattle.qh_core.specs.declared.state.State.TheVariants.{Closed}
use Rattle.qh_frame.specs.FrameAt.{Begins}
use Rattle.qh_frame.specs.Plain.{plain_of}
use Rattle.qh_frame.specs.WrittenForm.{written_form}
use Rattle.qh_frame.specs.declared.frame.Frame.{Frame}
use Rattle.qh_handshake.proofs.GoingOn.{taken_goes}
use Rattle.qh_handshake.specs.Incoming.{SessionView}
use Rattle.qh_handshake.specs.declared.handshake.Handshake.{Handshake}
use Rattle.qh_hello.specs.declared.transport_parameters.TransportParameters.{TransportParameters}
use Rattle.qh_packet.proofs.Packets.{has_packet}
use Rattle.qh_packet.proofs.Surveys.{frame_takes}
use Rattle.qh_packet.specs.Session.{AcceptsTag, NamesTags}
use Rattle.qh_peers.proofs.IdControls.{all_hold, all_in_use, all_unrefused, holds_same, lost_holds}
use Rattle.qh_peers.proofs.IdSteps.{faulted_code, goes_greeted, keeps_on, open_code, said_again, shut_open}
use Rattle.qh_peers.specs.Ids.{BelongsTo, HasCode, HoldsFewIds, IsFewId, KeepsFewIds, NoneIsRefused, NoneIsRefusedBehind, NoneIsRefusedIn, SayFewIds, SaysFewIds, SaysOwnToken}
use Rattle.qh_spec.proofs.FrameLaws.{quic_frame_agrees}
use Rattle.qh_spec.proofs.PartLaws.{ends_has}
use Rattle.qh_spec.specs.Link.{other}
use Rattle.qh_spec.specs.Lists.{In}
use Rattle.qh_spec.specs.Parted.{EndsWith}
use Rattle.qh_spec.specs.QuicFrames.{AreQuicFrames, QuicFrame}
use Rattle.qh_spec.specs.Transcript.{Act, HandedIn}
use Rattle.qh_spec.specs.declared.sides.Side.{Side}
use Rattle.qh_spec.specs.declared.sides.Space.TheVariants.{Data}
use Rattle.qh_streams.specs.declared.fault.StreamFault.TheVariants.{Transport}

-- ---- the frames of a packet

-- what a frame begins is the first of those that the bytes are
record IsFirst (fs : List QuicFrame) (form : QuicFrame) (rest : List ℕ) : Type 0 where
  first : QuicFrame
  more : List QuicFrame
  are : fs ≡ first ∷ more
  form_is : written_form first ≡ form
  others : AreQuicFrames rest more

first_is : (bytes rest : List ℕ) (form : QuicFrame) (fs : List QuicFrame) → Begins bytes form rest → AreQuicFrames bytes fs → IsFirst fs form rest
first_is bytes rest form [] b none = absurd (omega (arith, frame_takes bytes rest form b, ap length none))
first_is bytes rest form (q ∷ more) b are =
    let one = quic_frame_agrees bytes b.frame q rest are.0 b.is are.1 in
    record { first = q; more = more; are = refl; form_is = ap written_form (sym one.0) ∙ b.form_is; others = subst (λ (z : List ℕ). AreQuicFrames z more) (sym one.1) are.2 }

-- a frame says of ids what its form says
says_form : (n : ℕ) (q form : QuicFrame) → written_form q ≡ form → SaysFewIds n q → SaysFewIds n form
says_form n q form is says = record {
  new_id = λ sequence prior id token e. says.new_id sequence prior id token (form_same q _ (is ∙ e) refl refl refl);
  no_retire = λ sequence e. says.no_retire sequence (form_same q _ (is ∙ e) refl refl refl);
}

read_say : (n : ℕ) (bytes : List ℕ) (read : List Frame) (fs : List QuicFrame) → BeginsWithFrames bytes read → AreQuicFrames bytes fs → ((q : QuicFrame) → In q fs → SaysFewIds n q) → (f : Frame) → In f read → SaysFewIds n (plain_of f)
read_say n _ _ fs (BeginsWithFrames.none bytes) are all f among = absurd among
read_say n _ _ fs (BeginsWithFrames.more bytes rest g others first begins) are all f (inl same) =
    let one = first_is bytes rest (plain_of g) fs first are in
    subst (λ (h : Frame). SaysFewIds n (plain_of h)) same
    (says_form n one.first (plain_of g) one.form_is (all one.first (subst (λ (z : List QuicFrame). In one.first z) (sym one.are) (inl refl))))
read_say n _ _ fs (BeginsWithFrames.more bytes rest g others first begins) are all f (inr later) =
    let one = first_is bytes rest (plain_of g) fs first are in
    read_say n rest others one.more begins one.others (λ q is. all q (subst (λ (z : List QuicFrame). In q z) (sym one.are) (inr is))) f later

closed_code : (reason : Close) (first second : Bool) (until : Moment) (s : State) → s ≡ Closed reason first until → HasCode s → HasCode (Closed reason second until)
closed_code reason first second until s was code = said_again reason first second until (subst (λ (z : State). HasCode z) was code)

-- further ids may be asked for
asked_same : (P : ControlState → Type 0) (now : Moment) (b : Bool) (s : ControlState) → P (ids_asked now s) → P s → P (if b then ids_asked now s else s)
asked_same P now true s asked same = asked
asked_same P now false s asked same = same

greeted_holds : (k : ℕ) (s : ControlState) (id : List ℕ) (p : TransportParameters) → BelongsTo id p.stateless_reset_token → HoldsFewIds k s → HoldsFewIds k (control_greeted s id p)
greeted_holds k s id p token h = record {
  peers = record { none_retired = refl; active = record { below = omega arith; token = token }; waiting = All-nil IsFewId; rising = tt; others = All-nil (λ (cid : RemoteCid). cid.sequence ≢ 0) };
  id_len = h.id_len;
  none_gone = h.none_gone;
  few = h.few;
  limit = omega arith;
  waiting = h.waiting;
  sent = h.sent;
}

own_token : (id other_id : List ℕ) (o : Option TransportParameters) (p : TransportParameters) → o ≡ Some p → other_id ≡ id → SaysOwnToken other_id o → BelongsTo id p.stateless_reset_token
own_token id other_id o p is same says =
    subst (λ (i : List ℕ). BelongsTo i p.stateless_reset_token) same (subst (λ (z : Option TransportParameters). SaysOwnToken other_id z) is says)

is_none : (o : Option TransportParameters) → is_some o ≡ false → o ≡ None
is_none None none = refl
is_none (Some p) none = absurd (let z : true ≡ false = none in cc)

was_not : (b : Bool) → b ≡ false → b ≡ true → ⊥
was_not b none was = let z : false ≡ true = sym none ∙ was in cc

module _ {S : Type 0} where
  -- those of a packet that was accepted, behind the Initial packets of a datagram that says few ids
  brought_say : (n : ℕ) (accepts : AcceptsTag) (now : Moment) (rest d frames : List ℕ) (read : List Frame) (c new : Inner S) → NamesTags accepts → EndsWith rest d → BringsPacket accepts now rest frames c new
      → BeginsWithFrames frames read → SayFewIds n (length c.local_id) (d ∷ []) (other c.side) → (f : Frame) → In f read → SaysFewIds n (plain_of f)
  brought_say n accepts now rest d frames read c new named ends b begins says =
      let o = b.is.is in
      let fs = b.taken.surveyed.frames in
      read_say n frames read fs begins b.taken.surveyed.are (λ q there. says q (record {
        datagram = d;
        among = inl refl;
        packet = record { space = Data; sender = other c.side; number = b.number; frames = fs };
        has = ends_has (length c.local_id) (record { space = Data; sender = other c.side; number = b.number; frames = fs }) rest d ends
            (has_packet (length c.local_id) rest o.packet (other c.side) b.is.expected b.number fs o.is.fits o.is.whole (named (other c.side) Data b.number o.packet.tag o.is_number o.accepted) o.expanded
            (subst (λ (z : List ℕ). AreQuicFrames z fs) (sym o.frames_are) b.taken.surveyed.are));
        space_is = refl;
        sender_is = refl;
        frame_among = there;
      }))

  -- ---- the end of the 1-RTT packets

  -- it is the same end, and the code of a close fits
  record IsSameCore (old new : Inner S) : Type 0 where
    side : new.side ≡ old.side
    local_id : new.local_id ≡ old.local_id
    remote_id : new.remote_id ≡ old.remote_id
    code : HasCode old.state → HasCode new.state

  core_by : (old new to : Inner S) → new ≡ to → IsSameCore old to → IsSameCore old new
  core_by old new to is same = subst (λ (c : Inner S). IsSameCore old c) (sym is) same

  core_itself : (c : Inner S) → IsSameCore c c
  core_itself c = record { side = refl; local_id = refl; remote_id = refl; code = λ code. code }

  core_both : (old mid new : Inner S) → IsSameCore old mid → IsSameCore mid new → IsSameCore old new
  core_both old mid new a b = record { side = b.side ∙ a.side; local_id = b.local_id ∙ a.local_id; remote_id = b.remote_id ∙ a.remote_id; code = λ code. b.code (a.code code) }

  faulted_same : (now : Moment) (e : TransportError) (old new : Inner S) → IsFaulted now e old new → IsSameCore old new
  faulted_same now e old new f =
      let is = f.closed.rest_is in
      record { side = ap (λ (c : Inner S). c.side) is; local_id = ap (λ (c : Inner S). c.local_id) is; remote_id = ap (λ (c : Inner S). c.remote_id) is; code = λ _. faulted_code now e old new f }

  draining_same : (now : Moment) (e : ConnectionError) (old new : Inner S) → IsDrainingFrom now e old new → IsSameCore old new
  draining_same now e old new d = core_by old new _ d.rest_is (record { side = refl; local_id = refl; remote_id = refl; code = λ _. tt })

  ends_same : (now : Moment) (e : ConnectionError) (old new : Inner S) → GoesOnWith now (Some e) old new → IsSameCore old new
  ends_same now (error.TransportError e) old new f = faulted_same now e old new f
  ends_same now error.VersionMismatch old new d = draining_same now error.VersionMismatch old new d
  ends_same now (error.ConnectionClosed said) old new d = draining_same now (error.ConnectionClosed said) old new d
  ends_same now (error.ApplicationClosed said) old new d = draining_same now (error.ApplicationClosed said) old new d
  ends_same now error.Reset old new d = draining_same now error.Reset old new d
  ends_same now error.TimedOut old new d = draining_same now error.TimedOut old new d
  ends_same now error.LocallyClosed old new d = draining_same now error.LocallyClosed old new d
  ends_same now error.CidsExhausted old new d = draining_same now error.CidsExhausted old new d
  ends_same now error.Memory old new d = draining_same now error.Memory old new d

  goes_same : (now : Moment) (end : Option ConnectionError) (old new : Inner S) → GoesOnWith now end old new → IsSameCore old new
  goes_same now None old new is = core_by old new old is (core_itself old)
  goes_same now (Some e) old new on = ends_same now e old new on

  -- an error ends it
  by_end : (now : Moment) (e : ConnectionError) (old new : Inner S) → EndsBy now e old new → GoesOnWith now (Some e) old new
  by_end now (error.TransportError e) old new f = f
  by_end now error.VersionMismatch old new d = d
  by_end now (error.ConnectionClosed said) old new d = d
  by_end now (error.ApplicationClosed said) old new d = d
  by_end now error.Reset old new d = d
  by_end now error.TimedOut old new d = d
  by_end now error.LocallyClosed old new d = d
  by_end now error.CidsExhausted old new d = d
  by_end now error.Memory old new d = d

  ended_shut : (now : Moment) (e : ConnectionError) (old new : Inner S) → EndsBy now e old new → is_open new.state ≡ false
  ended_shut now e old new ends = let w = ended_with now e old new (by_end now e old new ends) in ap (λ (c : Inner S). is_open c.state) w.rest_is ∙ w.shut

  packet_same : (now : Moment) (number : ℕ) (frames : List ℕ) (old new : Inner S) → IsPacketTaken now number frames old new → IsSameCore old new
  packet_same now number frames old new p =
      core_both old (record old { space = p.space; idle = restarted now old.idle }) new (record { side = refl; local_id = refl; remote_id = refl; code = λ code. code }) (goes_same now p.end _ new p.goes_on)

  handled_same : (now : Moment) (number : ℕ) (frames : List ℕ) (old new : Inner S) → IsPacketHandled now number frames old new → IsSameCore old new
  handled_same now number frames old new (IsPacketHandled.repeated is e) = core_by old new old e (core_itself old)
  handled_same now number frames old new (IsPacketHandled.empty e is none says f) = faulted_same now e old new f
  handled_same now number frames old new (IsPacketHandled.faulty e kind is at says f) = faulted_same now e old new f
  handled_same now number frames old new (IsPacketHandled.unnoted e eliciting is valid at f) = faulted_same now e old new f
  handled_same now number frames old new (IsPacketHandled.taken is p) = packet_same now number frames old new p

  taken_same : (accepts : AcceptsTag) (now : Moment) (d : List ℕ) (old new : Inner S) → IsCoreTaken accepts now d old new → IsSameCore old new
  taken_same accepts now d old new (IsCoreTaken.dropped up none e) = core_by old new old e (core_itself old)
  taken_same accepts now d old new (IsCoreTaken.handled number frames up o h) = handled_same now number frames old new h
  taken_same accepts now d old new (IsCoreTaken.told_again reason due until was none e) =
      core_by old new _ e (record { side = refl; local_id = refl; remote_id = refl; code = λ code. closed_code reason due true until old.state was code })
  taken_same accepts now d old new (IsCoreTaken.closed_too reason due until was brings e) = core_by old new _ e (record { side = refl; local_id = refl; remote_id = refl; code = λ _. tt })
  taken_same accepts now d old new (IsCoreTaken.draining until was e) = core_by old new old e (core_itself old)
  taken_same accepts now d old new (IsCoreTaken.drained was e) = core_by old new old e (core_itself old)

  heard_same : (b : Bool) (old new : Inner S) → IsClosedHeard b old new → IsSameCore old new
  heard_same b old new (IsClosedHeard.told_again reason due until was brings e) =
      core_by old new _ e (record { side = refl; local_id = refl; remote_id = refl; code = λ code. closed_code reason due true until old.state was code })
  heard_same b old new (IsClosedHeard.closed_too reason due until was brings e) = core_by old new _ e (record { side = refl; local_id = refl; remote_id = refl; code = λ _. tt })
  heard_same b old new (IsClosedHeard.draining until was e) = core_by old new old e (core_itself old)
  heard_same b old new (IsClosedHeard.drained was e) = core_by old new old e (core_itself old)

  -- ---- the connection

  -- all that few ids depend on is the same
  record IsSame (old new : Connection S) : Type 0 where
    peer : new.handshake.peer ≡ old.handshake.peer
    remote : new.handshake.remote_id ≡ old.handshake.remote_id
    side : new.core.side ≡ old.core.side
    local_id : new.core.local_id ≡ old.core.local_id
    remote_id : new.core.remote_id ≡ old.core.remote_id
    state : new.core.state ≡ old.core.state
    ids : new.control.ids ≡ old.control.ids
    own_ids : new.control.own_ids ≡ old.control.own_ids
    id_limit : new.control.id_limit ≡ old.control.id_limit
    queue : new.control.queue ≡ old.control.queue

  same_itself : (c : Connection S) → IsSame c c
  same_itself c = record { peer = refl; remote = refl; side = refl; local_id = refl; remote_id = refl; state = refl; ids = refl; own_ids = refl; id_limit = refl; queue = refl }

  same_holds : (k : ℕ) (old new : Connection S) → IsSame old new → HoldsFewIds k old.control → HoldsFewIds k new.control
  same_holds k old new same h =
      holds_same k old.control new.control same.ids same.own_ids same.id_limit (ap (λ (q : PlainQueue). q.waiting) same.queue) (ap (λ (q : PlainQueue). q.sent) same.queue) h

  -- what came to the streams is logged
  record IsLoggedCore (old new : Inner S) : Type 0 where
    side : new.side ≡ old.side
    local_id : new.local_id ≡ old.local_id
    remote_id : new.remote_id ≡ old.remote_id
    state : new.state ≡ old.state

  logged_core : (log : Option (List ConnectionItem)) (core : Inner S) → IsLoggedCore core (streams_taken log core)
  logged_core None core = record { side = refl; local_id = refl; remote_id = refl; state = refl }
  logged_core (Some items) core = record { side = refl; local_id = refl; remote_id = refl; state = refl }

  noted_same : (more : List ConnectionItem) (c : Connection S) → IsSame c (noted more c)
  noted_same more c =
      let l = logged_core c.control.log c.core in
      record { peer = refl; remote = refl; side = l.side; local_id = l.local_id; remote_id = l.remote_id; state = l.state; ids = refl; own_ids = refl; id_limit = refl; queue = refl }

  connected_same : (now : Moment) (c : Connection S) → IsSame c (connected now c)
  connected_same now c =
      let l = logged_core c.control.log c.core in
      let up = is_open c.core.state in
      record {
        peer = refl;
        remote = refl;
        side = l.side;
        local_id = l.local_id;
        remote_id = l.remote_id;
        state = l.state;
        ids = asked_same (λ (s : ControlState). s.ids ≡ c.control.ids) now up c.control refl refl;
        own_ids = asked_same (λ (s : ControlState). s.own_ids ≡ c.control.own_ids) now up c.control refl refl;
        id_limit = asked_same (λ (s : ControlState). s.id_limit ≡ c.control.id_limit) now up c.control refl refl;
        queue = asked_same (λ (s : ControlState). s.queue ≡ c.control.queue) now up c.control refl refl;
      }

  connected_if_same : (now : Moment) (c : Connection S) → IsSame c (connected_if now c)
  connected_if_same now c = cond_both c.is_connected (noted [] c) (connected now c) (λ (z : Connection S). IsSame c z) (λ _. noted_same [] c) (λ _. connected_same now c)

  -- ---- behind the Initial packets

  -- what holds of an end as the rest of a datagram comes: the id in use is as long as the one to which packets go
  record IsReady (k : ℕ) (c : Connection S) : Type 0 where
    as_long : length c.core.remote_id ≡ length c.control.ids.active.id
    holds : HoldsFewIds k c.control
    up : is_open c.core.state ≡ true

  -- what the rest leaves
  record IsBehindRest (k : ℕ) (old new : Connection S) : Type 0 where
    peer : new.handshake.peer ≡ old.handshake.peer
    side : new.core.side ≡ old.core.side
    local_id : new.core.local_id ≡ old.core.local_id
    remote_length : length new.core.remote_id ≡ length old.core.remote_id
    code : HasCode new.core.state
    holds : is_open new.core.state ≡ true → HoldsFewIds k new.control

  rest_by : (k : ℕ) (old new to : Connection S) → new ≡ to → IsBehindRest k old to → IsBehindRest k old new
  rest_by k old new to is r = subst (λ (c : Connection S). IsBehindRest k old c) (sym is) r

  rest_core : (k : ℕ) (old : Connection S) (core : Inner S) → IsReady k old → IsSameCore old.core core → IsBehindRest k old (record old { core = core })
  rest_core k old core ready same = record {
    peer = refl;
    side = same.side;
    local_id = same.local_id;
    remote_length = ap length same.remote_id;
    code = same.code (open_code old.core.state ready.up);
    holds = λ _. ready.holds;
  }

  -- the frames of its own are taken
  module _ (k n : ℕ) (now : Moment) (read : List Frame) (all : (f : Frame) → In f read → SaysFewIds n (plain_of f)) where
    -- packets go to an id as long as before
    handled_length : (mid new : Connection S) → length mid.core.remote_id ≡ length mid.control.ids.active.id → mid.control.ids.retire_prior_to ≡ 0 → AreFramesHandled now read mid new
        → length new.core.remote_id ≡ length mid.core.remote_id
    handled_length mid new long none (AreFramesHandled.taken control taken up lost e) =
        ap (λ (c : Connection S). length c.core.remote_id) e ∙ ap (λ (cid : RemoteCid). length cid.id) (all_in_use k n now read mid.control control None taken refl all none) ∙ sym long
    handled_length mid new long none (AreFramesHandled.ended taken down e) = ap (λ (c : Connection S). length c.core.remote_id) e
    handled_length mid new long none (AreFramesHandled.refused fault taken f e) = ap (λ (c : Inner S). length c.remote_id) f.closed.rest_is
    handled_length mid new long none (AreFramesHandled.cut taken down e) = ap (λ (c : Connection S). length c.core.remote_id) e

    handled_shut : (mid new : Connection S) → new ≡ record mid { control = new.control } → is_open mid.core.state ≡ false → is_open new.core.state ≡ true → HoldsFewIds k new.control
    handled_shut mid new e down up = shut_open mid.core.state _ down (sym (ap (λ (c : Connection S). is_open c.core.state) e) ∙ up)

    handled_holds : (mid new : Connection S) → n ≡ length mid.control.ids.active.id → HoldsFewIds k mid.control → AreFramesHandled now read mid new → is_open new.core.state ≡ true → HoldsFewIds k new.control
    handled_holds mid new long h (AreFramesHandled.taken control taken opened lost e) up =
        subst (λ (s : ControlState). HoldsFewIds k s) (sym (ap (λ (c : Connection S). c.control) e))
        (lost_holds k _ control new.control.queue lost (all_hold k n now read mid.control control None taken refl all long h))
    handled_holds mid new long h (AreFramesHandled.ended taken down e) up = handled_shut mid new e down up
    handled_holds mid new long h (AreFramesHandled.refused fault taken f e) up = shut_open new.core.state _ (ap (λ (c : Inner S). is_open c.state) f.closed.rest_is) up
    handled_holds mid new long h (AreFramesHandled.cut taken down e) up = handled_shut mid new e down up

    handled_code : (mid new : Connection S) → HasCode mid.core.state → AreFramesHandled now read mid new → HasCode new.core.state
    handled_code mid new code (AreFramesHandled.taken control taken opened lost e) = subst (λ (s : State). HasCode s) (sym (ap (λ (c : Connection S). c.core.state) e)) code
    handled_code mid new code (AreFramesHandled.ended taken down e) = subst (λ (s : State). HasCode s) (sym (ap (λ (c : Connection S). c.core.state) e)) code
    handled_code mid new code (AreFramesHandled.refused fault taken f e) = faulted_code now fault mid.core new.core f
    handled_code mid new code (AreFramesHandled.cut taken down e) = subst (λ (s : State). HasCode s) (sym (ap (λ (c : Connection S). c.core.state) e)) code

    -- none of them is refused
    handled_free : (mid new : Connection S) (is : AreFramesHandled now read mid new) → n ≡ length mid.control.ids.active.id → HoldsFewIds k mid.control → NoneIsRefused is
    handled_free mid new (AreFramesHandled.taken control taken opened lost e) long h = tt
    handled_free mid new (AreFramesHandled.ended taken down e) long h = tt
    handled_free mid new (AreFramesHandled.refused fault taken f e) long h = all_unrefused k n now read mid.control new.control (Some (Transport fault)) fault taken refl all long h
    handled_free mid new (AreFramesHandled.cut taken down e) long h = tt

  handled_end : (now : Moment) (read : List Frame) (mid new : Connection S) → AreFramesHandled now read mid new
      → (new.handshake ≡ mid.handshake) × (new.core.side ≡ mid.core.side) × (new.core.local_id ≡ mid.core.local_id)
  handled_end now read mid new (AreFramesHandled.taken control taken opened lost e) = (ap (λ (c : Connection S). c.handshake) e, ap (λ (c : Connection S). c.core.side) e, ap (λ (c : Connection S). c.core.local_id) e)
  handled_end now read mid new (AreFramesHandled.ended taken down e) = (ap (λ (c : Connection S). c.handshake) e, ap (λ (c : Connection S). c.core.side) e, ap (λ (c : Connection S). c.core.local_id) e)
  handled_end now read mid new (AreFramesHandled.refused fault taken f e) =
      (ap (λ (c : Connection S). c.handshake) e, ap (λ (c : Inner S). c.side) f.closed.rest_is, ap (λ (c : Inner S). c.local_id) f.closed.rest_is)
  handled_end now read mid new (AreFramesHandled.cut taken down e) = (ap (λ (c : Connection S). c.handshake) e, ap (λ (c : Connection S). c.core.side) e, ap (λ (c : Connection S). c.core.local_id) e)

  -- a packet was accepted
  module _ (k n : ℕ) (accepts : AcceptsTag) (now : Moment) (d rest frames : List ℕ) (read : List Frame) (old new : Connection S) (core : Inner S) (named : NamesTags accepts) (ends : EndsWith rest d)
      (ready : IsReady k old) (says : SayFewIds n (length old.core.local_id) (d ∷ []) (other old.core.side)) (b : BringsPacket accepts now rest frames (counted_in (length rest) old.core) core)
      (begins : BeginsWithFrames frames read) (handled : AreFramesHandled now read (connected_if now (record old { core = core })) new) where
    abbrev with_packet : Connection S
    with_packet = record old { core = core }

    abbrev at_frames : Connection S
    at_frames = connected_if now with_packet

    same : IsSame with_packet at_frames
    same = connected_if_same now with_packet

    core_same : IsSameCore (counted_in (length rest) old.core) core
    core_same = packet_same now b.number frames (counted_in (length rest) old.core) core b.taken

    all_say : (f : Frame) → In f read → SaysFewIds n (plain_of f)
    all_say = brought_say n accepts now rest d frames read (counted_in (length rest) old.core) core named ends b begins says

    mid_holds : HoldsFewIds k at_frames.control
    mid_holds = same_holds k with_packet at_frames same ready.holds

    mid_remote : at_frames.core.remote_id ≡ old.core.remote_id
    mid_remote = same.remote_id ∙ core_same.remote_id

    mid_long : length at_frames.core.remote_id ≡ length at_frames.control.ids.active.id
    mid_long = ap length mid_remote ∙ ready.as_long ∙ sym (ap (λ (q : PlainCids). length q.active.id) same.ids)

    new_length : length new.core.remote_id ≡ length old.core.remote_id
    new_length = handled_length k n now read all_say at_frames new mid_long mid_holds.peers.none_retired handled ∙ ap length mid_remote

    new_peer : new.handshake.peer ≡ old.handshake.peer
    new_peer = ap (λ (h : Handshake). h.peer) (handled_end now read at_frames new handled).0 ∙ same.peer

    -- n is the length of the id in use
    in_use : n ≡ length old.core.remote_id → n ≡ length at_frames.control.ids.active.id
    in_use long = long ∙ sym (ap length mid_remote) ∙ mid_long

    accepted_rest : n ≡ length old.core.remote_id → IsBehindRest k old new
    accepted_rest long =
        let end = handled_end now read at_frames new handled in
        record {
          peer = new_peer;
          side = end.1 ∙ same.side ∙ core_same.side;
          local_id = end.2 ∙ same.local_id ∙ core_same.local_id;
          remote_length = new_length;
          code = handled_code k n now read all_say at_frames new (subst (λ (s : State). HasCode s) (sym same.state) (core_same.code (open_code old.core.state ready.up))) handled;
          holds = handled_holds k n now read all_say at_frames new (in_use long) mid_holds handled;
        }

    accepted_free : n ≡ length old.core.remote_id → NoneIsRefused handled
    accepted_free long = handled_free k n now read all_say at_frames new handled (in_use long) mid_holds

  -- what is opened is something
  brings_some : (accepts : AcceptsTag) (now : Moment) (rest frames : List ℕ) (old new : Inner S) → BringsPacket accepts now rest frames old new → rest ≡ [] → ⊥
  brings_some accepts now rest frames old new b none =
      let short = opened_short accepts (length old.local_id) (other old.side) b.is.expected rest b.number frames b.is.is in
      omega (arith, short.0, ap length none)

  counted_same : (size : ℕ) (core : Inner S) → IsSameCore core (counted_in size core)
  counted_same size core = record { side = refl; local_id = refl; remote_id = refl; code = λ code. code }

  module _ (k n : ℕ) (accepts : AcceptsTag) (now : Moment) (d rest : List ℕ) (old new : Connection S) (known : (rest ≡ [] → ⊥) → NamesTags accepts × EndsWith rest d) (ready : IsReady k old)
      (says : SayFewIds n (length old.core.local_id) (d ∷ []) (other old.core.side)) (long : is_some old.handshake.peer ≡ true → n ≡ length old.core.remote_id) where
    rest_kept : IsRestTaken accepts now d rest old new → IsBehindRest k old new
    rest_kept (IsRestTaken.nothing none e) = rest_by k old new old e (rest_core k old old.core ready (core_itself old.core))
    rest_kept (IsRestTaken.ungreeted none e) = rest_by k old new old e (rest_core k old old.core ready (core_itself old.core))
    rest_kept (IsRestTaken.unheard core greeted taken space never e) =
        rest_by k old new _ e (rest_core k old core ready (core_both old.core (counted_in (length rest) old.core) core (counted_same (length rest) old.core) (taken_same accepts now rest _ core taken)))
    rest_kept (IsRestTaken.reset core greeted taken up is drains e) =
        rest_by k old new _ e (rest_core k old new.core ready (core_both old.core core new.core
        (core_both old.core (counted_in (length rest) old.core) core (counted_same (length rest) old.core) (taken_same accepts now rest _ core taken)) (draining_same now error.Reset core new.core drains)))
    rest_kept (IsRestTaken.accepted core frames read greeted b begins count handled) =
        let it = known (brings_some accepts now rest frames (counted_in (length rest) old.core) core b) in
        accepted_rest k n accepts now d rest frames read old new core it.0 it.1 ready says b begins handled (long greeted)

    rest_free : (is : IsRestTaken accepts now d rest old new) → NoneIsRefusedBehind is
    rest_free (IsRestTaken.nothing none e) = tt
    rest_free (IsRestTaken.ungreeted none e) = tt
    rest_free (IsRestTaken.unheard core greeted taken space never e) = tt
    rest_free (IsRestTaken.reset core greeted taken up is drains e) = tt
    rest_free (IsRestTaken.accepted core frames read greeted b begins count handled) =
        let it = known (brings_some accepts now rest frames (counted_in (length rest) old.core) core b) in
        accepted_free k n accepts now d rest frames read old new core it.0 it.1 ready says b begins handled (long greeted)

  -- what is known of the peer stays
  rest_handshake : (accepts : AcceptsTag) (now : Moment) (d rest : List ℕ) (old new : Connection S) → IsRestTaken accepts now d rest old new
      → (new.handshake.peer ≡ old.handshake.peer) × (new.handshake.remote_id ≡ old.handshake.remote_id)
  rest_handshake accepts now d rest old new (IsRestTaken.nothing none e) = (ap (λ (c : Connection S). c.handshake.peer) e, ap (λ (c : Connection S). c.handshake.remote_id) e)
  rest_handshake accepts now d rest old new (IsRestTaken.ungreeted none e) = (ap (λ (c : Connection S). c.handshake.peer) e, ap (λ (c : Connection S). c.handshake.remote_id) e)
  rest_handshake accepts now d rest old new (IsRestTaken.unheard core greeted taken space never e) = (ap (λ (c : Connection S). c.handshake.peer) e, ap (λ (c : Connection S). c.handshake.remote_id) e)
  rest_handshake accepts now d rest old new (IsRestTaken.reset core greeted taken up is drains e) = (ap (λ (c : Connection S). c.handshake.peer) e, ap (λ (c : Connection S). c.handshake.remote_id) e)
  rest_handshake accepts now d rest old new (IsRestTaken.accepted core frames read greeted b begins count handled) =
      let mid = connected_if now (record old { core = core }) in
      let same = connected_if_same now (record old { core = core }) in
      let end = handled_end now read mid new handled in
      (ap (λ (h : Handshake). h.peer) end.0 ∙ same.peer, ap (λ (h : Handshake). h.remote_id) end.0 ∙ same.remote)

  -- ---- the Initial packets

  again_same : (now : Moment) (before : Handshake) (old new : Connection S) → IsRestarted now before old new → IsSame old new
  again_same now before old new (IsRestarted.heard heard e) = subst (λ (c : Connection S). IsSame old c) (sym e) (record {
    peer = refl;
    remote = refl;
    side = refl;
    local_id = refl;
    remote_id = refl;
    state = refl;
    ids = refl;
    own_ids = refl;
    id_limit = refl;
    queue = refl;
  })
  again_same now before old new (IsRestarted.quiet none e) = subst (λ (c : Connection S). IsSame old c) (sym e) (same_itself old)

  again_session : (now : Moment) (before : Handshake) (old new : Connection S) → IsRestarted now before old new → new.core.session ≡ old.core.session
  again_session now before old new (IsRestarted.heard heard e) = ap (λ (c : Connection S). c.core.session) e
  again_session now before old new (IsRestarted.quiet none e) = ap (λ (c : Connection S). c.core.session) e

  -- the same without what is known of the peer, of which nothing is forgotten
  record IsSameBelow (old new : Connection S) : Type 0 where
    greeted : is_some old.handshake.peer ≡ true → is_some new.handshake.peer ≡ true
    side : new.core.side ≡ old.core.side
    local_id : new.core.local_id ≡ old.core.local_id
    remote_id : new.core.remote_id ≡ old.core.remote_id
    state : new.core.state ≡ old.core.state
    control : new.control ≡ old.control

  fed_same : (v : SessionView S) (now : Moment) (d rest : List ℕ) (old fed : Connection S) (end : Option ConnectionError) → IsFed v now d (counted_at (length d) old) fed rest end → IsSameBelow old fed
  fed_same v now d rest old fed end is =
      let goes = taken_goes (v.accepts old.core.session) now d rest old.handshake is.handshake is.retried is.learned end is.taken in
      let e = is.new_is in
      record {
        greeted = λ was. ap (λ (c : Connection S). is_some c.handshake.peer) e ∙ goes_greeted old.handshake is.handshake goes was;
        side = ap (λ (c : Connection S). c.core.side) e;
        local_id = ap (λ (c : Connection S). c.core.local_id) e;
        remote_id = ap (λ (c : Connection S). c.core.remote_id) e;
        state = ap (λ (c : Connection S). c.core.state) e;
        control = ap (λ (c : Connection S). c.control) e;
      }

  -- the end as the rest of the datagram comes
  record IsMetSo (k : ℕ) (old met : Connection S) : Type 0 where
    ready : IsReady k met
    side : met.core.side ≡ old.core.side
    local_id : met.core.local_id ≡ old.core.local_id
    greeted : is_some old.handshake.peer ≡ true → is_some met.handshake.peer ≡ true
    remote_length : is_some old.handshake.peer ≡ true → length met.core.remote_id ≡ length old.core.remote_id

  -- it was greeted before, or isn't yet
  met_as : (k : ℕ) (old fed restarted met : Connection S) → is_open old.core.state ≡ true → length old.core.remote_id ≡ length old.control.ids.active.id → HoldsFewIds k old.control → IsSameBelow old fed → IsSame fed restarted
      → met ≡ restarted → IsMetSo k old met
  met_as k old fed restarted met up long h first again e =
      let ids : restarted.control.ids ≡ old.control.ids = again.ids ∙ ap (λ (s : ControlState). s.ids) first.control in
      let remote : restarted.core.remote_id ≡ old.core.remote_id = again.remote_id ∙ first.remote_id in
      subst (λ (c : Connection S). IsMetSo k old c) (sym e) (record {
        ready = record {
          as_long = ap length remote ∙ long ∙ sym (ap (λ (q : PlainCids). length q.active.id) ids);
          holds = same_holds k fed restarted again (subst (λ (s : ControlState). HoldsFewIds k s) (sym first.control) h);
          up = ap is_open (again.state ∙ first.state) ∙ up;
        };
        side = again.side ∙ first.side;
        local_id = again.local_id ∙ first.local_id;
        greeted = λ was. ap is_some again.peer ∙ first.greeted was;
        remote_length = λ _. ap length remote;
      })

  greeted_same : (now : Moment) (b : Bool) (c new : Connection S) → new ≡ (if b then connected now c else c) → IsSame c new
  greeted_same now b c new e =
      subst (λ (z : Connection S). IsSame c z) (sym e) (cond_both b (connected now c) c (λ (z : Connection S). IsSame c z) (λ _. connected_same now c) (λ _. same_itself c))

  met_greeted : (k : ℕ) (now : Moment) (old fed restarted met : Connection S) → is_open old.core.state ≡ true → HoldsFewIds k old.control → IsSameBelow old fed → IsSame fed restarted
      → is_some old.handshake.peer ≡ false → SaysOwnToken met.handshake.remote_id met.handshake.peer → IsGreetedNow now restarted met → IsMetSo k old met
  met_greeted k now old fed restarted met up h first again none says g =
      let c = with_core restarted g.core g.peer in
      let same = greeted_same now (is_client restarted.handshake.side) c met g.new_is in
      let core = g.core_is.rest_is in
      let token : BelongsTo restarted.handshake.remote_id g.peer.stateless_reset_token =
      own_token restarted.handshake.remote_id met.handshake.remote_id met.handshake.peer g.peer (same.peer ∙ g.peer_is) same.remote says in
      let was : HoldsFewIds k restarted.control = same_holds k fed restarted again (subst (λ (s : ControlState). HoldsFewIds k s) (sym first.control) h) in
      record {
        ready = record {
          as_long = ap length same.remote_id ∙ ap (λ (z : Inner S). length z.remote_id) core ∙ sym (ap (λ (q : PlainCids). length q.active.id) same.ids);
          holds = same_holds k c met same (greeted_holds k restarted.control restarted.handshake.remote_id g.peer token was);
          up = ap is_open (same.state ∙ ap (λ (z : Inner S). z.state) core ∙ again.state ∙ first.state) ∙ up;
        };
        side = same.side ∙ ap (λ (z : Inner S). z.side) core ∙ again.side ∙ first.side;
        local_id = same.local_id ∙ ap (λ (z : Inner S). z.local_id) core ∙ again.local_id ∙ first.local_id;
        greeted = λ is. absurd (was_not (is_some old.handshake.peer) none is);
        remote_length = λ is. absurd (was_not (is_some old.handshake.peer) none is);
      }

  met_so : (k : ℕ) (now : Moment) (old fed restarted met : Connection S) (was : Bool) → was ≡ is_some old.handshake.peer → is_open old.core.state ≡ true → length old.core.remote_id ≡ length old.control.ids.active.id
      → HoldsFewIds k old.control → IsSameBelow old fed → IsSame fed restarted → SaysOwnToken met.handshake.remote_id met.handshake.peer → IsMet now was restarted met → IsMetSo k old met
  met_so k now old fed restarted met was is up long h first again says (IsMet.before known e) = met_as k old fed restarted met up long h first again e
  met_so k now old fed restarted met was is up long h first again says (IsMet.not_yet unknown none e) = met_as k old fed restarted met up long h first again e
  met_so k now old fed restarted met was is up long h first again says (IsMet.greeted unknown g) = met_greeted k now old fed restarted met up h first again (sym is ∙ unknown) says g

  -- the peer's ids are as long as the one to which packets go then
  met_long : (n : ℕ) (now : Moment) (old fed restarted met : Connection S) (was : Bool) → was ≡ is_some old.handshake.peer → IsSameBelow old fed → IsSame fed restarted
      → (is_some old.handshake.peer ≡ true → n ≡ length old.core.remote_id) → (is_some old.handshake.peer ≡ false → is_some met.handshake.peer ≡ true → n ≡ length met.handshake.remote_id) → IsMet now was restarted met
      → is_some met.handshake.peer ≡ true → n ≡ length met.core.remote_id
  met_long n now old fed restarted met was is first again before after (IsMet.before known e) greeted =
      before (sym is ∙ known) ∙ sym (ap length (ap (λ (c : Connection S). c.core.remote_id) e ∙ again.remote_id ∙ first.remote_id))
  met_long n now old fed restarted met was is first again before after (IsMet.not_yet unknown none e) greeted =
      absurd (was_not (is_some met.handshake.peer) (ap is_some (ap (λ (c : Connection S). c.handshake.peer) e ∙ none)) greeted)
  met_long n now old fed restarted met was is first again before after (IsMet.greeted unknown g) greeted =
      let same = greeted_same now (is_client restarted.handshake.side) (with_core restarted g.core g.peer) met g.new_is in
      after (sym is ∙ unknown) greeted ∙ ap length (same.remote ∙ sym (ap (λ (z : Inner S). z.remote_id) g.core_is.rest_is) ∙ sym same.remote_id)

  -- ---- an end that closed

  shut_same : (accepts : AcceptsTag) (rest : List ℕ) (old mid : Connection S) → IsShutConnected accepts rest old mid → (mid.core ≡ old.core) × (mid.handshake.peer ≡ old.handshake.peer)
  shut_same accepts rest old mid (IsShutConnected.brought b e) = (ap (λ (c : Connection S). c.core) e, ap (λ (c : Connection S). c.handshake.peer) e)
  shut_same accepts rest old mid (IsShutConnected.still none e) = (ap (λ (c : Connection S). c.core) e, ap (λ (c : Connection S). c.handshake.peer) e)

  record IsShutSo (old new : Connection S) : Type 0 where
    core : IsSameCore old.core new.core
    shut : is_open new.core.state ≡ false
    peer : new.handshake.peer ≡ old.handshake.peer

  closing_so : (v : SessionView S) (now : Moment) (d : List ℕ) (old new : Connection S) → is_open old.core.state ≡ false → IsClosingHeard v now d old new → IsShutSo old new
  closing_so v now d old new shut (IsClosingHeard.initial brings heard e) =
      record { core = heard_same true old.core new.core heard; shut = shut_heard true old.core new.core shut heard; peer = ap (λ (c : Connection S). c.handshake.peer) e }
  closing_so v now d old new shut (IsClosingHeard.ungreeted none unknown heard e) =
      record { core = heard_same false old.core new.core heard; shut = shut_heard false old.core new.core shut heard; peer = ap (λ (c : Connection S). c.handshake.peer) e }
  closing_so v now d old new shut (IsClosingHeard.greeted rest mid none greeted ends behind connects taken e) =
      let accepts = v.accepts old.core.session in
      let same = shut_same accepts rest _ mid connects in
      let from : IsCoreTaken accepts now rest (counted_in (length rest) old.core) new.core = subst (λ (c : Inner S). IsCoreTaken accepts now rest (counted_in (length rest) c) new.core) same.0 taken in
      record {
        core = core_both old.core (counted_in (length rest) old.core) new.core (counted_same (length rest) old.core) (taken_same accepts now rest (counted_in (length rest) old.core) new.core from);
        shut = shut_taken accepts now rest (counted_in (length rest) old.core) new.core shut from;
        peer = ap (λ (c : Connection S). c.handshake.peer) e ∙ same.1;
      }

  -- ---- a datagram

  module _ (v : SessionView S) (now : Moment) (d : List ℕ) (n : ℕ) (old new : Connection S) (t : List Act) (named : NamesTags (v.accepts old.core.session)) (sound : IsSound old)
      (before : is_some old.handshake.peer ≡ true → n ≡ length old.core.remote_id) (after : old.handshake.peer ≡ None → is_some new.handshake.peer ≡ true → n ≡ length new.handshake.remote_id)
      (says : SayFewIds n (length old.core.local_id) (d ∷ []) (other old.core.side)) (token : SaysOwnToken new.handshake.remote_id new.handshake.peer) (k : KeepsFewIds old t) where
    abbrev own : ℕ
    own = length old.core.local_id

    known_tags : (rest : List ℕ) (fed restarted met : Connection S) → IsFed v now d (counted_at (length d) old) fed rest None → IsRestarted now old.handshake fed restarted → IsMet now (is_some old.handshake.peer) restarted met
        → (rest ≡ [] → ⊥) → NamesTags (v.accepts met.core.session) × EndsWith rest d
    known_tags rest fed restarted met is again meets some = (
      subst (λ (s : S). NamesTags (v.accepts s)) (sym (met_session now (is_some old.handshake.peer) restarted met meets ∙ again_session now old.handshake fed restarted again))
          (fed_tags v now d rest (counted_at (length d) old) fed None some is named),
      rest_ends (v.accepts old.core.session) now d rest old.handshake is.handshake is.retried is.learned None some is.taken,
    )

    met_is : (rest : List ℕ) (fed restarted met : Connection S) → is_open old.core.state ≡ true → IsFed v now d (counted_at (length d) old) fed rest None → IsRestarted now old.handshake fed restarted
        → IsMet now (is_some old.handshake.peer) restarted met → IsRestTaken (v.accepts met.core.session) now d rest met new → IsMetSo own old met
    met_is rest fed restarted met up is again meets takes =
        let same = rest_handshake (v.accepts met.core.session) now d rest met new takes in
        met_so own now old fed restarted met (is_some old.handshake.peer) refl up sound.as_long (k.holds up) (fed_same v now d rest old fed None is) (again_same now old.handshake fed restarted again)
        (subst (λ (o : Option TransportParameters). SaysOwnToken met.handshake.remote_id o) same.0 (subst (λ (id : List ℕ). SaysOwnToken id new.handshake.peer) same.1 token)) meets

    met_known : (rest : List ℕ) (fed restarted met : Connection S) → IsFed v now d (counted_at (length d) old) fed rest None → IsRestarted now old.handshake fed restarted → IsMet now (is_some old.handshake.peer) restarted met
        → IsRestTaken (v.accepts met.core.session) now d rest met new → is_some met.handshake.peer ≡ true → n ≡ length met.core.remote_id
    met_known rest fed restarted met is again meets takes =
        let same = rest_handshake (v.accepts met.core.session) now d rest met new takes in
        met_long n now old fed restarted met (is_some old.handshake.peer) refl (fed_same v now d rest old fed None is) (again_same now old.handshake fed restarted again) before
        (λ unknown greeted. after (is_none old.handshake.peer unknown) (ap is_some same.0 ∙ greeted) ∙ ap length same.1) meets

    met_says : (met : Connection S) → IsMetSo own old met → SayFewIds n (length met.core.local_id) (d ∷ []) (other met.core.side)
    met_says met m =
        subst (λ (side : Side). SayFewIds n (length met.core.local_id) (d ∷ []) (other side)) (sym m.side)
        (subst (λ (id : List ℕ). SayFewIds n (length id) (d ∷ []) (other old.core.side)) (sym m.local_id) says)

    taken_keeps : (rest : List ℕ) (fed restarted met : Connection S) → is_open old.core.state ≡ true → IsFed v now d (counted_at (length d) old) fed rest None → IsRestarted now old.handshake fed restarted
        → IsMet now (is_some old.handshake.peer) restarted met → IsRestTaken (v.accepts met.core.session) now d rest met new → KeepsFewIds new (t ++ HandedIn d ∷ [])
    taken_keeps rest fed restarted met up is again meets takes =
        let m = met_is rest fed restarted met up is again meets takes in
        let r = rest_kept own n (v.accepts met.core.session) now d rest met new (known_tags rest fed restarted met is again meets) m.ready (met_says met m) (met_known rest fed restarted met is again meets takes) takes in
        keeps_on old new t (HandedIn d ∷ [])
        (record {
          greeted = λ was. ap is_some r.peer ∙ m.greeted was;
          side = r.side ∙ m.side;
          local_id = r.local_id ∙ m.local_id;
          remote_length = λ was. r.remote_length ∙ m.remote_length was;
        }) refl r.holds r.code k

    taken_free : (rest : List ℕ) (fed restarted met : Connection S) → is_open old.core.state ≡ true → IsFed v now d (counted_at (length d) old) fed rest None → IsRestarted now old.handshake fed restarted
        → IsMet now (is_some old.handshake.peer) restarted met → (takes : IsRestTaken (v.accepts met.core.session) now d rest met new) → NoneIsRefusedBehind takes
    taken_free rest fed restarted met up is again meets takes =
        let m = met_is rest fed restarted met up is again meets takes in
        rest_free own n (v.accepts met.core.session) now d rest met new (known_tags rest fed restarted met is again meets) m.ready (met_says met m) (met_known rest fed restarted met is again meets takes) takes

    ended_keeps : (mid : Connection S) (rest : List ℕ) (e : ConnectionError) → IsFed v now d (counted_at (length d) old) mid rest (Some e) → EndsBy now e mid.core new.core → new ≡ record mid { core = new.core }
        → KeepsFewIds new (t ++ HandedIn d ∷ [])
    ended_keeps mid rest e is ends only =
        let first = fed_same v now d rest old mid (Some e) is in
        let last = ends_same now e mid.core new.core (by_end now e mid.core new.core ends) in
        keeps_on old new t (HandedIn d ∷ [])
        (record {
          greeted = λ was. ap (λ (c : Connection S). is_some c.handshake.peer) only ∙ first.greeted was;
          side = last.side ∙ first.side;
          local_id = last.local_id ∙ first.local_id;
          remote_length = λ _. ap length (last.remote_id ∙ first.remote_id);
        }) refl (λ up. shut_open new.core.state _ (ended_shut now e mid.core new.core ends) up)
        (last.code (subst (λ (s : State). HasCode s) (sym first.state) k.code)) k

    closing_keeps : is_open old.core.state ≡ false → IsClosingHeard v now d (counted_at (length d) old) new → KeepsFewIds new (t ++ HandedIn d ∷ [])
    closing_keeps shut closing =
        let so = closing_so v now d (counted_at (length d) old) new shut closing in
        keeps_on old new t (HandedIn d ∷ [])
        (record { greeted = λ was. ap is_some so.peer ∙ was; side = so.core.side; local_id = so.core.local_id; remote_length = λ _. ap length so.core.remote_id }) refl
        (λ up. shut_open new.core.state _ so.shut up) (so.core.code k.code) k

    pub heard : IsDatagramHandled v now d old new → KeepsFewIds new (t ++ HandedIn d ∷ [])
    heard (IsDatagramHandled.closing shut closing) = closing_keeps shut closing
    heard (IsDatagramHandled.ended mid rest e up is ends only) = ended_keeps mid rest e is ends only
    heard (IsDatagramHandled.taken fed restarted met rest up is again meets takes) = taken_keeps rest fed restarted met up is again meets takes

    pub none_refused : (is : IsDatagramHandled v now d old new) → NoneIsRefusedIn is
    none_refused (IsDatagramHandled.closing shut closing) = tt
    none_refused (IsDatagramHandled.ended mid rest e up is ends only) = tt
    none_refused (IsDatagramHandled.taken fed restarted met rest up is again meets takes) = taken_free rest fed restarted met up is again meets takes
