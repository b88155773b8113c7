-- Behind each datagram of the other end's an end that was open is open.
use Rattle.std.proofs.Common.{◌≡◌, ◌⊎◌, ℕ, ◌<◌, ◌≤◌, ◌^◌, ◌==◌, Bool, true, false, List, [], ◌∷◌, ◌++◌, length, Option, Some, None, refl, sym, ap, subst, ◌∙◌, arith, inl, inr}
use Rattle.std.specs.declared.net.socket_addr.SocketAddr.{SocketAddr}
use Rattle.std.proofs.lemmas.Bool.{both_ways}
use Rattle.qh_base.specs.declared.connection_error.ConnectionError.{ConnectionError}
use Rattle.qh_base.specs.declared.connection_error.ConnectionError.TheVariants as error
use Rattle.qh_base.specs.declared.time.Moment.{Moment}
use Rattle.qh_base.specs.declared.transport_error.TransportError.{TransportError}
use Rattle.qh_conduct.proofs.AnnouncedCalls.{event_stands}
use Rattle.qh_conduct.proofs.FramesSay.{closing_kind, says_close}
use Rattle.qh_conduct.proofs.GrantedCalls.{event_granted, means_granted, takes_granted}
use Rattle.qh_conduct.proofs.PeersFrames.{keeps_form, unrefused}
use Rattle.qh_conduct.proofs.PeersLimits.{all_small}
use Rattle.qh_conduct.proofs.PeersRange.{kept_fits, nothing_left, opened_frames}
use Rattle.qh_conduct.proofs.PeersRuns.{run_reaches}
use Rattle.qh_conduct.proofs.ReachConnections.{event_law, has_content}
use Rattle.qh_conduct.proofs.ReachFaults.{content_frame, frame_refused}
use Rattle.qh_conduct.proofs.ReachSpaces.{first_is}
use Rattle.qh_conduct.proofs.ReachSums.{sum_within}
use Rattle.qh_conduct.proofs.SizedCalls.{means_sized}
use Rattle.qh_conduct.specs.Announced.{Announced, HasAnnounced, IsKeptDatagram, IsOver, TakesTags, packet_of}
use Rattle.qh_conduct.specs.Fitting.{HasRefused}
use Rattle.qh_conduct.specs.Granted.{AreGranted, HasGranted, TakesDatagrams}
use Rattle.qh_conduct.specs.Filled.{AreFilled}
use Rattle.qh_conduct.specs.Peers.{AreLinked, ArePeers, TakesFrom}
use Rattle.qh_conduct.specs.Reached.{AreNamed, HasReached, Reached, IsLostForMemory}
use Rattle.qh_conduct.specs.Sized.{AreRight, HasSized}
use Rattle.qh_core.proofs.Ends.{goes_on_space}
use Rattle.qh_core.specs.Config.{peer_of}
use Rattle.qh_core.specs.Follows.{Following, Follows, HasFrame}
use Rattle.qh_core.specs.Inner.{is_open}
use Rattle.qh_core.specs.Receiving.{AreFramesTaken, GoesOnWith, IsDatagramTaken, IsEventTaken, IsFaulted, IsOpenedBy, IsPacketHandled, is_close, received}
use Rattle.qh_core.specs.Receiving.AreFramesTaken.{none as none_taken, more as more_taken, closed as closed_taken, refused as refused_taken}
use Rattle.qh_core.specs.Receiving.IsDatagramTaken.{dropped, handled, told_again, closed_too, draining as in_draining, drained as in_drained}
use Rattle.qh_core.specs.Receiving.IsPacketHandled.{repeated, empty, faulty, unnoted, taken as in_taken}
use Rattle.qh_core.specs.declared.config.ConnConfig.{ConnConfig}
use Rattle.qh_core.specs.declared.event.ConnectionEvent.TheVariants.{Datagram}
use Rattle.qh_core.specs.declared.inner.Inner.{Inner}
use Rattle.qh_core.specs.declared.state.State.{State}
use Rattle.qh_frame.specs.Plain.{plain_of}
use Rattle.qh_frame.specs.Range.{IsInRange}
use Rattle.qh_frame.specs.WrittenForm.{stream_form, written_form}
use Rattle.qh_frame.specs.declared.frame.Frame.{Frame}
use Rattle.qh_frame.specs.declared.frame.Frame.TheVariants as kind
use Rattle.qh_space.specs.Receiving.{IsClosedBy, IsFrameTaken, frame_refusal}
use Rattle.qh_space.specs.Receiving.IsFrameTaken.{passive, streams, ack, challenge, close}
use Rattle.qh_space.specs.declared.data_space.DataSpace.{DataSpace}
use Rattle.qh_spec.proofs.FrameLaws.{quic_frames_agree}
use Rattle.qh_spec.proofs.Members.{in_last, in_left, in_more}
use Rattle.qh_spec.proofs.TranscriptLaws.{handed_in-append, handed_out-append}
use Rattle.qh_spec.specs.Carried.{HasRun}
use Rattle.qh_spec.specs.Datagram.{HasPacket}
use Rattle.qh_spec.specs.FrameViews.{stream_of}
use Rattle.qh_spec.specs.Link.{other}
use Rattle.qh_spec.specs.Lists.{In}
use Rattle.qh_spec.specs.QuicFrames.{QuicFrame, AreQuicFrames}
use Rattle.qh_spec.specs.Transcript.{Act, HandedIn, handed_in, handed_out, written}
use Rattle.qh_spec.specs.declared.sides.Side.{Side}
use Rattle.qh_spec.specs.declared.sides.Side.TheVariants.{Client}
use Rattle.qh_spec.specs.declared.sides.Space.{Space}
use Rattle.qh_spec.specs.declared.sides.Space.TheVariants.{Data}
use Rattle.qh_streams.specs.Streams.{IsRefusal, Refusal}
use Rattle.qh_streams.specs.declared.fault.StreamFault.TheVariants.{Transport}
use Rattle.qh_transcript.proofs.SendingFrames.{form_carries}
use Rattle.qh_transcript.specs.Within.{written_in_all}

-- ---- a frame by which the other end closes

close_closes : (f : Frame) (e : ConnectionError) → IsClosedBy f (Some e) → is_close (plain_of f) ≡ true
close_closes (kind.ConnectionClose code frame_type reason) e h = refl
close_closes (kind.ApplicationClose code reason) e h = refl
close_closes kind.Padding e h = absurd (cc)
close_closes kind.Ping e h = absurd (cc)
close_closes (kind.Ack a) e h = absurd (cc)
close_closes (kind.ResetStream id code size) e h = absurd (cc)
close_closes (kind.StopSending id code) e h = absurd (cc)
close_closes (kind.Crypto offset payload) e h = absurd (cc)
close_closes (kind.NewToken token) e h = absurd (cc)
close_closes (kind.Stream s) e h = absurd (cc)
close_closes (kind.MaxData limit) e h = absurd (cc)
close_closes (kind.MaxStreamData id limit) e h = absurd (cc)
close_closes (kind.MaxStreams dir count) e h = absurd (cc)
close_closes (kind.DataBlocked limit) e h = absurd (cc)
close_closes (kind.StreamDataBlocked id limit) e h = absurd (cc)
close_closes (kind.StreamsBlocked dir count) e h = absurd (cc)
close_closes (kind.NewConnectionId sequence prior id token) e h = absurd (cc)
close_closes (kind.RetireConnectionId sequence) e h = absurd (cc)
close_closes (kind.PathChallenge bytes) e h = absurd (cc)
close_closes (kind.PathResponse bytes) e h = absurd (cc)
close_closes kind.HandshakeDone e h = absurd (cc)
close_closes (kind.Datagram payload has_length) e h = absurd (cc)

closes_by : (now : ℕ) (old new : DataSpace) (f : Frame) (end : Option ConnectionError) (e : ConnectionError) → IsFrameTaken now old new f end → end ≡ Some e → is_close (plain_of f) ≡ true
closes_by now old new f end e (passive _ _ _) h = absurd (cc)
closes_by now old new f end e (streams _ _ _ _ _) h = absurd (cc)
closes_by now old new f end e (ack _ _) h = absurd (cc)
closes_by now old new f end e (challenge _ _) h = absurd (cc)
closes_by now old new f end e (close _ by is _) h = close_closes f by is

-- a frame that closes does so in whatever form
close_form : (q f : QuicFrame) → written_form q ≡ f → is_close f ≡ true → is_close q ≡ true
close_form q f e closes =
    let kinds = ap (λ (f : QuicFrame). f.kind) e in
    let b = closing_kind f closes in
    elim (keeps_form q) [
      | inl same ↦ ap is_close (sym same ∙ e) ∙ closes
      | inr (inl marked) ↦ let two = marked.1 in absurd (omega (arith, two, kinds, b.0, b.1))
      | inr (inr (inl left)) ↦ let last = left.1 in absurd (omega (arith, last, kinds, b.0, b.1))
      | inr (inr (inr between)) ↦ let high = between.1 in absurd (omega (arith, high, kinds, b.0, b.1))
    ]

-- where no frame closes, the frames end with a fault at most
only_fault : (now : ℕ) (bytes : List ℕ) (old new : DataSpace) (taken : List Frame) (end : Option ConnectionError) (fs : List QuicFrame) → AreFramesTaken now bytes old new taken end → AreQuicFrames bytes fs
    → ((q : QuicFrame) → In q fs → is_close q ≡ true → ⊥) → (end ≡ None) ⊎ ((e : TransportError) × (end ≡ Some (error.TransportError e)))
only_fault now bytes old new taken end fs (none_taken _) are never = inl refl
only_fault now bytes old new taken end fs (more_taken _ rest f _ mid _ others _ begins ok one behind) are never =
    let first = first_is Client 0 [] bytes rest (plain_of f) fs begins are in
    only_fault now rest mid new others end first.1 behind first.4 (λ q is. never q (subst (λ (z : List QuicFrame). In q z) (sym first.2) (inr is)))
only_fault now bytes old new taken end fs (closed_taken _ rest f _ _ by begins ok one) are never =
    let first = first_is Client 0 [] bytes rest (plain_of f) fs begins are in
    absurd (never first.0 (subst (λ (z : List QuicFrame). In first.0 z) (sym first.2) (inl refl)) (close_form first.0 (plain_of f) first.3 (closes_by now old new f (Some by) by one refl)))
only_fault now bytes old new taken end fs (refused_taken _ rest f _ e begins named refusal) are never = inr (e, refl)

-- ---- what was done, with the datagram

pub linked_on : (tc tp : List Act) (d : List ℕ) → AreLinked tc tp → In d (handed_out tp) → AreLinked (tc ++ HandedIn d ∷ []) tp
linked_on tc tp d linked there = record {
  to = λ x is. elim (in_more x d (handed_in tc) (subst (λ (l : List (List ℕ)). In x l) (handed_in-append tc (HandedIn d ∷ [])) is)) [
    | inl before ↦ linked.to x before
    | inr same ↦ subst (λ (y : List ℕ). In y (handed_out tp)) same there
  ];
  from = λ x is. subst (λ (l : List (List ℕ)). In x l) (sym (handed_out-append tc (HandedIn d ∷ []))) (in_left x (handed_out tc) [] (linked.from x is));
}

in_last_act : (t : List Act) (d : List ℕ) → In d (handed_in (t ++ HandedIn d ∷ []))
in_last_act t d = subst (λ (z : List (List ℕ)). In d z) (sym (handed_in-append t (HandedIn d ∷ []))) (in_last d (handed_in t))

-- what was written on a stream is a part of all
one_written : (t : List Act) (id : ℕ) → length (written t id) ≤ written_in_all t
one_written t id =
    let all = sum_within t ((id, length (written t id)) ∷ []) (λ to none. none, tt) (λ k n there. elim there [
      | inl same ↦
          let first : id ≡ k = ap (λ (e : ℕ × ℕ). e.0) same in
          let second : length (written t id) ≡ n = ap (λ (e : ℕ × ℕ). e.1) same in
          let as_k : length (written t id) ≡ length (written t k) = ap (λ (i : ℕ). length (written t i)) first in
          omega (arith, second, as_k)
      | inr none ↦ absurd none
    ]) in
    omega (arith, all)

not_refused : (e : TransportError) (o : Option Refusal) → o ≡ None → IsRefusal (Transport e) o → ⊥
not_refused e o none is = subst (λ (o : Option Refusal). IsRefusal (Transport e) o) none is

not_memory : (o : Option ConnectionError) (e : TransportError) → o ≡ Some (error.TransportError e) → o ≡ Some error.Memory → ⊥
not_memory o e fault memory = let both : ◌≡◌ {A = Option ConnectionError} (Some (error.TransportError e)) (Some error.Memory) = sym fault ∙ memory in cc

not_both : {X : Type 0} (state : State) → is_open state ≡ true → is_open state ≡ false → X
not_both state up shut = absurd (both_ways (is_open state) shut up)

-- a tag that is taken names the sender and the number of application data
takes_tags : (accepts : Side → Space → ℕ → List ℕ → Bool) → AreNamed accepts → TakesTags accepts
takes_tags accepts named from number tag bound is = named from Data number tag bound is

module _ {S : Type 0} where
  announced_of : (c : Inner S) (t : List Act) → HasAnnounced c t → (IsOver c → ⊥) → Announced c t
  unfolding HasAnnounced
  announced_of c t (inl over) goes = absurd (goes over)
  announced_of c t (inr p) goes = p

  reached_of : (c : Inner S) (t : List Act) → HasReached c t → (IsLostForMemory c → ⊥) → Reached c t
  unfolding HasReached
  reached_of c t (inl p) goes = p
  reached_of c t (inr lost) goes = absurd (goes lost)

  following_of : (c : Inner S) (t : List Act) → Follows c t → Following c t
  unfolding Follows
  following_of c t f = f

  over_shut : (c : Inner S) → is_open c.state ≡ true → IsOver c → ⊥
  over_shut c up over = both_ways (is_open c.state) (ap is_open over.1) up

  lost_shut : (c : Inner S) → is_open c.state ≡ true → IsLostForMemory c → ⊥
  lost_shut c up lost = both_ways (is_open c.state) (ap is_open lost.0) up

  space_of : (p : Inner S) (t : List Act) (f : Following p t) → p.error ≡ None → p.space ≡ f.space
  space_of p t f none = elim f.is_space [
    | inl memory ↦ let both : ◌≡◌ {A = Option ConnectionError} None (Some error.Memory) = sym none ∙ memory in absurd (cc)
    | inr is ↦ is
  ]

  -- it is the same end
  record SameEnds (old new : Inner S) : Type 0 where
    side : new.side ≡ old.side
    local_id : new.local_id ≡ old.local_id
    remote_length : length new.remote_id ≡ length old.remote_id
    config : new.config ≡ old.config

  peers_on : (c new p : Inner S) → SameEnds c new → ArePeers c p → ArePeers new p
  peers_on c new p same peers = record {
    sides = peers.sides ∙ ap other (sym same.side);
    there = peers.there ∙ sym (ap length same.local_id);
    back = same.remote_length ∙ peers.back;
    known = peers.known ∙ ap (λ (k : ConnConfig). peer_of k.limits) (sym same.config);
    knows = ap (λ (k : ConnConfig). k.peer) same.config ∙ peers.knows;
    fits_back = peers.fits_back;
    fits = subst (λ (k : ConnConfig). (k.limits.max_bidi ≤ 2 ^ 60) × (k.limits.max_uni ≤ 2 ^ 60)) (sym same.config) peers.fits;
    datagrams = subst (λ (k : ConnConfig). TakesFrom k p.config) (sym same.config) peers.datagrams;
    datagrams_back = subst (λ (k : ConnConfig). TakesFrom p.config k) (sym same.config) peers.datagrams_back;
  }

  fault_same : (now : Moment) (e : TransportError) (old new : Inner S) → IsFaulted now e old new → SameEnds old new
  fault_same now e old new f = rw f.closed.rest_is (record { side = refl; local_id = refl; remote_length = refl; config = refl })

  fault_error : (now : Moment) (e : TransportError) (old new : Inner S) → IsFaulted now e old new → new.error ≡ Some (error.TransportError e)
  fault_error now e old new f = ap (λ (c : Inner S). c.error) f.closed.rest_is

  fault_at : (now : Moment) (end : Option ConnectionError) (e : TransportError) (old new : Inner S) → GoesOnWith now end old new → end ≡ Some (error.TransportError e) → IsFaulted now e old new
  fault_at now end e old new on is = subst (λ (o : Option ConnectionError). GoesOnWith now o old new) is on

  none_at : (now : Moment) (end : Option ConnectionError) (old new : Inner S) → GoesOnWith now end old new → end ≡ None → new ≡ old
  none_at now end old new on is = subst (λ (o : Option ConnectionError). GoesOnWith now o old new) is on

  module _ (p : Inner S) (tp : List Act) (b : Announced p tp) (f : Following p tp) (filled : AreFilled p tp) (right : AreRight p tp) (up : is_open p.state ≡ true) (d : List ℕ) (there : In d (handed_out tp)) where
    kept_datagram : IsKeptDatagram p (handed_in tp) d
    kept_datagram = b.sent d there

    -- its frames have their values in range, where all that was written is little enough
    frame_fits : written_in_all tp < 2 ^ 62 → (q : QuicFrame) → In q kept_datagram.frames → IsInRange q
    frame_fits small q is =
        kept_fits p (handed_in tp) q b.live up
        (λ run e.
        let carries : stream_of (stream_form run) ≡ Some run = form_carries (run.offset == 0) run.fin run.id run.offset run.payload refl in
        let has : HasRun (length p.remote_id) (handed_out tp) p.side run = record {
          datagram = d;
          among = there;
          packet = packet_of p kept_datagram.number kept_datagram.frames;
          has = kept_datagram.has;
          space_is = refl;
          sender_is = refl;
          frame = q;
          frame_among = is;
          is = ap stream_of e ∙ carries;
        } in
        let most = run_reaches p tp f filled right (length p.remote_id) (handed_out tp) p.side refl refl (λ d is. is) run has in
        let part = one_written tp run.id in
        omega (arith, most, part, small))
        (kept_datagram.kept q is)

    never_closes : (q : QuicFrame) → In q kept_datagram.frames → is_close q ≡ true → ⊥
    never_closes q is closes = both_ways (is_open p.state) (says_close p (handed_in tp) q closes (kept_datagram.kept q is)) up

  -- ---- the datagram is taken

  module _ (accepts : Side → Space → ℕ → List ℕ → Bool) (named : AreNamed accepts) (c p new : Inner S) (tc tp : List Act) (peers : ArePeers c p) (linked : AreLinked tc tp) (a : Announced c tc) (b : Announced p tp)
      (rp : Reached p tp) (f : Following p tp) (space_is : p.space ≡ f.space) (filled : AreFilled p tp) (right : AreRight p tp) (up : is_open p.state ≡ true) (d : List ℕ) (there : In d (handed_out tp))
      (reached : HasReached new (tc ++ HandedIn d ∷ [])) (announced : HasAnnounced new (tc ++ HandedIn d ∷ [])) (grants : (new.error ≡ Some error.Memory → ⊥) → AreGranted new)
      (receives : (new.error ≡ Some error.Memory → ⊥) → TakesDatagrams new) where
    -- none of its frames is refused, as the space is then
    none_refused : (old : Inner S) (e : TransportError) → SameEnds c old → SameEnds old new → new.error ≡ Some (error.TransportError e) → HasRefused (length old.local_id) (other old.side) d new.space e → ⊥
    none_refused old e first same at r =
        let memory = not_memory new.error e at in
        let ends : SameEnds c new = record {
          side = same.side ∙ first.side;
          local_id = same.local_id ∙ first.local_id;
          remote_length = same.remote_length ∙ first.remote_length;
          config = same.config ∙ first.config;
        } in
        let u = tc ++ HandedIn d ∷ [] in
        let has : HasFrame (length new.local_id) (handed_in u) (other new.side) r.read = rw (same.local_id, same.side) (record {
          datagram = r.has.datagram;
          among = elim r.has.among [ inl is ↦ subst (λ (x : List ℕ). In x (handed_in u)) is (in_last_act tc d) | inr none ↦ absurd none ];
          packet = r.has.packet;
          has = r.has.has;
          space_is = r.has.space_is;
          sender_is = r.has.sender_is;
          frame_among = r.has.frame_among;
        }) in
        not_refused e (frame_refusal new.space r.frame)
        (unrefused new p u tp (peers_on c new p ends peers) (linked_on tc tp d linked there) (announced_of new u announced (λ over. memory over.0)) b
        (reached_of new u reached (λ lost. memory lost.1)) rp f space_is filled right (grants memory) (receives memory) r.read has r.frame r.form_is)
        r.refused

    -- what is opened of it are its frames
    frames_opened : (old : Inner S) (number : ℕ) (bytes : List ℕ) → SameEnds c old → IsOpenedBy accepts old d number bytes → AreQuicFrames bytes (kept_datagram p tp b f filled right up d there).frames
    frames_opened old number bytes first o =
        let k = kept_datagram p tp b f filled right up d there in
        let id : length p.remote_id ≡ length old.local_id = peers.there ∙ sym (ap length first.local_id) in
        opened_frames accepts old.local_id (other old.side) o.expected d number bytes (packet_of p k.number k.frames) o.is (subst (λ (i : ℕ). HasPacket i (packet_of p k.number k.frames) d) id k.has)

    still_open : (old : Inner S) → new ≡ old → is_open old.state ≡ true → is_open new.state ≡ true
    still_open old e is = ap (λ (c : Inner S). is_open c.state) e ∙ is

    packet_open : (now : Moment) (old : Inner S) (number : ℕ) (bytes : List ℕ) → SameEnds c old → is_open old.state ≡ true → IsOpenedBy accepts old d number bytes → IsPacketHandled now number bytes old new → is_open new.state ≡ true
    packet_open now old number bytes first is o (repeated was e) = still_open old e is
    packet_open now old number bytes first is o (empty e new_to no_byte says faulted) =
        let k = kept_datagram p tp b f filled right up d there in
        absurd (k.some (quic_frames_agree bytes k.frames [] (frames_opened old number bytes first o) no_byte))
    packet_open now old number bytes first is o (faulty e kind new_to at says faulted) =
        let k = kept_datagram p tp b f filled right up d there in
        let fits = frame_fits p tp b f filled right up d there (all_small c p tc tp peers a f linked.from) in
        let end = nothing_left bytes at.rest k.frames at.behind (frames_opened old number bytes first o) fits at.none in
        absurd (at.some end)
    packet_open now old number bytes first up_old o (unnoted e eliciting new_to read at faulted) =
        let k = kept_datagram p tp b f filled right up d there in
        let are = frames_opened old number bytes first o in
        let is = faulted.closed.rest_is in
        let same : SameEnds old new = record {
          side = ap (λ (c : Inner S). c.side) is;
          local_id = ap (λ (c : Inner S). c.local_id) is;
          remote_length = ap (λ (c : Inner S). length c.remote_id) is;
          config = ap (λ (c : Inner S). c.config) is;
        } in
        let refused : HasRefused (length old.local_id) (other old.side) d old.space e =
        frame_refused old.side (length old.local_id) d now.0 bytes old.space old.space [] (Some (error.TransportError e)) k.frames e at refl are (content_frame old d number k.frames (has_content accepts old d number bytes k.frames named o are)) in
        absurd (none_refused old e first same (ap (λ (c : Inner S). c.error) is) (rw (ap (λ (c : Inner S). c.space) is) refused))
    packet_open now old number bytes first is o (in_taken new_to t) =
        let k = kept_datagram p tp b f filled right up d there in
        let are = frames_opened old number bytes first o in
        elim (only_fault now.0 bytes t.mid t.space t.taken t.end k.frames t.are_taken are (never_closes p tp b f filled right up d there)) [
          | inl none ↦ still_open _ (none_at now t.end _ new t.goes_on none) is
          | inr found ↦
              let e = found.0 in
              let on = fault_at now t.end e _ new t.goes_on found.1 in
              let same = fault_same now e _ new on in
              let refused : HasRefused (length old.local_id) (other old.side) d t.space e =
              frame_refused old.side (length old.local_id) d now.0 bytes t.mid t.space t.taken t.end k.frames e t.are_taken found.1 are (content_frame old d number k.frames (has_content accepts old d number bytes k.frames named o are)) in
              absurd (none_refused old e first (record { side = same.side; local_id = same.local_id; remote_length = same.remote_length; config = same.config }) (fault_error now e _ new on) (rw (goes_on_space now t.end _ new t.goes_on) refused))
        ]

    datagram_open : (now : Moment) (old : Inner S) → SameEnds c old → is_open old.state ≡ true → IsDatagramTaken accepts now d old new → is_open new.state ≡ true
    datagram_open now old first is (dropped opened none e) = still_open old e is
    datagram_open now old first is (handled number bytes opened o h) = packet_open now old number bytes first is o h
    datagram_open now old first is (told_again reason due until state none e) = not_both old.state is (ap is_open state)
    datagram_open now old first is (closed_too reason due until state brings e) = not_both old.state is (ap is_open state)
    datagram_open now old first is (in_draining until state e) = not_both old.state is (ap is_open state)
    datagram_open now old first is (in_drained state e) = not_both old.state is (ap is_open state)

  pub stays_open : (accepts : Side → Space → ℕ → List ℕ → Bool) → AreNamed accepts → (c p new : Inner S) (tc tp : List Act) (now : Moment) (remote : SocketAddr) (d : List ℕ) → ArePeers c p → AreLinked tc tp
      → Follows p tp → HasReached c tc → HasReached p tp → HasAnnounced c tc → HasAnnounced p tp → HasGranted c → HasSized p tp → AreFilled p tp → is_open c.state ≡ true → is_open p.state ≡ true → p.error ≡ None
      → In d (handed_out tp) → IsEventTaken accepts (Datagram now remote d) c new → is_open new.state ≡ true
  stays_open accepts named c p new tc tp now remote d peers linked follows reached_c reached_p announced_c announced_p granted sized filled is up none there taken =
      let f = following_of p tp follows in
      let a = announced_of c tc announced_c (over_shut c is) in
      let b = announced_of p tp announced_p (over_shut p up) in
      let rp = reached_of p tp reached_p (lost_shut p up) in
      let old : Inner S = received (Datagram now remote d) c in
      datagram_open accepts named c p new tc tp peers linked a b rp f (space_of p tp f none) filled (means_sized p tp sized) up d there (event_law accepts (Datagram now remote d) c new tc named taken reached_c)
      (event_stands accepts (takes_tags accepts named) (Datagram now remote d) c new tc taken announced_c) (means_granted new (event_granted accepts (Datagram now remote d) c new taken granted)) (takes_granted new (event_granted accepts (Datagram now remote d) c new taken granted)) now old
      (record { side = refl; local_id = refl; remote_length = refl; config = refl }) is taken
