-- A datagram that an end hands out which announces few ids.
use Rattle.std.proofs.Common.{◌≡◌, ℕ, ◌+◌, ◌^◌, ◌<◌, ◌≤◌, Bool, true, false, List, [], ◌∷◌, ◌++◌, length, drop, take, map, is_some, Option, Some, None, refl, sym, ap, subst, ◌∙◌, inl, inr, length-append, arith}
use Rattle.std.specs.List.{AllByRecursion}
use Rattle.std.proofs.Math.Seq.{drop-append_seam}
use Rattle.std.proofs.lemmas.List.{append_cancel_left}
use Rattle.std.proofs.lemmas.List.Elements.{All-from_recursion, All-take, recursion_from_All}
use Rattle.qh_base.specs.declared.connection_error.ConnectionClose.{ConnectionClose}
use Rattle.qh_base.specs.declared.path.Transmit.{Transmit}
use Rattle.qh_base.specs.declared.time.Moment.{Moment}
use Rattle.qh_conduct.proofs.PacketsKept.{only_packet}
use Rattle.qh_conn.specs.Outgoing.{IsDataTransmitted, IsQueueStill, IsTransmitted}
use Rattle.qh_conn.specs.Items.{streams_taken}
use Rattle.qh_conn.specs.Whole.{IsSound}
use Rattle.qh_conn.specs.declared.connection.Connection.{Connection}
use Rattle.qh_control.proofs.Packed.{sendable_packed}
use Rattle.qh_control.specs.declared.control.ControlState.{ControlState}
use Rattle.qh_control.specs.declared.items.ConnectionItem.{ConnectionItem}
use Rattle.qh_core.specs.Control.{MaySend, control_frame}
use Rattle.qh_core.specs.Follows.{HasFrame}
use Rattle.qh_core.specs.Inner.{is_open}
use Rattle.qh_core.specs.Sending.{AreFramesMade, AreNotControl, BearsNoControl, IsControlSent, IsDatagramMade as IsCoreMade, datagram_of, without_close_due}
use Rattle.qh_core.specs.declared.control.ControlFrame.{ControlFrame}
use Rattle.qh_core.specs.declared.control.ControlFrame.TheVariants as sending
use Rattle.qh_core.specs.declared.control.ControlSent.{ControlSent}
use Rattle.qh_core.specs.declared.inner.Inner.{Inner}
use Rattle.qh_core.specs.declared.state.Close.{Close}
use Rattle.qh_core.specs.declared.state.Close.TheVariants.{Application, Connection as OfTransport}
use Rattle.qh_core.specs.declared.state.State.{State}
use Rattle.qh_core.specs.declared.state.State.TheVariants.{Closed, Drained, Draining, Established}
use Rattle.qh_frame.specs.FrameBytes.{frame_bytes}
use Rattle.qh_handshake.proofs.GoingOn.{close_goes, made_goes}
use Rattle.qh_handshake.proofs.OneInitial.{is_only}
use Rattle.qh_handshake.specs.Handshake.{IsHandshake}
use Rattle.qh_handshake.specs.Outgoing.{IsCloseMade, IsDatagramMade, close_frame as initial_close, datagram_of as initial_of, least_size}
use Rattle.qh_handshake.specs.Written.{CanBeWritten}
use Rattle.qh_handshake.specs.declared.handshake.Handshake.{Handshake}
use Rattle.qh_packet.specs.Initial.{body_length, filled, is_short}
use Rattle.qh_packet.specs.LongHeader.{long_head}
use Rattle.qh_packet.specs.Packet.{header_bytes, low_bytes}
use Rattle.qh_packet.specs.Session.{MakesTags}
use Rattle.qh_peers.proofs.IdControls.{first_say, holds_same, sent_holds}
use Rattle.qh_peers.proofs.IdFrames.{HasCloseCode, NameNoIds, close_none, datagram_none, no_ids, own_are, own_says, packet_none}
use Rattle.qh_peers.proofs.IdSteps.{goes_greeted, said_again}
use Rattle.qh_peers.specs.Ids.{HasCode, HoldsFewIds, KeepsFewIds, SayFewIds, SaysFewIds}
use Rattle.qh_spec.proofs.Members.{in_split}
use Rattle.qh_spec.proofs.TranscriptLaws.{handed_out-append}
use Rattle.qh_spec.specs.Datagram.{HasPacket, Packet}
use Rattle.qh_spec.specs.Lists.{In}
use Rattle.qh_spec.specs.QuicFrames.{AreQuicFrames, QuicFrame}
use Rattle.qh_spec.specs.Tag.{IsTag}
use Rattle.qh_spec.specs.Transcript.{Act, HandedOut, handed_out}
use Rattle.qh_spec.specs.Varint.{varint}
use Rattle.qh_spec.specs.declared.sides.Side.{Side}
use Rattle.qh_spec.specs.declared.sides.Space.{Space}
use Rattle.qh_spec.specs.declared.sides.Space.TheVariants.{Data, Initial}

-- ---- a datagram of one Initial packet

data_or_initial : Data ≡ Initial → ⊥
data_or_initial e = cc

-- a part is no longer than the whole
part_length : (size : ℕ) (a b c d e : List ℕ) → size ≡ length (a ++ (b ++ (c ++ (d ++ e)))) → length d ≤ size
part_length size a b c d e is =
    let first = length-append a (b ++ (c ++ (d ++ e))) in
    let second = length-append b (c ++ (d ++ e)) in
    let third = length-append c (d ++ e) in
    let last = length-append d e in
    omega (arith, is, first, second, third, last)

module _ (sealed : Side → Space → ℕ → List ℕ) (h : Handshake) (number : ℕ) (frames : List ℕ) (least size : ℕ) (makes : MakesTags sealed) (whole : IsHandshake h) (below : number < 2 ^ 62)
    (size_is : size ≡ length (initial_of sealed h number frames least)) (fits : size ≤ 1200) (ids : (length h.remote_id ≤ 20) × (length h.local_id ≤ 20)) (tag_length : length (sealed h.side Initial number) ≡ 32) where
  initial_can : CanBeWritten h.remote_id h.local_id h.token frames least (sealed h.side Initial number)
  initial_can =
      let front = long_head 195 1 h.remote_id h.local_id ++ (varint (length h.token) ++ h.token) in
      let all = filled h.remote_id h.local_id h.token frames least in
      let count = body_length (is_short h.remote_id h.local_id h.token frames least) (36 + length all) in
      let low : length all ≤ size = part_length size front count (low_bytes number) all (sealed h.side Initial number) size_is in
      let token = whole.token in
      record {
        short_destination = ids.0;
        short_source = ids.1;
        short_token = omega (arith, token);
        short_frames = omega (arith, low, fits);
        whole_tag = tag_length;
      }

  initial_space : (k : ℕ) (p : Packet) (d : List ℕ) → d ≡ initial_of sealed h number frames least → HasPacket k p d → p.space ≡ Initial
  initial_space k p d is has =
      (is_only h.remote_id h.local_id h.token frames (sealed h.side Initial number) number least initial_can h.side (makes h.side Initial number below) k p d is has).0

  -- it says nothing of ids
  initial_says : (own n : ℕ) (side : Side) (d : List ℕ) → d ≡ initial_of sealed h number frames least → SayFewIds own n (d ∷ []) side
  initial_says own n side d is f has =
      let there : has.datagram ≡ initial_of sealed h number frames least = elim has.among [ inl same ↦ sym same ∙ is | inr none ↦ absurd none ] in
      let spaces : Data ≡ Initial = sym has.space_is ∙ initial_space n has.packet has.datagram there has.has in
      absurd (data_or_initial spaces)

-- ---- a datagram of one 1-RTT packet

module _ (remote : List ℕ) (side : Side) (number : ℕ) (frames tag : List ℕ) (fs : List QuicFrame) (tagged : IsTag tag side Data number) (are : AreQuicFrames frames fs) where
  in_datagram : (d : List ℕ) (f : QuicFrame) → d ≡ header_bytes remote number ++ (frames ++ tag) → HasFrame (length remote) (d ∷ []) side f → In f fs
  in_datagram d f is has =
      let there : has.datagram ≡ header_bytes remote number ++ (frames ++ tag) = elim has.among [ inl same ↦ sym same ∙ is | inr none ↦ absurd none ] in
      let one = only_packet remote side number frames tag fs tagged are has.packet (subst (λ (z : List ℕ). HasPacket (length remote) has.packet z) there has.has) in
      subst (λ (p : Packet). In f p.frames) one has.frame_among

  datagram_says : (own n : ℕ) (d : List ℕ) → n ≡ length remote → d ≡ header_bytes remote number ++ (frames ++ tag) → ((f : QuicFrame) → In f fs → SaysFewIds own f) → SayFewIds own n (d ∷ []) side
  datagram_says own n d long is all f has = all f (in_datagram d f is (subst (λ (z : ℕ). HasFrame z (d ∷ []) side f) long has))

-- ---- one datagram more

more_said : (own n : ℕ) (side : Side) (t : List Act) (d : List ℕ) → SayFewIds own n (handed_out t) side → SayFewIds own n (d ∷ []) side → SayFewIds own n (handed_out (t ++ HandedOut d ∷ [])) side
more_said own n side t d before last f has =
    elim (in_split has.datagram (handed_out t) (d ∷ []) (subst (λ (ds : List (List ℕ)). In has.datagram ds) (handed_out-append t (HandedOut d ∷ [])) has.among)) [
      | inl earlier ↦ before f (record { datagram = has.datagram; among = earlier; packet = has.packet; has = has.has; space_is = has.space_is; sender_is = has.sender_is; frame_among = has.frame_among })
      | inr here ↦ last f (record { datagram = has.datagram; among = here; packet = has.packet; has = has.has; space_is = has.space_is; sender_is = has.sender_is; frame_among = has.frame_among })
    ]

close_code : (s : State) (reason : Close) (is_due : Bool) (until : Moment) → s ≡ Closed reason is_due until → HasCode s → HasCloseCode reason
close_code s (Application a) is_due until is code = subst (λ (z : State). HasCode z) is code
close_code s (OfTransport c) is_due until is code = tt

told_code : (s : State) → HasCode s → HasCode (without_close_due s)
told_code Established code = code
told_code (Closed reason is_due until) code = said_again reason is_due false until code
told_code (Draining until) code = code
told_code Drained code = code

told_open : (s : State) → is_open (without_close_due s) ≡ true → is_open s ≡ true
told_open Established up = up
told_open (Closed reason is_due until) up = up
told_open (Draining until) up = up
told_open Drained up = up

packed_says : (own : ℕ) (payloads : List (List ℕ)) → AllByRecursion (λ (f : ControlFrame). SaysFewIds own (control_frame f)) (map (λ (payload : List ℕ). sending.Datagram payload) payloads)
packed_says own [] = tt
packed_says own (payload ∷ payloads) = (datagram_none own payload, packed_says own payloads)

queue_holds : (k : ℕ) (old new : ControlState) → new.ids ≡ old.ids → new.own_ids ≡ old.own_ids → new.id_limit ≡ old.id_limit → IsQueueStill old.queue new.queue → HoldsFewIds k old → HoldsFewIds k new
queue_holds k old new ids own most still h = holds_same k old new ids own most still.waiting still.sent h

module _ {S : Type 0} where
  behind : (sealed : Side → Space → ℕ → List ℕ) (c : Inner S) (before after frames : List ℕ) → after ≡ before ++ datagram_of sealed c frames → drop (length before) after ≡ datagram_of sealed c frames
  behind sealed c before after frames is = ap (λ (z : List ℕ). drop (length before) z) is ∙ drop-append_seam before (datagram_of sealed c frames)

  datagram_length : (sealed : Side → Space → ℕ → List ℕ) (c : Inner S) (frames : List ℕ) → length frames ≤ length (datagram_of sealed c frames)
  datagram_length sealed c frames =
      let tag = sealed c.side Data c.space.next_number in
      let first = length-append (header_bytes c.remote_id c.space.next_number) (frames ++ tag) in
      let second = length-append frames tag in
      omega (arith, first, second)

  -- the frames of a datagram have no more bytes than it
  frames_fit : (sealed : Side → Space → ℕ → List ℕ) (c : Inner S) (before after others frames : List ℕ) (size : ℕ) → after ≡ before ++ datagram_of sealed c others → size ≡ length (datagram_of sealed c others) → size ≤ 1200
      → after ≡ before ++ datagram_of sealed c frames → length frames ≤ 1200
  frames_fit sealed c before after others frames size is size_is fits also =
      let less = datagram_length sealed c frames in
      let same = ap length (sym is ∙ also) in
      let first = length-append before (datagram_of sealed c others) in
      let second = length-append before (datagram_of sealed c frames) in
      omega (arith, less, same, first, second, size_is, fits)

  -- ---- what the end of the 1-RTT packets sends

  record IsSameCore (old new : Inner S) : Type 0 where
    side : new.side ≡ old.side
    local_id : new.local_id ≡ old.local_id
    remote_id : new.remote_id ≡ old.remote_id
    opens : is_open new.state ≡ true → is_open old.state ≡ true
    code : HasCode old.state → HasCode new.state

  core_by : (old new to : Inner S) → new ≡ to → IsSameCore old to → IsSameCore old new
  core_by old new to is same = subst (λ (c : Inner S). IsSameCore old c) (sym is) same

  core_told : (old new : Inner S) (reason : Close) (until : Moment) → old.state ≡ Closed reason true until → new.side ≡ old.side → new.local_id ≡ old.local_id → new.remote_id ≡ old.remote_id
      → new.state ≡ Closed reason false until → IsSameCore old new
  core_told old new reason until was side id remote is = record {
    side = side;
    local_id = id;
    remote_id = remote;
    opens = λ up. let z : false ≡ true = sym (ap is_open is) ∙ up in cc;
    code = λ code. subst (λ (s : State). HasCode s) (sym is) (said_again reason true false until (subst (λ (s : State). HasCode s) was code));
  }

  made_same : (now : Moment) (old new : Inner S) (before frames : List ℕ) → AreFramesMade now old new before frames → IsSameCore old new
  made_same now old new before frames (AreFramesMade.packet up m e) = core_by old new _ e (record { side = refl; local_id = refl; remote_id = refl; opens = λ is. is; code = λ code. code })
  made_same now old new before frames (AreFramesMade.control up m e) = core_by old new _ e (record { side = refl; local_id = refl; remote_id = refl; opens = λ is. is; code = λ code. code })
  made_same now old new before frames (AreFramesMade.close reason until was bytes e) =
      core_told old new reason until was (ap (λ (c : Inner S). c.side) e) (ap (λ (c : Inner S). c.local_id) e) (ap (λ (c : Inner S). c.remote_id) e) (ap (λ (c : Inner S). c.state) e)

  -- a packet of what the space has to send, or a close
  made_none : (now : Moment) (old new : Inner S) (frames : List ℕ) (made : AreFramesMade now old new (header_bytes old.remote_id old.space.next_number) frames) → AreNotControl made → HasCode old.state → length frames ≤ 1200
      → NameNoIds frames
  made_none now old new frames (AreFramesMade.packet up m e) other code short =
      let header = header_bytes old.remote_id old.space.next_number in
      let b = packet_none now.0 _ _ old.space new.space header (header ++ frames) m in
      subst (λ (z : List ℕ). NameNoIds z) (sym (append_cancel_left header frames b.bytes b.appended)) b.named
  made_none now old new frames (AreFramesMade.control up m e) other code short = absurd other
  made_none now old new frames (AreFramesMade.close reason until was bytes e) other code short =
      subst (λ (z : List ℕ). NameNoIds z) (sym bytes)
      (close_none reason (close_code old.state reason true until was code) (subst (λ (z : List ℕ). length z ≤ 1200) bytes short))

  bare_says : (own n : ℕ) (sealed : Side → Space → ℕ → List ℕ) (now : Moment) (old new : Inner S) (before after : List ℕ) (t : Transmit) → MakesTags sealed → n ≡ length old.remote_id → HasCode old.state
      → IsCoreMade sealed now old new before after t → BearsNoControl sealed now old new before after → SayFewIds own n (drop (length before) after ∷ []) old.side
  bare_says own n sealed now old new before after t makes long code m b =
      let none = made_none now old new b.frames b.made b.no_control code (frames_fit sealed old before after m.bytes.frames b.frames t.size m.bytes.after_is m.bytes.size_is m.bytes.fits b.after_is) in
      datagram_says old.remote_id old.side old.space.next_number b.frames (sealed old.side Data old.space.next_number) none.frames (makes old.side Data old.space.next_number m.bytes.number) none.are own n
      (drop (length before) after) long (behind sealed old before after b.frames b.after_is) (λ f among. no_ids own f (none.none f among))

  -- a packet of the connection's own frames
  control_says : (own n : ℕ) (sealed : Side → Space → ℕ → List ℕ) (now : Moment) (old new : Inner S) (before after : List ℕ) (most : Option ℕ) (frames : List ControlFrame) (sent : ControlSent) → MakesTags sealed
      → n ≡ length old.remote_id → AllByRecursion (MaySend old.side most) frames → AllByRecursion (λ (f : ControlFrame). SaysFewIds own (control_frame f)) frames → IsControlSent sealed now old new before after frames sent
      → SayFewIds own n (drop (length before) after ∷ []) old.side
  control_says own n sealed now old new before after most frames sent makes long may says c =
      let front = take sent.count frames in
      let all = first_say own sent.count frames says in
      let can = recursion_from_All (MaySend old.side most) front (All-take (MaySend old.side most) sent.count frames (All-from_recursion (MaySend old.side most) frames may)) in
      let bytes = c.made.bytes in
      datagram_says old.remote_id old.side old.space.next_number bytes.frames (sealed old.side Data old.space.next_number) (map control_frame front) (makes old.side Data old.space.next_number bytes.number)
      (subst (λ (z : List ℕ). AreQuicFrames z (map control_frame front)) (sym c.frames_are) (own_are own old.side most front can all)) own n (drop (length before) after) long
      (behind sealed old before after bytes.frames bytes.after_is) (λ f among. own_says own front f all among)

  -- ---- the connection

  -- what a datagram leaves of what few ids depend on
  record IsSentSo (old new : Connection S) : Type 0 where
    greeted : is_some old.handshake.peer ≡ true → is_some new.handshake.peer ≡ true
    core : IsSameCore old.core new.core
    holds : (k : ℕ) → is_open old.core.state ≡ true → HoldsFewIds k old.control → HoldsFewIds k new.control

  sent_keeps : (old new : Connection S) (t : List Act) (d : List ℕ) → IsSentSo old new
      → ((n : ℕ) → (is_some old.handshake.peer ≡ true → n ≡ length old.core.remote_id) → SayFewIds (length old.core.local_id) n (d ∷ []) old.core.side) → KeepsFewIds old t → KeepsFewIds new (t ++ HandedOut d ∷ [])
  sent_keeps old new t d so says k = record {
    holds = λ up.
        let was = so.core.opens up in
        subst (λ (id : List ℕ). HoldsFewIds (length id) new.control) (sym so.core.local_id) (so.holds (length old.core.local_id) was (k.holds was));
    code = so.core.code k.code;
    said = λ n long.
        let then : is_some old.handshake.peer ≡ true → n ≡ length old.core.remote_id = λ was. long (so.greeted was) ∙ ap length so.core.remote_id in
        subst (λ (side : Side). SayFewIds (length new.core.local_id) n (handed_out (t ++ HandedOut d ∷ [])) side) (sym so.core.side)
        (subst (λ (id : List ℕ). SayFewIds (length id) n (handed_out (t ++ HandedOut d ∷ [])) old.core.side) (sym so.core.local_id)
        (more_said (length old.core.local_id) n old.core.side t d (k.said n then) (says n then)));
  }

  -- an Initial packet
  initial_sent : (sealed : Side → Space → ℕ → List ℕ) (now : Moment) (old new : Connection S) (before after : List ℕ) (size : ℕ) (t : List Act) → MakesTags sealed → IsHandshake old.handshake
      → IsDatagramMade sealed now old.handshake new.handshake before after size → IsSentSo old new → KeepsFewIds old t → KeepsFewIds new (t ++ HandedOut (drop (length before) after) ∷ [])
  initial_sent sealed now old new before after size t makes whole m so k =
      let h = old.handshake in
      let d = initial_of sealed h m.space.next_number m.frames (least_size h m.is_eliciting) in
      let is : drop (length before) after ≡ d = ap (λ (z : List ℕ). drop (length before) z) m.after_is ∙ drop-append_seam before d in
      sent_keeps old new t (drop (length before) after) so
      (λ n long. initial_says sealed h m.space.next_number m.frames (least_size h m.is_eliciting) size makes whole m.number m.size_is m.fits m.ids m.tag_length (length old.core.local_id) n old.core.side (drop (length before) after) is) k

  close_sent : (sealed : Side → Space → ℕ → List ℕ) (close : ConnectionClose) (old new : Connection S) (before after : List ℕ) (size : ℕ) (t : List Act) → MakesTags sealed → IsHandshake old.handshake
      → IsCloseMade sealed close old.handshake new.handshake before after size → IsSentSo old new → KeepsFewIds old t → KeepsFewIds new (t ++ HandedOut (drop (length before) after) ∷ [])
  close_sent sealed close old new before after size t makes whole m so k =
      let h = old.handshake in
      let frames = frame_bytes (initial_close close) in
      let d = initial_of sealed h m.space.next_number frames (least_size h false) in
      let is : drop (length before) after ≡ d = ap (λ (z : List ℕ). drop (length before) z) m.after_is ∙ drop-append_seam before d in
      sent_keeps old new t (drop (length before) after) so
      (λ n long. initial_says sealed h m.space.next_number frames (least_size h false) size makes whole m.number m.size_is m.fits m.ids m.tag_length (length old.core.local_id) n old.core.side (drop (length before) after) is) k

  logged_same : (log : Option (List ConnectionItem)) (core : Inner S) → IsSameCore core (streams_taken log core)
  logged_same None core = record { side = refl; local_id = refl; remote_id = refl; opens = λ is. is; code = λ code. code }
  logged_same (Some items) core = record { side = refl; local_id = refl; remote_id = refl; opens = λ is. is; code = λ code. code }

  both_same : (old mid new : Inner S) → IsSameCore old mid → IsSameCore mid new → IsSameCore old new
  both_same old mid new a b = record {
    side = b.side ∙ a.side;
    local_id = b.local_id ∙ a.local_id;
    remote_id = b.remote_id ∙ a.remote_id;
    opens = λ up. a.opens (b.opens up);
    code = λ code. b.code (a.code code);
  }

  -- a 1-RTT packet of an end that was greeted
  data_sent : (sealed : Side → Space → ℕ → List ℕ) (now : Moment) (old new : Connection S) (before after : List ℕ) (x : Transmit) (t : List Act) → MakesTags sealed → IsSound old → is_some old.handshake.peer ≡ true
      → IsDataTransmitted sealed now old new before after x → KeepsFewIds old t → KeepsFewIds new (t ++ HandedOut (drop (length before) after) ∷ [])
  data_sent sealed now old new before after x t makes sound greeted (IsDataTransmitted.of_core m bare still e) k =
      sent_keeps old new t (drop (length before) after)
      (record {
        greeted = λ was. ap (λ (c : Connection S). is_some c.handshake.peer) e ∙ was;
        core = made_same now old.core new.core _ m.bytes.frames m.bytes.made;
        holds = λ own up h. queue_holds own old.control new.control (ap (λ (c : Connection S). c.control.ids) e) (ap (λ (c : Connection S). c.control.own_ids) e) (ap (λ (c : Connection S). c.control.id_limit) e) still h;
      })
      (λ n long. bare_says (length old.core.local_id) n sealed now old.core new.core before after x makes (long greeted) k.code m bare) k
  data_sent sealed now old new before after x t makes sound greeted (IsDataTransmitted.control sent c x_is waiting out e) k =
      let own = length old.core.local_id in
      let h = k.holds c.opened in
      sent_keeps old new t (drop (length before) after)
      (record {
        greeted = λ was. ap (λ (z : Connection S). is_some z.handshake.peer) e ∙ was;
        core = made_same now old.core new.core _ c.made.bytes.frames c.made.bytes.made;
        holds = λ n up holds. subst (λ (s : ControlState). HoldsFewIds n s) (sym (ap (λ (z : Connection S). z.control) e)) (sent_holds n sent.number sent.count old.control new.control.queue waiting out holds);
      })
      (λ n long. control_says own n sealed now old.core new.core before after old.core.config.peer_datagram old.control.queue.waiting sent makes (long greeted) sound.sendable.frames.waiting h.waiting c) k
  data_sent sealed now old new before after x t makes sound greeted (IsDataTransmitted.datagrams sent frames core none out c x_is still e) k =
      let own = length old.core.local_id in
      let most = old.core.config.peer_datagram in
      sent_keeps old new t (drop (length before) after)
      (record {
        greeted = λ was. ap (λ (z : Connection S). is_some z.handshake.peer) e ∙ was;
        core = subst (λ (z : Inner S). IsSameCore old.core z) (sym (ap (λ (z : Connection S). z.core) e))
            (both_same old.core core (streams_taken old.control.log core) (made_same now old.core core _ c.made.bytes.frames c.made.bytes.made) (logged_same old.control.log core));
        holds = λ n up holds.
            queue_holds n old.control new.control (ap (λ (z : Connection S). z.control.ids) e) (ap (λ (z : Connection S). z.control.own_ids) e) (ap (λ (z : Connection S). z.control.id_limit) e) still holds;
      })
      (λ n long. control_says own n sealed now old.core core before after most frames sent makes (long greeted)
      (sendable_packed old.core.side most out.count old.control.datagrams.outgoing frames out.are sound.sendable.bounded sound.sendable.payloads)
      (subst (λ (fs : List ControlFrame). AllByRecursion (λ (f : ControlFrame). SaysFewIds own (control_frame f)) fs) (sym out.are) (packed_says own (take out.count old.control.datagrams.outgoing))) c) k

  pub transmitted : (sealed : Side → Space → ℕ → List ℕ) (now : Moment) (old new : Connection S) (before after : List ℕ) (x : Transmit) (t : List Act) → MakesTags sealed → IsSound old
      → IsTransmitted sealed now old new before after x → KeepsFewIds old t → KeepsFewIds new (t ++ HandedOut (drop (length before) after) ∷ [])
  transmitted sealed now old new before after x t makes sound (IsTransmitted.initial up made e goes) k =
      initial_sent sealed now old new before after x.size t makes sound.handshake made
      (record {
        greeted = λ was. goes_greeted old.handshake new.handshake (made_goes sealed now before after old.handshake new.handshake x.size made) was;
        core = subst (λ (z : Inner S). IsSameCore old.core z) (sym (ap (λ (z : Connection S). z.core) e)) (record { side = refl; local_id = refl; remote_id = refl; opens = λ is. is; code = λ code. code });
        holds = λ n up holds. subst (λ (s : ControlState). HoldsFewIds n s) (sym (ap (λ (z : Connection S). z.control) e)) holds;
      }) k
  transmitted sealed now old new before after x t makes sound (IsTransmitted.close reason until said unconnected was says made e goes) k =
      close_sent sealed said old new before after x.size t makes sound.handshake made
      (record {
        greeted = λ is. goes_greeted old.handshake new.handshake (close_goes sealed said before after old.handshake new.handshake x.size made) is;
        core = subst (λ (z : Inner S). IsSameCore old.core z) (sym (ap (λ (z : Connection S). z.core) e))
            (record { side = refl; local_id = refl; remote_id = refl; opens = told_open old.core.state; code = told_code old.core.state });
        holds = λ n up holds. subst (λ (s : ControlState). HoldsFewIds n s) (sym (ap (λ (z : Connection S). z.control) e)) holds;
      }) k
  transmitted sealed now old new before after x t makes sound (IsTransmitted.data_packet connected turns sent) k =
      data_sent sealed now old new before after x t makes sound (sound.connected connected).0 sent k
