-- A datagram by which the peer closes has a CONNECTION_CLOSE frame of the peer's (RFC 9000, sections 12.4 and 19.19).
use Rattle.std.proofs.Common.{◌≡◌, ℕ, true, List, [], ◌∷◌, length, Option, Some, None, refl, sym, ap, subst, ◌∙◌, inl, inr}
use Rattle.std.proofs.lemmas.Bool.{eqb-true}
use Rattle.std.proofs.lemmas.Option.{none-some}
use Rattle.qh_base.specs.declared.connection_error.ConnectionClose.{ConnectionClose}
use Rattle.qh_base.specs.declared.connection_error.ConnectionError.{ConnectionError}
use Rattle.qh_base.specs.declared.connection_error.ConnectionError.TheVariants.{TransportError as Fault, ConnectionClosed, VersionMismatch}
use Rattle.qh_base.specs.declared.time.Moment.{Moment}
use Rattle.qh_base.specs.declared.transport_error.TransportError.{TransportError}
use Rattle.qh_frame.specs.Plain.{plain_of}
use Rattle.qh_frame.specs.declared.frame.Frame.{Frame}
use Rattle.qh_handshake.proofs.CloseFrames.{form_closes}
use Rattle.qh_handshake.proofs.FollowsIn.{first_is, opened_is}
use Rattle.qh_handshake.proofs.GoingOn.{initial_goes}
use Rattle.qh_handshake.proofs.PeerVersions.{hello_ends}
use Rattle.qh_handshake.specs.Closing.{is_close}
use Rattle.qh_handshake.specs.Incoming.{AreFramesTaken, ArePacketsTaken, Form, IsDatagramTaken, IsInitialTaken, IsPacketHandled, knowing, received}
use Rattle.qh_handshake.specs.Incoming.AreFramesTaken.{none as none_taken, more as more_taken, closed as closed_taken, refused as refused_taken}
use Rattle.qh_handshake.specs.Incoming.ArePacketsTaken.{done, more as one_more, ended as ended_by}
use Rattle.qh_handshake.specs.Incoming.IsDatagramTaken.{retry, mismatch, packets}
use Rattle.qh_handshake.specs.Incoming.IsInitialTaken.{gone, dropped, ended, handled}
use Rattle.qh_handshake.specs.Incoming.IsPacketHandled.{repeated, empty, faulty, unnoted, taken}
use Rattle.qh_handshake.specs.Peers.{IsPeer}
use Rattle.qh_handshake.specs.Receiving.{IsFrameTaken}
use Rattle.qh_handshake.specs.Receiving.IsFrameTaken.{padding, ping, ack, crypto, close}
use Rattle.qh_handshake.specs.Sends.{NeverCloses}
use Rattle.qh_handshake.specs.declared.handshake.Handshake.{Handshake}
use Rattle.qh_handshake.specs.declared.initial_space.InitialSpace.{InitialSpace}
use Rattle.qh_packet.specs.Initial.{BeginsWithInitial}
use Rattle.qh_packet.specs.Session.{AcceptsTag, NamesTags}
use Rattle.qh_spec.proofs.GreetedLaws.{frame_more}
use Rattle.qh_spec.specs.Datagram.{Packet, HasPacket, initial, later}
use Rattle.qh_spec.specs.Greeted.{HasFrameOf}
use Rattle.qh_spec.specs.Link.{other}
use Rattle.qh_spec.specs.Lists.{In}
use Rattle.qh_spec.specs.QuicFrames.{QuicFrame, AreQuicFrames}
use Rattle.qh_spec.specs.Transcript.{Act, handed_out}
use Rattle.qh_spec.specs.declared.sides.Side.{Side}
use Rattle.qh_spec.specs.declared.sides.Space.TheVariants.{Initial}

other_end : (e : TransportError) (c : ConnectionClose) → Some (Fault e) ≡ Some (ConnectionClosed c) → ⊥
other_end e c is = cc

no_versions : (c : ConnectionClose) → Some VersionMismatch ≡ Some (ConnectionClosed c) → ⊥
no_versions c is = cc

-- ---- a frame that closes is a CONNECTION_CLOSE

frame_closes : (now : ℕ) (old new : InitialSpace) (f : Frame) (closed : Option ConnectionClose) (c : ConnectionClose) → IsFrameTaken now old new f closed → closed ≡ Some c → is_close (plain_of f) ≡ true
frame_closes now old new f closed c (padding e) is = absurd (none-some c is)
frame_closes now old new f closed c (ping e) is = absurd (none-some c is)
frame_closes now old new f closed c (ack a r) is = absurd (none-some c is)
frame_closes now old new f closed c (crypto _ piece e t) is = absurd (none-some c is)
frame_closes now old new f closed c (close _ code kind reason said form says e) is = ap is_close form

-- one of the frames does
record HasClose (fs : List QuicFrame) : Type 0 where
  frame : QuicFrame
  among : In frame fs
  closes : frame.kind ≡ 28

frames_close : (now : ℕ) (bytes : List ℕ) (old new : InitialSpace) (end : Option ConnectionError) (c : ConnectionClose) (fs : List QuicFrame) → AreFramesTaken now bytes old new end
    → end ≡ Some (ConnectionClosed c) → AreQuicFrames bytes fs → HasClose fs
frames_close now bytes old new end c fs (none_taken _) is are = absurd (none-some (ConnectionClosed c) is)
frames_close now bytes old new end c fs (more_taken _ rest f _ mid _ _ begins fits one behind) is are =
    let first = first_is bytes rest (plain_of f) fs begins are in
    let has = frames_close now rest mid new end c first.1 behind is first.4 in
    record { frame = has.frame; among = subst (λ (z : List QuicFrame). In has.frame z) (sym first.2) (inr has.among); closes = has.closes }
frames_close now bytes old new end c fs (closed_taken _ rest f _ _ said begins fits one) is are =
    let first = first_is bytes rest (plain_of f) fs begins are in
    let closes : is_close first.0 ≡ true = sym (form_closes first.0) ∙ ap is_close first.3 ∙ frame_closes now old new f (Some said) said one refl in
    record { frame = first.0; among = subst (λ (z : List QuicFrame). In first.0 z) (sym first.2) (inl refl); closes = eqb-true first.0.kind 28 closes }
frames_close now bytes old new end c fs (refused_taken _ rest f _ error begins named refusal) is are = absurd (other_end error c is)

-- ---- so has the packet

record HasCloseIn (bytes : List ℕ) : Type 0 where
  frames : List QuicFrame
  are : AreQuicFrames bytes frames
  has : HasClose frames

packet_closes : (now : Moment) (number : ℕ) (frames : List ℕ) (old new : InitialSpace) (end : Option ConnectionError) (c : ConnectionClose) → IsPacketHandled now number frames old new end
    → end ≡ Some (ConnectionClosed c) → HasCloseIn frames
packet_closes now number frames old new end c (repeated none e) is = absurd (none-some (ConnectionClosed c) is)
packet_closes now number frames old new end c (empty error is_new none fault e) is = absurd (other_end error c is)
packet_closes now number frames old new end c (faulty error kind is_new fault code e) is = absurd (other_end error c is)
packet_closes now number frames old new end c (unnoted error is_eliciting is_new valid t e) is = absurd (other_end error c is)
packet_closes now number frames old new end c (taken mid is_eliciting _ is_new valid a t) is =
    record { frames = valid.frames; are = valid.are; has = frames_close now.0 frames mid new end c valid.frames t is valid.are }

-- ---- and the datagram

record IsClosedBy (datagram : List ℕ) (side : Side) : Type 0 where
  frame : QuicFrame
  has : HasFrameOf 0 (datagram ∷ []) side Initial frame
  closes : frame.kind ≡ 28

module _ (accepts : AcceptsTag) (names : NamesTags accepts) (now : Moment) (datagram : List ℕ) where
  -- what these bytes have the datagram has
  abbrev IsRest : List ℕ → Type 0
  IsRest bytes = (p : Packet) → HasPacket 0 p bytes → HasPacket 0 p datagram

  initial_closes : (f : Form) (old new : Handshake) (bytes destination behind : List ℕ) (learned : Option (List ℕ)) (end : Option ConnectionError) (c : ConnectionClose)
      → BeginsWithInitial bytes f.first destination f.source f.token f.body behind → IsRest bytes → IsInitialTaken accepts now f old new learned end → end ≡ Some (ConnectionClosed c)
      → IsClosedBy datagram (other old.side)
  initial_closes f old new bytes destination behind learned end c b rest (gone none e) is = absurd (none-some (ConnectionClosed c) is)
  initial_closes f old new bytes destination behind learned end c b rest (dropped s there none e) is = absurd (none-some (ConnectionClosed c) is)
  initial_closes f old new bytes destination behind learned end c b rest (ended s mid number frames error there opened h e) is =
      let it = packet_closes now number frames s mid (Some error) c h is in
      let packet = rest _ (initial b.front behind bytes b.whole (opened_is accepts old s f number b.front frames it.frames names opened b.form it.are)) in
      record {
        frame = it.has.frame;
        has = record { of = record { datagram = datagram; among = inl refl; packet = _; has = packet; space_is = refl; sender_is = refl }; frame_among = it.has.among };
        closes = it.has.closes;
      }
  initial_closes f old new bytes destination behind learned end c b rest (handled s mid number frames _ _ there opened h read) is =
      let fault = hello_ends (knowing old f.source mid) new learned end (ConnectionClosed c) read is in
      absurd (other_end fault.0 c (ap (λ (z : ConnectionError). Some z) (sym fault.1)))

  packets_close : (bytes left : List ℕ) (old new : Handshake) (learned : Option (List ℕ)) (end : Option ConnectionError) (c : ConnectionClose) → IsRest bytes
      → ArePacketsTaken accepts now bytes left old new learned end → end ≡ Some (ConnectionClosed c) → IsClosedBy datagram (other old.side)
  packets_close bytes left old new learned end c rest (done _ _ none) is = absurd (none-some (ConnectionClosed c) is)
  packets_close bytes left old new learned end c rest (one_more _ destination behind _ f _ mid _ first others _ b one t) is =
      subst (λ (side : Side). IsClosedBy datagram (other side)) (initial_goes accepts now f old mid first None one).side
      (packets_close behind left mid new others end c (λ q has. rest q (later b.front behind bytes f.first f.body b.whole b.form has)) t is)
  packets_close bytes left old new learned end c rest (ended_by _ destination behind f _ _ _ error b one) is =
      initial_closes f old new bytes destination behind learned (Some error) c b rest one is

  datagram_closes : (rest : List ℕ) (old new : Handshake) (retried learned : Option (List ℕ)) (end : Option ConnectionError) (c : ConnectionClose)
      → IsDatagramTaken accepts now datagram old new rest retried learned end → end ≡ Some (ConnectionClosed c) → IsClosedBy datagram (other old.side)
  datagram_closes rest old new retried learned end c (retry s source token may is_retry e) is = absurd (none-some (ConnectionClosed c) is)
  datagram_closes rest old new retried learned end c (mismatch m e) is = absurd (no_versions c is)
  datagram_closes rest old new retried learned end c (packets _ _ _ no_retry no_mismatch all) is =
      packets_close datagram rest (received (length datagram) old) new learned end c (λ q has. has) all is

-- ---- which none is of a peer that never closes

pub closes_never : (accepts : AcceptsTag) (now : Moment) (datagram rest own_hello peer_hello : List ℕ) (own new peer : Handshake) (retried learned : Option (List ℕ)) (c : ConnectionClose) (t u : List Act)
    → NamesTags accepts → IsPeer own_hello peer_hello own peer t u → NeverCloses peer.side u → In datagram (handed_out u)
    → IsDatagramTaken accepts now datagram own new rest retried learned (Some (ConnectionClosed c)) → ⊥
closes_never accepts now datagram rest own_hello peer_hello own new peer retried learned c t u names p never among came =
    let by = datagram_closes accepts names now datagram rest own new retried learned (Some (ConnectionClosed c)) c came refl in
    let there : HasFrameOf 0 (datagram ∷ []) peer.side Initial by.frame = subst (λ (side : Side). HasFrameOf 0 (datagram ∷ []) side Initial by.frame) (sym p.side_is) by.has in
    never 0 by.frame (frame_more 0 (datagram ∷ []) (handed_out u) peer.side Initial by.frame (λ d is. elim is [ inl e ↦ subst (λ (z : List ℕ). In z (handed_out u)) e among | inr none ↦ absurd none ]) there)
    (inl by.closes)
