-- No datagram of an honest peer is a fault, or tells of other versions, to the other end of its connection (RFC 9000, sections 7.3 and 12.4).
use Rattle.std.proofs.Common.{◌≡◌, ◌⊎◌, ℕ, ◌<◌, List, [], ◌∷◌, ◌++◌, length, Option, Some, refl, sym, ap, subst, ◌∙◌, inl, inr}
use Rattle.std.proofs.lemmas.Option.{none-some}
use Rattle.std.specs.Prelude.{slice_get}
use Rattle.qh_base.specs.declared.connection_error.ConnectionError.{ConnectionError}
use Rattle.qh_base.specs.declared.connection_error.ConnectionError.TheVariants.{TransportError as Fault, VersionMismatch}
use Rattle.qh_base.specs.declared.time.Moment.{Moment}
use Rattle.qh_base.specs.declared.transport_error.TransportError.{TransportError}
use Rattle.qh_buffers.specs.Assembler.{or_byte, to_give}
use Rattle.qh_handshake.proofs.FollowsIn.{taken_follows}
use Rattle.qh_handshake.proofs.PeerCloses.{closes_never}
use Rattle.qh_handshake.proofs.PeerFrames.{packet_fine}
use Rattle.qh_handshake.proofs.PeerHellos.{behind_none, front_is, its_form, its_size, never_faulty, same_byte}
use Rattle.qh_handshake.proofs.PeerVersions.{Ends, datagram_ends, no_negotiation, tells_versions}
use Rattle.qh_handshake.proofs.PeerVersions.Ends.{by_fault, by_close}
use Rattle.qh_handshake.specs.Follows.{Follows, HasInitial}
use Rattle.qh_handshake.specs.Handshake.{ids_at}
use Rattle.qh_handshake.specs.Incoming.{ArePacketsTaken, Form, IsBehind, IsDatagramTaken, IsHelloRead, IsInitialTaken, IsOpenedBy, IsPacketHandled, knowing, received}
use Rattle.qh_handshake.specs.Incoming.ArePacketsTaken.{done, more as one_more, ended as ended_by}
use Rattle.qh_handshake.specs.Incoming.IsDatagramTaken.{retry, mismatch, packets}
use Rattle.qh_handshake.specs.Incoming.IsHelloRead.{gone as gone_before, known, cut, refused, at_client, at_server}
use Rattle.qh_handshake.specs.Incoming.IsInitialTaken.{gone, dropped, ended, handled}
use Rattle.qh_handshake.specs.Peers.{IsPeer}
use Rattle.qh_handshake.specs.Sends.{IsHonestDatagram, NeverCloses}
use Rattle.qh_handshake.specs.declared.handshake.Handshake.{Handshake}
use Rattle.qh_handshake.specs.declared.initial_space.InitialSpace.{InitialSpace}
use Rattle.qh_hello.specs.Parts.{IsHelloForm}
use Rattle.qh_packet.specs.Initial.{BeginsWithInitial}
use Rattle.qh_packet.specs.Session.{AcceptsTag, NamesTags}
use Rattle.qh_spec.proofs.Members.{in_left, in_more}
use Rattle.qh_spec.proofs.TranscriptLaws.{handed_in-append}
use Rattle.qh_spec.specs.Datagram.{Packet, HasPacket, IsInitialForm, initial}
use Rattle.qh_spec.specs.Greeted.{CarriesHello}
use Rattle.qh_spec.specs.HelloFaults.{HelloFault, IsHelloFault}
use Rattle.qh_spec.specs.Link.{other}
use Rattle.qh_spec.specs.Lists.{In}
use Rattle.qh_spec.specs.Transcript.{Act, HandedIn, HandedOut, Wrote, Finished, Reset, Stopped, ReadBytes, ReadEnd, ReadReset, handed_in, handed_out}
use Rattle.qh_spec.specs.declared.sides.Side.{Side}
use Rattle.qh_spec.specs.declared.sides.Side.TheVariants.{Client, Server}
use Rattle.qh_spec.specs.declared.sides.Space.TheVariants.{Initial}

-- ---- where a datagram was handed out

record IsHandedOut (d : List ℕ) (u : List Act) : Type 0 where
  before : List Act
  after : List Act
  whole : u ≡ before ++ HandedOut d ∷ after

out_later : (a : Act) (d : List ℕ) (u : List Act) → IsHandedOut d u → IsHandedOut d (a ∷ u)
out_later a d u o = record { before = a ∷ o.before; after = o.after; whole = ap (λ (z : List Act). a ∷ z) o.whole }

out_at : (u : List Act) (d : List ℕ) → In d (handed_out u) → IsHandedOut d u
out_at [] d is = absurd is
out_at (HandedOut x ∷ u) d (inl e) = record { before = []; after = u; whole = ap (λ (z : List ℕ). HandedOut z ∷ u) e }
out_at (HandedOut x ∷ u) d (inr is) = out_later (HandedOut x) d u (out_at u d is)
out_at (HandedIn x ∷ u) d is = out_later (HandedIn x) d u (out_at u d is)
out_at (Wrote s b ∷ u) d is = out_later (Wrote s b) d u (out_at u d is)
out_at (Finished s ∷ u) d is = out_later (Finished s) d u (out_at u d is)
out_at (Reset s c ∷ u) d is = out_later (Reset s c) d u (out_at u d is)
out_at (Stopped s c ∷ u) d is = out_later (Stopped s c) d u (out_at u d is)
out_at (ReadBytes s o b ∷ u) d is = out_later (ReadBytes s o b) d u (out_at u d is)
out_at (ReadEnd s ∷ u) d is = out_later (ReadEnd s) d u (out_at u d is)
out_at (ReadReset s c ∷ u) d is = out_later (ReadReset s c) d u (out_at u d is)

before_in : (u before after : List Act) (a : Act) (x : List ℕ) → u ≡ before ++ a ∷ after → In x (handed_in before) → In x (handed_in u)
before_in u before after a x e is =
    subst (λ (z : List Act). In x (handed_in z)) (sym e) (subst (λ (z : List (List ℕ)). In x z) (sym (handed_in-append before (a ∷ after))) (in_left x (handed_in before) (handed_in (a ∷ after)) is))

other_twice : (side : Side) → other (other side) ≡ side
other_twice Client = refl
other_twice Server = refl

-- ---- behind the one packet of such a datagram there is nothing

none_begins : (bytes behind body : List ℕ) (first : ℕ) (destination source token : List ℕ) → BeginsWithInitial bytes first destination source token body behind → bytes ≡ [] → ⊥
none_begins bytes behind body first destination source token b e = let whole = b.whole in let front = b.form.whole in cc

nothing_ends : (accepts : AcceptsTag) (now : Moment) (bytes rest : List ℕ) (old new : Handshake) (learned : Option (List ℕ)) (end : Option ConnectionError) (e : TransportError)
    → ArePacketsTaken accepts now bytes rest old new learned end → bytes ≡ [] → end ≡ Some (Fault e) → ⊥
nothing_ends accepts now bytes rest old new learned end e (done _ _ none) empty is = none-some (Fault e) is
nothing_ends accepts now bytes rest old new learned end e (one_more _ destination behind _ f _ mid _ first others _ b one t) empty is =
    none_begins bytes behind f.body f.first destination f.source f.token b empty
nothing_ends accepts now bytes rest old new learned end e (ended_by _ destination behind f _ _ _ error b one) empty is =
    none_begins bytes behind f.body f.first destination f.source f.token b empty

module _ (accepts : AcceptsTag) (now : Moment) (datagram own_hello peer_hello : List ℕ) (own peer : Handshake) (t u : List Act) (names : NamesTags accepts)
    (p : IsPeer own_hello peer_hello own peer t u) (among : In datagram (handed_out u)) where
  out : IsHandedOut datagram u
  out = out_at u datagram among

  honest : IsHonestDatagram peer_hello (handed_in out.before) peer datagram
  honest = p.peer_sends.each out.before out.after datagram out.whole

  -- ---- what it acknowledges was sent

  used : (s : InitialSpace) (number : ℕ) → own.space ≡ Some s → HasInitial 0 (handed_in out.before) (other peer.side) number → number < s.next_number
  used s number is has =
      let there = before_in u out.before out.after (HandedOut datagram) has.datagram out.whole has.among in
      let side_is : other peer.side ≡ own.side = ap other p.side_is ∙ other_twice own.side in
      elim (p.went has.datagram there) [
        | inl sent ↦ p.own_follows.numbers s 0 number is (record { datagram = has.datagram; among = sent; packet = has.packet; has = has.has; space_is = has.space_is; sender_is = has.sender_is ∙ side_is; number_is = has.number_is })
        | inr none ↦ absurd (behind_none 0 has.packet has.datagram none has.has has.space_is)
      ]

  -- ---- its packet

  handled_fine : (f : Form) (old : Handshake) (s mid : InitialSpace) (number : ℕ) (frames destination behind : List ℕ) (end : Option ConnectionError) (e : TransportError)
      → BeginsWithInitial datagram f.first destination f.source f.token f.body behind → old.side ≡ own.side → own.space ≡ Some s → IsOpenedBy accepts old s f number frames
      → IsPacketHandled now number frames s mid end → end ≡ Some (Fault e) → ⊥
  handled_fine f old s mid number frames destination behind end e b side is opened h fault =
      let o = opened.opened in
      let are = honest.some f.first destination f.source f.token f.body behind o.number_bytes frames o.tag b o.whole o.first_is o.tag_length in
      let one : Packet = record { space = Initial; sender = other old.side; number = number; frames = are.0 } in
      let has : HasPacket 0 one datagram = initial b.front behind datagram b.whole (record {
        number_bytes = o.number_bytes;
        frame_bytes = frames;
        tag = o.tag;
        form = subst (λ (n : ℕ). IsInitialForm b.front n (o.number_bytes ++ (frames ++ o.tag))) o.first_is (subst (λ (z : List ℕ). IsInitialForm b.front f.first z) o.whole b.form);
        some_number = o.some_number;
        short_number = o.short_number;
        content = record { space_is = refl; tagged = names (other old.side) Initial number o.tag o.is_number o.accepted; low = sym o.expanded.candidate.same_low; frames = are.1 };
      }) in
      let is_honest = honest.packets 0 one has in
      packet_fine peer_hello (handed_in out.before) peer.side s.next_number (its_size peer_hello peer.side peer.parameters p.peer_follows.own) (λ n has. used s n is has)
      now number frames s mid end e are.0 refl h fault are.1 is_honest.some is_honest.in_range is_honest.honest

  -- ---- the hello

  hello_none : (side : Side) (original remote : List ℕ) (retried : Option (List ℕ)) (front : List ℕ) (kind : HelloFault) → side ≡ own.side → original ≡ own.original_id → retried ≡ own.retry_id
      → remote ≡ peer.parameters.initial_source_connection_id → front ≡ peer_hello → IsHelloFault (other side) (ids_at side original remote retried) front kind → ⊥
  hello_none side original remote retried front kind side_is original_is retry_is remote_is front_is_hello is =
      let first : IsHelloFault (other own.side) (ids_at own.side original remote retried) front kind = subst (λ (z : Side). IsHelloFault (other z) (ids_at z original remote retried) front kind) side_is is in
      let second : IsHelloFault (other own.side) (ids_at own.side own.original_id remote retried) front kind =
      subst (λ (z : List ℕ). IsHelloFault (other own.side) (ids_at own.side z remote retried) front kind) original_is first in
      let third : IsHelloFault (other own.side) (ids_at own.side own.original_id remote own.retry_id) front kind =
      subst (λ (z : Option (List ℕ)). IsHelloFault (other own.side) (ids_at own.side own.original_id remote z) front kind) retry_is second in
      never_faulty own peer peer_hello remote kind p.peer_follows.own p.side_is remote_is p.ids
      (subst (λ (z : List ℕ). IsHelloFault (other own.side) (ids_at own.side own.original_id remote own.retry_id) z kind) front_is_hello third)

  came_out : (d : List ℕ) → In d (handed_in (t ++ HandedIn datagram ∷ [])) → In d (handed_out u) ⊎ IsBehind d
  came_out d is = elim (in_more d datagram (handed_in t) (subst (λ (z : List (List ℕ)). In d z) (handed_in-append t (HandedIn datagram ∷ [])) is)) [
    | inl earlier ↦ p.came d earlier
    | inr same ↦ inl (subst (λ (z : List ℕ). In z (handed_out u)) same among)
  ]

  -- the hello that came is the peer's
  pub front_same : (h : Handshake) (s : InitialSpace) (front rest : List ℕ) → h.side ≡ own.side → h.space ≡ Some s → s.crypto.bytes ≡ front ++ rest → IsHelloForm front
      → Follows own_hello h (t ++ HandedIn datagram ∷ []) → front ≡ peer_hello
  front_same h s front rest side is whole form follows =
      let bytes : (k byte : ℕ) → slice_get s.crypto.bytes k ≡ Some byte → slice_get peer_hello k ≡ Some byte = λ k byte at.
      same_byte peer_hello peer u (handed_in (t ++ HandedIn datagram ∷ [])) k byte p.peer_follows came_out
      (subst (λ (z : Side). CarriesHello 0 (handed_in (t ++ HandedIn datagram ∷ [])) z k byte) (ap other side ∙ sym p.side_is)
      (follows.came s k byte 0 is (ap (λ (o : Option ℕ). or_byte o (to_give s.crypto.waiting k)) at))) in
      front_is peer_hello s.crypto.bytes front rest (its_form peer_hello peer.side peer.parameters p.peer_follows.own) whole form bytes

  hello_fine : (old new : Handshake) (learned : Option (List ℕ)) (end : Option ConnectionError) (e : TransportError) → IsHelloRead old new learned end → end ≡ Some (Fault e)
      → (old.side ≡ own.side) × (old.original_id ≡ own.original_id) × (old.retry_id ≡ own.retry_id) × (old.remote_id ≡ peer.parameters.initial_source_connection_id)
      → Follows own_hello new (t ++ HandedIn datagram ∷ []) → ⊥
  hello_fine old new learned end e (gone_before none same) fault ids follows = none-some (Fault e) fault
  hello_fine old new learned end e (known _ is same) fault ids follows = none-some (Fault e) fault
  hello_fine old new learned end e (cut s is none same) fault ids follows = none-some (Fault e) fault
  hello_fine old new learned end e (at_client name q there client same) fault ids follows = none-some (Fault e) fault
  hello_fine old new learned end e (at_server s name q there server is same) fault ids follows = none-some (Fault e) fault
  hello_fine old new learned end e (refused s front rest kind _ is unread whole form has code same) fault ids follows =
      let so : Follows own_hello old (t ++ HandedIn datagram ∷ []) = subst (λ (z : Handshake). Follows own_hello z (t ++ HandedIn datagram ∷ [])) same follows in
      hello_none old.side old.original_id old.remote_id old.retry_id front kind ids.0 ids.1 ids.2 ids.3 (front_same old s front rest ids.0 is whole form so) has

  -- ---- the whole datagram

  initial_fine : (f : Form) (old new : Handshake) (destination behind : List ℕ) (learned : Option (List ℕ)) (end : Option ConnectionError) (e : TransportError) → old ≡ received (length datagram) own
      → BeginsWithInitial datagram f.first destination f.source f.token f.body behind → IsInitialTaken accepts now f old new learned end → end ≡ Some (Fault e)
      → Follows own_hello new (t ++ HandedIn datagram ∷ []) → ⊥
  initial_fine f old new destination behind learned end e same b (gone none _) fault follows = none-some (Fault e) fault
  initial_fine f old new destination behind learned end e same b (dropped s is none _) fault follows = none-some (Fault e) fault
  initial_fine f old new destination behind learned end e same b (ended s mid number frames error is opened h _) fault follows =
      handled_fine f old s mid number frames destination behind (Some error) e b (ap (λ (z : Handshake). z.side) same) (ap (λ (z : Handshake). z.space) (sym same) ∙ is) opened h fault
  initial_fine f old new destination behind learned end e same b (handled s mid number frames _ _ is opened h read) fault follows =
      let source : f.source ≡ peer.parameters.initial_source_connection_id = (honest.from f.first destination f.source f.token f.body behind b).0 ∙ sym p.peer_whole.source in
      hello_fine (knowing old f.source mid) new learned end e read fault
      (ap (λ (z : Handshake). z.side) same, ap (λ (z : Handshake). z.original_id) same, ap (λ (z : Handshake). z.retry_id) same, source) follows

  packets_fine : (bytes rest : List ℕ) (old new : Handshake) (learned : Option (List ℕ)) (end : Option ConnectionError) (e : TransportError) → bytes ≡ datagram → old ≡ received (length datagram) own
      → ArePacketsTaken accepts now bytes rest old new learned end → end ≡ Some (Fault e) → Follows own_hello new (t ++ HandedIn datagram ∷ []) → ⊥
  packets_fine bytes rest old new learned end e is same (done _ _ none) fault follows = none-some (Fault e) fault
  packets_fine bytes rest old new learned end e is same (one_more _ destination behind _ f _ mid _ first others _ b one behind_it) fault follows =
      let there : BeginsWithInitial datagram f.first destination f.source f.token f.body behind = subst (λ (z : List ℕ). BeginsWithInitial z f.first destination f.source f.token f.body behind) is b in
      nothing_ends accepts now behind rest mid new others end e behind_it (honest.from f.first destination f.source f.token f.body behind there).1 fault
  packets_fine bytes rest old new learned end e is same (ended_by _ destination behind f _ _ _ error b one) fault follows =
      let there : BeginsWithInitial datagram f.first destination f.source f.token f.body behind = subst (λ (z : List ℕ). BeginsWithInitial z f.first destination f.source f.token f.body behind) is b in
      initial_fine f old new destination behind learned (Some error) e same there one fault follows

  datagram_fine : (rest : List ℕ) (new : Handshake) (retried learned : Option (List ℕ)) (end : Option ConnectionError) (e : TransportError) → IsDatagramTaken accepts now datagram own new rest retried learned end
      → end ≡ Some (Fault e) → Follows own_hello new (t ++ HandedIn datagram ∷ []) → ⊥
  datagram_fine rest new retried learned end e (retry s source token may is same) fault follows = none-some (Fault e) fault
  datagram_fine rest new retried learned end e (mismatch is same) fault follows = cc
  datagram_fine rest new retried learned end e (packets _ _ _ no_retry no_mismatch all) fault follows =
      packets_fine datagram rest (received (length datagram) own) new learned end e refl refl all fault follows

pub peers_agree : (accepts : AcceptsTag) (now : Moment) (datagram rest own_hello peer_hello : List ℕ) (own new peer : Handshake) (retried learned : Option (List ℕ)) (e : TransportError) (t u : List Act)
    → NamesTags accepts → IsPeer own_hello peer_hello own peer t u → In datagram (handed_out u) → IsDatagramTaken accepts now datagram own new rest retried learned (Some (Fault e)) → ⊥
peers_agree accepts now datagram rest own_hello peer_hello own new peer retried learned e t u names p among taken =
    datagram_fine accepts now datagram own_hello peer_hello own peer t u names p among rest new retried learned (Some (Fault e)) e taken refl
    (taken_follows accepts now datagram rest own_hello own new retried learned (Some (Fault e)) t names taken p.own_follows)

pub versions_agree : (accepts : AcceptsTag) (now : Moment) (datagram rest own_hello peer_hello : List ℕ) (own new peer : Handshake) (retried learned : Option (List ℕ)) (t u : List Act)
    → IsPeer own_hello peer_hello own peer t u → In datagram (handed_out u) → IsDatagramTaken accepts now datagram own new rest retried learned (Some VersionMismatch) → ⊥
versions_agree accepts now datagram rest own_hello peer_hello own new peer retried learned t u p among taken =
    let out = out_at u datagram among in
    let is = tells_versions accepts now datagram rest own new retried learned taken in
    no_negotiation peer_hello (handed_in out.before) peer datagram is.destination is.source is.listed (p.peer_sends.each out.before out.after datagram out.whole) is.is

-- ---- whatever the error is

ends_never : (accepts : AcceptsTag) (now : Moment) (datagram rest own_hello peer_hello : List ℕ) (own new peer : Handshake) (retried learned : Option (List ℕ)) (e : ConnectionError) (t u : List Act)
    → NamesTags accepts → IsPeer own_hello peer_hello own peer t u → NeverCloses peer.side u → In datagram (handed_out u) → IsDatagramTaken accepts now datagram own new rest retried learned (Some e)
    → Ends e → ⊥
ends_never accepts now datagram rest own_hello peer_hello own new peer retried learned e t u names p never among taken (by_fault error) =
    peers_agree accepts now datagram rest own_hello peer_hello own new peer retried learned error t u names p among taken
ends_never accepts now datagram rest own_hello peer_hello own new peer retried learned e t u names p never among taken (by_close close) =
    closes_never accepts now datagram rest own_hello peer_hello own new peer retried learned close t u names p never among taken

pub never_ended : (accepts : AcceptsTag) (now : Moment) (datagram rest own_hello peer_hello : List ℕ) (own new peer : Handshake) (retried learned : Option (List ℕ)) (e : ConnectionError) (t u : List Act)
    → NamesTags accepts → IsPeer own_hello peer_hello own peer t u → NeverCloses peer.side u → In datagram (handed_out u) → IsDatagramTaken accepts now datagram own new rest retried learned (Some e) → ⊥
never_ended accepts now datagram rest own_hello peer_hello own new peer retried learned e t u names p never among taken =
    elim (datagram_ends accepts now datagram rest own new retried learned (Some e) e taken refl) [
      | inl ends ↦ ends_never accepts now datagram rest own_hello peer_hello own new peer retried learned e t u names p never among taken ends
      | inr told ↦ versions_agree accepts now datagram rest own_hello peer_hello own new peer retried learned t u p among
          (subst (λ (z : ConnectionError). IsDatagramTaken accepts now datagram own new rest retried learned (Some z)) told.0 taken)
    ]
