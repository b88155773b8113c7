-- The name that a session learns is the one in its honest peer's hello (RFC 9000, section 7).
use Rattle.std.proofs.Common.{◌≡◌, ℕ, List, [], ◌∷◌, ◌++◌, length, Option, Some, None, refl, sym, ap, subst, ◌∙◌}
use Rattle.std.proofs.lemmas.Option.{none-some, same_Some}
use Rattle.qh_base.specs.declared.connection_error.ConnectionError.{ConnectionError}
use Rattle.qh_base.specs.declared.time.Moment.{Moment}
use Rattle.qh_handshake.proofs.FollowsIn.{heard_follows, in_last_act, initial_in, known_in}
use Rattle.qh_handshake.proofs.GoingOn.{initial_goes}
use Rattle.qh_handshake.proofs.PeerDatagrams.{front_same}
use Rattle.qh_handshake.specs.Follows.{Follows}
use Rattle.qh_handshake.specs.Incoming.{ArePacketsTaken, Form, IsDatagramTaken, IsHelloRead, IsInitialTaken, knowing, received}
use Rattle.qh_handshake.specs.Incoming.ArePacketsTaken.{done, more as one_more, ended as ended_by}
use Rattle.qh_handshake.specs.Incoming.IsDatagramTaken.{retry, mismatch, packets}
use Rattle.qh_handshake.specs.Incoming.IsHelloRead.{gone as gone_before, known, cut, refused, at_client, at_server}
use Rattle.qh_handshake.specs.Incoming.IsInitialTaken.{gone, dropped, ended, handled}
use Rattle.qh_handshake.specs.Peers.{IsPeer}
use Rattle.qh_handshake.specs.declared.handshake.Handshake.{Handshake}
use Rattle.qh_hello.specs.Greetings.{greeting}
use Rattle.qh_packet.specs.Initial.{BeginsWithInitial}
use Rattle.qh_packet.specs.Session.{AcceptsTag, NamesTags}
use Rattle.qh_spec.proofs.HelloFaultLaws.{one_hello}
use Rattle.qh_spec.proofs.HelloLaws.{hello_written}
use Rattle.qh_spec.proofs.HelloWritten.{has_spelling}
use Rattle.qh_spec.specs.Datagram.{Packet, HasPacket, later}
use Rattle.qh_spec.specs.Hello.{Hello, IsHelloOf, hello_bytes, hello_of}
use Rattle.qh_spec.specs.Link.{other}
use Rattle.qh_spec.specs.Lists.{In}
use Rattle.qh_spec.specs.Transcript.{Act, HandedIn, handed_out}
use Rattle.qh_spec.specs.declared.sides.Side.{Side}

module _ (accepts : AcceptsTag) (now : Moment) (datagram own_hello peer_hello : List ℕ) (own peer : Handshake) (t u : List Act) (names : NamesTags accepts)
    (p : IsPeer own_hello peer_hello own peer t u) (among : In datagram (handed_out u)) where
  abbrev heard : List Act
  heard = t ++ HandedIn datagram ∷ []

  -- the peer's hello bears this name
  abbrev Bears : List ℕ → Type 0
  Bears name = peer_hello ≡ hello_bytes (hello_of (greeting peer.side name peer.parameters))

  hello_named : (old new : Handshake) (learned : Option (List ℕ)) (end : Option ConnectionError) (name : List ℕ) → IsHelloRead old new learned end → learned ≡ Some name → old.side ≡ own.side
      → Follows own_hello old heard → Bears name
  hello_named old new learned end name (gone_before none e) is side follows = absurd (none-some name is)
  hello_named old new learned end name (known q has e) is side follows = absurd (none-some name is)
  hello_named old new learned end name (cut s has none e) is side follows = absurd (none-some name is)
  hello_named old new learned end name (refused s front rest kind error has unread whole form fault code e) is side follows = absurd (none-some name is)
  hello_named old new learned end name (at_client own_name q there client e) is side follows = absurd (none-some name is)
  hello_named old new learned end name (at_server s read_name q there server has e) is side follows =
      let said = p.peer_follows.own in
      let g = greeting peer.side said.name peer.parameters in
      let front : there.front ≡ peer_hello =
      front_same accepts now datagram own_hello peer_hello own peer t u names p among old there.space there.front there.rest side there.space_is there.whole there.form follows in
      let sender : other old.side ≡ peer.side = ap other side ∙ sym p.side_is in
      let read : IsHelloOf peer.side (hello_bytes (hello_of g)) there.read.hello =
      subst (λ (z : Side). IsHelloOf z (hello_bytes (hello_of g)) there.read.hello) sender
      (subst (λ (z : List ℕ). IsHelloOf (other old.side) z there.read.hello) (front ∙ said.is) there.read.is.is) in
      let same : there.read.hello ≡ hello_of g = one_hello peer.side (hello_bytes (hello_of g)) there.read.hello (hello_of g) read (hello_written (hello_of g) (has_spelling g said.sayable), refl) in
      let named : said.name ≡ name = ap (λ (h : Hello). h.server_name) (sym same) ∙ there.read.says.server_name ∙ same_Some read_name name is in
      said.is ∙ ap (λ (z : List ℕ). hello_bytes (hello_of (greeting peer.side z peer.parameters))) named

  abbrev IsRest : List ℕ → Type 0
  IsRest bytes = (id_length : ℕ) (q : Packet) → HasPacket id_length q bytes → HasPacket id_length q datagram

  initial_named : (f : Form) (old new : Handshake) (bytes destination behind : List ℕ) (learned : Option (List ℕ)) (end : Option ConnectionError) (name : List ℕ)
      → BeginsWithInitial bytes f.first destination f.source f.token f.body behind → IsRest bytes → IsInitialTaken accepts now f old new learned end → learned ≡ Some name → old.side ≡ own.side
      → Follows own_hello old heard → Bears name
  initial_named f old new bytes destination behind learned end name b rest (gone none e) is side follows = absurd (none-some name is)
  initial_named f old new bytes destination behind learned end name b rest (dropped s there none e) is side follows = absurd (none-some name is)
  initial_named f old new bytes destination behind learned end name b rest (ended s mid number frames error there opened h e) is side follows = absurd (none-some name is)
  initial_named f old new bytes destination behind learned end name b rest (handled s mid number frames _ _ there opened h read) is side follows =
      hello_named (knowing old f.source mid) new learned end name read is side
      (known_in own_hello accepts names now datagram heard (in_last_act t datagram) f old s mid number frames bytes destination behind None b rest there opened h follows)

  packets_named : (bytes left : List ℕ) (old new : Handshake) (learned : Option (List ℕ)) (end : Option ConnectionError) (name : List ℕ) → IsRest bytes
      → ArePacketsTaken accepts now bytes left old new learned end → learned ≡ Some name → old.side ≡ own.side → Follows own_hello old heard → Bears name
  packets_named bytes left old new learned end name rest (done _ _ none) is side follows = absurd (none-some name is)
  packets_named bytes left old new learned end name rest (one_more _ destination behind _ f _ mid _ first None _ b one taken) is side follows =
      initial_named f old mid bytes destination behind first None name b rest one is side follows
  packets_named bytes left old new learned end name rest (one_more _ destination behind _ f _ mid _ first (Some last) _ b one taken) is side follows =
      packets_named behind left mid new (Some last) end name (λ id_length q has. rest id_length q (later b.front behind bytes f.first f.body b.whole b.form has)) taken is
      ((initial_goes accepts now f old mid first None one).side ∙ side)
      (initial_in own_hello accepts names now datagram heard (in_last_act t datagram) f old mid bytes destination behind first None b rest one follows)
  packets_named bytes left old new learned end name rest (ended_by _ destination behind f _ _ _ error b one) is side follows =
      initial_named f old new bytes destination behind learned (Some error) name b rest one is side follows

  datagram_named : (rest : List ℕ) (new : Handshake) (retried learned : Option (List ℕ)) (end : Option ConnectionError) (name : List ℕ)
      → IsDatagramTaken accepts now datagram own new rest retried learned end → learned ≡ Some name → Bears name
  datagram_named rest new retried learned end name (retry s source token may is_retry e) is = absurd (none-some name is)
  datagram_named rest new retried learned end name (mismatch m e) is = absurd (none-some name is)
  datagram_named rest new retried learned end name (packets _ _ _ no_retry no_mismatch all) is =
      packets_named datagram rest (received (length datagram) own) new learned end name (λ id_length q has. has) all is refl (heard_follows own_hello own t datagram p.own_follows)

pub same_name : (accepts : AcceptsTag) (now : Moment) (datagram rest own_hello peer_hello name : List ℕ) (own new peer : Handshake) (retried : Option (List ℕ)) (end : Option ConnectionError) (t u : List Act)
    → NamesTags accepts → IsPeer own_hello peer_hello own peer t u → In datagram (handed_out u) → IsDatagramTaken accepts now datagram own new rest retried (Some name) end
    → peer_hello ≡ hello_bytes (hello_of (greeting peer.side name peer.parameters))
same_name accepts now datagram rest own_hello peer_hello name own new peer retried end t u names p among taken =
    datagram_named accepts now datagram own_hello peer_hello own peer t u names p among rest new retried (Some name) end name taken refl
