-- What a datagram does that comes to a handshake, whatever its size is (RFC 9000, sections 6.2, 7, 12.2, 12.4 and 17.2).
use Rattle.std.specs.Prelude.{◌≡◌, ℕ, ◌+◌, ◌≤◌, Bool, true, false, ◌||◌, List, [], ◌∷◌, ◌++◌, length, Option, Some, None}
use Rattle.qh_base.specs.TransportFault.{IsFault}
use Rattle.std.specs.Option.{option_map}
use Rattle.qh_base.specs.declared.connection_error.ConnectionClose.{ConnectionClose}
use Rattle.qh_base.specs.declared.connection_error.ConnectionError.{ConnectionError}
use Rattle.qh_base.specs.declared.connection_error.ConnectionError.TheVariants.{TransportError as Fault, ConnectionClosed, VersionMismatch}
use Rattle.qh_base.specs.declared.time.Moment.{Moment}
use Rattle.qh_base.specs.declared.transport_error.TransportError.{TransportError}
use Rattle.qh_frame.specs.FrameAt.{Begins}
use Rattle.qh_frame.specs.Plain.{plain_of}
use Rattle.qh_frame.specs.TypeOf.{HasType, named}
use Rattle.qh_frame.specs.declared.frame.Frame.{Frame}
use Rattle.qh_handshake.specs.Handshake.{counted, dropping, ids_used}
use Rattle.qh_handshake.specs.Receiving.{IsFrameTaken, IsRefusal, frame_refusal}
use Rattle.qh_handshake.specs.declared.handshake.Handshake.{Handshake}
use Rattle.qh_handshake.specs.declared.initial_space.HelloState.TheVariants.{Waits}
use Rattle.qh_handshake.specs.declared.initial_space.InitialSpace.{InitialSpace}
use Rattle.qh_handshake.specs.declared.receiving.SpaceFault.TheVariants.{Transport}
use Rattle.qh_hello.specs.Greetings.{SaysGreeting, greeting}
use Rattle.qh_hello.specs.Parts.{IsHelloForm}
use Rattle.qh_hello.specs.declared.transport_parameters.TransportParameters.{TransportParameters}
use Rattle.qh_packet.specs.Frames.{AreValidFrames, IsFaultyFrame}
use Rattle.qh_packet.specs.Initial.{BeginsWithInitial}
use Rattle.qh_packet.specs.Packet.{IsInitialOpened}
use Rattle.qh_packet.specs.declared.initial.InitialForm.{InitialForm}
use Rattle.qh_packet.specs.Session.{AcceptsTag, SealsTag}
use Rattle.qh_packet.specs.Retry.{IsRetryPacket, retry_tag_of}
use Rattle.qh_packet.specs.Version.{number_of}
use Rattle.qh_packet.specs.VersionNegotiation.{IsVersionNegotiation, versions_in}
use Rattle.qh_recovery.specs.Accepted.{IsNew, IsNextOf, Remembers}
use Rattle.qh_recovery.specs.PendingAcks.{IsJoined}
use Rattle.qh_spec.specs.Codes as codes
use Rattle.qh_spec.specs.Datagram.{IsInitialForm}
use Rattle.qh_spec.specs.Hello.{Hello, hello_bytes, hello_of}
use Rattle.qh_spec.specs.HelloFaults.{HelloFault, IsAcceptable, IsHelloFault}
use Rattle.qh_spec.specs.Link.{other}
use Rattle.qh_spec.specs.Lists.{In}
use Rattle.qh_spec.specs.declared.sides.Side.TheVariants.{Client, Server}

-- what is known of a session: the server name, whether that is known, the id from which its tags are made, which tags it makes and takes
pub record SessionView (S : Type 0) : Type 0 where
  pub name : S → List ℕ
  pub knows : S → Bool
  pub key : S → List ℕ
  pub sealed : S → SealsTag
  pub accepts : S → AcceptsTag

-- A session learned this name, if there is one, and makes and takes the same tags as before; else it is the one that it was.
abbrev pub Learns : {S : Type 0} → SessionView S → (old new : S) → (learned : Option (List ℕ)) → Type 0
Learns v old new None = new ≡ old
Learns v old new (Some learned) = (v.name new ≡ learned) × (v.knows new ≡ true) × (v.key new ≡ v.key old) × (v.sealed new ≡ v.sealed old) × (v.accepts new ≡ v.accepts old)

-- the same behind a datagram; after a Retry packet its tags are made from this id, and it holds the same name
abbrev pub IsSessionAfter : {S : Type 0} → SessionView S → (old new : S) → (retried learned : Option (List ℕ)) → Type 0
IsSessionAfter v old new None learned = Learns v old new learned
IsSessionAfter v old new (Some id) learned = (v.key new ≡ id) × (v.name new ≡ v.name old) × (v.knows new ≡ v.knows old)

-- ---- a packet (sections 12.3 and 12.4)

-- it is one more than the greatest number that was accepted, 0 if none was
abbrev pub IsExpectedOf : InitialSpace → ℕ → Type 0
IsExpectedOf s expected = (accepted : List ℕ) → Remembers accepted s.dedup → IsNextOf accepted expected

-- the number is to be taken: it never came, and isn't more than 128 below the greatest that was accepted
abbrev pub IsNewTo : InitialSpace → ℕ → Type 0
IsNewTo s number = (accepted : List ℕ) → Remembers accepted s.dedup → IsNew accepted number

abbrev pub IsOldTo : InitialSpace → ℕ → Type 0
IsOldTo s number = (accepted : List ℕ) → Remembers accepted s.dedup → IsNew accepted number → ⊥

-- the packet with the number is accepted, and to be acknowledged at once if it wants that (section 13.2.1)
pub record IsAccepted (now : Moment) (number : ℕ) (is_eliciting : Bool) (old new : InitialSpace) : Type 0 where
  pub remembers : (accepted : List ℕ) → Remembers accepted old.dedup → Remembers (number ∷ accepted) new.dedup
  pub bound : ℕ
  pub acks : IsJoined old.acks.ranges new.acks.ranges number bound
  pub due : new.acks.is_due ≡ (old.acks.is_due || is_eliciting)
  pub rest_is : new ≡ record old { dedup = new.dedup; acks = new.acks; last_active = now; packets_accepted = counted (old.packets_accepted + 1) }

-- The frames that the bytes are are taken one after another. If one closes, or is refused, those behind it aren't taken: the error says
-- which. One that is refused is named by the type with which its bytes begin.
pub data AreFramesTaken (now : ℕ) : (bytes : List ℕ) → (old new : InitialSpace) → Option ConnectionError → Type 0 where
  none : (s : InitialSpace) → AreFramesTaken now [] s s None
  more : (bytes rest : List ℕ) (frame : Frame) (old mid new : InitialSpace) (end : Option ConnectionError) → Begins bytes (plain_of frame) rest
      → frame_refusal old frame ≡ None → IsFrameTaken now old mid frame None → AreFramesTaken now rest mid new end → AreFramesTaken now bytes old new end
  closed : (bytes rest : List ℕ) (frame : Frame) (old new : InitialSpace) (close : ConnectionClose) → Begins bytes (plain_of frame) rest
      → frame_refusal old frame ≡ None → IsFrameTaken now old new frame (Some close) → AreFramesTaken now bytes old new (Some (ConnectionClosed close))
  refused : (bytes rest : List ℕ) (frame : Frame) (s : InitialSpace) (e : TransportError) → Begins bytes (plain_of frame) rest
      → HasType bytes frame → IsRefusal (Transport e) (frame_refusal s frame) → AreFramesTaken now bytes s s (Some (Fault e))

-- the bytes begin with a frame that is refused, with this error
pub record IsFirstRefused (bytes : List ℕ) (s : InitialSpace) (e : TransportError) : Type 0 where
  pub rest : List ℕ
  pub frame : Frame
  pub begins : Begins bytes (plain_of frame) rest
  pub named_so : HasType bytes frame
  pub refusal : IsRefusal (Transport e) (frame_refusal s frame)

-- What a packet does whose tag was accepted: nothing if its number isn't new; a packet without a frame, or with bytes that are no
-- frame, is a fault (sections 12.4 and 20.1), and no frame of it is taken. Nor is one taken if memory is wanting to note the number: then
-- a fault of its first frame ends the connection all the same.
pub data IsPacketHandled (now : Moment) (number : ℕ) (frames : List ℕ) (old new : InitialSpace) : Option ConnectionError → Type 0 where
  repeated : IsOldTo old number → new ≡ old → IsPacketHandled now number frames old new None
  empty : (e : TransportError) → IsNewTo old number → frames ≡ [] → IsFault codes.protocol_violation None e → new ≡ old → IsPacketHandled now number frames old new (Some (Fault e))
  faulty : (e : TransportError) (kind : Option ℕ) → IsNewTo old number → IsFaultyFrame frames kind → IsFault codes.frame_encoding_error (option_map named kind) e → new ≡ old
      → IsPacketHandled now number frames old new (Some (Fault e))
  unnoted : (e : TransportError) (is_eliciting : Bool) → IsNewTo old number → AreValidFrames frames is_eliciting → IsFirstRefused frames old e → new ≡ old
      → IsPacketHandled now number frames old new (Some (Fault e))
  taken : (mid : InitialSpace) (is_eliciting : Bool) (end : Option ConnectionError) → IsNewTo old number → AreValidFrames frames is_eliciting
      → IsAccepted now number is_eliciting old mid → AreFramesTaken now.0 frames mid new end → IsPacketHandled now number frames old new end

-- ---- the hello

-- no hello of the peer's came whole
abbrev pub IsCut : List ℕ → Type 0
IsCut bytes = (front rest : List ℕ) → bytes ≡ front ++ rest → IsHelloForm front → ⊥

-- the hello that came says these parameters, and this name
pub record IsReadAs (h : Handshake) (front name : List ℕ) (p : TransportParameters) : Type 0 where
  pub hello : Hello
  pub is : IsAcceptable (other h.side) (ids_used h) front hello
  pub says : SaysGreeting hello (greeting (other h.side) name p)

-- the hello came whole, and wasn't read yet
pub record IsHelloThere (h : Handshake) (name : List ℕ) (p : TransportParameters) : Type 0 where
  pub space : InitialSpace
  pub space_is : h.space ≡ Some space
  pub unread : h.peer ≡ None
  pub front : List ℕ
  pub rest : List ℕ
  pub whole : space.crypto.bytes ≡ front ++ rest
  pub form : IsHelloForm front
  pub read : IsReadAs h front name p

-- What becomes of the CRYPTO bytes: once the peer's whole hello is there it is read. A client then has no use for the space any more; a
-- server learns the name, and its own hello is to be sent.
pub data IsHelloRead (old new : Handshake) : (learned : Option (List ℕ)) → Option ConnectionError → Type 0 where
  gone : old.space ≡ None → new ≡ old → IsHelloRead old new None None
  known : (p : TransportParameters) → old.peer ≡ Some p → new ≡ old → IsHelloRead old new None None
  cut : (s : InitialSpace) → old.space ≡ Some s → IsCut s.crypto.bytes → new ≡ old → IsHelloRead old new None None
  refused : (s : InitialSpace) (front rest : List ℕ) (fault : HelloFault) (e : TransportError) → old.space ≡ Some s → old.peer ≡ None
      → s.crypto.bytes ≡ front ++ rest → IsHelloForm front → IsHelloFault (other old.side) (ids_used old) front fault
      → IsFault codes.transport_parameter_error None e → new ≡ old → IsHelloRead old new None (Some (Fault e))
  at_client : (name : List ℕ) (p : TransportParameters) → IsHelloThere old name p → old.side ≡ Client
      → new ≡ record (dropping old) { peer = Some p } → IsHelloRead old new None None
  at_server : (s : InitialSpace) (name : List ℕ) (p : TransportParameters) → IsHelloThere old name p → old.side ≡ Server → old.space ≡ Some s
      → new ≡ record old { peer = Some p; space = Some (record s { hello = hello_bytes (hello_of (greeting Server [] old.parameters)); state = Waits }) }
      → IsHelloRead old new (Some name) None

-- ---- an Initial packet of a datagram (section 17.2.2)

-- its parts
pub record Form : Type 0 where
  pub first : ℕ
  pub source : List ℕ
  pub token : List ℕ
  pub body : List ℕ

abbrev pub form_of : InitialForm → Form
form_of f = record { first = f.first; source = f.source.now; token = f.token.now; body = f.body.now }

-- The packet comes from the peer, as far as that is known, and its tag is accepted. One with a token isn't from a server, and a client
-- discards it (section 17.2.2).
pub record IsOpenedBy (accepts : AcceptsTag) (h : Handshake) (s : InitialSpace) (f : Form) (number : ℕ) (frames : List ℕ) : Type 0 where
  pub untokened : h.side ≡ Client → f.token ≡ []
  pub source_is : h.knows_peer ≡ true → f.source ≡ h.remote_id
  pub expected : ℕ
  pub is_expected : IsExpectedOf s expected
  pub opened : IsInitialOpened accepts (other h.side) expected f.first f.body number frames

-- the peer is known by the source id of the packet (section 7.2)
abbrev pub knowing : Handshake → (source : List ℕ) → InitialSpace → Handshake
knowing h source s = record h { remote_id = source; knows_peer = true; space = Some s }

-- What an Initial packet does: nothing without the space, or if it isn't opened. `learned` is the name that a server's session learns.
pub data IsInitialTaken (accepts : AcceptsTag) (now : Moment) (f : Form) (old new : Handshake) : (learned : Option (List ℕ)) → Option ConnectionError → Type 0 where
  gone : old.space ≡ None → new ≡ old → IsInitialTaken accepts now f old new None None
  dropped : (s : InitialSpace) → old.space ≡ Some s → ((number : ℕ) (frames : List ℕ) → IsOpenedBy accepts old s f number frames → ⊥) → new ≡ old
      → IsInitialTaken accepts now f old new None None
  ended : (s mid : InitialSpace) (number : ℕ) (frames : List ℕ) (e : ConnectionError) → old.space ≡ Some s → IsOpenedBy accepts old s f number frames
      → IsPacketHandled now number frames s mid (Some e) → new ≡ knowing old f.source mid → IsInitialTaken accepts now f old new None (Some e)
  handled : (s mid : InitialSpace) (number : ℕ) (frames : List ℕ) (learned : Option (List ℕ)) (end : Option ConnectionError) → old.space ≡ Some s
      → IsOpenedBy accepts old s f number frames → IsPacketHandled now number frames s mid None → IsHelloRead (knowing old f.source mid) new learned end
      → IsInitialTaken accepts now f old new learned end

-- ---- Retry and version negotiation (sections 6.2 and 17.2.5)

-- the client may take another try: it accepted no packet, and no Retry packet
pub record MayRetry (h : Handshake) (s : InitialSpace) : Type 0 where
  pub side : h.side ≡ Client
  pub space : h.space ≡ Some s
  pub unknown : h.knows_peer ≡ false
  pub once : h.retry_id ≡ None

-- the datagram is a Retry packet for this client (section 17.2.5; own are the tag, the limit of 512 bytes, and that it may come from any id)
pub record IsRetryFor (h : Handshake) (datagram source token : List ℕ) : Type 0 where
  pub destination : List ℕ
  pub is : IsRetryPacket datagram destination source token (retry_tag_of h.original_id)
  pub some : 1 ≤ length token
  pub few : length token ≤ 512

-- the client begins again with the token, towards the id that the Retry packet came from (section 17.2.5.3)
abbrev pub restarted : (now : Moment) → Handshake → InitialSpace → (source token : List ℕ) → Handshake
restarted now h s source token = record h {
  remote_id = source;
  retry_id = Some source;
  token = token;
  space = Some (record s { sent = []; state = Waits; largest_acked = None; is_ping_due = false; pto_count = 0; is_probe_due = false; last_active = now });
}

-- the datagram says that the peer doesn't speak this client's version (section 6.2; own: also behind a Retry packet, and whatever its ids are)
pub record IsMismatch (h : Handshake) (datagram : List ℕ) : Type 0 where
  pub side : h.side ≡ Client
  pub unknown : h.knows_peer ≡ false
  pub destination : List ℕ
  pub source : List ℕ
  pub listed : List ℕ
  pub is : IsVersionNegotiation datagram destination source listed
  pub unlisted : In (number_of h.version) (versions_in listed) → ⊥

-- ---- a datagram

-- no Initial packet begins the bytes
abbrev pub IsBehind : List ℕ → Type 0
IsBehind bytes = (front rest body : List ℕ) (first : ℕ) → bytes ≡ front ++ rest → IsInitialForm front first body → ⊥

-- the name that was learned last, if any was
abbrev pub or_learned : Option (List ℕ) → Option (List ℕ) → Option (List ℕ)
or_learned first None = first
or_learned first (Some name) = Some name

-- The Initial packets with which the bytes begin are taken one after another, up to one that ends the connection; this is the rest.
pub data ArePacketsTaken (accepts : AcceptsTag) (now : Moment) : (bytes rest : List ℕ) (old new : Handshake) (learned : Option (List ℕ)) → Option ConnectionError → Type 0 where
  done : (bytes : List ℕ) (h : Handshake) → IsBehind bytes → ArePacketsTaken accepts now bytes bytes h h None None
  more : (bytes destination behind rest : List ℕ) (f : Form) (old mid new : Handshake) (first later : Option (List ℕ)) (end : Option ConnectionError)
      → BeginsWithInitial bytes f.first destination f.source f.token f.body behind → IsInitialTaken accepts now f old mid first None
      → ArePacketsTaken accepts now behind rest mid new later end → ArePacketsTaken accepts now bytes rest old new (or_learned first later) end
  ended : (bytes destination behind : List ℕ) (f : Form) (old new : Handshake) (learned : Option (List ℕ)) (e : ConnectionError)
      → BeginsWithInitial bytes f.first destination f.source f.token f.body behind → IsInitialTaken accepts now f old new learned (Some e)
      → ArePacketsTaken accepts now bytes behind old new learned (Some e)

-- a datagram that came is counted
abbrev pub received : (size : ℕ) → Handshake → Handshake
received size h = record h { bytes_received = counted (h.bytes_received + size) }

-- What a datagram does: a Retry packet begins the handshake again, a packet of version negotiation ends it, and Initial packets are taken;
-- this is the rest. `retried` is the id from which tags are made from now on, if that changes.
pub data IsDatagramTaken (accepts : AcceptsTag) (now : Moment) (datagram : List ℕ) (old new : Handshake) : (rest : List ℕ) (retried learned : Option (List ℕ)) → Option ConnectionError → Type 0 where
  retry : (s : InitialSpace) (source token : List ℕ) → MayRetry old s → IsRetryFor old datagram source token → new ≡ restarted now (received (length datagram) old) s source token
      → IsDatagramTaken accepts now datagram old new [] (Some source) None None
  mismatch : IsMismatch old datagram → new ≡ received (length datagram) old → IsDatagramTaken accepts now datagram old new [] None None (Some VersionMismatch)
  packets : (rest : List ℕ) (learned : Option (List ℕ)) (end : Option ConnectionError)
      → ((s : InitialSpace) (source token : List ℕ) → MayRetry old s → IsRetryFor old datagram source token → ⊥) → (IsMismatch old datagram → ⊥)
      → ArePacketsTaken accepts now datagram rest (received (length datagram) old) new learned end
      → IsDatagramTaken accepts now datagram old new rest None learned end
