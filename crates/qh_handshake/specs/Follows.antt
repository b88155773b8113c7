-- How a handshake stands to all that was done with it: what it knows came in datagrams, and what it handed out of its hello is its hello,
-- said in the order of a handshake (RFC 9000, sections 7, 8.1, 12.3 and 19.6).
use Rattle.std.specs.Prelude.{◌≡◌, ◌⊎◌, ℕ, ◌*◌, ◌<◌, ◌≤◌, true, false, List, [], ◌∷◌, ◌++◌, length, Some, None}
use Rattle.std.specs.List.{sum_by}
use Rattle.qh_base.specs.declared.time.Moment.{Moment}
use Rattle.qh_handshake.specs.Handshake.{counted}
use Rattle.qh_handshake.specs.InitialSpace.{IsUnused}
use Rattle.qh_handshake.specs.declared.handshake.Handshake.{Handshake}
use Rattle.qh_handshake.specs.declared.initial_space.HelloState.{HelloState}
use Rattle.qh_handshake.specs.declared.initial_space.InitialSpace.{InitialSpace}
use Rattle.qh_hello.specs.Crypto.{came_at}
use Rattle.qh_hello.specs.Greetings.{SaysGreeting, greeting}
use Rattle.qh_hello.specs.declared.transport_parameters.TransportParameters.{TransportParameters}
use Rattle.qh_recovery.specs.Accepted.{Remembers}
use Rattle.qh_spec.specs.Datagram.{Packet, HasPacket}
use Rattle.qh_spec.specs.Greeted.{CarriesHello, CarriesWhole, HasCrypto, IsGreeted}
use Rattle.qh_spec.specs.Hello.{Hello, IsSayable, hello_bytes, hello_of}
use Rattle.qh_spec.specs.Link.{other}
use Rattle.qh_spec.specs.Lists.{In}
use Rattle.qh_spec.specs.Transcript.{Act, HandedOut, handed_in, handed_out}
use Rattle.qh_spec.specs.declared.sides.Side.{Side}
use Rattle.qh_spec.specs.declared.sides.Side.TheVariants.{Server}
use Rattle.qh_spec.specs.declared.sides.Space.TheVariants.{Initial}

-- one of the datagrams has an Initial packet of this sender with this number
pub record HasInitial (id_length : ℕ) (datagrams : List (List ℕ)) (sender : Side) (number : ℕ) : Type 0 where
  pub datagram : List ℕ
  pub among : In datagram datagrams
  pub packet : Packet
  pub has : HasPacket id_length packet datagram
  pub space_is : packet.space ≡ Initial
  pub sender_is : packet.sender ≡ sender
  pub number_is : packet.number ≡ number

-- the datagrams carry a whole hello of the sender's, which says these parameters
pub record IsGreetedWith (id_length : ℕ) (datagrams : List (List ℕ)) (sender : Side) (p : TransportParameters) : Type 0 where
  pub hello : Hello
  pub name : List ℕ
  pub carried : CarriesWhole id_length datagrams sender hello
  pub says : SaysGreeting hello (greeting sender name p)

-- how many bytes the datagrams have together
abbrev pub bytes_of : List (List ℕ) → ℕ
bytes_of datagrams = sum_by (λ (d : List ℕ). length d) datagrams

-- the hello is one that an end with these parameters may say; a server's has no name
pub record IsItsHello (hello : List ℕ) (side : Side) (p : TransportParameters) : Type 0 where
  pub name : List ℕ
  pub unnamed : side ≡ Server → name ≡ []
  pub sayable : IsSayable (greeting side name p)
  pub is : hello ≡ hello_bytes (hello_of (greeting side name p))

-- Datagrams of Initial packets may be read with any length of connection ids.
pub record Follows (hello : List ℕ) (h : Handshake) (t : List Act) : Type 0 where
  -- this is the hello of its own
  pub own : IsItsHello hello h.side h.parameters
  -- it is the one that is kept, but of a server that wasn't greeted
  pub kept : (s : InitialSpace) → h.space ≡ Some s → ((h.side ≡ Server) × (h.peer ≡ None)) ⊎ (s.hello ≡ hello)
  -- each CRYPTO byte that it keeps was carried to it
  pub came : (s : InitialSpace) (k byte id_length : ℕ) → h.space ≡ Some s → came_at s.crypto k ≡ Some byte → CarriesHello id_length (handed_in t) (other h.side) k byte
  -- what it knows of its peer was carried to it, in a whole hello
  pub greeted : (p : TransportParameters) (id_length : ℕ) → h.peer ≡ Some p → IsGreetedWith id_length (handed_in t) (other h.side) p
  -- its peer said the id that it knows the peer's packets by (section 7.3)
  pub sourced : (p : TransportParameters) → h.peer ≡ Some p → (p.initial_source_connection_id ≡ h.remote_id) × (h.knows_peer ≡ true)
  -- what it sends in CRYPTO frames is its hello, whole
  pub says : (id_length from : ℕ) (payload : List ℕ) → HasCrypto id_length (handed_out t) h.side from payload → (from ≡ 0) × (payload ≡ hello)
  -- a server does so only after it was greeted
  pub answers : (before after : List Act) (datagram : List ℕ) → t ≡ before ++ HandedOut datagram ∷ after → h.side ≡ Server
      → (id_length from : ℕ) (payload : List ℕ) → HasCrypto id_length (datagram ∷ []) h.side from payload → (own_length : ℕ) → IsGreeted own_length (handed_in before) (other h.side)
  -- and one that wasn't greeted handed out nothing of it
  pub unsaid : h.side ≡ Server → h.peer ≡ None → (id_length from : ℕ) (payload : List ℕ) → HasCrypto id_length (handed_out t) h.side from payload → ⊥
  -- no number is used again: a packet has a greater one than those of the datagrams that were handed out before it
  pub once : (before after : List Act) (datagram : List ℕ) → t ≡ before ++ HandedOut datagram ∷ after
      → (first_length id_length m n : ℕ) → HasInitial first_length (handed_out before) h.side m → HasInitial id_length (datagram ∷ []) h.side n → m < n
  -- each number that it used is below the next one, and each that it accepted came
  pub numbers : (s : InitialSpace) (id_length number : ℕ) → h.space ≡ Some s → HasInitial id_length (handed_out t) h.side number → number < s.next_number
  pub accepted : (s : InitialSpace) → h.space ≡ Some s → (accepted : List ℕ) × Remembers accepted s.dedup
      × ((number id_length : ℕ) → In number accepted → HasInitial id_length (handed_in t) (other h.side) number)
  -- what came and went is counted, and before the address is validated at most three times as much goes as came
  pub received : h.bytes_received ≡ counted (bytes_of (handed_in t))
  pub sent : h.bytes_sent ≡ counted (bytes_of (handed_out t))
  pub limit : h.is_validated ≡ false → bytes_of (handed_out t) ≤ 3 * bytes_of (handed_in t)

-- a handshake before its first datagram, with this hello, which a server makes only once it is greeted
pub record IsFresh (hello : List ℕ) (h : Handshake) : Type 0 where
  pub own : IsItsHello hello h.side h.parameters
  pub space : InitialSpace
  pub space_is : h.space ≡ Some space
  pub kept : (h.side ≡ Server) ⊎ (space.hello ≡ hello)
  pub state : HelloState
  pub initial_rtt : ℕ
  pub now : Moment
  pub unused : IsUnused space.hello state initial_rtt now space
  pub ungreeted : h.peer ≡ None
  pub received : h.bytes_received ≡ 0
  pub sent : h.bytes_sent ≡ 0
