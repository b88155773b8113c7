-- The ledger of a connection: which packets it sent and which it accepted, as the datagrams that it handed out and was handed in tell
-- it (RFC 9000, sections 12.3 and 13).
use Rattle.std.specs.Prelude.{◌≡◌, ◌⊎◌, ℕ, ◌^◌, ◌<◌, List, [], ◌∷◌, ◌++◌, length, flat_map, false}
use Rattle.qh_core.specs.Inner.{is_open}
use Rattle.qh_core.specs.Progress.{NumberedPacket, Progress}
use Rattle.qh_core.specs.declared.inner.Inner.{Inner}
use Rattle.qh_core.specs.declared.state.State.TheVariants.{Drained}
use Rattle.qh_owing.specs.Owing.{AreAccepted, numbers_of}
use Rattle.qh_packet.specs.Session.{AcceptsTag}
use Rattle.qh_packet.specs.Packet.{header_bytes}
use Rattle.qh_recovery.specs.Accepted.{Remembers}
use Rattle.qh_spec.specs.Datagram.{Packet}
use Rattle.qh_spec.specs.Link.{other}
use Rattle.qh_spec.specs.QuicFrame.{StreamFrame}
use Rattle.qh_spec.specs.QuicFrames.{AreQuicFrames}
use Rattle.qh_spec.specs.Transcript.{Act, handed_in, handed_out}
use Rattle.qh_spec.specs.declared.sides.Side.{Side}
use Rattle.qh_spec.specs.declared.sides.Space.{Space}
use Rattle.qh_spec.specs.declared.sides.Space.TheVariants.{Data}
use Rattle.qh_transcript.specs.Sending.{runs_of}
use Rattle.qh_transcript.specs.Waiting.{KeepsWhatCame}

-- ---- what was sent

-- the datagram is the 1-RTT packet with this number and these frames, to some id of this length, with the tag that is made for it
pub record IsSentIn (sealed : Side → Space → ℕ → List ℕ) (side : Side) (id_length : ℕ) (datagram : List ℕ) (p : NumberedPacket) : Type 0 where
  pub destination : List ℕ
  pub length_is : length destination ≡ id_length
  pub bytes : List ℕ
  pub below : p.number < 2 ^ 62
  pub is : datagram ≡ header_bytes destination p.number ++ (bytes ++ sealed side Data p.number)
  pub are : AreQuicFrames bytes p.frames

-- the datagrams are these packets, one each, in this order, and their numbers are 0, 1, 2 and so on
pub data AreSent (sealed : Side → Space → ℕ → List ℕ) (side : Side) (id_length : ℕ) : (datagrams : List (List ℕ)) → List NumberedPacket → Type 0 where
  none : AreSent sealed side id_length [] []
  more : (datagrams : List (List ℕ)) (packets : List NumberedPacket) (datagram : List ℕ) (p : NumberedPacket) → AreSent sealed side id_length datagrams packets
      → p.number ≡ length packets → IsSentIn sealed side id_length datagram p → AreSent sealed side id_length (datagrams ++ datagram ∷ []) (packets ++ p ∷ [])

-- ---- what was accepted

-- the packet, as one that a datagram has
abbrev pub packet_of : (sender : Side) → NumberedPacket → Packet
packet_of sender p = record { space = Data; sender = sender; number = p.number; frames = p.frames }

-- the same packets, the last one first
pub data AreNoted (sender : Side) : List NumberedPacket → List Packet → Type 0 where
  none : AreNoted sender [] []
  more : (accepted : List NumberedPacket) (packets : List Packet) (p : NumberedPacket) → AreNoted sender accepted packets
      → AreNoted sender (accepted ++ p ∷ []) (packet_of sender p ∷ packets)

-- the runs of their STREAM frames
abbrev pub runs_accepted : List NumberedPacket → List StreamFrame
runs_accepted accepted = flat_map (λ (p : NumberedPacket). runs_of p.frames) accepted

module _ {S : Type 0} (accepts : AcceptsTag) (sealed : Side → Space → ℕ → List ℕ) where
  -- these are the packets that an end accepted, by the datagrams that were handed in, and it remembers their numbers
  pub record AreAcceptedBy (c : Inner S) (accepted : List NumberedPacket) (t : List Act) : Type 0 where
    pub packets : List Packet
    pub noted : AreNoted (other c.side) accepted packets
    pub are : AreAccepted accepts c.local_id (other c.side) (handed_in t) packets
    pub remembers : Remembers (numbers_of packets) c.space.dedup

  -- An open end that sent and accepted these packets stands to them as arrival asks, and nothing is lost of what they brought.
  pub record IsLedger (c : Inner S) (sent accepted : List NumberedPacket) (t : List Act) : Type 0 where
    pub accepted_are : AreAcceptedBy c accepted t
    pub progress : Progress c sent accepted
    pub came : KeepsWhatCame c.space.streams (runs_accepted accepted)

  -- The datagrams that an end handed out are the packets that it sent, one each; the next one has the next number, unless the end is
  -- drained, so that none follows. While it is open its packets stand in the ledger.
  pub record KeepsLedger (c : Inner S) (t : List Act) : Type 0 where
    pub sent : List NumberedPacket
    pub sent_are : AreSent sealed c.side (length c.remote_id) (handed_out t) sent
    pub next : (c.state ≡ Drained) ⊎ (c.space.next_number ≡ length sent)
    pub ledger : (is_open c.state ≡ false) ⊎ ((accepted : List NumberedPacket) × IsLedger c sent accepted t)

-- so it stands, where its session takes and makes these tags
unfoldable pub HasLedger : {S : Type 0} → AcceptsTag → (sealed : Side → Space → ℕ → List ℕ) → Inner S → List Act → Type 0
HasLedger accepts sealed c t = KeepsLedger accepts sealed c t
