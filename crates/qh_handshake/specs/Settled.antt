-- What an ACK and the loss rules do with the packets of the Initial space that are out (RFC 9002, section 6).
use Rattle.std.specs.Prelude.{◌≡◌, ◌↔◌, ℕ, nat_lt, Bool, true, List, length, Some}
use Rattle.std.specs.List.{All, list_any}
use Rattle.qh_handshake.specs.declared.initial_space.HelloFrame.{HelloFrame}
use Rattle.qh_recovery.specs.SentPackets.{packet_at}
use Rattle.qh_recovery.specs.declared.sent_packets.SentPacket.{SentPacket}
use Rattle.qh_spec.specs.Lists.{In, Distinct}

-- packets that are out, with their numbers
abbrev pub Packets : Type 0
Packets = List (ℕ × SentPacket HelloFrame)

-- just the packets that are so were taken out, each of them once
pub record AreTaken (P : ℕ → SentPacket HelloFrame → Type 0) (old new taken : Packets) : Type 0 where
  pub are_so : All (λ e. (packet_at old e.0 ≡ Some e.1) × P e.0 e.1) taken
  pub all : (k : ℕ) (q : SentPacket HelloFrame) → packet_at old k ≡ Some q → P k q → In (k, q) taken
  pub once : Distinct taken
  pub left : (k : ℕ) (q : SentPacket HelloFrame) → (packet_at new k ≡ Some q) ↔ ((packet_at old k ≡ Some q) × (P k q → ⊥))

-- the packet bears the hello
abbrev pub bears_hello : SentPacket HelloFrame → Bool
bears_hello q = nat_lt 0 (length q.frames.items)

-- one of them does
abbrev pub any_bears : Packets → Bool
any_bears packets = list_any (λ e. bears_hello e.1) packets

-- the hello is in a packet that is out
pub record IsHelloOut (packets : Packets) : Type 0 where
  pub number : ℕ
  pub packet : SentPacket HelloFrame
  pub is_out : packet_at packets number ≡ Some packet
  pub bears : bears_hello packet ≡ true
