-- What holds of the Initial packet number space at every moment (RFC 9000, section 12.3; RFC 9002, section 2).
use Rattle.std.specs.Prelude.{◌≡◌, ℕ, ◌<◌, ◌≤◌, ◌^◌, true, false, List, [], length, Some, None}
use Rattle.qh_base.specs.declared.time.Moment.{Moment}
use Rattle.qh_buffers.specs.Assembler.{empty_assembler}
use Rattle.qh_handshake.specs.Settled.{IsHelloOut}
use Rattle.qh_handshake.specs.declared.initial_space.HelloState.{HelloState}
use Rattle.qh_handshake.specs.declared.initial_space.HelloState.TheVariants.{Out}
use Rattle.qh_handshake.specs.declared.initial_space.InitialSpace.{InitialSpace}
use Rattle.qh_handshake.specs.declared.initial_space.InitialStats.{InitialStats}
use Rattle.qh_recovery.specs.Accepted.{Remembers}
use Rattle.qh_recovery.specs.Rtt.{new_estimator}
use Rattle.qh_recovery.specs.SentPackets.{IsNext, IsReordered, NoneIs}

-- A hello that is out is in a packet that is out; the packets that are out have numbers below the next one, and only such were
-- acknowledged; none that is out is lost by its number; an ACK that is due has a number; the hello has room in a datagram beside any
-- ids and a token of 512 bytes.
pub record IsInitialSpace (s : InitialSpace) : Type 0 where
  pub out : s.state ≡ Out → IsHelloOut s.sent
  pub next : IsNext s.next_number s.sent
  pub bound : s.next_number ≤ 2 ^ 62
  pub acked : (n : ℕ) → s.largest_acked ≡ Some n → n < s.next_number
  pub in_order : (n : ℕ) → s.largest_acked ≡ Some n → NoneIs (IsReordered n) s.sent
  pub due : s.acks.is_due ≡ true → 0 < length s.acks.ranges
  pub short : length s.hello ≤ 512

-- the space before its first packet, with this hello
pub record IsUnused (hello : List ℕ) (state : HelloState) (initial_rtt : ℕ) (now : Moment) (s : InitialSpace) : Type 0 where
  pub hello_is : s.hello ≡ hello
  pub state_is : s.state ≡ state
  pub received : Remembers [] s.dedup
  pub crypto : s.crypto ≡ record { waiting = empty_assembler; bytes = []; end = 0 }
  pub sent : s.sent ≡ []
  pub next : s.next_number ≡ 0
  pub acked : s.largest_acked ≡ None
  pub acks : s.acks ≡ record { ranges = []; is_due = false }
  pub rtt : s.rtt ≡ new_estimator initial_rtt
  pub probes : (s.pto_count ≡ 0) × (s.is_probe_due ≡ false) × (s.is_ping_due ≡ false)
  pub last : (s.last_active ≡ now) × (s.packets_accepted ≡ 0)
  pub counts : (s.packets_lost ≡ 0) × (s.probes_sent ≡ 0)

-- what was counted and measured in it
abbrev pub stats_of : InitialSpace → InitialStats
stats_of s = record { packets_lost = s.packets_lost; probes = s.probes_sent; rtt = s.rtt }

-- what it begins with
abbrev pub first_stats : (initial_rtt : ℕ) → InitialStats
first_stats initial_rtt = record { packets_lost = 0; probes = 0; rtt = new_estimator initial_rtt }
