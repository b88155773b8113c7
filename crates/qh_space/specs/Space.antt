-- What holds of the packet number space of application data at every moment (RFC 9000, section 12.3; RFC 9002, section 2).
use Rattle.std.specs.Prelude.{◌≡◌, ℕ, ◌-◌, ◌<◌, ◌≤◌, ◌^◌, min, Bool, true, [], length, Some, if◌then◌else◌}
use Rattle.qh_buffers.specs.declared.send_buffer.Mark.TheVariants.{Acked}
use Rattle.qh_halves.specs.Counts.{new_counts}
use Rattle.qh_loss.specs.Owed.{AreOwed}
use Rattle.qh_recovery.specs.SentPackets.{IsNext, IsReordered, NoneIs}
use Rattle.qh_space.specs.declared.data_space.DataSpace.{DataSpace}
use Rattle.qh_spec.specs.declared.sides.Side.{Side}
use Rattle.qh_streams.specs.Streams.{PlainStreams, counts_of, with_peer}
use Rattle.qh_streams.specs.declared.frames.PeerLimits.{PeerLimits}
use Rattle.qh_streams.specs.declared.frames.StreamLimits.{StreamLimits}

-- What is owed is queued or out; the packets that are out have numbers below the next one, and only such were acknowledged; none
-- that is out is lost by its number; an ACK that is due has a number.
pub record IsSpace (s : DataSpace) : Type 0 where
  pub owed : AreOwed s.streams s.sent
  pub next : IsNext s.next_number s.sent
  pub bound : s.next_number ≤ 2 ^ 62
  pub acked : (n : ℕ) → s.largest_acked ≡ Some n → n < s.next_number
  pub in_order : (n : ℕ) → s.largest_acked ≡ Some n → NoneIs (IsReordered n) s.sent
  pub due : s.acks.is_due ≡ true → 0 < length s.acks.ranges

-- The streams before the first of them: no byte was taken, this end opened none, and the limits are the peer's first ones, of
-- which a count of streams is at most 2^60 (RFC 9000, section 4.6).
pub record AreUnused (s : PlainStreams) (peer : PeerLimits) : Type 0 where
  pub peer_is : s.peer ≡ peer
  pub no_send : s.send.halves ≡ []
  pub data_sent : s.send.data_sent ≡ 0
  pub max_data : s.send.max_data ≡ peer.max_data
  pub opened : (two_way : Bool) → (counts_of s two_way).opened ≡ 0
  pub accepted : (two_way : Bool) → (counts_of s two_way).accepted ≡ 0
  pub max_opened : (two_way : Bool) → (counts_of s two_way).max_opened ≡ min (if two_way then peer.max_bidi else peer.max_uni) (2 ^ 60)

-- The streams of this end before the first of them, with these limits announced; of a peer that permits nothing yet.
abbrev pub fresh_streams : Side → StreamLimits → PeerLimits → PlainStreams
fresh_streams side limits peer = record {
  side = side;
  send = record { halves = []; max_data = 0; data_sent = 0; send_window = limits.send_window };
  recv = record {
    halves = [];
    received = 0;
    credited = 0;
    receive_window = limits.receive_window;
    stream_window = limits.stream_window;
    announced = record { value = min limits.receive_window (2 ^ 62 - 1); mark = Acked };
  };
  bi = new_counts limits.max_bidi;
  uni = new_counts limits.max_uni;
  peer = peer;
  blocked = [];
  events = [];
}

-- The same, once the peer's first limits are known.
abbrev pub first_streams : Side → StreamLimits → PeerLimits → PlainStreams
first_streams side limits peer = with_peer (fresh_streams side limits peer) peer
