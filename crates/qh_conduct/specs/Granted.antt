-- What an end announced is no less than its first limits, on which its peer counts from the start (RFC 9000, sections 4 and 18.2), and it
-- takes the DATAGRAM frames that it is configured to take.
use Rattle.std.specs.Prelude.{◌≡◌, ◌⊎◌, ℕ, ◌≤◌, ◌^◌, min, Bool, Some, if◌then◌else◌}
use Rattle.qh_conduct.specs.Announced.{IsOver}
use Rattle.qh_core.specs.Config.{bounded, peer_of}
use Rattle.qh_core.specs.declared.inner.Inner.{Inner}
use Rattle.qh_half.specs.Recv.{PlainRecv}
use Rattle.qh_halves.specs.RecvHalves.{recv_at}
use Rattle.qh_streams.specs.Streams.{PlainStreams, counts_of}
use Rattle.qh_streams.specs.declared.frames.PeerLimits.{PeerLimits}
use Rattle.qh_streams.specs.declared.frames.StreamLimits.{StreamLimits}

-- so many streams of the direction may be opened at first
abbrev pub first_count_in : PeerLimits → (two_way : Bool) → ℕ
first_count_in limits two_way = if two_way then limits.max_bidi else limits.max_uni

-- The streams announced no less than these limits: of all streams, how many streams there may be (no count exceeds 2^60), and of each
-- that is there; one that is new begins with the same.
pub record AreGrantedBy (limits : StreamLimits) (s : PlainStreams) : Type 0 where
  pub shared : (peer_of limits).max_data ≤ s.recv.announced.value
  pub counts : (two_way : Bool) → min (first_count_in (peer_of limits) two_way) (2 ^ 60) ≤ (counts_of s two_way).announced.value
  pub streams : (id : ℕ) (half : PlainRecv) → recv_at s.recv id ≡ Some half → bounded limits.stream_window ≤ half.sent_max_stream_data
  pub window : s.recv.stream_window ≡ limits.stream_window

module _ {S : Type 0} where
  -- so did the streams of the connection, of the limits that it is configured with
  abbrev pub AreGranted : Inner S → Type 0
  AreGranted c = AreGrantedBy c.config.limits c.space.streams

  -- the DATAGRAM frames that are taken are those that the connection is configured to take (RFC 9221, section 3)
  abbrev pub TakesDatagrams : Inner S → Type 0
  TakesDatagrams c = c.space.datagram_receive ≡ c.config.datagram_receive

-- so it is, unless want of memory ended the connection
unfoldable pub HasGranted : {S : Type 0} → Inner S → Type 0
HasGranted c = IsOver c ⊎ (AreGranted c × TakesDatagrams c)
