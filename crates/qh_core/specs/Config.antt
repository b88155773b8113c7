-- What a connection begins with (RFC 9000, section 18.2).
use Rattle.std.specs.Prelude.{ℕ, ◌-◌, ◌^◌, ◌<◌, min}
use Rattle.qh_core.specs.declared.config.ConnConfig.{ConnConfig}
use Rattle.qh_space.specs.declared.data_space.SpaceConfig.{SpaceConfig}
use Rattle.qh_streams.specs.declared.frames.PeerLimits.{PeerLimits}
use Rattle.qh_streams.specs.declared.frames.StreamLimits.{StreamLimits}

-- the value, or the greatest that a frame can bear (RFC 9000, section 16)
abbrev pub bounded : ℕ → ℕ
bounded value = min value (2 ^ 62 - 1)

-- the first limits that an end with these announces
abbrev pub peer_of : StreamLimits → PeerLimits
peer_of limits = record {
  max_data = bounded limits.receive_window;
  bidi_local = bounded limits.stream_window;
  bidi_remote = bounded limits.stream_window;
  uni = bounded limits.stream_window;
  max_bidi = limits.max_bidi;
  max_uni = limits.max_uni;
}

-- each of them can be said in a frame (section 16)
pub record CanBeSaid (l : PeerLimits) : Type 0 where
  pub max_data : l.max_data < 2 ^ 62
  pub bidi_local : l.bidi_local < 2 ^ 62
  pub bidi_remote : l.bidi_remote < 2 ^ 62
  pub uni : l.uni < 2 ^ 62

abbrev pub space_config : ConnConfig → SpaceConfig
space_config c = record { limits = c.limits; peer = c.peer; datagram_receive = c.datagram_receive; initial_rtt = c.initial_rtt; initial_window = c.initial_window }
