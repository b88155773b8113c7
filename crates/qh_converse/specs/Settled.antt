-- What the two hellos settle of the end of the 1-RTT packets, of its limits, ids, datagrams and idle time (RFC 9000, sections 5.1, 7.4, 10.1 and 18.2; RFC 9221, section 3).
use Rattle.std.specs.Prelude.{◌≡◌, ℕ, ◌-◌, ◌*◌, ◌/◌, ◌^◌, min, nat_lt, length, Option, Some, None, if◌then◌else◌}
use Rattle.std.specs.Option.{option_map}
use Rattle.qh_base.specs.declared.time.Span.{Span}
use Rattle.qh_core.specs.declared.inner.Inner.{Inner}
use Rattle.qh_handshake.specs.declared.handshake.Handshake.{Handshake}
use Rattle.qh_hello.specs.declared.transport_parameters.TransportParameters.{TransportParameters}
use Rattle.qh_spec.specs.Hello.{idle_in_force}
use Rattle.qh_streams.specs.declared.frames.PeerLimits.{PeerLimits}

-- the first limits that a hello with these parameters says (section 18.2)
abbrev pub peer_limits : TransportParameters → PeerLimits
peer_limits p = record {
  max_data = p.initial_max_data;
  bidi_local = p.initial_max_stream_data_bidi_local;
  bidi_remote = p.initial_max_stream_data_bidi_remote;
  uni = p.initial_max_stream_data_uni;
  max_bidi = p.initial_max_streams_bidi;
  max_uni = p.initial_max_streams_uni;
}

-- whole milliseconds of the idle time, 0 for none
abbrev pub milliseconds : Option Span → ℕ
milliseconds None = 0
milliseconds (Some span) = span.0 / 1000000

-- the idle time in force, of the milliseconds that this end and its peer say
abbrev pub idle_of : (own peer : ℕ) → Option Span
idle_of own peer = option_map (λ (n : ℕ). record { 0 = min (2 ^ 64 - 1) (n * 1000000) }) (idle_in_force own peer)

-- the longest payload of a DATAGRAM frame that a peer takes, which says so: with at most three bytes of its type and length it is no greater
-- than the peer says, and it has room in each packet (own); none if the peer takes fewer than two bytes (own)
abbrev pub datagram_of : Option ℕ → Option ℕ
datagram_of None = None
datagram_of (Some size) = if nat_lt size 2 then None else Some (min (size - 3) 1140)

-- The end goes by what the peer's hello says, with these parameters: it has the peer's initial limits, a destination id as long as the one from
-- which the peer's Initial packets come (own), the longest payload of a DATAGRAM frame that the peer takes, and the idle time in force.
pub record IsSettledBy {S : Type 0} (h : Handshake) (p : TransportParameters) (c : Inner S) : Type 0 where
  pub limits : c.config.peer ≡ peer_limits p
  pub there : length c.remote_id ≡ length h.remote_id
  pub datagrams : c.config.peer_datagram ≡ datagram_of p.max_datagram_frame_size
  pub idle : c.config.idle ≡ idle_of h.parameters.max_idle_timeout p.max_idle_timeout
