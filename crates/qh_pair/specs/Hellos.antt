-- Which hellos a link gave, and when its ends were greeted (RFC 9000, sections 7, 10.1 and 18.2).
use Rattle.std.specs.Prelude.{◌≡◌, ℕ, ◌≤◌, ◌^◌, min, List, [], ◌∷◌, ◌++◌, Option, Some, None, length}
use Rattle.std.specs.Option.{option_map}
use Rattle.qh_base.specs.declared.time.Span.{Span}
use Rattle.qh_conn.specs.declared.config.ConnConfig.{ConnConfig}
use Rattle.qh_converse.specs.Settled.{idle_of, milliseconds}
use Rattle.qh_core.specs.Config.{bounded}
use Rattle.qh_handshake.specs.Follows.{IsGreetedWith}
use Rattle.qh_hello.specs.Greetings.{limits_of}
use Rattle.qh_hello.specs.declared.transport_parameters.TransportParameters.{TransportParameters}
use Rattle.qh_spec.specs.Greeted.{AreBothGreeted, HasPacketOf}
use Rattle.qh_spec.specs.Hello.{FirstLimits}
use Rattle.qh_spec.specs.Link.{other, given_to, sent_by}
use Rattle.qh_spec.specs.declared.link.Event.{Event}
use Rattle.qh_spec.specs.declared.link.Event.TheVariants.{Sent}
use Rattle.qh_spec.specs.declared.sides.Side.{Side}
use Rattle.qh_spec.specs.declared.sides.Space.TheVariants.{Data}
use Rattle.qh_pair.specs.Settings.{whole_idle}

-- the first limits that an end with these settings says, those of streams at most 2^60 (RFC 9000, sections 4.6 and 18.2)
abbrev pub first_limits : ConnConfig → FirstLimits
first_limits c = record {
  max_data = bounded c.limits.receive_window;
  bidi_local = bounded c.limits.stream_window;
  bidi_remote = bounded c.limits.stream_window;
  uni = bounded c.limits.stream_window;
  max_bidi = min c.limits.max_bidi (2 ^ 60);
  max_uni = min c.limits.max_uni (2 ^ 60);
}

-- The parameters of a hello are as an end of the pair says them: the id of its packets is as long as those of the pair; and the idle time, the
-- first limits, how many ids it keeps and which datagrams it takes are by the settings.
pub record IsAsSet (id_length : ℕ) (config : ConnConfig) (p : TransportParameters) : Type 0 where
  pub source : length p.initial_source_connection_id ≡ id_length
  pub idle : p.max_idle_timeout ≡ milliseconds config.idle
  pub limits : limits_of p ≡ first_limits config
  pub id_limit : p.active_connection_id_limit ≡ 8
  pub datagram : p.max_datagram_frame_size ≡ option_map (λ (most : ℕ). min most 1200) config.datagram_receive

-- it holds of each hello of the other side's that came to a side whole
abbrev pub GreetedBy : (id_length : ℕ) → (TransportParameters → Type 0) → List Event → Type 0
GreetedBy id_length P events = (side : Side) (p : TransportParameters) → IsGreetedWith id_length (given_to side events) (other side) p → P p

-- each is as the settings have it; over an honest link that is so
abbrev pub AreGreetedAsSet : (id_length : ℕ) → ConnConfig → List Event → Type 0
AreGreetedAsSet id_length config events = GreetedBy id_length (IsAsSet id_length config) events

-- so is each hello that a side sent whole
abbrev pub AreSaidAsSet : (id_length : ℕ) → ConnConfig → List Event → Type 0
AreSaidAsSet id_length config events = (side : Side) (p : TransportParameters) → IsGreetedWith id_length (sent_by side events) side p → IsAsSet id_length config p

-- Each hello that came whole says an id as long as those of the pair. A link that forges may give one that says another length.
abbrev pub HaveIdsOfLength : (id_length : ℕ) → List Event → Type 0
HaveIdsOfLength id_length events = GreetedBy id_length (λ (p : TransportParameters). length p.initial_source_connection_id ≡ id_length) events

-- where the second idle time is set, the first is set and no longer
abbrev pub IsNoShorter : (own idle : Option Span) → Type 0
IsNoShorter own None = Unit {0}
IsNoShorter own (Some span) = (w : Span) × (own ≡ Some w) × (w.0 ≤ span.0)

-- The idle time in force by each hello that came whole is no shorter than that of the settings, in whole milliseconds (RFC 9000, section 10.1).
-- A link that forges may give one that says a shorter one.
abbrev pub LeaveIdleTime : (id_length : ℕ) → ConnConfig → List Event → Type 0
LeaveIdleTime id_length config events
    = GreetedBy id_length (λ (p : TransportParameters). IsNoShorter (whole_idle config.idle) (idle_of (milliseconds config.idle) p.max_idle_timeout)) events

-- both sides were greeted before the first datagram of a side that has a 1-RTT packet, and so before the first byte of a stream
abbrev pub AreGreetedFirst : (id_length : ℕ) → List Event → Type 0
AreGreetedFirst id_length events = (before after : List Event) (side : Side) (datagram : List ℕ) → events ≡ before ++ Sent side datagram ∷ after
    → HasPacketOf id_length (datagram ∷ []) side Data → AreBothGreeted id_length id_length side before
