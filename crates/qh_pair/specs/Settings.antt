-- What the ends of a pair begin with, by the settings of an exchange.
use Rattle.std.specs.Prelude.{None, ◌-◌, ◌*◌, ◌/◌, ◌^◌, min, Option}
use Rattle.std.specs.Option.{option_map}
use Rattle.qh_base.specs.declared.time.Span.{Span}
use Rattle.qh_conn.specs.declared.config.ConnConfig.{ConnConfig}
use Rattle.qh_packet.specs.declared.version.Version.TheVariants.{One}
use Rattle.qh_service.specs.declared.service.Limits.{Limits}
use Rattle.qh_spec.specs.Config.{PlainConfig}

-- what a response may measure
abbrev pub limits_of : PlainConfig → Limits
limits_of config = record { max_field_section_size = config.max_field_section_size; max_response_body = config.max_response_body }

-- what both ends begin with
abbrev pub conn_config : PlainConfig → ConnConfig
conn_config config = record {
  limits = record {
    receive_window = config.receive_window;
    stream_window = config.stream_window;
    send_window = config.send_window;
    max_bidi = config.max_bidi;
    max_uni = config.max_uni;
  };
  idle = option_map (λ n. record { 0 = n }) config.idle;
  initial_rtt = record { 0 = config.initial_rtt };
  initial_window = config.initial_window;
  datagram_receive = None;
  datagram_send = 0;
  version = One;
}

-- the idle time, rounded down to whole milliseconds, as a hello says it (RFC 9000, section 18.2), in 64 bits
abbrev pub whole_idle : Option Span → Option Span
whole_idle idle = option_map (λ (span : Span). record { 0 = min (2 ^ 64 - 1) (span.0 / 1000000 * 1000000) }) idle
