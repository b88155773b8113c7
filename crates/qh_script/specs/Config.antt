-- What contracts see of settings.
use Rattle.std.specs.Prelude.{[]}
use Rattle.std.specs.Option.{option_map}
use Rattle.qh_base.specs.declared.time.Span.{Span}
use Rattle.qh_spec.specs.Config.{PlainConfig, FitSizes, FitIds, FitTimes, FitWindows, FitAttempts}
use Rattle.qh_script.specs.declared.config.Config.TheInside.{Inside}

-- settings without where they lie in memory, with times in nanoseconds
abbrev pub plain_config : Inside → PlainConfig
plain_config c = record {
  max_requests = c.max_requests;
  max_field_section_size = c.max_field_section_size;
  max_request_body = c.max_request_body;
  max_response_body = c.max_response_body;
  local_id_len = c.local_id_len;
  first_id_len = c.first_id_len;
  versions = c.versions.items;
  version = c.version;
  idle = option_map (λ (idle : Span). idle.0) c.idle;
  initial_rtt = c.initial_rtt.0;
  max_bidi = c.max_bidi;
  max_uni = c.max_uni;
  receive_window = c.receive_window;
  stream_window = c.stream_window;
  send_window = c.send_window;
  initial_window = c.initial_window;
  max_incoming = c.max_incoming;
  incoming_buffer_size = c.incoming_buffer_size;
  incoming_buffer_size_total = c.incoming_buffer_size_total;
  retry = c.retry;
  retry_token_lifetime = c.retry_token_lifetime.0;
  min_reset_interval = c.min_reset_interval.0;
  send_grease = c.send_grease;
}

-- the settings without versions
abbrev pub unversioned : PlainConfig → PlainConfig
unversioned c = record c { versions = [] }

-- the settings fit but for the versions
pub record FitsBesides (c : PlainConfig) : Type 0 where
  pub sizes : FitSizes c
  pub ids : FitIds c
  pub times : FitTimes c
  pub windows : FitWindows c
  pub attempts : FitAttempts c
