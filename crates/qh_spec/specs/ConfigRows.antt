-- Settings at their bounds, for laws that read them (own).
use Rattle.std.specs.Prelude.{◌-◌, ◌^◌, true, false, [], ◌∷◌, Some}
use Rattle.qh_spec.specs.Config.{PlainConfig}

-- each number is the least that fits
abbrev pub least_config : PlainConfig
least_config = record {
  max_requests = 0;
  max_field_section_size = 0;
  max_request_body = 0;
  max_response_body = 0;
  local_id_len = 8;
  first_id_len = 8;
  versions = 1 ∷ [];
  version = 1;
  idle = Some 1000000000;
  initial_rtt = 100000000;
  max_bidi = 1;
  max_uni = 4;
  receive_window = 1200;
  stream_window = 1200;
  send_window = 1200;
  initial_window = 2400;
  max_incoming = 1;
  incoming_buffer_size = 0;
  incoming_buffer_size_total = 0;
  retry = true;
  retry_token_lifetime = 2 ^ 62;
  min_reset_interval = 0;
  send_grease = false;
}

-- each number that has a greatest one is that, and the others are the greatest of 64 bits
abbrev pub greatest_config : PlainConfig
greatest_config = record {
  max_requests = 2 ^ 20;
  max_field_section_size = 2 ^ 20;
  max_request_body = 2 ^ 30;
  max_response_body = 2 ^ 30;
  local_id_len = 20;
  first_id_len = 20;
  versions = 1 ∷ 1 ∷ [];
  version = 1;
  idle = Some (2 ^ 64 - 1);
  initial_rtt = 10000000000;
  max_bidi = 2 ^ 40 - 1;
  max_uni = 2 ^ 40 - 1;
  receive_window = 2 ^ 40 - 1;
  stream_window = 2 ^ 40 - 1;
  send_window = 2 ^ 40 - 1;
  initial_window = 2 ^ 40 - 1;
  max_incoming = 2 ^ 64 - 1;
  incoming_buffer_size = 2 ^ 40 - 1;
  incoming_buffer_size_total = 2 ^ 40 - 1;
  retry = true;
  retry_token_lifetime = 2 ^ 64 - 1;
  min_reset_interval = 2 ^ 64 - 1;
  send_grease = true;
}
