-- The settings of an exchange as values, those that count where nothing is said, and which of them fit (own). Times are
-- in nanoseconds.
use Rattle.std.specs.Prelude.{◌≡◌, ℕ, ◌<◌, ◌≤◌, ◌^◌, Bool, true, false, List, [], ◌∷◌, Option, Some, All, Contains, IfSome}

pub record PlainConfig : Type 0 where
  pub max_requests : ℕ
  pub max_field_section_size : ℕ
  pub max_request_body : ℕ
  pub max_response_body : ℕ
  pub local_id_len : ℕ
  pub first_id_len : ℕ
  pub versions : List ℕ
  pub version : ℕ
  -- None is for ever
  pub idle : Option ℕ
  pub initial_rtt : ℕ
  pub max_bidi : ℕ
  pub max_uni : ℕ
  pub receive_window : ℕ
  pub stream_window : ℕ
  pub send_window : ℕ
  pub initial_window : ℕ
  pub max_incoming : ℕ
  pub incoming_buffer_size : ℕ
  pub incoming_buffer_size_total : ℕ
  pub retry : Bool
  pub retry_token_lifetime : ℕ
  pub min_reset_interval : ℕ
  pub send_grease : Bool

-- the settings that count where nothing is said
unfoldable pub default_config : PlainConfig
default_config = record {
  max_requests = 4096;
  max_field_section_size = 16384;
  max_request_body = 1048576;
  max_response_body = 1048576;
  local_id_len = 8;
  first_id_len = 8;
  versions = 1 ∷ [];
  version = 1;
  idle = Some 30000000000;
  initial_rtt = 333000000;
  max_bidi = 100;
  max_uni = 100;
  receive_window = 1048576;
  stream_window = 1048576;
  send_window = 8388608;
  initial_window = 14720;
  max_incoming = 65536;
  incoming_buffer_size = 10485760;
  incoming_buffer_size_total = 104857600;
  retry = false;
  retry_token_lifetime = 2 ^ 62;
  min_reset_interval = 20000000;
  send_grease = true;
}

abbrev pub Within : (low high n : ℕ) → Type 0
Within low high n = (low ≤ n) × (n ≤ high)

-- from the low number on and below the high one
abbrev pub From : (low high n : ℕ) → Type 0
From low high n = (low ≤ n) × (n < high)

pub record FitSizes (c : PlainConfig) : Type 0 where
  pub requests : c.max_requests ≤ 2 ^ 20
  pub section : c.max_field_section_size ≤ 2 ^ 20
  pub request_body : c.max_request_body ≤ 2 ^ 30
  pub response_body : c.max_response_body ≤ 2 ^ 30

-- connection ids of 8 to 20 bytes (the greatest length is that of RFC 9000, section 17.2)
pub record FitIds (c : PlainConfig) : Type 0 where
  pub local : Within 8 20 c.local_id_len
  pub first : Within 8 20 c.first_id_len

-- version 1 alone (RFC 9000, section 15)
pub record FitVersions (c : PlainConfig) : Type 0 where
  pub known : All (λ v. v ≡ 1) c.versions
  pub offered : Contains c.versions c.version

pub record FitTimes (c : PlainConfig) : Type 0 where
  pub idle : IfSome c.idle (λ n. 1000000000 ≤ n)
  pub rtt : Within 100000000 10000000000 c.initial_rtt

pub record FitWindows (c : PlainConfig) : Type 0 where
  pub bidi : From 1 (2 ^ 40) c.max_bidi
  pub uni : From 4 (2 ^ 40) c.max_uni
  pub receive : From 1200 (2 ^ 40) c.receive_window
  pub stream : From 1200 (2 ^ 40) c.stream_window
  pub send : From 1200 (2 ^ 40) c.send_window
  pub initial : From 2400 (2 ^ 40) c.initial_window

pub record FitAttempts (c : PlainConfig) : Type 0 where
  pub incoming : 1 ≤ c.max_incoming
  pub buffer : c.incoming_buffer_size < 2 ^ 40
  pub buffer_total : c.incoming_buffer_size_total < 2 ^ 40
  pub retry : c.retry ≡ true → 2 ^ 62 ≤ c.retry_token_lifetime

-- an exchange can be made with these settings
pub record Fits (c : PlainConfig) : Type 0 where
  pub sizes : FitSizes c
  pub ids : FitIds c
  pub versions : FitVersions c
  pub times : FitTimes c
  pub windows : FitWindows c
  pub attempts : FitAttempts c
