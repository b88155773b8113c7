-- The ids of QUIC's transport parameters (RFC 9000, section 18.2; RFC 9221, section 3). Those that a hello of this repository may
-- give; any other id is unknown to it.
use Rattle.std.specs.Prelude.{ℕ}

abbrev pub original_destination_connection_id : ℕ
original_destination_connection_id = 0x00

abbrev pub max_idle_timeout : ℕ
max_idle_timeout = 0x01

abbrev pub stateless_reset_token : ℕ
stateless_reset_token = 0x02

abbrev pub initial_max_data : ℕ
initial_max_data = 0x04

abbrev pub initial_max_stream_data_bidi_local : ℕ
initial_max_stream_data_bidi_local = 0x05

abbrev pub initial_max_stream_data_bidi_remote : ℕ
initial_max_stream_data_bidi_remote = 0x06

abbrev pub initial_max_stream_data_uni : ℕ
initial_max_stream_data_uni = 0x07

abbrev pub initial_max_streams_bidi : ℕ
initial_max_streams_bidi = 0x08

abbrev pub initial_max_streams_uni : ℕ
initial_max_streams_uni = 0x09

abbrev pub active_connection_id_limit : ℕ
active_connection_id_limit = 0x0e

abbrev pub initial_source_connection_id : ℕ
initial_source_connection_id = 0x0f

abbrev pub retry_source_connection_id : ℕ
retry_source_connection_id = 0x10

abbrev pub max_datagram_frame_size : ℕ
max_datagram_frame_size = 0x20
