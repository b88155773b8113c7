-- The error codes that the RFCs give numbers.
use Rattle.std.specs.Prelude.{ℕ}

-- of QUIC's transport (RFC 9000, section 20.1)
abbrev pub no_error : ℕ
no_error = 0x00

abbrev pub internal_error : ℕ
internal_error = 0x01

abbrev pub connection_refused : ℕ
connection_refused = 0x02

abbrev pub flow_control_error : ℕ
flow_control_error = 0x03

abbrev pub stream_limit_error : ℕ
stream_limit_error = 0x04

abbrev pub stream_state_error : ℕ
stream_state_error = 0x05

abbrev pub final_size_error : ℕ
final_size_error = 0x06

abbrev pub frame_encoding_error : ℕ
frame_encoding_error = 0x07

abbrev pub transport_parameter_error : ℕ
transport_parameter_error = 0x08

abbrev pub connection_id_limit_error : ℕ
connection_id_limit_error = 0x09

abbrev pub protocol_violation : ℕ
protocol_violation = 0x0a

abbrev pub invalid_token : ℕ
invalid_token = 0x0b

abbrev pub application_error : ℕ
application_error = 0x0c

abbrev pub crypto_buffer_exceeded : ℕ
crypto_buffer_exceeded = 0x0d

abbrev pub key_update_error : ℕ
key_update_error = 0x0e

abbrev pub aead_limit_reached : ℕ
aead_limit_reached = 0x0f

abbrev pub no_viable_path : ℕ
no_viable_path = 0x10

-- of HTTP/3 (RFC 9114, section 8.1)
abbrev pub h3_no_error : ℕ
h3_no_error = 0x100

abbrev pub h3_general_protocol_error : ℕ
h3_general_protocol_error = 0x101

abbrev pub h3_internal_error : ℕ
h3_internal_error = 0x102

abbrev pub h3_stream_creation_error : ℕ
h3_stream_creation_error = 0x103

abbrev pub h3_closed_critical_stream : ℕ
h3_closed_critical_stream = 0x104

abbrev pub h3_frame_unexpected : ℕ
h3_frame_unexpected = 0x105

abbrev pub h3_frame_error : ℕ
h3_frame_error = 0x106

abbrev pub h3_excessive_load : ℕ
h3_excessive_load = 0x107

abbrev pub h3_id_error : ℕ
h3_id_error = 0x108

abbrev pub h3_settings_error : ℕ
h3_settings_error = 0x109

abbrev pub h3_missing_settings : ℕ
h3_missing_settings = 0x10a

abbrev pub h3_request_rejected : ℕ
h3_request_rejected = 0x10b

abbrev pub h3_request_cancelled : ℕ
h3_request_cancelled = 0x10c

abbrev pub h3_request_incomplete : ℕ
h3_request_incomplete = 0x10d

abbrev pub h3_message_error : ℕ
h3_message_error = 0x10e

abbrev pub h3_connect_error : ℕ
h3_connect_error = 0x10f

abbrev pub h3_version_fallback : ℕ
h3_version_fallback = 0x110

-- of HTTP datagrams (RFC 9297, section 5.2)
abbrev pub h3_datagram_error : ℕ
h3_datagram_error = 0x33

-- of QPACK (RFC 9204, section 6)
abbrev pub qpack_decompression_failed : ℕ
qpack_decompression_failed = 0x200

abbrev pub qpack_encoder_stream_error : ℕ
qpack_encoder_stream_error = 0x201

abbrev pub qpack_decoder_stream_error : ℕ
qpack_decoder_stream_error = 0x202
