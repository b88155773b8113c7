-- The types of QUIC's frames (RFC 9000, sections 12.4 and 19; RFC 9221, section 4).
use Rattle.std.specs.Prelude.{◌≡◌, ℕ, ◌/◌, ◌==◌, Bool}

abbrev pub padding : ℕ
padding = 0x00

abbrev pub ping : ℕ
ping = 0x01

abbrev pub ack : ℕ
ack = 0x02

-- an ACK with the counts of ECN marks
abbrev pub ack_ecn : ℕ
ack_ecn = 0x03

abbrev pub reset_stream : ℕ
reset_stream = 0x04

abbrev pub stop_sending : ℕ
stop_sending = 0x05

abbrev pub crypto : ℕ
crypto = 0x06

abbrev pub new_token : ℕ
new_token = 0x07

-- the first of the eight types of STREAM, which stands for all of them where a fault names one
abbrev pub stream : ℕ
stream = 0x08

abbrev pub max_data : ℕ
max_data = 0x10

abbrev pub max_stream_data : ℕ
max_stream_data = 0x11

abbrev pub max_streams_bidi : ℕ
max_streams_bidi = 0x12

abbrev pub max_streams_uni : ℕ
max_streams_uni = 0x13

abbrev pub data_blocked : ℕ
data_blocked = 0x14

abbrev pub stream_data_blocked : ℕ
stream_data_blocked = 0x15

abbrev pub streams_blocked_bidi : ℕ
streams_blocked_bidi = 0x16

abbrev pub streams_blocked_uni : ℕ
streams_blocked_uni = 0x17

abbrev pub new_connection_id : ℕ
new_connection_id = 0x18

abbrev pub retire_connection_id : ℕ
retire_connection_id = 0x19

abbrev pub path_challenge : ℕ
path_challenge = 0x1a

abbrev pub path_response : ℕ
path_response = 0x1b

abbrev pub connection_close : ℕ
connection_close = 0x1c

-- CONNECTION_CLOSE of the application
abbrev pub application_close : ℕ
application_close = 0x1d

abbrev pub handshake_done : ℕ
handshake_done = 0x1e

-- DATAGRAM to the end of its packet
abbrev pub datagram : ℕ
datagram = 0x30

abbrev pub datagram_with_length : ℕ
datagram_with_length = 0x31

-- one of the eight types of STREAM, 08 to 0f (section 19.8)
abbrev pub IsStreamType : ℕ → Type 0
IsStreamType kind = kind / 8 ≡ 1

abbrev pub is_stream_type : ℕ → Bool
is_stream_type kind = kind / 8 == 1

-- one of the two types of ACK (section 19.3)
abbrev pub IsAckType : ℕ → Type 0
IsAckType kind = kind / 2 ≡ 1

abbrev pub is_ack_type : ℕ → Bool
is_ack_type kind = kind / 2 == 1

-- one of the two types of MAX_STREAMS (section 19.11)
abbrev pub is_max_streams_type : ℕ → Bool
is_max_streams_type kind = kind / 2 == 9

-- one of the two types of STREAMS_BLOCKED (section 19.14)
abbrev pub is_streams_blocked_type : ℕ → Bool
is_streams_blocked_type kind = kind / 2 == 11
