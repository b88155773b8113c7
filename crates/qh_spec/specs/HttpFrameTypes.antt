-- The types of HTTP/3's frames (RFC 9114, sections 7.2 and 11.2.1).
use Rattle.std.specs.Prelude.{ℕ}

abbrev pub data_ : ℕ
data_ = 0x00

abbrev pub headers : ℕ
headers = 0x01

abbrev pub cancel_push : ℕ
cancel_push = 0x03

abbrev pub settings : ℕ
settings = 0x04

abbrev pub push_promise : ℕ
push_promise = 0x05

abbrev pub goaway : ℕ
goaway = 0x07

abbrev pub max_push_id : ℕ
max_push_id = 0x0d

-- the types of HTTP/2's PRIORITY, PING, WINDOW_UPDATE and CONTINUATION, which are reserved (section 7.2.8)
abbrev pub http2_priority : ℕ
http2_priority = 0x02

abbrev pub http2_ping : ℕ
http2_ping = 0x06

abbrev pub http2_window_update : ℕ
http2_window_update = 0x08

abbrev pub http2_continuation : ℕ
http2_continuation = 0x09

-- the first reserved type, which has no meaning (section 7.2.8)
abbrev pub grease : ℕ
grease = 0x21
