-- The ids of settings.
use Rattle.std.specs.Prelude.{ℕ}

-- of HTTP/3 (RFC 9114, section 7.2.4.1)
abbrev pub max_field_section_size : ℕ
max_field_section_size = 0x06

-- of QPACK (RFC 9204, section 5)
abbrev pub qpack_max_table_capacity : ℕ
qpack_max_table_capacity = 0x01

abbrev pub qpack_blocked_streams : ℕ
qpack_blocked_streams = 0x07

-- of extended CONNECT (RFC 9220, section 3)
abbrev pub enable_connect_protocol : ℕ
enable_connect_protocol = 0x08

-- of HTTP datagrams (RFC 9297, section 2.1.1)
abbrev pub h3_datagram : ℕ
h3_datagram = 0x33
