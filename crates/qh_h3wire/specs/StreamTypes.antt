-- The types of one-way streams (RFC 9114, section 6.2; RFC 9204, section 4.2).
use Rattle.std.specs.Prelude.{ℕ}

abbrev pub control : ℕ
control = 0x00

abbrev pub push : ℕ
push = 0x01

abbrev pub qpack_encoder : ℕ
qpack_encoder = 0x02

abbrev pub qpack_decoder : ℕ
qpack_decoder = 0x03

-- the first reserved type, which has no meaning (RFC 9114, section 6.2.3)
abbrev pub grease : ℕ
grease = 0x21
