-- The versions of QUIC, a row for each (RFC 9000, sections 15 and 17.2).
use Rattle.std.specs.Prelude.{ℕ}
use Rattle.qh_packet.specs.declared.version.Version.{Version}
use Rattle.qh_packet.specs.declared.version.Version.TheVariants.{One}
use Rattle.qh_packet.specs.declared.version.PacketType.{PacketType}
use Rattle.qh_packet.specs.declared.version.PacketType.TheVariants.{Initial, ZeroRtt, Handshake, Retry}

-- the number in a header
abbrev pub number_of : Version → ℕ
number_of One = 1

-- the two bits of the first byte that tell a packet's type
abbrev pub type_bits : Version → PacketType → ℕ
type_bits One Initial = 0
type_bits One ZeroRtt = 1
type_bits One Handshake = 2
type_bits One Retry = 3
