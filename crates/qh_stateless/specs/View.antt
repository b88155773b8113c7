-- The code's headers and faults without where they lie in memory.
use Rattle.std.specs.Prelude.{List, ℕ, Bool, true, false}
use Rattle.qh_stateless.specs.Header.{Header, Initial, ZeroRtt, Long, Short, Fault, Malformed, UnsupportedVersion}
use Rattle.qh_stateless.specs.declared.header.DatagramHeader.{DatagramHeader}
use Rattle.qh_stateless.specs.declared.header.DatagramHeader.TheVariants as header
use Rattle.qh_stateless.specs.declared.header.HeaderFault.{HeaderFault}
use Rattle.qh_stateless.specs.declared.header.HeaderFault.TheVariants as fault

abbrev pub header_of : DatagramHeader → Header
header_of (header.Initial version first destination source token) = Initial version first destination.now source.now token.now
header_of (header.ZeroRtt version destination source) = ZeroRtt version destination.now source.now
header_of (header.Long version destination source) = Long version destination.now source.now
header_of (header.Short first destination) = Short first destination.now

abbrev pub fault_of : HeaderFault → Fault
fault_of fault.Malformed = Malformed
fault_of (fault.UnsupportedVersion version destination source) = UnsupportedVersion version destination.now source.now

-- the connection id of the end that it goes to
abbrev pub destination_of : Header → List ℕ
destination_of (Initial version first destination source token) = destination
destination_of (ZeroRtt version destination source) = destination
destination_of (Long version destination source) = destination
destination_of (Short first destination) = destination

-- an Initial or a 0-RTT packet
abbrev pub is_first : Header → Bool
is_first (Initial version first destination source token) = true
is_first (ZeroRtt version destination source) = true
is_first (Long version destination source) = false
is_first (Short first destination) = false

abbrev pub is_long : Header → Bool
is_long (Initial version first destination source token) = true
is_long (ZeroRtt version destination source) = true
is_long (Long version destination source) = true
is_long (Short first destination) = false
