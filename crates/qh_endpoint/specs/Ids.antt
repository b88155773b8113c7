-- The ids of a header that was read.
use Rattle.std.specs.Prelude.{ℕ, ◌≤◌, List, length, Contains}
use Rattle.qh_stateless.specs.Header.{Header, Initial, ZeroRtt, Long, Short}

-- each id of the header has at most 20 bytes (RFC 9000, section 17.2), and an Initial packet is in one of these versions
abbrev pub IsFitting : (versions : List ℕ) → Header → Type 0
IsFitting versions (Initial version first destination source token) = (length destination ≤ 20) × (length source ≤ 20) × Contains versions version
IsFitting versions (ZeroRtt version destination source) = (length destination ≤ 20) × (length source ≤ 20)
IsFitting versions (Long version destination source) = (length destination ≤ 20) × (length source ≤ 20)
IsFitting versions (Short first destination) = length destination ≤ 20
