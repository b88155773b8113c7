-- The packet of version negotiation that an endpoint answers (RFC 9000, sections 6.1, 15 and 17.2.1).
use Rattle.std.specs.Prelude.{ℕ, ◌+◌, ◌*◌, ◌%◌, ◌^◌, ◌==◌, List, ◌∷◌, ◌++◌, if◌then◌else◌}
use Rattle.qh_packet.specs.LongHeader.{long_head}
use Rattle.qh_packet.specs.VersionNegotiation.{version_bytes}

-- 0a1a2a3a, a version that is reserved (RFC 9000, section 15)
abbrev pub reserved_version : ℕ
reserved_version = 10 * 2 ^ 24 + 26 * 2 ^ 16 + 42 * 2 ^ 8 + 58

-- 0a1a2a4a, another one
abbrev pub other_reserved_version : ℕ
other_reserved_version = 10 * 2 ^ 24 + 26 * 2 ^ 16 + 42 * 2 ^ 8 + 74

-- a reserved version other than that of the datagram
abbrev pub reserved_beside : (version : ℕ) → ℕ
reserved_beside version = if version == reserved_version then other_reserved_version else reserved_version

-- what is listed to a datagram of this version: a reserved version, and the endpoint's in order
abbrev pub listed_to : (version : ℕ) (versions : List ℕ) → List ℕ
listed_to version versions = reserved_beside version ∷ versions

-- The answer to a datagram with this version and these ids: a first byte of a word's low six bits behind 11, version 0, and both ids
-- exchanged.
abbrev pub negotiation_bytes : (word version : ℕ) (destination source versions : List ℕ) → List ℕ
negotiation_bytes word version destination source versions =
    long_head (192 + word % 64) 0 source destination ++ version_bytes (listed_to version versions)
