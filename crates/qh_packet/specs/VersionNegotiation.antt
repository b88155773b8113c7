-- Packets of version negotiation (RFC 9000, section 17.2.1).
use Rattle.std.specs.Prelude.{◌≡◌, ℕ, ◌<◌, ◌%◌, List, [], ◌∷◌, ◌++◌, length}
use Rattle.std.specs.Int.{w32, to_be_bytes, from_be_bytes}
use Rattle.qh_packet.specs.LongHeader.{IsLongHeader}

-- the bytes are a packet of version negotiation, and these of it list its versions
pub record IsVersionNegotiation (bytes destination source listed : List ℕ) : Type 0 where
  pub first : ℕ
  pub header : IsLongHeader bytes first 0 destination source listed
  pub some : 0 < length listed
  pub fours : length listed % 4 ≡ 0

-- the versions that bytes list, four bytes for each
abbrev pub versions_in : (listed : List ℕ) → List ℕ
versions_in (a ∷ b ∷ c ∷ d ∷ listed) = from_be_bytes w32 (a ∷ b ∷ c ∷ d ∷ []) ∷ versions_in listed
versions_in _ = []

-- the bytes that list versions
abbrev pub version_bytes : (versions : List ℕ) → List ℕ
version_bytes [] = []
version_bytes (version ∷ versions) = to_be_bytes w32 version ++ version_bytes versions
