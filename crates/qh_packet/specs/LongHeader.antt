-- The long header, as far as every packet that has one has it (RFC 9000, section 17.2).
use Rattle.std.specs.Prelude.{◌≡◌, ℕ, ◌<◌, ◌≤◌, ◌^◌, List, ◌∷◌, ◌++◌, length}
use Rattle.std.specs.Int.{w32, to_be_bytes}

-- the first byte, the version, and both ids behind their lengths
abbrev pub long_head : (first version : ℕ) (destination source : List ℕ) → List ℕ
long_head first version destination source =
    first ∷ (to_be_bytes w32 version ++ (length destination ∷ (destination ++ (length source ∷ source))))

-- the bytes are a long header with these parts, its fixed bit set, and a rest
pub record IsLongHeader (bytes : List ℕ) (first version : ℕ) (destination source rest : List ℕ) : Type 0 where
  pub whole : bytes ≡ long_head first version destination source ++ rest
  pub long_form : 192 ≤ first
  pub first_fits : first < 256
  pub version_fits : version < 2 ^ 32
  pub destination_fits : length destination ≤ 20
  pub source_fits : length source ≤ 20
