-- Bytes that are placed at offsets, and the ends that are said, whole as one list.
use Rattle.std.specs.Prelude.{◌≡◌, ℕ, List, Some, length, slice_get}
use Rattle.qh_spec.specs.Lists.{In}

-- each byte stands where it is placed
abbrev pub AreFrom : List (ℕ × ℕ) → List ℕ → Type 0
AreFrom placed bytes = (offset byte : ℕ) → slice_get bytes offset ≡ Some byte → In (offset, byte) placed

-- this is placed at its offset of the bytes
abbrev pub IsAt : List ℕ → ℕ × ℕ → Type 0
IsAt bytes p = slice_get bytes p.0 ≡ Some p.1

-- one end is said, and no other
abbrev pub IsOnlyEnd : List ℕ → ℕ → Type 0
IsOnlyEnd ends end = In end ends × ((other : ℕ) → In other ends → other ≡ end)

-- nothing is placed there
abbrev pub IsEmptyAt : List (ℕ × ℕ) → ℕ → Type 0
IsEmptyAt placed offset = (byte : ℕ) → In (offset, byte) placed → ⊥

-- the bytes are all that is placed, and their length is the one end
pub record AreWhole (placed : List (ℕ × ℕ)) (ends bytes : List ℕ) : Type 0 where
  pub all : AreFrom placed bytes
  pub only : (offset byte : ℕ) → In (offset, byte) placed → slice_get bytes offset ≡ Some byte
  pub end : IsOnlyEnd ends (length bytes)
