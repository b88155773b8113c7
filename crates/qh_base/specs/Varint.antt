-- Reading a variable-length integer, as a function on lists.
use Rattle.std.specs.Prelude.{ℕ, ◌+◌, ◌-◌, ◌^◌, nat_lt, List, length, Option, Some, None, slice_index, if◌then◌else◌, take}
use Rattle.std.specs.Int.{w16, w32, w64, from_be_bytes}

-- a number of so many bytes, where they are there
abbrev pub whole : (there size n : ℕ) → Option (ℕ × ℕ)
whole there size n = if nat_lt there size then None else Some (n, size)

-- the number that stands in front of some bytes, and how many bytes it takes
unfoldable pub varint_at : List ℕ → Option (ℕ × ℕ)
varint_at bytes = if nat_lt (length bytes) 1 then None
    else if nat_lt (slice_index bytes 0) 64 then Some (slice_index bytes 0, 1)
    else if nat_lt (slice_index bytes 0) 128 then whole (length bytes) 2 (from_be_bytes w16 (take 2 bytes) - 2 ^ 14)
    else if nat_lt (slice_index bytes 0) 192 then whole (length bytes) 4 (from_be_bytes w32 (take 4 bytes) - 2 ^ 31)
    else whole (length bytes) 8 (from_be_bytes w64 (take 8 bytes) - (2 ^ 63 + 2 ^ 62))
