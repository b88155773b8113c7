-- What the words of a bit filter hold.
use Rattle.std.specs.Prelude.{ℕ, Bool, ◌/◌, ◌%◌, ◌==◌, List, slice_index}
use Rattle.std.specs.Int.{bit_at}

-- whether the bit at a position is set, in words of 64 bits
abbrev pub has_bit : List ℕ → ℕ → Bool
has_bit words p = bit_at (slice_index words (p / 64)) (p % 64) == 1
