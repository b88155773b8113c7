-- Reading two numbers that stand one after another, as a function on lists.
use Rattle.std.specs.Prelude.{ℕ, ◌+◌, List, drop, Option, Some}
use Rattle.qh_base.specs.Varint.{varint_at}
use Rattle.qh_h3wire.specs.Chain.{◌>>=◌}
use Rattle.qh_h3wire.specs.declared.pair.Pair.{Pair}

-- the two numbers that begin the bytes, and how many bytes they take
unfoldable pub pair_at : List ℕ → Option Pair
pair_at bytes =
    varint_at bytes >>= λ one. (varint_at (drop one.1 bytes) >>= λ two. Some (record { first = one.0; second = two.0; size = one.1 + two.1 }))
