-- Connection ids that count (the form is own).
use Rattle.std.specs.Prelude.{ℕ, zero, suc, ◌-◌, ◌%◌, ◌^◌, List, [], ◌∷◌, ◌++◌, drop, replicate}
use Rattle.std.specs.Int.{w64, to_be_bytes}

-- what a contract sees of a source of such ids
pub record Counting : Type 0 where
  pub len : ℕ
  pub mark : ℕ
  -- how many ids it gave, which saturates at 2^64 - 1
  pub given : ℕ
  -- the counter of the next id
  pub counter : ℕ

-- a number in 7 bytes, in network order; from 2^56 on they begin again
unfoldable pub counter_bytes : (n : ℕ) → List ℕ
counter_bytes n = drop 1 (to_be_bytes w64 (n % 2 ^ 56))

-- the mark, zero bytes, and the counter in 7 bytes
unfoldable pub counted_id : (len mark n : ℕ) → List ℕ
counted_id len mark n = mark ∷ (replicate (len - 8) 0 ++ counter_bytes n)

-- the ids of the counters from 0, so many of them
unfoldable pub first_ids : (len mark count : ℕ) → List (List ℕ)
first_ids len mark zero = []
first_ids len mark (suc n) = first_ids len mark n ++ counted_id len mark n ∷ []
