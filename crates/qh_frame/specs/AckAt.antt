-- Reading the ranges of an ACK, as functions on lists.
use Rattle.std.specs.Prelude.{ℕ, List, [], ◌∷◌, Option, Some, None, if◌then◌else◌}
use Rattle.qh_frame.specs.FieldsAt.{◌>>=◌, number_at}
use Rattle.qh_frame.specs.Range.{are_ranges}
use Rattle.qh_spec.specs.QuicFrames.{QuicFrame}

-- what follows the pairs, where no range goes below 0
unfoldable pub end_of : (greatest range : ℕ) → Option (List ℕ × List ℕ) → Option (List ℕ)
end_of greatest range found = found >>= λ f. if are_ranges greatest (range ∷ f.0) then Some f.1 else None

-- the gaps and ranges that were read
abbrev pub numbers_of : Option (List ℕ × List ℕ) → List ℕ
numbers_of None = []
numbers_of (Some found) = found.0

-- a frame, and what follows the three counts behind it
unfoldable pub behind_counts : Option (QuicFrame × List ℕ) → Option (QuicFrame × List ℕ)
behind_counts found = do
  f ← found
  first ← number_at f.1
  second ← number_at first.1
  third ← number_at second.1
  Some (f.0, third.1)
