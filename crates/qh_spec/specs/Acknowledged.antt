-- Which packet numbers an ACK frame acknowledges (RFC 9000, section 19.3).
use Rattle.std.specs.Prelude.{◌≡◌, ◌⊎◌, ℕ, ◌+◌, ◌≤◌, List, [], ◌∷◌}
use Rattle.qh_spec.specs.FrameTypes.{IsAckType}
use Rattle.qh_spec.specs.QuicFrames.{QuicFrame, Value, Num, Nums}

-- the number is in the range, which holds the greatest and so many more below it (section 19.3.1)
abbrev pub InRange : (greatest more n : ℕ) → Type 0
InRange greatest more n = (least : ℕ) × (greatest ≡ least + more) × (least ≤ n) × (n ≤ greatest)

-- The number is in one of the ranges: a range, then a gap and a range below it, and so on. A gap is one less than the
-- numbers between two ranges (section 19.3.1).
abbrev pub InRanges : (greatest : ℕ) → List ℕ → (n : ℕ) → Type 0
InRanges greatest [] n = ⊥
InRanges greatest (range ∷ []) n = InRange greatest range n
InRanges greatest (range ∷ gap ∷ more) n = InRange greatest range n ⊎ ((next : ℕ) × (greatest ≡ next + 2 + gap + range) × InRanges next more n)

-- no range goes below 0; otherwise the frame is at fault (section 19.3.1)
abbrev pub AreRanges : (greatest : ℕ) → List ℕ → Type 0
AreRanges greatest [] = ⊥
AreRanges greatest (range ∷ []) = range ≤ greatest
AreRanges greatest (range ∷ gap ∷ more) = (next : ℕ) × (greatest ≡ next + 2 + gap + range) × AreRanges next more

-- the fields of an ACK frame cover the number: the greatest, the delay, the ranges, and in type 03 three counts (section 19.3)
abbrev pub ValuesCover : List Value → ℕ → Type 0
ValuesCover (Num greatest ∷ Num delay ∷ Nums ranges ∷ more) n = InRanges greatest ranges n
ValuesCover _ n = ⊥

-- the frame is an ACK, of type 02 or 03, and acknowledges the packet number (section 19.3)
abbrev pub Covers : QuicFrame → ℕ → Type 0
Covers f n = IsAckType f.kind × ValuesCover f.values n
