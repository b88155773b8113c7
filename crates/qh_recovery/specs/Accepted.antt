-- Which packet numbers a receiver takes: each at most once (RFC 9000, section 12.3). It needn't keep all that it accepted: a
-- number that is far below the greatest is refused unseen.
use Rattle.std.specs.Prelude.{◌≡◌, ◌↔◌, ℕ, ◌+◌, ◌-◌, ◌<◌, ◌≤◌, ◌^◌, nat_le, true, List, [], ◌∷◌, length, if◌then◌else◌}
use Rattle.qh_buffers.specs.Ranges.{PlainRange, has}
use Rattle.qh_spec.specs.Lists.{In}

-- it lies at most 128 below the greatest accepted number, or above it
abbrev pub IsNear : (accepted : List ℕ) → ℕ → Type 0
IsNear accepted n = (m : ℕ) → In m accepted → m ≤ n + 128

-- A number is new: it was never accepted, and isn't more than 128 below the greatest that was. So is one that exceeds all.
pub record IsNew (accepted : List ℕ) (n : ℕ) : Type 0 where
  pub is_unseen : In n accepted → ⊥
  pub is_near : IsNear accepted n

-- the greatest accepted number
pub record IsGreatestOf (accepted : List ℕ) (n : ℕ) : Type 0 where
  pub is_there : In n accepted
  pub is_last : (m : ℕ) → In m accepted → m ≤ n

-- the greatest accepted number plus 1, or 0 if none was accepted
pub record IsNextOf (accepted : List ℕ) (next : ℕ) : Type 0 where
  pub is_above : (m : ℕ) → In m accepted → m < next
  pub is_least : 0 < next → In (next - 1) accepted

-- what is kept agrees with the history on each number that isn't more than 128 below the greatest
pub record Remembers (accepted : List ℕ) (kept : List PlainRange) : Type 0 where
  pub agrees : (n : ℕ) → IsNear accepted n → (has kept n ≡ true) ↔ In n accepted

-- What follows are words of what is kept, and of the private functions.

-- the ranges are few, and numbers stay below 2 ^ 62
pub record IsWindow (kept : List PlainRange) : Type 0 where
  pub few : length kept ≤ 65
  pub below : (k : ℕ) → has kept k ≡ true → k < 2 ^ 62

-- the greatest number plus 1, or 0 if there is none
pub record IsNextIn (kept : List PlainRange) (next : ℕ) : Type 0 where
  pub is_above : (k : ℕ) → has kept k ≡ true → k < next
  pub is_least : 0 < next → has kept (next - 1) ≡ true

-- the ranges without those in front that end at a number or below it
abbrev pub without_below : ℕ → List PlainRange → List PlainRange
without_below floor [] = []
without_below floor (r ∷ rs) = if nat_le r.end floor then without_below floor rs else r ∷ rs
