-- Sets of numbers as ranges in order (quinn-proto, `range_set`).
use Rattle.std.specs.Prelude.{◌≡◌, ℕ, ◌+◌, ◌<◌, ◌≤◌, ◌-◌, ◌==◌, nat_lt, nat_le, Bool, true, false, ◌&&◌, ◌||◌, not, List, [], ◌∷◌, length, map, min, max, take, drop, slice_index_or, if◌then◌else◌}
use Rattle.std.specs.List.{list_any, filter}
use Rattle.std.specs.declared.ops.Range.{Range}

-- the numbers from a start on to before an end
pub record PlainRange : Type 0 where
  pub start : ℕ
  pub end : ℕ

abbrev pub is_in : PlainRange → ℕ → Bool
is_in r k = nat_le r.start k && nat_lt k r.end

-- one of the ranges has the number
abbrev pub has : List PlainRange → ℕ → Bool
has rs k = list_any (λ r. is_in r k) rs

-- no range is empty, they stand in order from a number on, and no two touch
abbrev pub AreApart : ℕ → List PlainRange → Type 0
AreApart low [] = Unit {0}
AreApart low (r ∷ rs) = (low ≤ r.start) × (r.start < r.end) × AreApart (r.end + 1) rs

-- how many numbers there are
abbrev pub count_of : List PlainRange → ℕ
count_of [] = 0
count_of (r ∷ rs) = (r.end - r.start) + count_of rs

-- how many numbers from 0 on are there without a gap
abbrev pub front_of : List PlainRange → ℕ
front_of [] = 0
front_of (r ∷ rs) = if r.start == 0 then r.end else 0

-- the set has the number, and none below it
pub record IsLeast (rs : List PlainRange) (k : ℕ) : Type 0 where
  pub is_there : has rs k ≡ true
  pub is_first : (j : ℕ) → j < k → has rs j ≡ false

-- the set has the number, and none above it
pub record IsGreatest (rs : List PlainRange) (k : ℕ) : Type 0 where
  pub is_there : has rs k ≡ true
  pub is_last : (j : ℕ) → k < j → has rs j ≡ false

-- What follows are words of the private functions.

-- the ranges as the program keeps them
abbrev pub plain : List (Range ℕ) → List PlainRange
plain rs = map (λ (r : Range ℕ). record { start = r.start; end = r.end }) rs

-- where the next range may start, behind ranges that stand from a number on
abbrev pub start_behind : ℕ → List PlainRange → ℕ
start_behind low [] = low
start_behind low (r ∷ rs) = start_behind (r.end + 1) rs

abbrev pub range_at : List PlainRange → ℕ → PlainRange
range_at rs i = slice_index_or rs i (record { start = 0; end = 0 })

-- From the index `from` to before the index `to` stand the ranges that end at `first` or later and start at `last` or
-- earlier.
pub record AreNear (rs : List PlainRange) (first last from to : ℕ) : Type 0 where
  pub order : from ≤ to
  pub bound : to ≤ length rs
  pub front : start_behind 0 (take from rs) ≤ first
  pub reaches : from < to → first ≤ (range_at rs from).end
  pub begins : from < to → (range_at rs (to - 1)).start ≤ last
  pub back : AreApart (last + 1) (drop to rs)

-- a range that may be empty, as the program keeps it
abbrev pub kept : Range ℕ → List (Range ℕ)
kept r = if nat_lt r.start r.end then r ∷ [] else []

-- the ranges as a map keeps them: where each starts, and where it ends
abbrev pub paired : List (ℕ × ℕ) → List PlainRange
paired es = map (λ (e : ℕ × ℕ). record { start = e.0; end = e.1 }) es

-- those that start at a number or before it
abbrev pub up_to : ℕ → List (ℕ × ℕ) → List (ℕ × ℕ)
up_to n es = filter (λ (e : ℕ × ℕ). nat_le e.0 n) es

-- those that start before a number
abbrev pub before : ℕ → List (ℕ × ℕ) → List (ℕ × ℕ)
before n es = filter (λ (e : ℕ × ℕ). nat_lt e.0 n) es

-- those that start behind a number
abbrev pub above : ℕ → List (ℕ × ℕ) → List (ℕ × ℕ)
above n es = filter (λ (e : ℕ × ℕ). nat_lt n e.0) es

-- those that start at a number or behind it
abbrev pub from_on : ℕ → List (ℕ × ℕ) → List (ℕ × ℕ)
from_on n es = filter (λ (e : ℕ × ℕ). nat_le n e.0) es

-- those that start from one number on to before another
abbrev pub between : (from to : ℕ) → List (ℕ × ℕ) → List (ℕ × ℕ)
between from to es = filter (λ (e : ℕ × ℕ). nat_le from e.0 && nat_lt e.0 to) es

-- each ends at a number or before it
abbrev pub clipped : ℕ → List (ℕ × ℕ) → List (ℕ × ℕ)
clipped n es = map (λ (e : ℕ × ℕ). (e.0, min e.1 n)) es

-- What a range that starts before a number has from that number on stands as a range of its own.
pub record IsSplit (n : ℕ) (old new : List (ℕ × ℕ)) : Type 0 where
  pub fronts : (m : ℕ) → m ≤ n → before m new ≡ before m old
  pub apart : AreApart n (paired (from_on n new))
  pub numbers : (k : ℕ) → has (paired (from_on n new)) k ≡ (nat_le n k && has (paired old) k)

-- a range in front of others, together with those that it touches then
abbrev pub joined : (start end : ℕ) → List (ℕ × ℕ) → List (ℕ × ℕ)
joined start end [] = (start, end) ∷ []
joined start end (e ∷ es) = if nat_lt end e.0 then (start, end) ∷ e ∷ es else joined start (max end e.1) es

-- the numbers of a range come in, and no other
pub record IsAdded (old new : List PlainRange) (r : PlainRange) : Type 0 where
  pub apart : AreApart 0 new
  pub numbers : (k : ℕ) → has new k ≡ (is_in r k || has old k)

-- the numbers of a range go, and no other
pub record IsTakenOut (old new : List PlainRange) (r : PlainRange) : Type 0 where
  pub apart : AreApart 0 new
  pub numbers : (k : ℕ) → has new k ≡ (not (is_in r k) && has old k)

-- From a number on stand numbers that pass the test, and from a start on to before an end some that fail it. Where there
-- is a number at all, the end goes beyond the first.
pub record IsNextGap (passes : ℕ → Bool) (from to start end : ℕ) : Type 0 where
  pub above : from ≤ start
  pub order : start ≤ end
  pub below : end ≤ to
  pub full : (k : ℕ) → from ≤ k → k < start → passes k ≡ true
  pub free : (k : ℕ) → start ≤ k → k < end → passes k ≡ false
  pub goes : from < to → from < end
