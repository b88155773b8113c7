-- Ranges that stand apart: where their numbers are, and what a cut of the list leaves.
use Rattle.std.proofs.Common.{◌≡◌, ℕ, zero, suc, ◌+◌, ◌<◌, ◌≤◌, true, false, ◌||◌, List, [], ◌∷◌, ◌++◌, length, take, drop, max, add-one, refl, sym, ap, ◌∙◌, subst, arith, nat_lt, nat_le}
use Rattle.std.proofs.lemmas.Bool.{and_from, and_left, and_right, le-leb, lt-leb, le-ltb, lt-ltb, or_from}
use Rattle.std.proofs.lemmas.List.{take-append-drop}
use Rattle.std.proofs.lemmas.List.Folds.{list_any-append, list_any_at}
use Rattle.qh_buffers.specs.Ranges.{PlainRange, is_in, has, AreApart, start_behind, range_at}

-- the test of a range, by cases
pub inside : (r : PlainRange) (k : ℕ) → r.start ≤ k → k < r.end → is_in r k ≡ true
inside r k low high = and_from (nat_le r.start k) (nat_lt k r.end) (le-leb r.start k low) (lt-ltb k r.end high)

pub before : (r : PlainRange) (k : ℕ) → k < r.start → is_in r k ≡ false
before r k h = and_left (nat_le r.start k) (nat_lt k r.end) (lt-leb r.start k h)

pub behind : (r : PlainRange) (k : ℕ) → r.end ≤ k → is_in r k ≡ false
behind r k h = and_right (nat_le r.start k) (nat_lt k r.end) (le-ltb k r.end h)

pub has-append : (rs ss : List PlainRange) (k : ℕ) → has (rs ++ ss) k ≡ (has rs k || has ss k)
has-append rs ss k = list_any-append (λ r. is_in r k) rs ss

-- a list that is cut at an index
pub has_cut : (rs : List PlainRange) (i k : ℕ) → has rs k ≡ (has (take i rs) k || has (drop i rs) k)
has_cut rs i k =
    ap (λ (ss : List PlainRange). has ss k) (sym (take-append-drop i rs)) ∙ has-append (take i rs) (drop i rs) k

pub has_at : (rs : List PlainRange) (i k : ℕ) → i < length rs → (range_at rs i).start ≤ k → k < (range_at rs i).end → has rs k ≡ true
has_at rs i k h low high =
    list_any_at (λ r. is_in r k) rs i (record { start = 0; end = 0 }) h (inside (range_at rs i) k low high)

pub none_below : (rs : List PlainRange) (low k : ℕ) → AreApart low rs → k < low → has rs k ≡ false
none_below [] low k apart h = refl
none_below (r ∷ rs) low k apart h =
    or_from (is_in r k) (has rs k) (before r k (omega (arith, apart.0))) (none_below rs (r.end + 1) k apart.2 (omega (arith, apart.0, apart.1)))

pub behind_le : (rs : List PlainRange) (low : ℕ) → AreApart low rs → low ≤ start_behind low rs
behind_le [] low apart = omega arith
behind_le (r ∷ rs) low apart = omega (arith, apart.0, apart.1, behind_le rs (r.end + 1) apart.2)

pub none_behind : (rs : List PlainRange) (low k : ℕ) → AreApart low rs → start_behind low rs ≤ k + 1 → has rs k ≡ false
none_behind [] low k apart h = refl
none_behind (r ∷ rs) low k apart h =
    or_from (is_in r k) (has rs k) (behind r k (omega (arith, behind_le rs (r.end + 1) apart.2))) (none_behind rs (r.end + 1) k apart.2 h)

pub apart_front : (rs ss : List PlainRange) (low : ℕ) → AreApart low (rs ++ ss) → AreApart low rs
apart_front [] ss low apart = tt
apart_front (r ∷ rs) ss low apart = (apart.0, apart.1, apart_front rs ss (r.end + 1) apart.2)

pub apart_rest : (rs ss : List PlainRange) (low : ℕ) → AreApart low (rs ++ ss) → AreApart (start_behind low rs) ss
apart_rest [] ss low apart = apart
apart_rest (r ∷ rs) ss low apart = apart_rest rs ss (r.end + 1) apart.2

pub apart_join : (rs ss : List PlainRange) (low : ℕ) → AreApart low rs → AreApart (start_behind low rs) ss → AreApart low (rs ++ ss)
apart_join [] ss low apart rest = rest
apart_join (r ∷ rs) ss low apart rest = (apart.0, apart.1, apart_join rs ss (r.end + 1) apart.2 rest)

pub apart_take : (rs : List PlainRange) (i low : ℕ) → AreApart low rs → AreApart low (take i rs)
apart_take rs i low apart =
    apart_front (take i rs) (drop i rs) low (subst (λ (ss : List PlainRange). AreApart low ss) (sym (take-append-drop i rs)) apart)

pub apart_drop : (rs : List PlainRange) (i low : ℕ) → AreApart low rs → AreApart (start_behind low (take i rs)) (drop i rs)
apart_drop rs i low apart =
    apart_rest (take i rs) (drop i rs) low (subst (λ (ss : List PlainRange). AreApart low ss) (sym (take-append-drop i rs)) apart)

pub apart_lower : (rs : List PlainRange) (low low' : ℕ) → low ≤ low' → AreApart low' rs → AreApart low rs
apart_lower [] low low' h apart = tt
apart_lower (r ∷ rs) low low' h apart = (omega (arith, apart.0), apart.1, apart.2)

pub apart_both : (rs : List PlainRange) (a b : ℕ) → AreApart a rs → AreApart b rs → AreApart (max a b) rs
apart_both [] a b first second = tt
apart_both (r ∷ rs) a b first second = (omega (arith, first.0, second.0), first.1, first.2)

-- a range at an index has numbers, and lies behind those in front of it
pub some_at : (rs : List PlainRange) (i low : ℕ) → AreApart low rs → i < length rs → (low ≤ (range_at rs i).start) × ((range_at rs i).start < (range_at rs i).end)
some_at [] i low apart h = absurd (omega arith)
some_at (r ∷ rs) zero low apart h = (apart.0, apart.1)
some_at (r ∷ rs) (suc i) low apart h =
    let later = some_at rs i (r.end + 1) apart.2 (omega arith) in
    (omega (arith, apart.0, apart.1, later.0), later.1)

-- where the next range may start, behind the range at an index
behind_suc : (rs : List PlainRange) (i low : ℕ) → i < length rs → start_behind low (take (suc i) rs) ≡ (range_at rs i).end + 1
behind_suc [] i low h = absurd (omega arith)
behind_suc (r ∷ rs) zero low h = refl
behind_suc (r ∷ rs) (suc i) low h = behind_suc rs i (r.end + 1) (omega arith)

pub behind_at : (rs : List PlainRange) (i low : ℕ) → i < length rs → start_behind low (take (i + 1) rs) ≡ (range_at rs i).end + 1
behind_at rs i low h = rw add-one (behind_suc rs i low h)

-- the list from an index on begins with the range there
pub apart_at : (rs : List PlainRange) (i low : ℕ) → AreApart low rs → i < length rs → AreApart (range_at rs i).start (drop i rs)
apart_at [] i low apart h = absurd (omega arith)
apart_at (r ∷ rs) zero low apart h = (omega arith, apart.1, apart.2)
apart_at (r ∷ rs) (suc i) low apart h = apart_at rs i (r.end + 1) apart.2 (omega arith)

pub front_at : (rs : List PlainRange) (i low : ℕ) → AreApart low rs → i < length rs → start_behind low (take i rs) ≤ (range_at rs i).start
front_at [] i low apart h = absurd (omega arith)
front_at (r ∷ rs) zero low apart h = apart.0
front_at (r ∷ rs) (suc i) low apart h = front_at rs i (r.end + 1) apart.2 (omega arith)

-- what a search by halves tells of the ranges in front of an index and from it on
pub front_by_ends : (rs : List PlainRange) (i first low : ℕ) → low ≤ first → ((k : ℕ) → k < i → (range_at rs k).end < first) → start_behind low (take i rs) ≤ first
front_by_ends [] zero first low h ends = h
front_by_ends [] (suc i) first low h ends = h
front_by_ends (r ∷ rs) zero first low h ends = h
front_by_ends (r ∷ rs) (suc i) first low h ends =
    let here : r.end < first = ends 0 (omega arith) in
    front_by_ends rs i first (r.end + 1) (omega arith) (λ k l. ends (suc k) (omega arith))

pub back_by_starts : (rs : List PlainRange) (i last low : ℕ) → AreApart low rs → ((k : ℕ) → i ≤ k → k < length rs → last < (range_at rs k).start) → AreApart (last + 1) (drop i rs)
back_by_starts [] zero last low apart starts = tt
back_by_starts [] (suc i) last low apart starts = tt
back_by_starts (r ∷ rs) zero last low apart starts =
    let here : last < r.start = starts 0 (omega arith) (omega arith) in
    (omega arith, apart.1, apart.2)
back_by_starts (r ∷ rs) (suc i) last low apart starts =
    back_by_starts rs i last (r.end + 1) apart.2 (λ k a b. starts (suc k) (omega arith) (omega arith))
