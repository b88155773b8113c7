-- What two searches by halves tell of ranges that stand apart.
use Rattle.std.proofs.Common.{◌≡◌, ℕ, zero, suc, ◌+◌, ◌-◌, ◌<◌, ◌≤◌, true, false, List, [], ◌∷◌, length, get_or, sym, ap, ◌∙◌, arith, inl, inr, nat_lt, nat_le}
use Rattle.std.specs.List.Sorted.{IsPartitionPoint}
use Rattle.std.proofs.lemmas.Bool.{cases_lt, ltb-true, ltb-false, leb-true, leb-false}
use Rattle.std.proofs.lemmas.List.{get_or-map, length-map, get_or_read}
use Rattle.std.specs.declared.ops.Range.{Range}
use Rattle.qh_buffers.specs.Ranges.{PlainRange, AreApart, AreNear, range_at, plain}
use Rattle.qh_buffers.proofs.RangeLaws.{some_at, front_by_ends, back_by_starts}

abbrev pub to_plain : Range ℕ → PlainRange
to_plain r = record { start = r.start; end = r.end }

-- an element of the program's list and of the plain one
pub plain_at : (rs : List (Range ℕ)) (i : ℕ) (d : Range ℕ) → i < length rs → range_at (plain rs) i ≡ to_plain (get_or rs i d)
plain_at rs i d h =
    get_or-map to_plain rs i d (record { start = 0; end = 0 }) h

pub length-plain : (rs : List (Range ℕ)) → length (plain rs) ≡ length rs
length-plain rs = length-map rs to_plain

-- what a read of the program's list gives
pub read_plain : (rs : List (Range ℕ)) (i : ℕ) (r : Range ℕ) → i < length rs → r ≡ get_or rs i r → to_plain r ≡ range_at (plain rs) i
read_plain rs i r h read =
    let d : Range ℕ = record { start = 0; end = 0 } in
    ap to_plain (get_or_read rs i r h read d) ∙ sym (plain_at rs i d h)

-- later ranges start and end later
starts_above : (rs : List (Range ℕ)) (low : ℕ) → AreApart low (plain rs) → (i : ℕ) (d : Range ℕ) → i < length rs → (low ≤ (get_or rs i d).start) × ((get_or rs i d).start < (get_or rs i d).end)
starts_above [] low apart i d h = absurd (omega arith)
starts_above (r ∷ rs) low apart zero d h = (apart.0, apart.1)
starts_above (r ∷ rs) low apart (suc i) d h =
    let later = starts_above rs (r.end + 1) apart.2 i d (omega arith) in
    (omega (arith, apart.0, apart.1, later.0), later.1)

pub starts_rise : (rs : List (Range ℕ)) (low : ℕ) → AreApart low (plain rs) → (i j : ℕ) (d : Range ℕ) → i ≤ j → j < length rs → (get_or rs i d).start ≤ (get_or rs j d).start
starts_rise [] low apart i j d a b = absurd (omega arith)
starts_rise (r ∷ rs) low apart zero zero d a b = omega arith
starts_rise (r ∷ rs) low apart zero (suc j) d a b =
    let later = starts_above rs (r.end + 1) apart.2 j d (omega arith) in omega (arith, apart.1, later.0)
starts_rise (r ∷ rs) low apart (suc i) zero d a b = absurd (omega arith)
starts_rise (r ∷ rs) low apart (suc i) (suc j) d a b = starts_rise rs (r.end + 1) apart.2 i j d (omega arith) (omega arith)

pub ends_rise : (rs : List (Range ℕ)) (low : ℕ) → AreApart low (plain rs) → (i j : ℕ) (d : Range ℕ) → i ≤ j → j < length rs → (get_or rs i d).end ≤ (get_or rs j d).end
ends_rise [] low apart i j d a b = absurd (omega arith)
ends_rise (r ∷ rs) low apart zero zero d a b = omega arith
ends_rise (r ∷ rs) low apart zero (suc j) d a b =
    let later = starts_above rs (r.end + 1) apart.2 j d (omega arith) in omega (arith, later.0, later.1)
ends_rise (r ∷ rs) low apart (suc i) zero d a b = absurd (omega arith)
ends_rise (r ∷ rs) low apart (suc i) (suc j) d a b = ends_rise rs (r.end + 1) apart.2 i j d (omega arith) (omega arith)

module _ (rs : List (Range ℕ)) (first last from to : ℕ) (apart : AreApart 0 (plain rs)) (order : first ≤ last + 1) (from_within : from ≤ length rs) (to_within : to ≤ length rs) where
  pub near_from_points : IsPartitionPoint (λ (r : Range ℕ). nat_lt r.end first ≡ true) (λ (r : Range ℕ). nat_lt r.end first ≡ false) rs from
      → IsPartitionPoint (λ (r : Range ℕ). nat_le r.start last ≡ true) (λ (r : Range ℕ). nat_le r.start last ≡ false) rs to
      → AreNear (plain rs) first last from to
  near_from_points ends starts =
      let d : Range ℕ = record { start = 0; end = 0 } in
      let within : length (plain rs) ≡ length rs = length-plain rs in
      let ends_below : (k : ℕ) → k < from → (range_at (plain rs) k).end < first =
      λ k h. rw (plain_at rs k d (omega arith)) (ltb-true (get_or rs k d).end first (ends.0 k d (omega arith) h)) in
      let starts_after : (k : ℕ) → to ≤ k → k < length (plain rs) → last < (range_at (plain rs) k).start =
      λ k a b. rw (plain_at rs k d (omega arith)) (leb-false (get_or rs k d).start last (starts.1 k d a (omega arith))) in
      let in_order : from ≤ to = elim (cases_lt to from) [
        | inl less ↦
            let some = some_at (plain rs) to 0 apart (omega arith) in
            absurd (omega (arith, some.1, ends_below to less, starts_after to (omega arith) (omega arith)))
        | inr least ↦ least
      ] in
      record {
        order = in_order;
        bound = omega arith;
        front = front_by_ends (plain rs) from first 0 (omega arith) ends_below;
        reaches = λ h. rw (plain_at rs from d (omega arith)) (ltb-false (get_or rs from d).end first (ends.1 from d (omega arith) (omega arith)));
        begins = λ h. rw (plain_at rs (to - 1) d (omega arith)) (leb-true (get_or rs (to - 1) d).start last (starts.0 (to - 1) d (omega arith) (omega arith)));
        back = back_by_starts (plain rs) to last 0 apart starts_after;
      }
