-- Which numbers ranges that stand apart lack.
use Rattle.std.proofs.Common.{◌≡◌, ℕ, ◌+◌, ◌-◌, ◌<◌, ◌≤◌, false, List, [], ◌∷◌, length, take, drop, max, Some, sym, ap, ◌∙◌, subst, arith, slice_get}
use Rattle.std.proofs.lemmas.Bool.{or_from}
use Rattle.std.proofs.lemmas.List.{take_all}
use Rattle.std.proofs.lemmas.Option.{none-some, same_Some, slice_get_within, get_or_from_slice_get}
use Rattle.std.specs.declared.ops.Range.{Range}
use Rattle.qh_buffers.specs.Ranges.{PlainRange, is_in, has, AreApart, AreNear, IsLeast, IsGreatest, start_behind, range_at, plain}
use Rattle.qh_buffers.proofs.RangeLaws.{behind, has_cut, has_at, none_below, none_behind, apart_take, apart_drop, apart_both, some_at, behind_at}
use Rattle.qh_buffers.proofs.RangeSearch.{to_plain, plain_at, length-plain}

-- neither part of a list that is cut has the number
pub cut_lacks : (rs : List PlainRange) (i k : ℕ) → has (take i rs) k ≡ false → has (drop i rs) k ≡ false → has rs k ≡ false
cut_lacks rs i k front back = has_cut rs i k ∙ rw (front, back)

module _ (rs : List PlainRange) (n i j : ℕ) (apart : AreApart 0 rs) (near : AreNear rs n n i j) where
  pub alone_lacks : i ≡ j → has rs n ≡ false
  alone_lacks same =
      cut_lacks rs j n (none_behind (take j rs) 0 n (apart_take rs j 0 apart) (rw (← same) (omega (arith, near.front)))) (none_below (drop j rs) (n + 1) n near.back (omega arith))

  ends_at : i < j → start_behind 0 (take j rs) ≡ (range_at rs (j - 1)).end + 1
  ends_at h =
      let e : j - 1 + 1 ≡ j = omega arith in
      ap (λ (m : ℕ). start_behind 0 (take m rs)) (sym e) ∙ behind_at rs (j - 1) 0 (omega (arith, near.bound))

  pub end_lacks : i < j → has rs (max n (range_at rs (j - 1)).end) ≡ false
  end_lacks h =
      let m : ℕ = max n (range_at rs (j - 1)).end in
      cut_lacks rs j m (none_behind (take j rs) 0 m (apart_take rs j 0 apart) (omega (arith, ends_at h)))
      (none_below (drop j rs) (max (n + 1) (start_behind 0 (take j rs))) m (apart_both (drop j rs) (n + 1) (start_behind 0 (take j rs)) near.back (apart_drop rs j 0 apart)) (omega (arith, ends_at h)))

-- the first range has 0, or 0 is lacking
pub first_lacks : (rs : List (Range ℕ)) (r : Range ℕ) → AreApart 0 (plain rs) → Some r ≡ slice_get rs 0 → has (plain rs) r.end ≡ false
first_lacks [] r apart e = absurd (none-some r (sym e))
first_lacks (s ∷ ss) r apart e =
    let same : r ≡ s = same_Some r s e in
    subst (λ (t : Range ℕ). has (plain (s ∷ ss)) t.end ≡ false) (sym same)
    (or_from (is_in (to_plain s) s.end) (has (plain ss) s.end) (behind (to_plain s) s.end (omega arith)) (none_below (plain ss) (s.end + 1) s.end apart.2 (omega arith)))

pub zero_lacks : (rs : List (Range ℕ)) (r : Range ℕ) → AreApart 0 (plain rs) → Some r ≡ slice_get rs 0 → (r.start ≡ 0 → ⊥) → has (plain rs) 0 ≡ false
zero_lacks [] r apart e later = absurd (none-some r (sym e))
zero_lacks (s ∷ ss) r apart e later =
    let same : r ≡ s = same_Some r s e in
    let at = ap (λ (t : Range ℕ). t.start) same in
    none_below (plain (s ∷ ss)) 1 0 (omega (arith, later), apart.1, apart.2) (omega arith)

-- the least and the greatest number
pub least_of : (rs : List (Range ℕ)) (r : Range ℕ) → AreApart 0 (plain rs) → Some r ≡ slice_get rs 0 → IsLeast (plain rs) r.start
least_of [] r apart e = absurd (none-some r (sym e))
least_of (s ∷ ss) r apart e =
    let same : r ≡ s = same_Some r s e in
    rw same (record {
      is_there = has_at (plain (s ∷ ss)) 0 s.start (omega arith) (omega arith) apart.1;
      is_first = λ j h. none_below (plain (s ∷ ss)) s.start j (omega arith, apart.1, apart.2) h;
    })

greatest_at : (rs : List PlainRange) → AreApart 0 rs → 0 < length rs → IsGreatest rs ((range_at rs (length rs - 1)).end - 1)
greatest_at rs apart some =
    let i : ℕ = length rs - 1 in
    let last = some_at rs i 0 apart (omega arith) in
    let e : i + 1 ≡ length rs = omega arith in
    let ends : start_behind 0 rs ≡ (range_at rs i).end + 1 = ap (start_behind 0) (sym (ap (λ (n : ℕ). take n rs) e ∙ take_all (length rs) rs (omega arith))) ∙ behind_at rs i 0 (omega arith) in
    record {
      is_there = has_at rs i ((range_at rs i).end - 1) (omega arith) (omega (arith, last.1)) (omega (arith, last.1));
      is_last = λ j h. none_behind rs 0 j apart (omega (arith, ends, last.1));
    }

pub greatest_of : (rs : List (Range ℕ)) (r : Range ℕ) → AreApart 0 (plain rs) → Some r ≡ slice_get rs (length rs - 1) → (1 ≤ r.end) × IsGreatest (plain rs) (r.end - 1)
greatest_of rs r apart e =
    let i : ℕ = length rs - 1 in
    let within : i < length rs = slice_get_within rs i r (sym e) in
    let n = length-plain rs in
    let same : (range_at (plain rs) i).end ≡ r.end = ap (λ (p : PlainRange). p.end) (plain_at rs i r within) ∙ ap (λ (s : Range ℕ). s.end) (get_or_from_slice_get rs i r r (sym e)) in
    let last = some_at (plain rs) i 0 apart (omega arith) in
    (omega (arith, last.1), subst (λ (k : ℕ). IsGreatest (plain rs) (k - 1)) same (subst (λ (m : ℕ). IsGreatest (plain rs) ((range_at (plain rs) (m - 1)).end - 1)) n (greatest_at (plain rs) apart (omega arith))))
