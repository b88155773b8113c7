-- What joining a range with those near it gives, and what taking one out leaves.
use Rattle.std.proofs.Common.{◌≡◌, ℕ, zero, suc, ◌+◌, ◌-◌, ◌<◌, ◌≤◌, Bool, true, false, not, ◌&&◌, ◌||◌, List, [], ◌∷◌, ◌++◌, length, take, drop, get_or, min, max, add-one, if◌then◌else◌, refl, sym, ap, ◌∙◌, subst, arith, inl, inr, nat_lt, nat_le}
use Rattle.std.proofs.lemmas.Bool.{cases_lt, le-leb, lt-ltb, le-ltb, or_left, or_right}
use Rattle.std.proofs.lemmas.List.{map-append, take-map, drop-map}
use Rattle.std.proofs.lemmas.List.Folds.{list_any_more}
use Rattle.std.specs.List.{insert}
use Rattle.std.specs.declared.ops.Range.{Range}
use Rattle.qh_buffers.specs.Ranges.{PlainRange, is_in, has, AreApart, AreNear, start_behind, range_at, plain, kept, IsAdded, IsTakenOut}
use Rattle.qh_buffers.proofs.RangeSearch.{to_plain, length-plain, read_plain}
use Rattle.qh_buffers.proofs.RangeLaws.{inside, before, behind, has-append, has_cut, has_at, none_below, none_behind, apart_take, apart_drop, apart_join, apart_lower, apart_both, behind_at, front_at, apart_at}

or_none : (b : Bool) → (b || false) ≡ b
or_none true = refl
or_none false = refl

or_swap : (a b c : Bool) → (a || (b || c)) ≡ (b || (a || c))
or_swap true true c = refl
or_swap true false c = refl
or_swap false b c = refl

-- a list with one range in the middle, where only one part may have the number
module _ (front back : List PlainRange) (m : PlainRange) (k : ℕ) where
  only_front : is_in m k ≡ false → has back k ≡ false → has (front ++ m ∷ back) k ≡ has front k
  only_front out none =
      has-append front (m ∷ back) k ∙ ap (λ (b : Bool). has front k || b) (rw (out, none)) ∙ or_none (has front k)

  only_back : has front k ≡ false → is_in m k ≡ false → has (front ++ m ∷ back) k ≡ has back k
  only_back none out = has-append front (m ∷ back) k ∙ rw (none, out)

  in_middle : is_in m k ≡ true → has (front ++ m ∷ back) k ≡ true
  in_middle in' = has-append front (m ∷ back) k ∙ or_right (has front k) (is_in m k || has back k) (or_left (is_in m k) (has back k) in')

module _ (rs : List PlainRange) (r : PlainRange) (from to : ℕ) (some : r.start < r.end) (apart : AreApart 0 rs) (near : AreNear rs r.start r.end from to) where
  -- nothing is near
  alone_apart : from ≡ to → AreApart 0 (take from rs ++ r ∷ drop to rs)
  alone_apart same = apart_join (take from rs) (r ∷ drop to rs) 0 (apart_take rs from 0 apart) (near.front, some, near.back)

  alone_has : from ≡ to → (k : ℕ) → has (take from rs ++ r ∷ drop to rs) k ≡ (is_in r k || has rs k)
  alone_has same k =
      has-append (take from rs) (r ∷ drop to rs) k
      ∙ or_swap (has (take from rs) k) (is_in r k) (has (drop to rs) k)
      ∙ ap (λ (b : Bool). is_in r k || b) (ap (λ (i : ℕ). has (take from rs) k || has (drop i rs) k) (sym same) ∙ sym (has_cut rs from k))

  pub alone_added : from ≡ to → IsAdded rs (take from rs ++ r ∷ drop from rs) r
  alone_added same =
      subst (λ (n : ℕ). IsAdded rs (take from rs ++ r ∷ drop n rs) r) (sym same) (record { apart = alone_apart same; numbers = alone_has same })

  abbrev pub joined : PlainRange
  joined = record { start = min r.start (range_at rs from).start; end = max r.end (range_at rs (to - 1)).end }

  ends_at : from < to → start_behind 0 (take to rs) ≡ (range_at rs (to - 1)).end + 1
  ends_at h =
      let e : to - 1 + 1 ≡ to = omega arith in
      ap (λ (i : ℕ). start_behind 0 (take i rs)) (sym e) ∙ behind_at rs (to - 1) 0 (omega (arith, near.bound))

  joined_apart : from < to → AreApart 0 (take from rs ++ joined ∷ drop to rs)
  joined_apart h =
      let low : start_behind 0 (take from rs) ≤ joined.start = omega (arith, near.front, front_at rs from 0 apart (omega (arith, near.bound))) in
      let e : max (r.end + 1) (start_behind 0 (take to rs)) ≡ joined.end + 1 = omega (arith, ends_at h) in
      apart_join (take from rs) (joined ∷ drop to rs) 0 (apart_take rs from 0 apart)
      (low, omega (arith, some), subst (λ (n : ℕ). AreApart n (drop to rs)) e (apart_both (drop to rs) (r.end + 1) (start_behind 0 (take to rs)) near.back (apart_drop rs to 0 apart)))

  covered : from < to → (k : ℕ) → joined.start ≤ k → k < joined.end → (is_in r k || has rs k) ≡ true
  covered h k above under =
      elim (cases_lt k r.start) [
        | inl low ↦ or_right (is_in r k) (has rs k) (has_at rs from k (omega (arith, near.bound)) (omega arith) (omega (arith, near.reaches h)))
        | inr at ↦ elim (cases_lt k r.end) [
          | inl within ↦ or_left (is_in r k) (has rs k) (inside r k at within)
          | inr past ↦ or_right (is_in r k) (has rs k) (has_at rs (to - 1) k (omega (arith, near.bound)) (omega (arith, near.begins h)) (omega arith))
        ]
      ]

  joined_has : from < to → (k : ℕ) → has (take from rs ++ joined ∷ drop to rs) k ≡ (is_in r k || has rs k)
  joined_has h k =
      elim (cases_lt k joined.start) [
        | inl low ↦
            only_front (take from rs) (drop to rs) joined k (before joined k low) (none_below (drop to rs) (r.end + 1) k near.back (omega (arith, some)))
            ∙ sym (rw (before r k (omega arith), has_cut rs from k, none_below (drop from rs) (range_at rs from).start k (apart_at rs from 0 apart (omega (arith, near.bound))) (omega arith)) (or_none (has (take from rs) k)))
        | inr above ↦ elim (cases_lt k joined.end) [
          | inl under ↦ in_middle (take from rs) (drop to rs) joined k (inside joined k above under) ∙ sym (covered h k above under)
          | inr past ↦
              only_back (take from rs) (drop to rs) joined k (none_behind (take from rs) 0 k (apart_take rs from 0 apart) (omega (arith, near.front, some))) (behind joined k past)
              ∙ sym (rw (behind r k (omega arith), has_cut rs to k, none_behind (take to rs) 0 k (apart_take rs to 0 apart) (omega (arith, ends_at h))))
        ]
      ]

  pub joined_added : from < to → IsAdded rs (take from rs ++ joined ∷ drop to rs) r
  joined_added h = record { apart = joined_apart h; numbers = joined_has h }

-- what is kept of a range that may be empty
abbrev pub kept_plain : PlainRange → List PlainRange
kept_plain r = if nat_lt r.start r.end then r ∷ [] else []

has-kept : (r : PlainRange) (k : ℕ) → has (kept_plain r) k ≡ is_in r k
has-kept r k =
    elim (cases_lt r.start r.end) [
      | inl some ↦ rw (lt-ltb r.start r.end some) (or_none (is_in r k))
      | inr none ↦ elim (cases_lt k r.start) [
        | inl low ↦ rw (le-ltb r.start r.end none) (sym (before r k low))
        | inr above ↦ rw (le-ltb r.start r.end none) (sym (behind r k (omega arith)))
      ]
    ]

kept_apart : (r : PlainRange) (rs : List PlainRange) (low : ℕ) → (r.start < r.end → low ≤ r.start) → (r.start < r.end → AreApart (r.end + 1) rs) → (r.end ≤ r.start → AreApart low rs) → AreApart low (kept_plain r ++ rs)
kept_apart r rs low start rest none =
    elim (cases_lt r.start r.end) [
      | inl some ↦ rw (lt-ltb r.start r.end some) (start some, some, rest some)
      | inr empty ↦ rw (le-ltb r.start r.end empty) (none empty)
    ]

module _ (rs : List PlainRange) (r : PlainRange) (from to : ℕ) (some : r.start < r.end) (apart : AreApart 0 rs) (near : AreNear rs (r.start + 1) (r.end - 1) from to) where
  back_apart : AreApart r.end (drop to rs)
  back_apart = let e : r.end - 1 + 1 ≡ r.end = omega arith in subst (λ (n : ℕ). AreApart n (drop to rs)) e near.back

  -- nothing is near
  far_has : from ≡ to → (k : ℕ) → has rs k ≡ (not (is_in r k) && has rs k)
  far_has same k =
      elim (cases_lt k r.start) [
        | inl low ↦ rw (before r k low)
        | inr above ↦ elim (cases_lt k r.end) [
          | inl under ↦
              let front : has (take from rs) k ≡ false = none_behind (take from rs) 0 k (apart_take rs from 0 apart) (omega (arith, near.front)) in
              let back : has (drop from rs) k ≡ false = rw same (none_below (drop to rs) r.end k back_apart under) in
              rw (inside r k above under) (has_cut rs from k ∙ rw (front, back))
          | inr past ↦ rw (behind r k past)
        ]
      ]

  pub far_out : from ≡ to → IsTakenOut rs rs r
  far_out same = record { apart = apart; numbers = far_has same }

  abbrev pub left : PlainRange
  left = record { start = (range_at rs from).start; end = r.start }

  abbrev pub right : PlainRange
  right = record { start = r.end; end = (range_at rs (to - 1)).end }

  abbrev pub rest : List PlainRange
  rest = take from rs ++ (kept_plain left ++ (kept_plain right ++ drop to rs))

  ends_at' : from < to → start_behind 0 (take to rs) ≡ (range_at rs (to - 1)).end + 1
  ends_at' h =
      let e : to - 1 + 1 ≡ to = omega arith in
      ap (λ (i : ℕ). start_behind 0 (take i rs)) (sym e) ∙ behind_at rs (to - 1) 0 (omega (arith, near.bound))

  right_apart : from < to → (low : ℕ) → low ≤ r.end → AreApart low (kept_plain right ++ drop to rs)
  right_apart h low under =
      kept_apart right (drop to rs) low (λ _. under)
      (λ _. subst (λ (n : ℕ). AreApart n (drop to rs)) (ends_at' h) (apart_drop rs to 0 apart))
      (λ _. apart_lower (drop to rs) low r.end under back_apart)

  rest_apart : from < to → AreApart 0 rest
  rest_apart h =
      apart_join (take from rs) (kept_plain left ++ (kept_plain right ++ drop to rs)) 0 (apart_take rs from 0 apart)
      (kept_apart left (kept_plain right ++ drop to rs) (start_behind 0 (take from rs))
      (λ _. front_at rs from 0 apart (omega (arith, near.bound)))
      (λ _. right_apart h (r.start + 1) (omega arith))
      (λ _. right_apart h (start_behind 0 (take from rs)) (omega (arith, near.front))))

  rest_parts : (k : ℕ) → has rest k ≡ (has (take from rs) k || (is_in left k || (is_in right k || has (drop to rs) k)))
  rest_parts k =
      has-append (take from rs) (kept_plain left ++ (kept_plain right ++ drop to rs)) k
      ∙ ap (λ (b : Bool). has (take from rs) k || b)
      (has-append (kept_plain left) (kept_plain right ++ drop to rs) k
      ∙ ap (λ (b : Bool). b || has (kept_plain right ++ drop to rs) k) (has-kept left k)
      ∙ ap (λ (b : Bool). is_in left k || b) (has-append (kept_plain right) (drop to rs) k ∙ ap (λ (b : Bool). b || has (drop to rs) k) (has-kept right k)))

  -- one more range in front
  taken_at : (i k : ℕ) → i < length rs → has (take (i + 1) rs) k ≡ (has (take i rs) k || is_in (range_at rs i) k)
  taken_at i k h = list_any_more (λ (s : PlainRange). is_in s k) rs i (record { start = 0; end = 0 }) h

  rest_low : from < to → (k : ℕ) → k < r.start → has rest k ≡ has rs k
  rest_low h k low =
      let a : PlainRange = range_at rs from in
      let within : from < length rs = omega (arith, near.bound) in
      let same : is_in left k ≡ is_in a k = ap (λ (b : Bool). nat_le a.start k && b) (lt-ltb k r.start low ∙ sym (lt-ltb k a.end (omega (arith, near.reaches h)))) in
      let cut : has rs k ≡ (has (take (from + 1) rs) k || has (drop (from + 1) rs) k) = has_cut rs (from + 1) k in
      let later : has (drop (from + 1) rs) k ≡ false =
      none_below (drop (from + 1) rs) (start_behind 0 (take (from + 1) rs)) k (apart_drop rs (from + 1) 0 apart) (omega (arith, behind_at rs from 0 within, near.reaches h)) in
      rest_parts k
      ∙ rw (before right k (omega arith), none_below (drop to rs) r.end k back_apart (omega arith)) (ap (λ (b : Bool). has (take from rs) k || b) (or_none (is_in left k) ∙ same))
      ∙ sym (cut ∙ rw later (or_none (has (take (from + 1) rs) k)) ∙ taken_at from k within)

  rest_high : from < to → (k : ℕ) → r.end ≤ k → has rest k ≡ has rs k
  rest_high h k above =
      let b : PlainRange = range_at rs (to - 1) in
      let within : to - 1 < length rs = omega (arith, near.bound) in
      let e : to - 1 + 1 ≡ to = omega arith in
      let same : is_in right k ≡ is_in b k = ap (λ (t : Bool). t && nat_lt k b.end) (le-leb r.end k above ∙ sym (le-leb b.start k (omega (arith, near.begins h)))) in
      let taken : has (take to rs) k ≡ (has (take (to - 1) rs) k || is_in b k) = ap (λ (i : ℕ). has (take i rs) k) (sym e) ∙ taken_at (to - 1) k within in
      let earlier : has (take (to - 1) rs) k ≡ false =
      none_behind (take (to - 1) rs) 0 k (apart_take rs (to - 1) 0 apart) (omega (arith, front_at rs (to - 1) 0 apart within, near.begins h)) in
      let front : has (take from rs) k ≡ false = none_behind (take from rs) 0 k (apart_take rs from 0 apart) (omega (arith, near.front)) in
      let whole : has rs k ≡ (is_in b k || has (drop to rs) k) = has_cut rs to k ∙ ap (λ (t : Bool). t || has (drop to rs) k) (taken ∙ ap (λ (t : Bool). t || is_in b k) earlier) in
      rest_parts k
      ∙ rw (front, behind left k (omega arith)) (ap (λ (t : Bool). t || has (drop to rs) k) same)
      ∙ sym whole

  rest_has : from < to → (k : ℕ) → has rest k ≡ (not (is_in r k) && has rs k)
  rest_has h k =
      elim (cases_lt k r.start) [
        | inl low ↦ rest_low h k low ∙ rw (before r k low)
        | inr above ↦ elim (cases_lt k r.end) [
          | inl under ↦
              let front : has (take from rs) k ≡ false = none_behind (take from rs) 0 k (apart_take rs from 0 apart) (omega (arith, near.front)) in
              rest_parts k
              ∙ rw (front, behind left k above, before right k under, none_below (drop to rs) r.end k back_apart under, inside r k above under)
          | inr past ↦ rest_high h k past ∙ rw (behind r k past)
        ]
      ]

  pub rest_out : from < to → IsTakenOut rs rest r
  rest_out h = record { apart = rest_apart h; numbers = rest_has h }

-- the plain list of an edited one
pub plain-put : (rs : List (Range ℕ)) (m : Range ℕ) (i j : ℕ) → plain (take i rs ++ m ∷ drop j rs) ≡ take i (plain rs) ++ to_plain m ∷ drop j (plain rs)
plain-put rs m i j =
    map-append to_plain (take i rs) (m ∷ drop j rs) ∙ rw (← take-map to_plain i rs, ← drop-map to_plain j rs)

plain-kept : (r : Range ℕ) → plain (kept r) ≡ kept_plain (to_plain r)
plain-kept r =
    elim (cases_lt r.start r.end) [
      | inl some ↦ rw (lt-ltb r.start r.end some)
      | inr none ↦ rw (le-ltb r.start r.end none)
    ]

pub plain-rest : (rs : List (Range ℕ)) (front back : Range ℕ) (i j : ℕ) → plain (take i rs ++ (kept front ++ (kept back ++ drop j rs)))
    ≡ take i (plain rs) ++ (kept_plain (to_plain front) ++ (kept_plain (to_plain back) ++ drop j (plain rs)))
plain-rest rs front back i j =
    map-append to_plain (take i rs) (kept front ++ (kept back ++ drop j rs))
    ∙ rw (map-append to_plain (kept front) (kept back ++ drop j rs), map-append to_plain (kept back) (drop j rs))
    (rw (plain-kept front, plain-kept back, ← take-map to_plain i rs, ← drop-map to_plain j rs))

in_steps : {X : Type 0} (rs : List X) (front back : X) (i j : ℕ) → i ≤ j → j ≤ length rs
    → take (suc i) (insert rs i front) ++ back ∷ drop (suc j) (insert rs i front) ≡ take i rs ++ front ∷ back ∷ drop j rs
in_steps [] front back zero j order within = refl
in_steps [] front back (suc i) j order within = absurd (omega arith)
in_steps (r ∷ rs) front back zero j order within = refl
in_steps (r ∷ rs) front back (suc i) zero order within = absurd (omega arith)
in_steps (r ∷ rs) front back (suc i) (suc j) order within = ap (λ l. r ∷ l) (in_steps rs front back i j (omega arith) (omega arith))

-- a list with two elements in the place of some, made in two steps
pub insert_then_put : {X : Type 0} (rs : List X) (front back : X) (i j : ℕ) → i ≤ j → j ≤ length rs
    → take (i + 1) (insert rs i front) ++ back ∷ drop (j + 1) (insert rs i front) ≡ take i rs ++ front ∷ back ∷ drop j rs
insert_then_put rs front back i j order within = rw (add-one, add-one) (in_steps rs front back i j order within)

-- the same edits of the program's list
module _ (rs : List (Range ℕ)) (r : PlainRange) (i j : ℕ) (some : r.start < r.end) (apart : AreApart 0 (plain rs)) where
  pub alone_in : (m : Range ℕ) → AreNear (plain rs) r.start r.end i j → i ≡ j → r ≡ to_plain m → IsAdded (plain rs) (plain (insert rs i m)) r
  alone_in m near same e =
      rw (plain-put rs m i i) (subst (λ (p : PlainRange). IsAdded (plain rs) (take i (plain rs) ++ p ∷ drop i (plain rs)) r) e (alone_added (plain rs) r i j some apart near same))

  pub joined_in : (m x y : Range ℕ) → AreNear (plain rs) r.start r.end i j → i < j → x ≡ get_or rs i x → y ≡ get_or rs (j - 1) y
      → m.start ≡ min r.start x.start → m.end ≡ max r.end y.end → IsAdded (plain rs) (plain (take i rs ++ m ∷ drop j rs)) r
  joined_in m x y near h first last start_is end_is =
      let n = length-plain rs in
      let x_is : to_plain x ≡ range_at (plain rs) i = read_plain rs i x (omega (arith, near.bound)) first in
      let y_is : to_plain y ≡ range_at (plain rs) (j - 1) = read_plain rs (j - 1) y (omega (arith, near.bound)) last in
      let e : joined (plain rs) r i j some apart near ≡ to_plain m =
      rw (← x_is, ← y_is) (sym (ap (λ (k : ℕ). let p : PlainRange = record { start = k; end = m.end } in p) start_is ∙ ap (λ (k : ℕ). let p : PlainRange = record { start = min r.start x.start; end = k } in p) end_is)) in
      rw (plain-put rs m i j) (subst (λ (p : PlainRange). IsAdded (plain rs) (take i (plain rs) ++ p ∷ drop j (plain rs)) r) e (joined_added (plain rs) r i j some apart near h))

  pub rest_in : (x y : Range ℕ) → AreNear (plain rs) (r.start + 1) (r.end - 1) i j → i < j → x ≡ get_or rs i x → y ≡ get_or rs (j - 1) y
      → (front back : Range ℕ) → front ≡ record { start = x.start; end = r.start } → back ≡ record { start = r.end; end = y.end }
      → IsTakenOut (plain rs) (plain (take i rs ++ (kept front ++ (kept back ++ drop j rs)))) r
  rest_in x y near h first last front back front_is back_is =
      let n = length-plain rs in
      let x_is : to_plain x ≡ range_at (plain rs) i = read_plain rs i x (omega (arith, near.bound)) first in
      let y_is : to_plain y ≡ range_at (plain rs) (j - 1) = read_plain rs (j - 1) y (omega (arith, near.bound)) last in
      let l : left (plain rs) r i j some apart near ≡ to_plain front = rw (← x_is, front_is) in
      let t : right (plain rs) r i j some apart near ≡ to_plain back = rw (← y_is, back_is) in
      let both : List PlainRange → PlainRange → PlainRange → List PlainRange = λ ps p q. take i ps ++ (kept_plain p ++ (kept_plain q ++ drop j ps)) in
      rw (plain-rest rs front back i j)
      (subst (λ (p : PlainRange). IsTakenOut (plain rs) (both (plain rs) p (to_plain back)) r) l
      (subst (λ (q : PlainRange). IsTakenOut (plain rs) (both (plain rs) (left (plain rs) r i j some apart near) q) r) t (rest_out (plain rs) r i j some apart near h)))
