-- The place of the first piece that is to be sent again.
use Rattle.std.proofs.Common.{◌≡◌, ℕ, ◌+◌, ◌<◌, ◌≤◌, Bool, true, false, ◌&&◌, List, [], ◌∷◌, length, map, take, get_or, refl, ap, arith, inl, inr, Some, nat_lt, nat_le}
use Prim.Native.Nat.{zero, suc}
use Rattle.std.proofs.lemmas.Bool.{cases_lt, cases_Bool, le-ltb, and_left}
use Rattle.qh_buffers.specs.declared.send_buffer.Mark.{Mark}
use Rattle.qh_buffers.specs.declared.send_buffer.Mark.TheVariants.{Sent, Queued, Acked}
use Rattle.qh_buffers.specs.declared.send_buffer.Piece.{Piece}
use Rattle.qh_buffers.specs.SendBuffer.{pieces_end, mark_in, waits}
use Rattle.qh_buffers.specs.SendState.{Rises, piece_end, is_queued_mark, first_queued, marked, mark_between}
use Rattle.qh_buffers.proofs.Pieces.{take_rises, mark_first, mark_later}

-- the place of the first queued piece, where only acknowledged marks come
still_not_queued : (x : Mark) → is_queued_mark x ≡ false → is_queued_mark (marked Acked x) ≡ false
still_not_queued Sent h = refl
still_not_queued Queued h = refl
still_not_queued Acked h = refl

not_queued_acked : (p : Piece) (from to : ℕ) → is_queued_mark p.mark ≡ false → is_queued_mark (mark_between Acked from to p).mark ≡ false
not_queued_acked p from to h = elim (cases_Bool (nat_lt from p.end && nat_le p.end to)) [
  | inl t ↦ rw t (still_not_queued p.mark h)
  | inr t ↦ rw t h
]

pub first_queued-acked : (from to : ℕ) (ps : List Piece) → first_queued ps ≤ first_queued (map (mark_between Acked from to) ps)
first_queued-acked from to [] = omega arith
first_queued-acked from to (p ∷ ps) = elim (cases_Bool (is_queued_mark p.mark)) [
  | inl t ↦ rw t (omega arith)
  | inr t ↦
      let rest = first_queued-acked from to ps in
      rw (t, not_queued_acked p from to t) (omega arith)
]

-- the same, where pieces from an offset on are queued, and n of them end before it
pub first_queued-requeued : (from to n : ℕ) (ps : List Piece) → n ≤ first_queued ps → ((j : ℕ) (d : Piece) → j < n → (get_or ps j d).end ≤ from)
    → n ≤ first_queued (map (mark_between Queued from to) ps)
first_queued-requeued from to zero ps low before = omega arith
first_queued-requeued from to (suc n) [] low before = low
first_queued-requeued from to (suc n) (p ∷ ps) low before = elim (cases_Bool (is_queued_mark p.mark)) [
  | inl t ↦ let e = rw t at low in absurd (omega arith)
  | inr t ↦
      let e : suc n ≤ suc (first_queued ps) = rw t at low in
      let first : p.end ≤ from = before 0 p (omega arith) in
      let outside : (nat_lt from p.end && nat_le p.end to) ≡ false = and_left (nat_lt from p.end) (nat_le p.end to) (le-ltb from p.end first) in
      let rest = first_queued-requeued from to n ps (omega arith) (λ j d h. before (suc j) d (omega arith)) in
      rw (outside, t) (omega arith)
]

pub first_queued_within : (ps : List Piece) → first_queued ps ≤ length ps
first_queued_within [] = omega arith
first_queued_within (p ∷ ps) = elim (cases_Bool (is_queued_mark p.mark)) [
  | inl t ↦ rw t (omega arith)
  | inr t ↦ let rest = first_queued_within ps in rw t (omega arith)
]

-- a piece at or before the first queued one is that one, or it isn't queued
pub found_queued : (ps : List Piece) (i : ℕ) (d : Piece) → i ≤ first_queued ps → i < length ps → (get_or ps i d).mark ≡ Queued → i ≡ first_queued ps
found_queued [] i d low h q = absurd (omega arith)
found_queued (p ∷ ps) zero d low h q = rw q
found_queued (p ∷ ps) (suc i) d low h q = elim (cases_Bool (is_queued_mark p.mark)) [
  | inl t ↦ let e = rw t at low in absurd (omega arith)
  | inr t ↦
      let e : suc i ≤ suc (first_queued ps) = rw t at low in
      let rest = found_queued ps i d (omega arith) (omega arith) q in
      rw t (omega arith)
]

queued_mark : (x : Mark) → is_queued_mark x ≡ true → x ≡ Queued
queued_mark Sent h = cc
queued_mark Queued h = refl
queued_mark Acked h = cc

pub passed_queued : (ps : List Piece) (i : ℕ) (d : Piece) → i ≤ first_queued ps → i < length ps → ((get_or ps i d).mark ≡ Queued → ⊥) → i + 1 ≤ first_queued ps
passed_queued [] i d low h q = absurd (omega arith)
passed_queued (p ∷ ps) zero d low h q = elim (cases_Bool (is_queued_mark p.mark)) [
  | inl t ↦ absurd (q (queued_mark p.mark t))
  | inr t ↦ rw t (omega arith)
]
passed_queued (p ∷ ps) (suc i) d low h q = elim (cases_Bool (is_queued_mark p.mark)) [
  | inl t ↦ let e = rw t at low in absurd (omega arith)
  | inr t ↦
      let e : suc i ≤ suc (first_queued ps) = rw t at low in
      let rest = passed_queued ps i d (omega arith) (omega arith) q in
      rw t (omega arith)
]

-- no byte before the first queued piece waits
not_waiting : (x : Mark) (t : Bool) → is_queued_mark x ≡ false → waits (Some x) t ≡ false
not_waiting Sent t h = refl
not_waiting Queued t h = h
not_waiting Acked t h = refl

pub none_waits : (ps : List Piece) (a i k : ℕ) (t : Bool) → i ≤ first_queued ps → a ≤ k → k < pieces_end a (take i ps) → waits (mark_in ps k) t ≡ false
none_waits ps a zero k t low above below = absurd (omega arith)
none_waits [] a (suc i) k t low above below = absurd (omega arith)
none_waits (p ∷ ps) a (suc i) k t low above below = elim (cases_Bool (is_queued_mark p.mark)) [
  | inl q ↦ let e = rw q at low in absurd (omega arith)
  | inr q ↦
      let e : suc i ≤ suc (first_queued ps) = rw q at low in
      elim (cases_lt k p.end) [
        | inl first ↦ rw (mark_first p ps k first) (not_waiting p.mark t q)
        | inr later ↦ rw (mark_later p ps k later) (none_waits ps p.end i k t (omega arith) later below)
      ]
]

-- each byte of the first queued piece is queued
pub first_is_queued : (ps : List Piece) (a k : ℕ) (d : Piece) → Rises piece_end a ps → first_queued ps < length ps
    → pieces_end a (take (first_queued ps) ps) ≤ k → k < (get_or ps (first_queued ps) d).end → mark_in ps k ≡ Some Queued
first_is_queued [] a k d rises some low high = absurd (omega arith)
first_is_queued (p ∷ ps) a k d rises some low high = elim (cases_Bool (is_queued_mark p.mark)) [
  | inl q ↦
      let e : k < p.end = rw q at high in
      rw (mark_first p ps k e) (ap (λ (x : Mark). Some x) (queued_mark p.mark q))
  | inr q ↦
      let m : suc (first_queued ps) < suc (length ps) = rw q at some in
      let l : pieces_end p.end (take (first_queued ps) ps) ≤ k = rw q at low in
      let h : k < (get_or ps (first_queued ps) d).end = rw q at high in
      let above = take_rises ps p.end (first_queued ps) rises.1 in
      rw (mark_later p ps k (omega arith)) (first_is_queued ps p.end k d rises.1 (omega arith) l h)
]
