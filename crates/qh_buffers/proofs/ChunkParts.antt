-- Parts of a piece, and which of them are missing.
use Rattle.std.proofs.Common.{◌≡◌, ℕ, ◌+◌, ◌-◌, ◌<◌, ◌≤◌, ◌^◌, Bool, true, false, ◌||◌, List, [], ◌∷◌, ◌++◌, get_or, Option, Some, None, slice_range, if◌then◌else◌, refl, sym, ap, ◌∙◌, arith, inl, inr, nat_lt}
use Rattle.std.proofs.lemmas.Bool.{cases_lt, lt-ltb, le-ltb, or_left, or_right, or_from}
use Rattle.std.proofs.lemmas.List.Edits.{length-between, get_or-between}
use Rattle.qh_buffers.specs.declared.assembler.Chunk.{Chunk}
use Rattle.qh_buffers.specs.Ranges.{PlainRange, has, IsNextGap}
use Rattle.qh_buffers.specs.Assembler.{byte_of, byte_in, or_byte, end_of, waits_in, end_behind, part, missing_byte, AreInOrder, AreMissing}
use Rattle.qh_buffers.proofs.ChunkLaws.{inside, before, behind, or_none, in-append, none_behind, order_join}

-- a piece cut to the offsets between two
cut : Chunk → ℕ → ℕ → Chunk
cut c a b = record { offset = a; bytes = slice_range c.bytes (a - c.offset) (b - c.offset) }

cut_end : (c : Chunk) (a b : ℕ) → c.offset ≤ a → a ≤ b → b ≤ end_of c → end_of (cut c a b) ≡ b
unfolding cut
cut_end c a b low order high = omega (arith, length-between c.bytes (a - c.offset) (b - c.offset) (omega arith))

module _ (c : Chunk) (a b : ℕ) (low : c.offset ≤ a) (high : b ≤ end_of c) where
  pub part_inside : (k : ℕ) → a ≤ k → k < b → byte_in (part a b c) k ≡ byte_of c k
  unfolding cut
  part_inside k above below =
      let t : nat_lt a b ≡ true = lt-ltb a b (omega arith) in
      let at : (a - c.offset) + (k - a) ≡ k - c.offset = omega arith in
      let ends = cut_end c a b low (omega arith) high in
      rw t (or_none (byte_of (cut c a b) k)
      ∙ inside (cut c a b) k above (omega arith)
      ∙ ap (λ (x : ℕ). Some x) (get_or-between c.bytes (a - c.offset) (b - c.offset) (k - a) 0 (omega arith) ∙ ap (λ (i : ℕ). get_or c.bytes i 0) at)
      ∙ sym (inside c k (omega arith) (omega arith)))

  pub part_below : (k : ℕ) → k < a → byte_in (part a b c) k ≡ None
  unfolding cut
  part_below k below =
      elim (cases_lt a b) [
        | inl some ↦
            let t : nat_lt a b ≡ true = lt-ltb a b some in
            rw t (or_none (byte_of (cut c a b) k) ∙ before (cut c a b) k below)
        | inr none ↦ let t : nat_lt a b ≡ false = le-ltb a b none in rw t
      ]

  pub part_order : (from : ℕ) → from ≤ a → end_of c < 2 ^ 62 → AreInOrder from (part a b c)
  unfolding cut
  part_order from above fits =
      elim (cases_lt a b) [
        | inl some ↦
            let t : nat_lt a b ≡ true = lt-ltb a b some in
            let ends = cut_end c a b low (omega arith) high in
            rw t (above, omega arith, omega arith, tt)
        | inr none ↦ let t : nat_lt a b ≡ false = le-ltb a b none in rw t tt
      ]

  pub part_end : (from : ℕ) → from ≤ b → end_behind from (part a b c) ≤ b
  unfolding cut
  part_end from above =
      elim (cases_lt a b) [
        | inl some ↦
            let t : nat_lt a b ≡ true = lt-ltb a b some in
            let ends = cut_end c a b low (omega arith) high in
            rw t (omega arith)
        | inr none ↦ let t : nat_lt a b ≡ false = le-ltb a b none in rw t above
      ]

pub end-append : (cs ds : List Chunk) (low : ℕ) → end_behind low (cs ++ ds) ≡ end_behind (end_behind low cs) ds
end-append [] ds low = refl
end-append (c ∷ cs) ds low = end-append cs ds (end_of c)

-- the parts of a new piece up to an offset that are missing
pub record AreMissingTo (given : List PlainRange) (cs : List Chunk) (new : Chunk) (at : ℕ) (parts : List Chunk) : Type 0 where
  pub low : new.offset ≤ at
  pub high : at ≤ end_of new
  pub in_order : AreInOrder 0 parts
  pub ends : end_behind 0 parts ≤ at
  pub bytes_are : (k : ℕ) → k < at → byte_in parts k ≡ missing_byte given cs new k

module _ (given : List PlainRange) (cs : List Chunk) (new : Chunk) (fits : end_of new < 2 ^ 62) where
  both : (t : Bool) (o : Option ℕ) → o ≡ None → (if t then None else o) ≡ None
  both true o h = refl
  both false o h = h

  pub missing_none : (k : ℕ) → byte_of new k ≡ None → missing_byte given cs new k ≡ None
  missing_none k none = both (has given k || waits_in cs k) (byte_of new k) none

  pub missing_all : (at : ℕ) (parts : List Chunk) → AreMissingTo given cs new at parts → end_of new ≤ at → AreMissing given cs new parts
  missing_all at parts so_far done = record {
    in_order = so_far.in_order;
    bytes_are = λ k. elim (cases_lt k at) [
      | inl below ↦ so_far.bytes_are k below
      | inr past ↦ none_behind parts 0 k so_far.in_order (omega (arith, so_far.ends)) ∙ sym (missing_none k (behind new k (omega arith)))
    ];
  }

  had : (k : ℕ) → (has given k || waits_in cs k) ≡ true → missing_byte given cs new k ≡ None
  had k h = rw h

  pub fresh : (k : ℕ) → has given k ≡ false → waits_in cs k ≡ false → missing_byte given cs new k ≡ byte_of new k
  fresh k a b = rw (or_from (has given k) (waits_in cs k) a b)

  pub missing_more : (at s1 e1 s2 e2 : ℕ) (parts : List Chunk) → AreMissingTo given cs new at parts → IsNextGap (has given) at (end_of new) s1 e1 → IsNextGap (waits_in cs) s1 e1 s2 e2
      → AreMissingTo given cs new e2 (parts ++ part s2 e2 new)
  missing_more at s1 e1 s2 e2 parts so_far outer inner =
      let start : new.offset ≤ s2 = omega (arith, so_far.low, outer.above, inner.above) in
      let end : e2 ≤ end_of new = omega (arith, outer.below, inner.below) in
      let front : at ≤ s2 = omega (arith, outer.above, inner.above) in
      let later : (k : ℕ) → at ≤ k → k < e2 → byte_in (part s2 e2 new) k ≡ missing_byte given cs new k = λ k above under. elim (cases_lt k s1) [
        | inl first ↦
            part_below new s2 e2 start end k (omega (arith, inner.above))
            ∙ sym (had k (or_left (has given k) (waits_in cs k) (outer.full k above first)))
        | inr behind_first ↦ elim (cases_lt k s2) [
          | inl second ↦
              part_below new s2 e2 start end k second
              ∙ sym (had k (or_right (has given k) (waits_in cs k) (inner.full k behind_first second)))
          | inr within ↦
              part_inside new s2 e2 start end k within under
              ∙ sym (fresh k (outer.free k behind_first (omega (arith, inner.below))) (inner.free k within under))
        ]
      ] in
      record {
        low = omega (arith, inner.order);
        high = end;
        in_order = order_join parts (part s2 e2 new) 0 so_far.in_order (part_order new s2 e2 start end (end_behind 0 parts) (omega (arith, so_far.ends)) fits);
        ends = rw (end-append parts (part s2 e2 new) 0) (part_end new s2 e2 start end (end_behind 0 parts) (omega (arith, so_far.ends, inner.order)));
        bytes_are = λ k under. in-append parts (part s2 e2 new) k ∙ elim (cases_lt k at) [
          | inl old ↦ ap (λ (o : Option ℕ). or_byte (byte_in parts k) o) (part_below new s2 e2 start end k (omega arith)) ∙ or_none (byte_in parts k) ∙ so_far.bytes_are k old
          | inr above ↦ ap (λ (o : Option ℕ). or_byte o (byte_in (part s2 e2 new) k)) (none_behind parts 0 k so_far.in_order (omega (arith, so_far.ends))) ∙ later k above under
        ];
      }
