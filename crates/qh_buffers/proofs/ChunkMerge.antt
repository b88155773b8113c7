-- What putting parts among pieces gives, where no byte waits in both.
use Rattle.std.proofs.Common.{◌≡◌, ◌⊎◌, ℕ, ◌<◌, ◌≤◌, ◌^◌, false, List, [], ◌∷◌, ◌++◌, length, Option, None, is_some, sym, ap, ◌∙◌, arith, inl, inr}
use Rattle.std.proofs.lemmas.Bool.{cases_lt, or_right}
use Rattle.qh_buffers.specs.declared.assembler.Chunk.{Chunk}
use Rattle.qh_buffers.specs.Ranges.{PlainRange, has}
use Rattle.qh_buffers.specs.Assembler.{byte_of, byte_in, or_byte, end_of, waits_in, end_behind, AreInOrder, AreExclusive, AreMerged, IsAmong}
use Rattle.qh_buffers.proofs.ChunkLaws.{before, behind, or_none, or_assoc, in-append, waits-append, none_below, none_behind, order_front, order_rest, order_join, order_lower}
use Rattle.qh_buffers.proofs.ChunkParts.{missing_none, fresh}
use Rattle.qh_buffers.proofs.StoredPieces.{waits_not}

-- while the parts are put among the pieces, from the first on
pub record AreMergedTo (old parts cs rest : List Chunk) : Type 0 where
  pub in_order : AreInOrder 0 cs
  pub rest_in_order : AreInOrder 0 rest
  pub exclusive : AreExclusive cs rest
  pub bytes_are : (k : ℕ) → or_byte (byte_in cs k) (byte_in rest k) ≡ or_byte (byte_in old k) (byte_in parts k)

module _ (old parts cs xs rest : List Chunk) (so_far : AreMergedTo old parts cs (xs ++ rest)) where
  -- where the rest has a byte the first parts have none
  one_of : (k : ℕ) → (byte_in rest k ≡ None) ⊎ (byte_in xs k ≡ None)
  one_of k =
      elim (cases_lt k (end_behind 0 xs)) [
        | inl below ↦ inl (none_below rest (end_behind 0 xs) k (order_rest xs rest 0 so_far.rest_in_order) below)
        | inr past ↦ inr (none_behind xs 0 k (order_front xs rest 0 so_far.rest_in_order) past)
      ]

  pub merged_more : (cs' : List Chunk) → AreMerged cs cs' xs → AreMergedTo old parts cs' rest
  merged_more cs' put = record {
    in_order = put.in_order;
    rest_in_order = order_lower rest 0 (end_behind 0 xs) (omega arith) (order_rest xs rest 0 so_far.rest_in_order);
    exclusive = λ k h.
        let none : byte_in cs k ≡ None = so_far.exclusive k (waits-append xs rest k ∙ or_right (waits_in xs k) (waits_in rest k) h) in
        elim (one_of k) [
          | inl lacks ↦ absurd (waits_not rest k h lacks)
          | inr lacks ↦ put.bytes_are k ∙ rw (none, lacks)
        ];
    bytes_are = λ k.
        ap (λ (o : Option ℕ). or_byte o (byte_in rest k)) (put.bytes_are k)
        ∙ or_assoc (byte_in cs k) (byte_in xs k) (byte_in rest k)
        ∙ ap (or_byte (byte_in cs k)) (sym (in-append xs rest k))
        ∙ so_far.bytes_are k;
  }

-- a piece behind all that waits
pub behind_exclusive : (cs : List Chunk) (new : Chunk) → AreInOrder 0 cs → end_behind 0 cs ≤ new.offset → AreExclusive cs (new ∷ [])
behind_exclusive cs new order ends k h =
    elim (cases_lt k new.offset) [
      | inl below ↦ absurd (waits_not (new ∷ []) k h (rw (before new k below)))
      | inr above ↦ none_behind cs 0 k order (omega arith)
    ]

-- a piece behind all that was given and all that waits
pub behind_among : (given : List PlainRange) (cs : List Chunk) (new : Chunk) → AreInOrder 0 cs → 0 < length new.bytes → end_of new < 2 ^ 62 → ((k : ℕ) → new.offset ≤ k → has given k ≡ false) → end_behind 0 cs ≤ new.offset
    → IsAmong given cs new (cs ++ new ∷ [])
behind_among given cs new order some fits lacks ends = record {
  in_order = order_join cs (new ∷ []) 0 order (ends, some, fits, tt);
  bytes_are = λ k. in-append cs (new ∷ []) k ∙ ap (or_byte (byte_in cs k)) (elim (cases_lt k new.offset) [
    | inl below ↦ or_none (byte_of new k) ∙ before new k below ∙ sym (missing_none given cs new fits k (before new k below))
    | inr above ↦
        let none : byte_in cs k ≡ None = none_behind cs 0 k order (omega arith) in
        or_none (byte_of new k) ∙ sym (fresh given cs new fits k (lacks k above) (ap (λ (o : Option ℕ). is_some o) none))
  ]);
}

-- a piece without a byte
pub none_among : (given : List PlainRange) (cs : List Chunk) (new : Chunk) → AreInOrder 0 cs → end_of new < 2 ^ 62 → length new.bytes ≡ 0 → IsAmong given cs new cs
none_among given cs new order fits empty = record {
  in_order = order;
  bytes_are = λ k.
      let none : byte_of new k ≡ None = elim (cases_lt k new.offset) [
        | inl below ↦ before new k below
        | inr above ↦ behind new k (omega arith)
      ] in
      sym (ap (or_byte (byte_in cs k)) (missing_none given cs new fits k none) ∙ or_none (byte_in cs k));
}
