-- A worked ACK, and the numbers that it covers.
use Rattle.std.proofs.Common.{◌≡◌, ◌⊎◌, inl, inr, ℕ, ◌-◌, ◌≤◌, List, [], ◌∷◌, Some, refl, arith}
use Rattle.qh_spec.specs.Acknowledged.{InRanges, Covers, AreRanges}
use Rattle.qh_spec.specs.QuicFrames.{Number, Ranges, shape_of, IsQuicFrame}
use Rattle.qh_spec.specs.Varint.{one}
use Rattle.qh_spec.specs.WireRows.{ack_bytes, ack_frame}

-- no number above the greatest is in the ranges
pub ranges_bound : (greatest : ℕ) (ranges : List ℕ) (n : ℕ) → InRanges greatest ranges n → n ≤ greatest
ranges_bound greatest [] n h = absurd h
ranges_bound greatest (range ∷ []) n h = h.3
ranges_bound greatest (range ∷ gap ∷ more) n (inl h) = h.3
ranges_bound greatest (range ∷ gap ∷ more) n (inr h) =
    let sum = h.1 in
    let below = ranges_bound h.0 more n h.2 in
    omega (arith, sum, below)

-- the greatest is, where no range goes below 0
pub greatest_in : (greatest : ℕ) (ranges : List ℕ) → AreRanges greatest ranges → InRanges greatest ranges greatest
greatest_in greatest [] h = absurd h
greatest_in greatest (range ∷ []) h = (greatest - range, omega (arith, h), omega arith, omega arith)
greatest_in greatest (range ∷ gap ∷ more) h =
    let sum = h.1 in
    inl (greatest - range, omega (arith, sum), omega arith, omega arith)

ack_shape : shape_of 2 ≡ Some (Number ∷ Number ∷ Ranges ∷ [])
unfolding shape_of
ack_shape = refl

-- the bytes are the frame
pub ack_is : IsQuicFrame ack_bytes ack_frame []
ack_is = record {
  fields = 10 ∷ 0 ∷ 1 ∷ 2 ∷ 1 ∷ 1 ∷ [];
  shape = Number ∷ Number ∷ Ranges ∷ [];
  kind = (2 ∷ [], refl, one (omega arith) refl);
  shaped = ack_shape;
  values = (
    0 ∷ 1 ∷ 2 ∷ 1 ∷ 1 ∷ [],
    (10 ∷ [], refl, one (omega arith) refl),
    (
      1 ∷ 2 ∷ 1 ∷ 1 ∷ [],
      (0 ∷ [], refl, one (omega arith) refl),
      (
        [],
        (
          1,
          2 ∷ 1 ∷ 1 ∷ [],
          (1 ∷ [], refl, one (omega arith) refl),
          (
            1 ∷ 1 ∷ [],
            (2 ∷ [], refl, one (omega arith) refl),
            (1 ∷ [], (1 ∷ [], refl, one (omega arith) refl), ([], (1 ∷ [], refl, one (omega arith) refl), refl)),
          ),
          refl,
        ),
        refl,
      ),
    ),
  );
}

-- it covers these numbers
pub ack_covers : (n : ℕ) → ((8 ≤ n) × (n ≤ 10)) ⊎ ((4 ≤ n) × (n ≤ 5)) → Covers ack_frame n
ack_covers n (inl h) = (refl, inl (8, refl, h.0, h.1))
ack_covers n (inr h) = (refl, inr (5, refl, (4, refl, h.0, h.1)))

-- and no other
pub ack_covers_only : (n : ℕ) → Covers ack_frame n → ((8 ≤ n) × (n ≤ 10)) ⊎ ((4 ≤ n) × (n ≤ 5))
ack_covers_only n c =
    elim c.1 [
      | inl r ↦
          let sum = r.1 in
          let low = r.2 in
          let high = r.3 in
          inl (omega arith, omega arith)
      | inr g ↦
          let next = g.1 in
          let r = g.2 in
          let sum = r.1 in
          let low = r.2 in
          let high = r.3 in
          inr (omega arith, omega arith)
    ]

-- its ranges don't go below 0
pub ack_ranges : AreRanges 10 (2 ∷ 1 ∷ 1 ∷ [])
ack_ranges = (5, refl, omega arith)

-- these do
pub no_ranges : AreRanges 10 (2 ∷ 1 ∷ 6 ∷ []) → ⊥
no_ranges h = let next = h.1 in let low = h.2 in omega arith
