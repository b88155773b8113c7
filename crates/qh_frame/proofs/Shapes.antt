-- The shape of a STREAM frame of each type, and of types that no one knows.
use Rattle.std.proofs.Common.{◌≡◌, ℕ, ◌+◌, ◌-◌, ◌/◌, ◌<◌, ◌≤◌, zero, suc, false, true, ◌==◌, List, Option, Some, None, refl, ap, ◌∙◌, inl, inr, arith, subst, Bool}
use Rattle.std.specs.Prelude.{◌⊎◌}
use Rattle.std.proofs.lemmas.Bool.{eq-eqb}
use Rattle.std.proofs.lemmas.Bool.Decides.{eqb_tells}
use Rattle.qh_spec.specs.QuicFrame.{has_bit}
use Rattle.qh_spec.specs.QuicFrames.{Part, stream_shape, shape_of}
use Rattle.qh_frame.specs.FieldsAt.{◌>>=◌, number_at, counted_at, values_at}
use Rattle.qh_frame.specs.FrameAt.{fields_at, ranged}
use Rattle.qh_frame.specs.StreamAt.{stream_at, ranged_stream}

shape_from_eight : (j : ℕ) → j < 8 → shape_of (8 + j) ≡ Some (stream_shape (has_bit 4 (8 + j)) (has_bit 2 (8 + j)))
unfolding shape_of
shape_from_eight zero h = refl
shape_from_eight (suc zero) h = refl
shape_from_eight (suc (suc zero)) h = refl
shape_from_eight (suc (suc (suc zero))) h = refl
shape_from_eight (suc (suc (suc (suc zero)))) h = refl
shape_from_eight (suc (suc (suc (suc (suc zero))))) h = refl
shape_from_eight (suc (suc (suc (suc (suc (suc zero)))))) h = refl
shape_from_eight (suc (suc (suc (suc (suc (suc (suc zero))))))) h = refl
shape_from_eight (suc (suc (suc (suc (suc (suc (suc (suc j)))))))) h = absurd (omega arith)

stream_shape_is : (k : ℕ) → k / 8 ≡ 1 → shape_of k ≡ Some (stream_shape (has_bit 4 k) (has_bit 2 k))
stream_shape_is k e =
    let is : 8 + (k - 8) ≡ k = omega (arith, e) in
    subst (λ (z : ℕ). shape_of z ≡ Some (stream_shape (has_bit 4 z) (has_bit 2 z))) is (shape_from_eight (k - 8) (omega (arith, e)))

pub cases_option : {A : Type 0} (o : Option A) → (o ≡ None) ⊎ ((x : A) × (o ≡ Some x))
cases_option None = inl refl
cases_option (Some x) = inr (x, refl)

by_bits : (with_offset with_length : Bool) (kind : ℕ) (bytes : List ℕ) → (kind / 8 == 1) ≡ true
    → (values_at (stream_shape with_offset with_length) bytes >>= ranged kind) ≡ ranged_stream (stream_at with_offset with_length (has_bit 1 kind) bytes)
unfolding stream_at ranged_stream
by_bits true true kind bytes t =
    elim (cases_option (number_at bytes)) [
      | inl e ↦ rw e refl
      | inr p ↦ elim (cases_option (number_at p.0.1)) [
        | inl e ↦ rw (p.1, e) refl
        | inr q ↦ elim (cases_option (counted_at q.0.1)) [
          | inl e ↦ rw (p.1, q.1, e) refl
          | inr r ↦ rw (p.1, q.1, r.1, t) refl
        ]
      ]
    ]
by_bits true false kind bytes t =
    elim (cases_option (number_at bytes)) [
      | inl e ↦ rw e refl
      | inr p ↦ elim (cases_option (number_at p.0.1)) [
        | inl e ↦ rw (p.1, e) refl
        | inr q ↦ rw (p.1, q.1, t) refl
      ]
    ]
by_bits false true kind bytes t =
    elim (cases_option (number_at bytes)) [
      | inl e ↦ rw e refl
      | inr p ↦ elim (cases_option (counted_at p.0.1)) [
        | inl e ↦ rw (p.1, e) refl
        | inr r ↦ rw (p.1, r.1, t) refl
      ]
    ]
by_bits false false kind bytes t =
    elim (cases_option (number_at bytes)) [
      | inl e ↦ rw e refl
      | inr p ↦ rw (p.1, t) refl
    ]

pub stream_fields : (kind : ℕ) (bytes : List ℕ) → kind / 8 ≡ 1 → fields_at kind bytes ≡ ranged_stream (stream_at (has_bit 4 kind) (has_bit 2 kind) (has_bit 1 kind) bytes)
unfolding fields_at
stream_fields kind bytes e =
    ap (λ (shape : Option (List Part)). shape >>= λ parts. values_at parts bytes >>= ranged kind) (stream_shape_is kind e)
    ∙ by_bits (has_bit 4 kind) (has_bit 2 kind) kind bytes (eq-eqb (kind / 8) 1 e)

pub not_it : (k n : ℕ) → (k ≡ n → ⊥) → (k == n) ≡ false
not_it k n h = elim (eqb_tells k n) [ inl same ↦ absurd (h same.1) | inr other ↦ other.0 ]

above : (k n : ℕ) → n < k → (k == n) ≡ false
above k n h = not_it k n (λ e. omega (arith, e, h))

unknown_shape : (k : ℕ) → 31 ≤ k → (k == 48) ≡ false → (k == 49) ≡ false → shape_of k ≡ None
unfolding shape_of
unknown_shape k h a b =
    rw (
      above k 0 (omega (arith, h)),
      above k 1 (omega (arith, h)),
      above k 2 (omega (arith, h)),
      above k 3 (omega (arith, h)),
      above k 4 (omega (arith, h)),
      above k 5 (omega (arith, h)),
      above k 6 (omega (arith, h)),
      above k 7 (omega (arith, h)),
      above (k / 8) 1 (omega (arith, h)),
      above k 16 (omega (arith, h)),
      above k 17 (omega (arith, h)),
      above k 18 (omega (arith, h)),
      above k 19 (omega (arith, h)),
      above k 20 (omega (arith, h)),
      above k 21 (omega (arith, h)),
      above k 22 (omega (arith, h)),
      above k 23 (omega (arith, h)),
      above k 24 (omega (arith, h)),
      above k 25 (omega (arith, h)),
      above k 26 (omega (arith, h)),
      above k 27 (omega (arith, h)),
      above k 28 (omega (arith, h)),
      above k 29 (omega (arith, h)),
      above k 30 (omega (arith, h)),
      a,
      b,
    ) refl

pub unknown_fields : (k : ℕ) (bytes : List ℕ) → 31 ≤ k → (k ≡ 48 → ⊥) → (k ≡ 49 → ⊥) → fields_at k bytes ≡ None
unfolding fields_at
unknown_fields k bytes h a b = rw (unknown_shape k h (not_it k 48 a) (not_it k 49 b)) refl
