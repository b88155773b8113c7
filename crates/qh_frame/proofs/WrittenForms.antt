-- The form in which a frame is written says the same.
use Rattle.std.proofs.Common.{◌≡◌, ℕ, ◌+◌, ◌/◌, cond, true, false, ◌==◌, Bool, List, [], ◌∷◌, Option, Some, None, refl, sym, ap, ◌∙◌, inl, inr, arith}
use Rattle.std.specs.Prelude.{◌↔◌}
use Rattle.std.proofs.lemmas.Bool.{cases_Bool, eqb-true}
use Rattle.qh_frame.specs.FrameAt.{Begins}
use Rattle.qh_frame.specs.WrittenForm.{stream_form, ack_values, or_frame, written_form}
use Rattle.qh_spec.proofs.FrameLaws.{quic_frame_agrees}
use Rattle.qh_spec.specs.Acknowledged.{ValuesCover, Covers}
use Rattle.qh_spec.specs.FrameViews.{stream_of, stream_values}
use Rattle.qh_spec.specs.QuicFrame.{StreamFrame, has_bit}
use Rattle.qh_spec.specs.QuicFrames.{QuicFrame, Value, Num, Text, Nums}

form_carries : (zero fin : Bool) (id offset : ℕ) (payload : List ℕ) → (offset == 0) ≡ zero
    → stream_of (stream_form (record { id = id; offset = offset; payload = payload; fin = fin })) ≡ Some (record { id = id; offset = offset; payload = payload; fin = fin })
form_carries true true id offset payload e = rw e (ap (λ (o : ℕ). Some (record { id = id; offset = o; payload = payload; fin = true })) (sym (eqb-true offset 0 e)))
form_carries true false id offset payload e = rw e (ap (λ (o : ℕ). Some (record { id = id; offset = o; payload = payload; fin = false })) (sym (eqb-true offset 0 e)))
form_carries false true id offset payload e = rw e refl
form_carries false false id offset payload e = rw e refl

or_carries : (o : Option StreamFrame) (f : QuicFrame) → stream_of f ≡ o → stream_of (or_frame o f) ≡ o
or_carries None f h = h
or_carries (Some s) f h = form_carries (s.offset == 0) s.fin s.id s.offset s.payload refl

pub form_stream : (f : QuicFrame) → stream_of (written_form f) ≡ stream_of f
form_stream f =
    elim (cases_Bool (f.kind / 8 == 1)) [
      | inl t ↦
          let form : written_form f ≡ or_frame (stream_values (has_bit 1 f.kind) f.values) f = rw t refl in
          let view : stream_of f ≡ stream_values (has_bit 1 f.kind) f.values = rw t refl in
          ap stream_of form ∙ or_carries (stream_values (has_bit 1 f.kind) f.values) f view ∙ sym view
      | inr other ↦ elim (cases_Bool (f.kind == 3)) [
        | inl ack ↦ rw (other, ack) refl
        | inr no_ack ↦ elim (cases_Bool (f.kind == 48)) [
          | inl datagram ↦ rw (other, no_ack, datagram) refl
          | inr none ↦ let same : written_form f ≡ f = rw (other, no_ack, none) refl in ap stream_of same
        ]
      ]
    ]

ack_cover : (vs : List Value) (n : ℕ) → ValuesCover (ack_values vs) n ↔ ValuesCover vs n
ack_cover [] n = (λ h. h, λ h. h)
ack_cover (Text t ∷ []) n = (λ h. h, λ h. h)
ack_cover (Text t ∷ b ∷ []) n = (λ h. h, λ h. h)
ack_cover (Text t ∷ b ∷ d ∷ more) n = (λ h. h, λ h. h)
ack_cover (Nums ns ∷ []) n = (λ h. h, λ h. h)
ack_cover (Nums ns ∷ b ∷ []) n = (λ h. h, λ h. h)
ack_cover (Nums ns ∷ b ∷ d ∷ more) n = (λ h. h, λ h. h)
ack_cover (Num g ∷ []) n = (λ h. h, λ h. h)
ack_cover (Num g ∷ Text t ∷ []) n = (λ h. h, λ h. h)
ack_cover (Num g ∷ Text t ∷ d ∷ more) n = (λ h. h, λ h. h)
ack_cover (Num g ∷ Nums ns ∷ []) n = (λ h. h, λ h. h)
ack_cover (Num g ∷ Nums ns ∷ d ∷ more) n = (λ h. h, λ h. h)
ack_cover (Num g ∷ Num b ∷ []) n = (λ h. h, λ h. h)
ack_cover (Num g ∷ Num b ∷ Num d ∷ more) n = (λ h. h, λ h. h)
ack_cover (Num g ∷ Num b ∷ Text t ∷ more) n = (λ h. h, λ h. h)
ack_cover (Num g ∷ Num b ∷ Nums ns ∷ more) n = (λ h. h, λ h. h)

kind_absurd : (zero fin : Bool) → (10 + cond zero 0 4 + cond fin 1 0) / 2 ≡ 1 → ⊥
kind_absurd true true h = omega (arith, h)
kind_absurd true false h = omega (arith, h)
kind_absurd false true h = omega (arith, h)
kind_absurd false false h = omega (arith, h)

no_ack_kind : (s : StreamFrame) (n : ℕ) → Covers (stream_form s) n → ⊥
no_ack_kind s n h = let kind = h.0 in kind_absurd (s.offset == 0) s.fin kind

or_covers : (o : Option StreamFrame) (f : QuicFrame) (n : ℕ) → (f.kind / 2 ≡ 1 → ⊥) → Covers (or_frame o f) n ↔ Covers f n
or_covers None f n other = (λ h. h, λ h. h)
or_covers (Some s) f n other = (λ h. absurd (no_ack_kind s n h), λ h. absurd (other h.0))

pub form_covers : (f : QuicFrame) (n : ℕ) → Covers (written_form f) n ↔ Covers f n
form_covers f n =
    elim (cases_Bool (f.kind / 8 == 1)) [
      | inl t ↦
          let is = eqb-true (f.kind / 8) 1 t in
          rw t (or_covers (stream_values (has_bit 1 f.kind) f.values) f n (λ e. omega (arith, e, is)))
      | inr other ↦ elim (cases_Bool (f.kind == 3)) [
        | inl ack ↦
            let is : f.kind ≡ 3 = eqb-true f.kind 3 ack in
            let cover = ack_cover f.values n in
            rw (other, ack) (λ h. (omega (arith, is), cover.0 h.1), λ h. (refl, cover.1 h.1))
        | inr no_ack ↦ elim (cases_Bool (f.kind == 48)) [
          | inl datagram ↦
              let is : f.kind ≡ 48 = eqb-true f.kind 48 datagram in
              rw (other, no_ack, datagram) (λ h. (let e = h.0 in absurd (omega (arith, e))), λ h. (let e = h.0 in absurd (omega (arith, e, is))))
          | inr none ↦ rw (other, no_ack, none) (λ h. h, λ h. h)
        ]
      ]
    ]

pub one_beginning : (bytes x y : List ℕ) (f g : QuicFrame) → Begins bytes f x → Begins bytes g y → (f ≡ g) × (x ≡ y)
one_beginning bytes x y f g a b =
    let same = quic_frame_agrees bytes a.frame b.frame x y a.is b.is in
    (sym a.form_is ∙ ap written_form same.0 ∙ b.form_is, same.1)
