-- Whether one of the frames of an Initial packet is a CONNECTION_CLOSE.
use Rattle.std.proofs.Common.{◌≡◌, ℕ, ◌/◌, ◌==◌, Bool, true, false, List, [], ◌∷◌, Option, Some, None, refl, sym, ap, ◌∙◌, inl, inr, arith}
use Rattle.std.specs.Prelude.{◌||◌}
use Rattle.std.specs.List.{AllByRecursion, list_any}
use Rattle.std.proofs.lemmas.Bool.{cases_Bool, eqb-true}
use Rattle.std.proofs.Math.Bool.{or-false, or_assoc}
use Rattle.qh_frame.proofs.Shapes.{not_it}
use Rattle.qh_frame.specs.FrameAt.{Begins, HasNoFrame}
use Rattle.qh_frame.specs.Range.{IsInRange}
use Rattle.qh_frame.specs.WrittenForm.{stream_form, ack_values, or_frame, written_form}
use Rattle.qh_handshake.proofs.FramesCome.{AreInRange, range_behind, range_none}
use Rattle.qh_handshake.specs.Closing.{HaveClose, is_close}
use Rattle.qh_packet.proofs.Opened.{body_parts}
use Rattle.qh_packet.specs.Packet.{IsInitialOpened}
use Rattle.qh_packet.specs.Session.{AcceptsTag}
use Rattle.qh_spec.proofs.FrameLaws.{quic_frames_agree}
use Rattle.qh_spec.specs.FrameViews.{stream_values}
use Rattle.qh_spec.specs.QuicFrame.{StreamFrame, has_bit}
use Rattle.qh_spec.specs.QuicFrames.{QuicFrame, AreQuicFrames}
use Rattle.qh_spec.specs.declared.sides.Side.{Side}

-- ---- the form in which a frame is written closes where the frame does

stream_form_closes_not : (zero fin : Bool) (id offset : ℕ) (payload : List ℕ) → (offset == 0) ≡ zero
    → is_close (stream_form (record { id = id; offset = offset; payload = payload; fin = fin })) ≡ false
stream_form_closes_not true true id offset payload e = rw e refl
stream_form_closes_not true false id offset payload e = rw e refl
stream_form_closes_not false true id offset payload e = rw e refl
stream_form_closes_not false false id offset payload e = rw e refl

stream_closes_not : (f : QuicFrame) → f.kind / 8 ≡ 1 → is_close f ≡ false
stream_closes_not f h = not_it f.kind 28 (λ e. let at : f.kind ≡ 28 = e in omega (arith, h))

or_closes_not : (o : Option StreamFrame) (f : QuicFrame) → f.kind / 8 ≡ 1 → is_close (or_frame o f) ≡ is_close f
or_closes_not None f h = refl
or_closes_not (Some s) f h = stream_form_closes_not (s.offset == 0) s.fin s.id s.offset s.payload refl ∙ sym (stream_closes_not f h)

abbrev closes : ℕ → Bool
closes kind = kind == 28

pub form_closes : (f : QuicFrame) → is_close (written_form f) ≡ is_close f
form_closes f =
    elim (cases_Bool (f.kind / 8 == 1)) [
      | inl t ↦
          let form : written_form f ≡ or_frame (stream_values (has_bit 1 f.kind) f.values) f = rw t refl in
          ap is_close form ∙ or_closes_not (stream_values (has_bit 1 f.kind) f.values) f (eqb-true (f.kind / 8) 1 t)
      | inr other ↦ elim (cases_Bool (f.kind == 3)) [
        | inl ack ↦
            let form : written_form f ≡ record { kind = 2; values = ack_values f.values } = rw (other, ack) refl in
            ap is_close form ∙ sym (ap closes (eqb-true f.kind 3 ack))
        | inr no_ack ↦ elim (cases_Bool (f.kind == 48)) [
          | inl datagram ↦
              let form : written_form f ≡ record { kind = 49; values = f.values } = rw (other, no_ack, datagram) refl in
              ap is_close form ∙ sym (ap closes (eqb-true f.kind 48 datagram))
          | inr same_kind ↦ let same : written_form f ≡ f = rw (other, no_ack, same_kind) refl in ap is_close same
        ]
      ]
    ]

-- ---- the frames are read one after another

-- the bytes are frames in range, and this tells whether one of them closes
abbrev pub AreCloses : List ℕ → Bool → Type 0
AreCloses bytes closes = (fs : List QuicFrame) × AreQuicFrames bytes fs × AllByRecursion IsInRange fs × (list_any is_close fs ≡ closes)

-- The frames in front of the rest were read, with values in range, and this tells whether one of them closes.
pub record AreReadUpTo (bytes rest : List ℕ) (closes : Bool) : Type 0 where
  pub goes_on : (fs : List QuicFrame) → AreQuicFrames rest fs → AllByRecursion IsInRange fs → AreCloses bytes (closes || list_any is_close fs)
  pub in_range : AreInRange bytes → AreInRange rest

pub read_none : (bytes : List ℕ) → AreReadUpTo bytes bytes false
read_none bytes = record { goes_on = λ fs are all. (fs, are, all, refl); in_range = λ h. h }

-- one more is read
pub read_more : (bytes rest behind : List ℕ) (closes now : Bool) (form : QuicFrame) → AreReadUpTo bytes rest closes → Begins rest form behind
    → now ≡ (closes || is_close form) → AreReadUpTo bytes behind now
read_more bytes rest behind closes now form h b e = record {
  goes_on = λ fs are in_range.
      let all = h.goes_on (b.frame ∷ fs) (behind, b.is, are) (b.in_range, in_range) in
      let same : is_close b.frame ≡ is_close form = sym (form_closes b.frame) ∙ ap is_close b.form_is in (
        all.0,
        all.1,
        all.2,
        all.3 ∙ sym (or_assoc closes (is_close b.frame) (list_any is_close fs)) ∙ ap (λ (x : Bool). (closes || x) || list_any is_close fs) same
            ∙ ap (λ (x : Bool). x || list_any is_close fs) (sym e),
      );
  in_range = λ all. range_behind rest behind form (h.in_range all) b;
}

all_read : (bytes rest : List ℕ) (closes : Bool) → AreReadUpTo bytes rest closes → rest ≡ [] → AreCloses bytes closes
all_read bytes rest closes h e = let all = h.goes_on [] e tt in (all.0, all.1, all.2, all.3 ∙ or-false closes)

-- all are read, and one closes
pub one_closes : (bytes rest : List ℕ) (closes : Bool) → AreReadUpTo bytes rest closes → rest ≡ [] → closes ≡ true → HaveClose bytes
one_closes bytes rest closes h e is = let all = all_read bytes rest closes h e in record { frames = all.0; are = all.1; in_range = all.2; closes = all.3 ∙ is }

-- or none does
pub none_closes : (bytes rest : List ℕ) (closes : Bool) → AreReadUpTo bytes rest closes → rest ≡ [] → closes ≡ false → HaveClose bytes → ⊥
none_closes bytes rest closes h e is has =
    let all = all_read bytes rest closes h e in
    let both : true ≡ false = sym has.closes ∙ ap (list_any is_close) (quic_frames_agree bytes has.frames all.0 has.are all.1) ∙ all.3 ∙ is in
    cc

-- where the next can't be read, the bytes aren't frames in range
pub one_faulty : (bytes rest : List ℕ) (closes : Bool) → AreReadUpTo bytes rest closes → (rest ≡ [] → ⊥) → HasNoFrame rest → HaveClose bytes → ⊥
one_faulty bytes rest closes h some unread has = some (range_none rest (h.in_range (record { frames = has.frames; are = has.are; in_range = has.in_range })) unread)

-- ---- the packet

-- a body is opened with its frames alone, whatever number is expected
pub same_frames : (accepts : AcceptsTag) (sender : Side) (expected wanted first : ℕ) (body : List ℕ) (m n : ℕ) (xs ys : List ℕ) → IsInitialOpened accepts sender expected first body m xs
    → IsInitialOpened accepts sender wanted first body n ys → xs ≡ ys
same_frames accepts sender expected wanted first body m n xs ys o p =
    (body_parts accepts sender wanted first body o.number_bytes xs o.tag n ys
    (record { whole = o.whole; first_is = o.first_is; some_number = o.some_number; short_number = o.short_number; tag_length = o.tag_length }) p).frames_are
