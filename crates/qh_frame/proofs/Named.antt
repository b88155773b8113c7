-- The type that names a frame that was read is that behind which it was read.
use Rattle.std.proofs.Common.{◌≡◌, ℕ, ◌/◌, true, false, ◌==◌, List, [], Option, Some, None, refl, sym, ap, ◌∙◌, inl, inr, arith, Bool, Bor}
use Rattle.std.specs.Prelude.{IfSome}
use Rattle.std.specs.Option.{option_map}
use Rattle.std.proofs.lemmas.Bool.{cases_Bool, eq-eqb, eqb-true}
use Rattle.qh_frame.proofs.FieldsRead.{bind_some, firsts, number_again}
use Rattle.qh_frame.proofs.Shapes.{not_it}
use Rattle.qh_frame.specs.FieldsAt.{values_at}
use Rattle.qh_frame.specs.FrameAt.{fields_at}
use Rattle.qh_frame.specs.Plain.{frame, plain_of, stream_of}
use Rattle.qh_frame.specs.Range.{in_range}
use Rattle.qh_frame.specs.TypeOf.{HasType, named, type_of}
use Rattle.qh_frame.specs.WrittenForm.{or_frame, stream_form, written_form}
use Rattle.qh_frame.specs.declared.frame.Frame.{Frame}
use Rattle.qh_frame.specs.declared.frame.Frame.TheVariants as kind
use Rattle.qh_spec.specs.FrameTypes as frame_types
use Rattle.qh_spec.specs.FrameViews.{stream_values}
use Rattle.qh_spec.specs.QuicFrame.{StreamFrame, has_bit}
use Rattle.qh_spec.specs.QuicFrames.{IsNumber, QuicFrame, shape_of}
use Rattle.qh_spec.specs.declared.sides.Dir.TheVariants.{Bi, Uni}

-- a STREAM frame has such a type in the form in which it is written too
form_at : (zero fin : Bool) (id offset : ℕ) (payload : List ℕ) → (offset == 0) ≡ zero
    → (stream_form (record { id = id; offset = offset; payload = payload; fin = fin })).kind / 8 ≡ 1
form_at true true id offset payload e = rw e refl
form_at true false id offset payload e = rw e refl
form_at false true id offset payload e = rw e refl
form_at false false id offset payload e = rw e refl

or_stream : (o : Option StreamFrame) (q : QuicFrame) → q.kind / 8 ≡ 1 → (or_frame o q).kind / 8 ≡ 1
or_stream None q h = h
or_stream (Some s) q h = form_at (s.offset == 0) s.fin s.id s.offset s.payload refl

named_stream : (k : ℕ) → k / 8 ≡ 1 → named k ≡ frame_types.stream
named_stream k h = let t = eq-eqb (k / 8) 1 h in rw t refl

-- all but an ACK and a DATAGRAM are named by the form in which they are written
named_plain : (f : Frame) → ((plain_of f).kind ≡ 2 → ⊥) → ((plain_of f).kind ≡ 49 → ⊥) → type_of f ≡ named (plain_of f).kind
named_plain kind.Padding no_ack no_datagram = refl
named_plain kind.Ping no_ack no_datagram = refl
named_plain (kind.Ack a) no_ack no_datagram = absurd (no_ack refl)
named_plain (kind.ResetStream id code size) no_ack no_datagram = refl
named_plain (kind.StopSending id code) no_ack no_datagram = refl
named_plain (kind.Crypto offset payload) no_ack no_datagram = refl
named_plain (kind.NewToken token) no_ack no_datagram = refl
named_plain (kind.Stream s) no_ack no_datagram = sym (named_stream (stream_form (stream_of s)).kind (or_stream (Some (stream_of s)) (frame frame_types.stream []) refl))
named_plain (kind.MaxData limit) no_ack no_datagram = refl
named_plain (kind.MaxStreamData id limit) no_ack no_datagram = refl
named_plain (kind.MaxStreams Bi count) no_ack no_datagram = refl
named_plain (kind.MaxStreams Uni count) no_ack no_datagram = refl
named_plain (kind.DataBlocked limit) no_ack no_datagram = refl
named_plain (kind.StreamDataBlocked id limit) no_ack no_datagram = refl
named_plain (kind.StreamsBlocked Bi count) no_ack no_datagram = refl
named_plain (kind.StreamsBlocked Uni count) no_ack no_datagram = refl
named_plain (kind.NewConnectionId sequence prior id token) no_ack no_datagram = refl
named_plain (kind.RetireConnectionId sequence) no_ack no_datagram = refl
named_plain (kind.PathChallenge bytes) no_ack no_datagram = refl
named_plain (kind.PathResponse bytes) no_ack no_datagram = refl
named_plain (kind.ConnectionClose code frame_type reason) no_ack no_datagram = refl
named_plain (kind.ApplicationClose code reason) no_ack no_datagram = refl
named_plain kind.HandshakeDone no_ack no_datagram = refl
named_plain (kind.Datagram payload has_length) no_ack no_datagram = absurd (no_datagram refl)

-- what is read behind a type is in the form of a frame of this type
form_read : (kind : ℕ) (bytes rest : List ℕ) (form : QuicFrame) → fields_at kind bytes ≡ Some (form, rest) → (q : QuicFrame) × (q.kind ≡ kind) × (written_form q ≡ form)
unfolding fields_at
form_read kind bytes rest form h =
    let shape = bind_some (shape_of kind) _ (form, rest) h in
    let found = bind_some (values_at shape.0 bytes) _ (form, rest) shape.2 in
    elim (cases_Bool (in_range kind found.0.0)) [
      | inr f ↦ let e = rw f at found.2 in cc
      | inl t ↦
          let e = rw t at found.2 in
          let q : QuicFrame = record { kind = kind; values = found.0.0 } in
          (q, refl, firsts (written_form q, found.0.1) (form, rest) e)
    ]

by_form : (f : Frame) (q : QuicFrame) → written_form q ≡ plain_of f → (q.kind ≡ 2 → ⊥) → (q.kind ≡ 3 → ⊥) → (q.kind ≡ 48 → ⊥) → (q.kind ≡ 49 → ⊥) → type_of f ≡ named q.kind
by_form f q h no_ack no_counts no_datagram no_length =
    elim (cases_Bool (q.kind / 8 == 1)) [
      | inl t ↦
          let stream : q.kind / 8 ≡ 1 = eqb-true (q.kind / 8) 1 t in
          let form : written_form q ≡ or_frame (stream_values (has_bit 1 q.kind) q.values) q = rw t refl in
          let same : (or_frame (stream_values (has_bit 1 q.kind) q.values) q).kind ≡ (plain_of f).kind = ap (λ (z : QuicFrame). z.kind) (sym form ∙ h) in
          let plain : (plain_of f).kind / 8 ≡ 1 = ap (λ (k : ℕ). k / 8) (sym same) ∙ or_stream (stream_values (has_bit 1 q.kind) q.values) q stream in
          named_plain f (λ e. omega (arith, plain, e)) (λ e. omega (arith, plain, e)) ∙ named_stream (plain_of f).kind plain ∙ sym (named_stream q.kind stream)
      | inr other ↦
          let form : written_form q ≡ q = let counts = not_it q.kind 3 no_counts in let datagram = not_it q.kind 48 no_datagram in rw (other, counts, datagram) refl in
          let same : q.kind ≡ (plain_of f).kind = ap (λ (z : QuicFrame). z.kind) (sym form ∙ h) in
          named_plain f (λ e. no_ack (same ∙ e)) (λ e. no_length (same ∙ e)) ∙ ap named (sym same)
    ]

pub fields_named : (o : Option (Frame × Bor (List ℕ))) (kind : ℕ) (bytes : List ℕ) → (kind / 2 ≡ 1 → ⊥) → (kind / 2 ≡ 24 → ⊥) → option_map (λ f. (plain_of f.0, f.1.now)) o ≡ fields_at kind bytes
    → IfSome o (λ f. type_of f.0 ≡ named kind)
fields_named None kind bytes no_ack no_datagram h = tt
fields_named (Some f) kind bytes no_ack no_datagram h =
    let read = form_read kind bytes f.1.now (plain_of f.0) (sym h) in
    let is = read.1 in
    by_form f.0 read.0 read.2 (λ e. no_ack (omega (arith, is, e))) (λ e. no_ack (omega (arith, is, e))) (λ e. no_datagram (omega (arith, is, e))) (λ e. no_datagram (omega (arith, is, e))) ∙ ap named is

-- bytes begin with one type at most
pub type_named : (bytes rest : List ℕ) (kind : ℕ) (f : Frame) → HasType bytes f → IsNumber bytes kind rest → type_of f ≡ named kind
type_named bytes rest kind f h is =
    let both : ◌≡◌ {A = Option (ℕ × List ℕ)} (Some (h.0, h.1)) (Some (kind, rest)) = sym (number_again bytes h.1 h.0 h.2) ∙ number_again bytes rest kind is in
    h.3 ∙ ap named (firsts (h.0, h.1) (kind, rest) both)
