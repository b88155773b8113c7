-- What is spelled as a frame in range is read as it, and what is read is spelled so.
use Rattle.std.proofs.Common.{◌≡◌, ℕ, true, List, Option, Some, None, refl, sym, ◌∙◌, inl, inr, subst}
use Rattle.std.proofs.lemmas.Bool.{cases_Bool}
use Rattle.qh_base.proofs.Varints.{IsBytes}
use Rattle.qh_spec.specs.QuicFrames.{QuicFrame, IsQuicFrame, shape_of}
use Rattle.qh_frame.proofs.FieldsRead.{bind_some, firsts, seconds, number_again, number_takes, values_again, values_takes}
use Rattle.qh_frame.proofs.Ranges.{range_tells}
use Rattle.qh_frame.specs.FieldsAt.{number_at, values_at}
use Rattle.qh_frame.specs.FrameAt.{fields_at, Begins, BeginsWithType, HasNoFrame}
use Rattle.qh_frame.specs.Range.{IsInRange, in_range}
use Rattle.qh_frame.specs.WrittenForm.{written_form}

-- a frame in range is read
spelled_fields : (bytes rest : List ℕ) (f : QuicFrame) → (is : IsQuicFrame bytes f rest) → IsInRange f → fields_at f.kind is.fields ≡ Some (written_form f, rest)
unfolding fields_at
spelled_fields bytes rest f is fits =
    let shape = is.shaped in
    let values = values_again is.shape is.fields f.values rest is.values in
    let t : in_range f.kind f.values ≡ true = (range_tells f.kind f.values).back fits in
    rw (shape, values, t) refl

-- what is read is a frame in range
pub read_frame : (bytes mid rest : List ℕ) (kind : ℕ) (form : QuicFrame) → IsBytes bytes → number_at bytes ≡ Some (kind, mid) → fields_at kind mid ≡ Some (form, rest) → Begins bytes form rest
unfolding fields_at
read_frame bytes mid rest kind form are number h =
    let type = number_takes bytes kind mid are number in
    let shape = bind_some (shape_of kind) _ (form, rest) h in
    let found = bind_some (values_at shape.0 mid) _ (form, rest) shape.2 in
    let values = values_takes shape.0 mid found.0.0 found.0.1 type.1 found.1 in
    elim (cases_Bool (in_range kind found.0.0)) [
      | inr f ↦ let e = rw f at found.2 in cc
      | inl t ↦
          let e = rw t at found.2 in
          let f : QuicFrame = record { kind = kind; values = found.0.0 } in
          let form_is : written_form f ≡ form = firsts (written_form f, found.0.1) (form, rest) e in
          let rest_is : found.0.1 ≡ rest = seconds (written_form f, found.0.1) (form, rest) e in
          let is : IsQuicFrame bytes f found.0.1 = record { fields = mid; shape = shape.0; kind = type.0; shaped = shape.1; values = values } in
          record { frame = f; is = subst (λ (r : List ℕ). IsQuicFrame bytes f r) rest_is is; in_range = (range_tells kind found.0.0).yes t; form_is = form_is }
    ]

-- where no type is read there is none
pub no_type : (bytes : List ℕ) → number_at bytes ≡ None → BeginsWithType bytes None
no_type bytes h = λ kind rest is. let e = number_again bytes rest kind is in let both : ◌≡◌ {A = Option (ℕ × List ℕ)} None (Some (kind, rest)) = sym h ∙ e in cc

pub no_frame_here : (bytes : List ℕ) → number_at bytes ≡ None → HasNoFrame bytes
no_frame_here bytes h = λ f rest is fits. no_type bytes h f.kind is.fields is.kind

-- where no fields are read there is no frame in range
pub no_fields : (bytes mid : List ℕ) (kind : ℕ) → number_at bytes ≡ Some (kind, mid) → fields_at kind mid ≡ None → HasNoFrame bytes
no_fields bytes mid kind number h = λ f rest is fits.
    let again = number_again bytes is.fields f.kind is.kind in
    let same : ◌≡◌ {A = Option (ℕ × List ℕ)} (Some (f.kind, is.fields)) (Some (kind, mid)) = sym again ∙ number in
    let kind_is : f.kind ≡ kind = firsts (f.kind, is.fields) (kind, mid) same in
    let mid_is : is.fields ≡ mid = seconds (f.kind, is.fields) (kind, mid) same in
    let read = spelled_fields bytes rest f is fits in
    let moved : fields_at kind mid ≡ Some (written_form f, rest) = subst (λ (m : List ℕ). fields_at kind m ≡ Some (written_form f, rest)) mid_is (subst (λ (k : ℕ). fields_at k is.fields ≡ Some (written_form f, rest)) kind_is read) in
    let both : ◌≡◌ {A = Option (QuicFrame × List ℕ)} None (Some (written_form f, rest)) = sym h ∙ moved in
    cc
