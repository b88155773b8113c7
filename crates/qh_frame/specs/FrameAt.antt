-- Reading a frame, as a function on lists.
use Rattle.std.specs.Prelude.{◌≡◌, ℕ, List, Option, Some, None, if◌then◌else◌}
use Rattle.qh_frame.specs.FieldsAt.{◌>>=◌, values_at}
use Rattle.qh_frame.specs.Range.{IsInRange, in_range}
use Rattle.qh_frame.specs.WrittenForm.{written_form}
use Rattle.qh_spec.specs.QuicFrames.{QuicFrame, IsNumber, IsQuicFrame, Value, shape_of}

abbrev pub ranged : ℕ → List Value × List ℕ → Option (QuicFrame × List ℕ)
ranged kind found = if in_range kind found.0 then Some (written_form (record { kind = kind; values = found.0 }), found.1) else None

-- the fields behind a type, in the form in which they are written
unfoldable pub fields_at : ℕ → List ℕ → Option (QuicFrame × List ℕ)
fields_at kind bytes = do
  shape ← shape_of kind
  found ← values_at shape bytes
  ranged kind found

-- the bytes begin with a frame in range that is written in this form, and go on with the rest
pub record Begins (bytes : List ℕ) (form : QuicFrame) (rest : List ℕ) : Type 0 where
  pub frame : QuicFrame
  pub is : IsQuicFrame bytes frame rest
  pub in_range : IsInRange frame
  pub form_is : written_form frame ≡ form

-- the bytes begin with this type, or with none (RFC 9000, section 12.4)
abbrev pub BeginsWithType : List ℕ → Option ℕ → Type 0
BeginsWithType bytes None = (kind : ℕ) (rest : List ℕ) → IsNumber bytes kind rest → ⊥
BeginsWithType bytes (Some kind) = (rest : List ℕ) × IsNumber bytes kind rest

-- no frame in range begins the bytes
abbrev pub HasNoFrame : List ℕ → Type 0
HasNoFrame bytes = (f : QuicFrame) (rest : List ℕ) → IsQuicFrame bytes f rest → IsInRange f → ⊥
