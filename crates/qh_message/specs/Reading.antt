-- What was read of a request stream (own).
use Rattle.std.specs.Prelude.{ℕ, List, [], Option, Some, None}
use Rattle.http_header.specs.FieldValue.{FieldValue}
use Rattle.http_header.specs.HeaderMap.{Entries}
use Rattle.qh_h3wire.specs.Header.{IsHeaderOf}
use Rattle.qh_h3wire.specs.PlainHeader.{PlainHeader}
use Rattle.qh_plain.specs.Frames.{AreParts}
use Rattle.qh_spec.specs.Fields.{Field}
use Rattle.qh_spec.specs.Meaning.{MeansTrailers}
use Rattle.qh_spec.specs.Refusal.{AreTaken}
use Rattle.qh_spec.specs.Section.{IsSection}

-- the section's fields are kept, and give this head and this map
pub record HasHeader (section : List ℕ) (h : PlainHeader) : Type 0 where
  pub fields : List Field
  pub is_section : IsSection section fields
  pub taken : AreTaken [] fields
  pub gives : IsHeaderOf fields h

-- the bytes are no section whose fields are kept
abbrev pub IsUnreadable : List ℕ → Type 0
IsUnreadable section = (fields : List Field) → IsSection section fields → AreTaken [] fields → ⊥

-- there is a further section, and it is none whose fields are kept
abbrev pub IsUnreadableLast : Option (List ℕ) → Type 0
IsUnreadableLast None = ⊥
IsUnreadableLast (Some section) = IsUnreadable section

-- the bytes have a section that gives this head, this body, and a further section exactly where there are trailers
pub record IsReceived (bytes : List ℕ) (h : PlainHeader) (body : List ℕ) (trailers : Option (Entries FieldValue)) : Type 0 where
  pub section : List ℕ
  pub last : Option (List ℕ)
  pub parts : AreParts bytes (record { section = section; body = body; last = last })
  pub header : HasHeader section h
  pub means : MeansTrailers last trailers
