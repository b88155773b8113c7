-- What the parts of a message make.
use Rattle.std.specs.Prelude.{◌≡◌, ℕ, List}
use Rattle.http_header.specs.HeaderMap.{Entries}
use Rattle.http_header.specs.FieldValue.{FieldValue}
use Rattle.qh_spec.specs.Fields.{Field}
use Rattle.qh_spec.specs.Meaning.{MeansHead, MeansFields, MeansTrailers}
use Rattle.qh_spec.specs.Message.{PlainMessage}
use Rattle.qh_spec.specs.Section.{IsSection}
use Rattle.qh_plain.specs.Frames.{Parts}

-- the section means the head and the fields
pub record MeansStart (section : List ℕ) (m : PlainMessage) : Type 0 where
  pub fields : List Field
  pub is_section : IsSection section fields
  pub head : MeansHead fields m.head
  pub means : MeansFields fields m.fields

-- the section means the map
abbrev pub MeansMap : List ℕ → Entries FieldValue → Type 0
MeansMap section m = (fields : List Field) × IsSection section fields × MeansFields fields m

-- the parts make the message
pub record MakesMessage (parts : Parts) (m : PlainMessage) : Type 0 where
  pub start : MeansStart parts.section m
  pub body : m.body ≡ parts.body
  pub trailers : MeansTrailers parts.last m.trailers
