-- How a map and a list of fields agree, name by name and field by field.
use Rattle.std.specs.Prelude.{◌≡◌, ◌⊎◌, ℕ, true, List, [], if◌then◌else◌}
use Rattle.http_header.specs.HeaderMap.{Entries, ContainsKey}
use Rattle.http_header.specs.FieldValue.{FieldValue}
use Rattle.http_header.specs.Token.{lowercase}
use Rattle.qh_spec.specs.Fields.{Field}
use Rattle.qh_spec.specs.Meaning.{IsReadable, values_of, is_pseudo_name}
use Rattle.qh_spec.specs.Same.{bytes_under}

-- under this name the map has the values of the fields that aren't pseudo fields
abbrev pub HasValues : Entries FieldValue → List Field → List ℕ → Type 0
HasValues m fields name = bytes_under m name ≡ (if is_pseudo_name name then [] else values_of name fields)

-- the field can be read, and it is a pseudo field or the map has its name
abbrev pub IsCovered : Entries FieldValue → Field → Type 0
IsCovered m f = IsReadable f × ((is_pseudo_name f.name ≡ true) ⊎ ContainsKey m (lowercase f.name))
