-- The head of a message and its fields, as a value.
use Rattle.std.specs.Prelude.{ℕ, List, Option}
use Rattle.http_header.specs.HeaderMap.{Entries}
use Rattle.http_header.specs.FieldValue.{FieldValue}

-- the pseudo-header fields that are there, the status as a number, and the fields
pub record PlainHeader : Type 0 where
  pub method : Option (List ℕ)
  pub scheme : Option (List ℕ)
  pub authority : Option (List ℕ)
  pub path : Option (List ℕ)
  pub status : Option ℕ
  pub fields : Entries FieldValue
