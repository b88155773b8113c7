-- Which fields and trailers a map of the crate `http_header` holds.
use Rattle.std.specs.Prelude.{◌<◌, ◌≤◌, ◌^◌, ◌==◌, not, filter, length, Option, Some, None}
use Rattle.http_header.specs.FieldValue.{FieldValue}
use Rattle.http_header.specs.HeaderMap.{Entry, Entries, value_count}
use Rattle.qh_spec.specs.Message.{PlainMessage}

-- the names that have a value (own)
abbrev pub named : Entries FieldValue → Entries FieldValue
named m = filter (λ (e : Entry FieldValue). not (length e.1 == 0)) m

-- at most 24,576 names, and fewer than 2^64 values (own)
pub record HasRoomIn (m : Entries FieldValue) : Type 0 where
  pub names_fit : length (named m) ≤ 24576
  pub values_fit : value_count m < 2 ^ 64

abbrev pub HasTrailerRoom : Option (Entries FieldValue) → Type 0
HasTrailerRoom None = Unit {0}
HasTrailerRoom (Some m) = HasRoomIn m

-- maps have room for the fields of a message, and for its trailers (own)
pub record HasRoomFor (m : PlainMessage) : Type 0 where
  pub fields : HasRoomIn m.fields
  pub trailers : HasTrailerRoom m.trailers
