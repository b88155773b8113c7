-- Which messages can be written.
use Rattle.std.specs.Prelude.{ℕ, ◌<◌, ◌^◌, List, length, codes}
use Rattle.qh_spec.specs.Fields.{message_fields, trailer_fields}
use Rattle.qh_spec.specs.Message.{PlainHead, Request, Response, PlainMessage}
use Rattle.qh_spec.specs.Same.{bytes_under}
use Rattle.qh_spec.specs.Size.{section_size}
use Rattle.qh_spec.specs.Validity.{IsValidHead}

-- a request's head is a valid one, beside the values of its host fields; each response's head can be written (own)
abbrev pub HasWritableHead : PlainHead → (hosts : List (List ℕ)) → Type 0
HasWritableHead (Request method target) hosts = IsValidHead (Request method target) hosts
HasWritableHead (Response status) hosts = Unit {0}

-- a head that can be written, and a size that frames can have (own; the size of a section is that of RFC 9114, section 4.2.2)
pub record CanBeWritten (m : PlainMessage) : Type 0 where
  pub head : HasWritableHead m.head (bytes_under m.fields (codes "host"))
  pub fields_fit : section_size (message_fields m) < 2 ^ 61
  pub trailers_fit : section_size (trailer_fields m.trailers) < 2 ^ 61
  pub body_fits : length m.body < 2 ^ 62
