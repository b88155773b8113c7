-- The sections that are written of a message (own).
use Rattle.std.specs.Prelude.{◌≡◌, ℕ, List, ◌++◌, Option}
use Rattle.http_header.specs.FieldValue.{FieldValue}
use Rattle.http_header.specs.HeaderMap.{Entries}
use Rattle.qh_h3wire.specs.Header.{request_header, response_header}
use Rattle.qh_h3wire.specs.PlainHeader.{PlainHeader}
use Rattle.qh_spec.specs.Fields.{head_fields, map_fields}
use Rattle.qh_spec.specs.Meaning.{AreReadable, MeansHead}
use Rattle.qh_spec.specs.Message.{PlainHead, Request, Response}
use Rattle.qh_spec.specs.Section.{section_bytes}
use Rattle.qh_spec.specs.Written.{HasPlainNames, AreWritable, trailer_section}

-- a head beside its fields
abbrev pub plain_header : PlainHead → Entries FieldValue → PlainHeader
plain_header (Request method target) fields = request_header method target fields
plain_header (Response status) fields = response_header status fields

-- the section of a head and its fields, which can be read and mean the head
pub record IsHeadSection (section : List ℕ) (h : PlainHead) (fields : Entries FieldValue) : Type 0 where
  pub section_is : section ≡ section_bytes (head_fields h ++ map_fields fields)
  pub names : HasPlainNames fields
  pub readable : AreReadable (head_fields h ++ map_fields fields)
  pub means : MeansHead (head_fields h ++ map_fields fields) h

-- the section of trailers, which can be read, where there are any
pub record IsTrailerSection (last : Option (List ℕ)) (trailers : Option (Entries FieldValue)) : Type 0 where
  pub section_is : last ≡ trailer_section trailers
  pub writable : AreWritable trailers
