-- Field lines as a head keeps them.
use Rattle.std.specs.Prelude.{Some}
use Rattle.http_header.specs.FieldName.{IsHeaderName}
use Rattle.http_header.specs.FieldValue.{FieldValue, IsFieldValue}
use Rattle.http_header.specs.HeaderMap.{Entries, append}
use Rattle.qh_spec.specs.Fields.{Field}
use Rattle.qh_h3wire.specs.PlainHeader.{PlainHeader}
use Rattle.qh_h3wire.specs.declared.headers.field.ParsedField.{ParsedField}
use Rattle.qh_h3wire.specs.declared.headers.field.ParsedField.TheVariants.{Method, Scheme, Authority, Path, Status, Plain}
use Rattle.qh_h3wire.specs.declared.headers.pseudo.Pseudo.{Pseudo}

abbrev pub with_fields : Entries FieldValue → Pseudo → PlainHeader
with_fields fields p = record { method = p.method; scheme = p.scheme; authority = p.authority; path = p.path; status = p.status; fields = fields }

-- the head with one field line more
abbrev pub with_parsed : ParsedField → PlainHeader → PlainHeader
with_parsed (Method m) h = record h { method = Some m }
with_parsed (Scheme s) h = record h { scheme = Some s }
with_parsed (Authority a) h = record h { authority = Some a }
with_parsed (Path d) h = record h { path = Some d }
with_parsed (Status n) h = record h { status = Some n }
with_parsed (Plain n v) h = record h { fields = append h.fields n v }

-- a field of a message: a name in lower case, and a value
abbrev pub IsPlainField : Field → Type 0
IsPlainField f = IsHeaderName f.name × IsFieldValue f.value
