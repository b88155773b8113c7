-- The kinds of field lines (RFC 9114, sections 4.2 and 4.3).
use Rattle.std.specs.Prelude.{◌≡◌, ◌≢◌, ℕ, List, codes}
use Rattle.http.specs.StatusCode.{IsCodeText}
use Rattle.http_header.specs.FieldName.{IsHeaderName}
use Rattle.http_header.specs.FieldValue.{IsFieldValue}
use Rattle.http_header.specs.Token.{IsToken}
use Rattle.http_uri.specs.Grammar.{IsScheme, IsAuthority, IsPathInput}
use Rattle.qh_spec.specs.Fields.{Field}
use Rattle.qh_h3wire.specs.declared.headers.field.Kind.{Kind}
use Rattle.qh_h3wire.specs.declared.headers.field.Kind.TheVariants.{Method, Scheme, Authority, Path, Status, Plain}

-- a name that is none of the known pseudo fields'
pub record IsOther (name : List ℕ) : Type 0 where
  pub method : name ≢ codes ":method"
  pub scheme : name ≢ codes ":scheme"
  pub authority : name ≢ codes ":authority"
  pub path : name ≢ codes ":path"
  pub status : name ≢ codes ":status"

-- the kind that a name tells
abbrev pub IsKind : List ℕ → Kind → Type 0
IsKind name Method = name ≡ codes ":method"
IsKind name Scheme = name ≡ codes ":scheme"
IsKind name Authority = name ≡ codes ":authority"
IsKind name Path = name ≡ codes ":path"
IsKind name Status = name ≡ codes ":status"
IsKind name Plain = IsOther name

-- the field has a value of this kind, and where it is no pseudo field a name
abbrev pub HasKind : Field → Kind → Type 0
HasKind f Method = IsToken f.value
HasKind f Scheme = IsScheme f.value
HasKind f Authority = IsAuthority f.value
HasKind f Path = IsPathInput f.value
HasKind f Status = IsCodeText f.value
HasKind f Plain = IsHeaderName f.name × IsFieldValue f.value
