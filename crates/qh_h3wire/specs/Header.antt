-- Heads of messages, and the fields that stand for them (RFC 9114, section 4.3).
use Rattle.std.specs.Prelude.{◌≡◌, ℕ, ◌↔◌, List, [], ◌++◌, codes, Option, Some, None, IsSome, IfSome, option_map, unwrap_or, if◌then◌else◌}
use Rattle.std.specs.List.{AllByRecursion}
use Rattle.http.specs.StatusCode.{IsStatusCode, code_digits}
use Rattle.http_header.specs.FieldValue.{FieldValue}
use Rattle.http_header.specs.HeaderMap.{Entries, get, IsHeaderMap}
use Rattle.http_header.specs.Token.{IsToken}
use Rattle.http_uri.specs.Grammar.{IsScheme, IsAuthority, IsPathInput, or_slash, without_fragment}
use Rattle.qh_spec.specs.Fields.{Field, optional_field, map_fields}
use Rattle.qh_spec.specs.Meaning.{AreReadable, pseudo}
use Rattle.qh_spec.specs.Message.{PlainTarget, has_path}
use Rattle.qh_spec.specs.Refusal.{fields_map}
use Rattle.qh_spec.specs.Same.{SameFields}
use Rattle.qh_spec.specs.Written.{HasPlainNames}
use Rattle.qh_qpack.specs.SectionFault.{IsWritable}
use Rattle.qh_h3wire.specs.PlainHeader.{PlainHeader}

-- the head of a request; a target that has an authority alone has no path
abbrev pub request_header : List ℕ → PlainTarget → Entries FieldValue → PlainHeader
request_header method target fields = record {
  method = Some method;
  scheme = target.scheme;
  authority = target.authority;
  path = if has_path target then Some target.path_and_query else None;
  status = None;
  fields = fields;
}

-- the head of a response
abbrev pub response_header : ℕ → Entries FieldValue → PlainHeader
response_header status fields = record { method = None; scheme = None; authority = None; path = None; status = Some status; fields = fields }

-- fields without a head
abbrev pub trailer_header : Entries FieldValue → PlainHeader
trailer_header fields = record { method = None; scheme = None; authority = None; path = None; status = None; fields = fields }

-- the pseudo-header fields of a head, in the order in which they are written; an empty path is written as `/`
abbrev pub header_fields : PlainHeader → List Field
header_fields h =
    optional_field (codes ":method") h.method ++ (optional_field (codes ":scheme") h.scheme
    ++ (optional_field (codes ":authority") h.authority ++ (optional_field (codes ":path") (option_map or_slash h.path)
    ++ optional_field (codes ":status") (option_map code_digits h.status))))

-- all that is written of a head: the pseudo-header fields, then the fields name by name
abbrev pub written_fields : PlainHeader → List Field
written_fields h = header_fields h ++ map_fields h.fields

-- The head that fields give, and the map of the others: a pseudo field that comes again counts by its last value, and a path
-- is kept without a fragment.
pub record IsHeaderOf (fields : List Field) (h : PlainHeader) : Type 0 where
  pub method : h.method ≡ pseudo (codes ":method") fields
  pub scheme : h.scheme ≡ pseudo (codes ":scheme") fields
  pub authority : h.authority ≡ pseudo (codes ":authority") fields
  pub path : h.path ≡ option_map without_fragment (pseudo (codes ":path") fields)
  pub status : option_map code_digits h.status ≡ pseudo (codes ":status") fields
  pub fields_are : h.fields ≡ fields_map fields

-- the first host field of a map
abbrev pub map_host : Entries FieldValue → Option (List ℕ)
map_host fields = option_map (λ (v : FieldValue). v.bytes) (get fields (codes "host"))

-- The authority is :authority or, where there is none, a host field. Where both are there they have the same bytes.
abbrev pub IsAuthorityOf : Option (List ℕ) → Option (List ℕ) → List ℕ → Type 0
IsAuthorityOf None None a = ⊥
IsAuthorityOf (Some own) None a = a ≡ own
IsAuthorityOf None (Some host) a = (a ≡ host) × IsAuthority host
IsAuthorityOf (Some own) (Some host) a = (a ≡ own) × (own ≡ host)

-- The parts of a head make this target: a scheme and a path, or neither.
pub record IsTargetOf (h : PlainHeader) (t : PlainTarget) : Type 0 where
  pub name : List ℕ
  pub authority : IsAuthorityOf h.authority (map_host h.fields) name
  pub authority_kept : t.authority ≡ Some name
  pub both : IsSome h.scheme ↔ IsSome h.path
  pub scheme_kept : t.scheme ≡ h.scheme
  pub path_kept : t.path_and_query ≡ unwrap_or h.path []

-- each part is of its kind, and the path as it is written has no fragment
pub record HasKinds (h : PlainHeader) : Type 0 where
  pub method : IfSome h.method IsToken
  pub scheme : IfSome h.scheme IsScheme
  pub authority : IfSome h.authority IsAuthority
  pub path : IfSome h.path (λ p. IsPathInput (or_slash p) × (without_fragment (or_slash p) ≡ or_slash p))
  pub status : IfSome h.status IsStatusCode

-- the parts and the fields are such as can be read, and each name and each value is short enough to be written
pub record IsSendable (h : PlainHeader) : Type 0 where
  pub kinds : HasKinds h
  pub readable : AreReadable (map_fields h.fields)
  pub names : HasPlainNames h.fields
  pub is_map : IsHeaderMap h.fields
  pub short : AllByRecursion IsWritable (written_fields h)

-- the same head, an empty path as `/`, and the same fields
pub record IsReadAgain (h k : PlainHeader) : Type 0 where
  pub method : k.method ≡ h.method
  pub scheme : k.scheme ≡ h.scheme
  pub authority : k.authority ≡ h.authority
  pub path : k.path ≡ option_map or_slash h.path
  pub status : k.status ≡ h.status
  pub fields : SameFields h.fields k.fields
