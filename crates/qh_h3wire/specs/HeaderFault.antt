-- Why no head was made.
use Rattle.std.specs.Prelude.{◌≡◌, List, ℕ, codes, bytes_eq, Option, Some, None, Result, Ok, Err, if◌then◌else◌}
use Rattle.http.specs.StatusCode.{code_digits, IsCodeText}
use Rattle.http_header.specs.FieldName.{IsHeaderName}
use Rattle.http_header.specs.FieldValue.{FieldValue, IsFieldValue, plain_value}
use Rattle.http_header.specs.HeaderMap.{Entries, RefusesAppend}
use Rattle.http_header.specs.Token.{IsToken}
use Rattle.http_uri.specs.Grammar.{IsScheme, IsAuthority, IsPathInput, without_fragment}
use Rattle.qh_spec.specs.Fields.{Field}
use Rattle.qh_spec.specs.Meaning.{IsReadable}
use Rattle.qh_spec.specs.Refusal as told
use Rattle.qh_spec.specs.Refusal.{HeaderFault, IsReadableName}
use Rattle.qh_h3wire.specs.declared.headers.HeaderError.{HeaderError}
use Rattle.qh_h3wire.specs.declared.headers.HeaderError.TheVariants.{InvalidHeaderName, InvalidHeaderValue, InvalidRequest, MissingMethod, MissingStatus, MissingAuthority, ContradictedAuthority, Memory}
use Rattle.qh_h3wire.specs.declared.headers.field.ParsedField.{ParsedField}
use Rattle.qh_h3wire.specs.declared.headers.field.ParsedField.TheVariants.{Method, Scheme, Authority, Path, Status, Plain}

-- what holds of the fault of fields that an error tells; want of memory tells none
abbrev pub IfFault : HeaderError → (HeaderFault → Type 0) → Type 0
IfFault InvalidHeaderName P = P told.InvalidHeaderName
IfFault InvalidHeaderValue P = P told.InvalidHeaderValue
IfFault InvalidRequest P = P told.InvalidRequest
IfFault MissingMethod P = P told.MissingMethod
IfFault MissingStatus P = P told.MissingStatus
IfFault MissingAuthority P = P told.MissingAuthority
IfFault ContradictedAuthority P = P told.ContradictedAuthority
IfFault Memory P = Unit {0}

-- what is wrong with an authority beside a host field
abbrev pub authority_fault : Option (List ℕ) → Option (List ℕ) → Option HeaderError
authority_fault None None = Some MissingAuthority
authority_fault (Some own) (Some host) = if bytes_eq own host then None else Some ContradictedAuthority
authority_fault _ _ = None

-- a host field was read as an authority, or isn't one, or is one and there was no memory to share it
abbrev pub IsHostAnswer : Result (List ℕ) HeaderError → List ℕ → Type 0
IsHostAnswer (Ok a) host = (a ≡ host) × IsAuthority host
IsHostAnswer (Err InvalidRequest) host = IsAuthority host → ⊥
IsHostAnswer (Err Memory) host = IsAuthority host
IsHostAnswer _ host = ⊥

-- the authority of a request was found, or why not
abbrev pub IsAuthorityAnswer : Result (List ℕ) HeaderError → Option (List ℕ) → Option (List ℕ) → Type 0
IsAuthorityAnswer r None None = r ≡ Err MissingAuthority
IsAuthorityAnswer r None (Some host) = IsHostAnswer r host
IsAuthorityAnswer r (Some own) None = r ≡ Ok own
IsAuthorityAnswer r (Some own) (Some host) = r ≡ (if bytes_eq own host then Ok own else Err ContradictedAuthority)

-- a field was read as this
abbrev pub IsParsed : Field → ParsedField → Type 0
IsParsed f (Method m) = (f.name ≡ codes ":method") × IsToken f.value × (m ≡ f.value)
IsParsed f (Scheme s) = (f.name ≡ codes ":scheme") × IsScheme f.value × (s ≡ f.value)
IsParsed f (Authority a) = (f.name ≡ codes ":authority") × IsAuthority f.value × (a ≡ f.value)
IsParsed f (Path p) = (f.name ≡ codes ":path") × IsPathInput f.value × (p ≡ without_fragment f.value)
IsParsed f (Status s) = (f.name ≡ codes ":status") × IsCodeText f.value × (code_digits s ≡ f.value)
IsParsed f (Plain n v) = IsHeaderName f.name × IsFieldValue f.value × (n ≡ f.name) × (v ≡ plain_value f.value)

-- a value isn't of its kind, or it is and there was no memory to keep it
abbrev pub RefusesSeen : HeaderError → Type 0 → Type 0
RefusesSeen InvalidHeaderValue P = P → ⊥
RefusesSeen Memory P = P
RefusesSeen _ P = ⊥

-- a name isn't one of a message's fields, or its value isn't, or both are and there was no memory to keep them
abbrev pub RefusesPlain : HeaderError → Field → Type 0
RefusesPlain InvalidHeaderName f = IsHeaderName f.name → ⊥
RefusesPlain InvalidHeaderValue f = IsHeaderName f.name × (IsFieldValue f.value → ⊥)
RefusesPlain Memory f = IsHeaderName f.name × IsFieldValue f.value
RefusesPlain _ f = ⊥

-- why a field isn't read; want of memory stands for no fault of it
abbrev pub RefusesField : HeaderError → Field → Type 0
RefusesField InvalidHeaderName f = IsReadableName f.name → ⊥
RefusesField InvalidHeaderValue f = IsReadableName f.name × (IsReadable f → ⊥)
RefusesField Memory f = IsReadable f
RefusesField _ f = ⊥

-- a map has no room for a value of this name, or there was no memory
abbrev pub RefusesMore : HeaderError → Entries FieldValue → ParsedField → Type 0
RefusesMore InvalidHeaderName m (Plain n v) = RefusesAppend m n
RefusesMore Memory m p = Unit {0}
RefusesMore _ m p = ⊥

-- a map has room for a field that was read, or needs none
abbrev pub HasRoomFor : Entries FieldValue → ParsedField → Type 0
HasRoomFor m (Plain n v) = RefusesAppend m n → ⊥
HasRoomFor m _ = Unit {0}

-- what may be wrong with a request
abbrev pub IsPartsFault : HeaderError → Type 0
IsPartsFault MissingMethod = Unit {0}
IsPartsFault MissingAuthority = Unit {0}
IsPartsFault ContradictedAuthority = Unit {0}
IsPartsFault InvalidRequest = Unit {0}
IsPartsFault Memory = Unit {0}
IsPartsFault _ = ⊥
