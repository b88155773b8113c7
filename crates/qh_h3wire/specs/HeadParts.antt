-- The parts of a request's head, and the target that they make.
use Rattle.std.specs.Prelude.{◌≡◌, ◌⊎◌, ◌↔◌, ℕ, Bool, false, List, Option, Some, None, IsSome, Result, Ok, Err}
use Rattle.http_header.specs.FieldValue.{FieldValue}
use Rattle.http_header.specs.HeaderMap.{Entries}
use Rattle.http_uri.specs.Uri.{PartsFit, IsUriOfParts}
use Rattle.http_uri.specs.declared.uri.Parts.{Parts}
use Rattle.http_uri.specs.declared.uri.Uri.{Uri}
use Rattle.qh_h3wire.specs.Header.{map_host}
use Rattle.qh_h3wire.specs.HeaderFault.{IsAuthorityAnswer}
use Rattle.qh_h3wire.specs.PlainHeader.{PlainHeader}
use Rattle.qh_h3wire.specs.declared.headers.HeaderError.{HeaderError}
use Rattle.qh_h3wire.specs.declared.headers.HeaderError.TheVariants.{InvalidRequest, MissingMethod, Memory}

abbrev pub parts : Option (List ℕ) → List ℕ → Option (List ℕ) → Parts
parts scheme authority path = record { scheme = scheme; authority = Some authority; path_and_query = path }

-- the fault of parts whose authority has this one, where the others fit or don't
abbrev pub target_fault : HeaderError → Bool → HeaderError
target_fault Memory false = InvalidRequest
target_fault e _ = e

-- the target with the authority that was found, or why there is none; want of memory stands for no fault of the other parts
abbrev pub IsUriAnswer : Result Uri HeaderError → Result (List ℕ) HeaderError → (scheme path : Option (List ℕ)) → Type 0
IsUriAnswer r (Err Memory) scheme path = (r ≡ Err Memory) × (IsSome scheme ↔ IsSome path)
IsUriAnswer r (Err e) scheme path = r ≡ Err e
IsUriAnswer (Ok u) (Ok a) scheme path = PartsFit (parts scheme a path) × IsUriOfParts (parts scheme a path) u
IsUriAnswer (Err e) (Ok a) scheme path = (e ≡ InvalidRequest) × (PartsFit (parts scheme a path) → ⊥)

-- the target of these parts beside a host field, or why there is none
abbrev pub IsTargetAnswer : Result Uri HeaderError → (scheme own path host : Option (List ℕ)) → Type 0
IsTargetAnswer r scheme own path host = (a : Result (List ℕ) HeaderError) × IsAuthorityAnswer a own host × IsUriAnswer r a scheme path

-- the method, the target and the fields of a head, or why there are none
abbrev pub IsPartsAnswer : Result (List ℕ × Uri × Entries FieldValue) HeaderError → PlainHeader → Type 0
IsPartsAnswer (Ok p) h = (h.method ≡ Some p.0) × (p.2 ≡ h.fields) × IsTargetAnswer (Ok p.1) h.scheme h.authority h.path (map_host h.fields)
IsPartsAnswer (Err e) h = ((e ≡ MissingMethod) × (h.method ≡ None)) ⊎ (IsSome h.method × IsTargetAnswer (Err e) h.scheme h.authority h.path (map_host h.fields))
