-- What a list of fields means: a request's head, a response's head, fields, trailers (RFC 9114, section 4.3).
use Rattle.std.specs.Prelude.{◌≡◌, ℕ, Bool, ◌==◌, List, [], ◌∷◌, map, filter, codes, bytes_eq, Option, Some, None, IsSome, if◌then◌else◌, slice_get, slice_index, ◌↔◌}
use Rattle.std.specs.List.{AllByRecursion}
use Rattle.http.specs.StatusCode.{IsStatusCode, IsCodeText, code_digits}
use Rattle.http_header.specs.Token.{IsToken}
use Rattle.http_header.specs.FieldName.{IsHeaderName}
use Rattle.http_header.specs.FieldValue.{FieldValue, IsFieldValue}
use Rattle.http_header.specs.HeaderMap.{Entries}
use Rattle.http_uri.specs.Grammar.{IsScheme, IsAuthority, IsPathInput, without_fragment}
use Rattle.qh_spec.specs.Fields.{Field}
use Rattle.qh_spec.specs.Message.{PlainTarget, PlainHead, Request, Response}
use Rattle.qh_spec.specs.Same.{SameTarget, bytes_under}
use Rattle.qh_spec.specs.Section.{IsSection}

-- A pseudo field of section 4.3 with a value that it may have, or a field of a message with its name in lower case
-- (section 4.2).
pub data IsReadable (f : Field) : Type 0 where
  method : f.name ≡ codes ":method" → IsToken f.value → IsReadable f
  scheme : f.name ≡ codes ":scheme" → IsScheme f.value → IsReadable f
  authority : f.name ≡ codes ":authority" → IsAuthority f.value → IsReadable f
  path : f.name ≡ codes ":path" → IsPathInput f.value → IsReadable f
  status : f.name ≡ codes ":status" → IsCodeText f.value → IsReadable f
  plain : IsHeaderName f.name → IsFieldValue f.value → IsReadable f

-- each of them (own)
abbrev pub AreReadable : List Field → Type 0
AreReadable fields = AllByRecursion IsReadable fields

-- the values of a name, in order (own)
abbrev pub values_of : List ℕ → List Field → List (List ℕ)
values_of name fields = map (λ (f : Field). f.value) (filter (λ (f : Field). bytes_eq f.name name) fields)

-- the last element, else this one (own)
abbrev pub last_or : {X : Type 0} → X → List X → X
last_or x [] = x
last_or x (y ∷ ys) = last_or y ys

abbrev pub last_of : {X : Type 0} → List X → Option X
last_of [] = None
last_of (x ∷ xs) = Some (last_or x xs)

-- a pseudo field that comes again counts by its last value (own)
abbrev pub pseudo : List ℕ → List Field → Option (List ℕ)
pseudo name fields = last_of (values_of name fields)

-- the first host field
abbrev pub host_of : List Field → Option (List ℕ)
host_of fields = slice_get (values_of (codes "host") fields) 0

-- a name that begins with a colon (section 4.3)
abbrev pub is_pseudo_name : List ℕ → Bool
is_pseudo_name name = slice_index name 0 == 58

-- Each field can be read. Those that aren't pseudo fields are those of the map, name by name, in order.
pub record MeansFields (fields : List Field) (m : Entries FieldValue) : Type 0 where
  pub readable : AreReadable fields
  pub values : (name : List ℕ) → bytes_under m name ≡ (if is_pseudo_name name then [] else values_of name fields)

-- The authority is that of :authority, or of the host field where there is no :authority. Where both are there, they
-- are the same (section 4.3.1).
abbrev pub ChoosesAuthority : Option (List ℕ) → Option (List ℕ) → List ℕ → Type 0
ChoosesAuthority None None a = ⊥
ChoosesAuthority (Some x) None a = a ≡ x
ChoosesAuthority None (Some h) a = a ≡ h
ChoosesAuthority (Some x) (Some h) a = (a ≡ h) × (x ≡ h)

-- this is an authority, and a scheme and a path are both there or both missing (RFC 9114, sections 4.3.1 and 4.4)
pub record MakesTarget (fields : List Field) (a : List ℕ) : Type 0 where
  pub is_authority : IsAuthority a
  pub both : IsSome (pseudo (codes ":scheme") fields) ↔ IsSome (pseudo (codes ":path") fields)

-- a path as a target keeps it, without a fragment; a missing one is kept as nothing (own)
abbrev pub kept_path : Option (List ℕ) → List ℕ
kept_path None = []
kept_path (Some p) = without_fragment p

-- the target that the fields give, with this authority (section 4.3.1)
abbrev pub given_target : List Field → List ℕ → PlainTarget
given_target fields a = record {
  scheme = pseudo (codes ":scheme") fields;
  authority = Some a;
  path_and_query = kept_path (pseudo (codes ":path") fields);
}

-- the pseudo fields and the host field give a request with this method and the same target as this (section 4.3.1)
pub record MeansRequest (fields : List Field) (m : List ℕ) (t : PlainTarget) : Type 0 where
  pub method_is : pseudo (codes ":method") fields ≡ Some m
  pub authority : List ℕ
  pub chosen : ChoosesAuthority (pseudo (codes ":authority") fields) (host_of fields) authority
  pub makes : MakesTarget fields authority
  pub target_is : SameTarget (given_target fields authority) t

-- :status is the digits of this status (section 4.3.2)
abbrev pub MeansResponse : List Field → ℕ → Type 0
MeansResponse fields s = IsStatusCode s × (pseudo (codes ":status") fields ≡ Some (code_digits s))

-- the fields give the head (section 4.3)
abbrev pub MeansHead : List Field → PlainHead → Type 0
MeansHead fields (Request m t) = MeansRequest fields m t
MeansHead fields (Response s) = MeansResponse fields s

-- there is a further section exactly where there are trailers, and it means them (section 4.1)
abbrev pub MeansTrailers : Option (List ℕ) → Option (Entries FieldValue) → Type 0
MeansTrailers None None = Unit {0}
MeansTrailers (Some section) (Some m) = (fields : List Field) × IsSection section fields × MeansFields fields m
MeansTrailers None (Some m) = ⊥
MeansTrailers (Some section) None = ⊥
