-- Why a list of fields is refused: by its fields, each in turn, and then by what it lacks (RFC 9114, section 4.3).
use Rattle.std.specs.Prelude.{◌≡◌, ◌≢◌, ◌⊎◌, ℕ, not, List, [], ◌∷◌, ◌++◌, map, filter, codes, Some, None, IsSome}
use Rattle.http_header.specs.FieldName.{IsHeaderName}
use Rattle.http_header.specs.FieldValue.{FieldValue, plain_value}
use Rattle.http_header.specs.HeaderMap.{Entries, append_all, RefusesAppend}
use Rattle.qh_spec.specs.Fields.{Field}
use Rattle.qh_spec.specs.Lists.{In}
use Rattle.qh_spec.specs.Meaning.{IsReadable, is_pseudo_name, pseudo, host_of, ChoosesAuthority, MakesTarget}

-- the faults of a list of fields, as the crate h3 names them
pub data HeaderFault : Type 0 where
  InvalidHeaderName : HeaderFault
  InvalidHeaderValue : HeaderFault
  MissingMethod : HeaderFault
  MissingAuthority : HeaderFault
  ContradictedAuthority : HeaderFault
  InvalidRequest : HeaderFault
  MissingStatus : HeaderFault

-- a name in lower case (section 4.2), or one of the pseudo fields of section 4.3
abbrev pub IsReadableName : List ℕ → Type 0
IsReadableName name =
    In name (codes ":method" ∷ codes ":scheme" ∷ codes ":authority" ∷ codes ":path" ∷ codes ":status" ∷ []) ⊎ IsHeaderName name

-- the map that the fields make, without the pseudo fields (own)
abbrev pub fields_map : List Field → Entries FieldValue
fields_map fields =
    append_all [] (map (λ (f : Field). (f.name, plain_value f.value)) (filter (λ (f : Field). not (is_pseudo_name f.name)) fields))

-- the map of the fields in front has no room for this one (own)
abbrev pub IsOneTooMany : List Field → Field → Type 0
IsOneTooMany front f = IsHeaderName f.name × RefusesAppend (fields_map front) f.name

-- the field is kept, behind these (own)
abbrev pub IsTaken : List Field → Field → Type 0
IsTaken front f = IsReadable f × (IsOneTooMany front f → ⊥)

-- the fault of a field behind these: its name, then its value, then that there is no room for it (own)
abbrev pub IsFieldFault : List Field → Field → HeaderFault → Type 0
IsFieldFault front f InvalidHeaderName = (IsReadableName f.name → ⊥) ⊎ (IsReadable f × IsOneTooMany front f)
IsFieldFault front f InvalidHeaderValue = IsReadableName f.name × (IsReadable f → ⊥)
IsFieldFault front f MissingMethod = ⊥
IsFieldFault front f MissingAuthority = ⊥
IsFieldFault front f ContradictedAuthority = ⊥
IsFieldFault front f InvalidRequest = ⊥
IsFieldFault front f MissingStatus = ⊥

-- each field is kept, behind these and those before it (own)
abbrev pub AreTaken : (front fields : List Field) → Type 0
AreTaken front [] = Unit {0}
AreTaken front (f ∷ fs) = IsTaken front f × AreTaken (front ++ f ∷ []) fs

-- the fault of the first field that isn't kept (own)
abbrev pub IsRefused : (front fields : List Field) → HeaderFault → Type 0
IsRefused front [] fault = ⊥
IsRefused front (f ∷ fs) fault = IsFieldFault front f fault ⊎ (IsTaken front f × IsRefused (front ++ f ∷ []) fs fault)

-- there is a :method
abbrev pub HasMethod : List Field → Type 0
HasMethod fields = IsSome (pseudo (codes ":method") fields)

-- The fault of a request's parts, in this order: no method, no authority, two unlike authorities, no target
-- (section 4.3.1).
abbrev pub IsRequestFault : List Field → HeaderFault → Type 0
IsRequestFault fields MissingMethod = pseudo (codes ":method") fields ≡ None
IsRequestFault fields MissingAuthority = HasMethod fields × (pseudo (codes ":authority") fields ≡ None) × (host_of fields ≡ None)
IsRequestFault fields ContradictedAuthority =
    HasMethod fields × (a h : List ℕ) × (pseudo (codes ":authority") fields ≡ Some a) × (host_of fields ≡ Some h) × (a ≢ h)
IsRequestFault fields InvalidRequest =
    HasMethod fields × (a : List ℕ) × ChoosesAuthority (pseudo (codes ":authority") fields) (host_of fields) a × (MakesTarget fields a → ⊥)
IsRequestFault fields InvalidHeaderName = ⊥
IsRequestFault fields InvalidHeaderValue = ⊥
IsRequestFault fields MissingStatus = ⊥

-- the fault of a response's parts (section 4.3.2)
abbrev pub IsResponseFault : List Field → HeaderFault → Type 0
IsResponseFault fields fault = (fault ≡ MissingStatus) × (pseudo (codes ":status") fields ≡ None)
