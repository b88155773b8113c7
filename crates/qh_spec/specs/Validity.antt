-- Which requests may be asked (own).
use Rattle.std.specs.Prelude.{◌≡◌, ◌≢◌, ◌⊎◌, ℕ, ◌<◌, ◌≤◌, List, [], ◌∷◌, length, codes, slice_get, slice_index, Option, Some, None}
use Rattle.http_header.specs.HeaderMap.{Entries}
use Rattle.http_header.specs.FieldValue.{FieldValue}
use Rattle.http_uri.specs.ByteClasses.{count_of, at_sign, hash_sign, slash}
use Rattle.qh_spec.specs.Fields.{Field, message_fields, trailer_fields}
use Rattle.qh_spec.specs.Message.{PlainTarget, PlainHead, Request, Response, PlainMessage}
use Rattle.qh_spec.specs.Same.{bytes_under}
use Rattle.qh_spec.specs.Size.{section_size}

-- at most 1,024 fields, of a size that the other end takes (own; the size is that of RFC 9114, section 4.2.2)
abbrev pub FitsSection : (section : ℕ) → List Field → Type 0
FitsSection section fields = (length fields ≤ 1024) × (section_size fields ≤ section)

-- `scheme://authority/path`, without a user part and without a fragment (own)
pub record IsValidTarget (t : PlainTarget) : Type 0 where
  pub scheme : (t.scheme ≡ Some (codes "http")) ⊎ (t.scheme ≡ Some (codes "https"))
  pub authority : List ℕ
  pub authority_is : t.authority ≡ Some authority
  pub no_user : count_of at_sign authority ≡ 0
  pub path : slice_index t.path_and_query 0 ≡ slash
  pub no_fragment : count_of hash_sign t.path_and_query ≡ 0

-- one host field at most, and that is the authority (own)
abbrev pub AreValidHosts : Option (List ℕ) → List (List ℕ) → Type 0
AreValidHosts authority [] = Unit {0}
AreValidHosts authority (h ∷ []) = authority ≡ Some h
AreValidHosts authority (h ∷ i ∷ more) = ⊥

-- a request with a method other than CONNECT (own)
abbrev pub IsValidHead : PlainHead → (hosts : List (List ℕ)) → Type 0
IsValidHead (Request m t) hosts = (m ≢ codes "CONNECT") × IsValidTarget t × AreValidHosts t.authority hosts
IsValidHead (Response s) hosts = ⊥

-- trailers have a field (own)
abbrev pub AreValidTrailers : (section : ℕ) → Option (Entries FieldValue) → Type 0
AreValidTrailers section None = Unit {0}
AreValidTrailers section (Some m) = (0 < length (trailer_fields (Some m))) × FitsSection section (trailer_fields (Some m))

-- a request that an exchange takes, with sections and a body of at most these sizes (own)
pub record IsValidRequest (section request_body : ℕ) (m : PlainMessage) : Type 0 where
  pub head : IsValidHead m.head (bytes_under m.fields (codes "host"))
  pub fields_fit : FitsSection section (message_fields m)
  pub trailers : AreValidTrailers section m.trailers
  pub body_fits : length m.body ≤ request_body

-- the request at this index breaks a rule, or is the first that is too many (own)
abbrev pub IsAtFault : (max_requests section request_body : ℕ) → List PlainMessage → ℕ → Type 0
IsAtFault max_requests section request_body requests i =
    (i < length requests)
    × ((i ≡ max_requests) ⊎ ((m : PlainMessage) × (slice_get requests i ≡ Some m) × (IsValidRequest section request_body m → ⊥)))

-- the least index at fault (own)
pub record IsFaultIndex (max_requests section request_body : ℕ) (requests : List PlainMessage) (i : ℕ) : Type 0 where
  pub at_fault : IsAtFault max_requests section request_body requests i
  pub least : (j : ℕ) → j < i → IsAtFault max_requests section request_body requests j → ⊥

-- not too many requests, and each may be asked (own)
pub record IsValidList (max_requests section request_body : ℕ) (requests : List PlainMessage) : Type 0 where
  pub few : length requests ≤ max_requests
  pub each : (i : ℕ) (m : PlainMessage) → slice_get requests i ≡ Some m → IsValidRequest section request_body m
