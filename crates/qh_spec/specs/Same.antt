-- When two messages are the same: their values are compared, not how they are framed or kept (own).
use Rattle.std.specs.Prelude.{◌≡◌, ℕ, List, map, Option, Some, None}
use Rattle.http_header.specs.HeaderMap.{Entries, get_all}
use Rattle.http_header.specs.FieldValue.{FieldValue}
use Rattle.qh_spec.specs.Message.{PlainTarget, target_path, target_query, PlainHead, Request, Response, PlainMessage}

-- the values under a name, as bytes, in order
abbrev pub bytes_under : Entries FieldValue → List ℕ → List (List ℕ)
bytes_under fields name = map (λ (v : FieldValue). v.bytes) (get_all fields name)

-- Each name has the same values in the same order. No other order counts (RFC 9110, section 5.3).
abbrev pub SameFields : Entries FieldValue → Entries FieldValue → Type 0
SameFields a b = (name : List ℕ) → bytes_under a name ≡ bytes_under b name

-- both lack trailers, or both have the same (own)
abbrev pub SameTrailers : Option (Entries FieldValue) → Option (Entries FieldValue) → Type 0
SameTrailers None None = Unit {0}
SameTrailers (Some a) (Some b) = SameFields a b
SameTrailers None (Some b) = ⊥
SameTrailers (Some a) None = ⊥

-- The parts of RFC 3986, section 3, have the same bytes. An empty path behind an authority and a scheme is `/`
-- (RFC 9114, section 4.3.1).
pub record SameTarget (a b : PlainTarget) : Type 0 where
  pub scheme : a.scheme ≡ b.scheme
  pub authority : a.authority ≡ b.authority
  pub path : target_path a ≡ target_path b
  pub query : target_query a ≡ target_query b

-- requests with one method and the same target, or responses with one status (own)
abbrev pub SameHead : PlainHead → PlainHead → Type 0
SameHead (Request m t) (Request n u) = (m ≡ n) × SameTarget t u
SameHead (Response s) (Response t) = s ≡ t
SameHead (Request m t) (Response s) = ⊥
SameHead (Response s) (Request m t) = ⊥

-- the same head, fields, body and trailers (own)
pub record SameMessage (a b : PlainMessage) : Type 0 where
  pub head : SameHead a.head b.head
  pub fields : SameFields a.fields b.fields
  pub body : a.body ≡ b.body
  pub trailers : SameTrailers a.trailers b.trailers

-- both are requests, or both responses (own)
abbrev pub SameKind : PlainHead → PlainHead → Type 0
SameKind (Request m t) (Request n u) = Unit {0}
SameKind (Response s) (Response t) = Unit {0}
SameKind (Request m t) (Response s) = ⊥
SameKind (Response s) (Request m t) = ⊥
