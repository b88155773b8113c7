-- Messages as values: a head, fields, a body and trailers (RFC 9114, section 4.1).
use Rattle.std.specs.Prelude.{ℕ, ◌==◌, not, ◌||◌, List, [], ◌++◌, length, codes, is_some, Option, Some, None, if◌then◌else◌, Bool}
use Rattle.http_header.specs.HeaderMap.{Entries}
use Rattle.http_header.specs.FieldValue.{FieldValue}
use Rattle.http_uri.specs.declared.uri.Uri.{Uri as Target}
use Rattle.http_uri.specs.Uri.{uri_scheme, uri_authority, uri_data}
use Rattle.http_uri.specs.ByteClasses.{framed_text}
use Rattle.http_uri.specs.Grammar.{or_slash, path_of, query_of}

-- the parts of a request's target, the path and the query as one text
pub record PlainTarget : Type 0 where
  pub scheme : Option (List ℕ)
  pub authority : Option (List ℕ)
  pub path_and_query : List ℕ

-- a target without where it lies in memory
abbrev pub target_of : Target → PlainTarget
target_of u = record { scheme = uri_scheme u; authority = uri_authority u; path_and_query = uri_data u }

-- a target that has an authority alone has no path
abbrev pub has_path : PlainTarget → Bool
has_path t = not (length t.path_and_query == 0) || is_some t.scheme

abbrev pub target_path : PlainTarget → List ℕ
target_path t = if has_path t then path_of t.path_and_query else []

abbrev pub target_query : PlainTarget → Option (List ℕ)
target_query t = query_of t.path_and_query

-- What stands in :path, which isn't empty (section 4.3.1): an empty path is `/`.
abbrev pub target_path_and_query : PlainTarget → Option (List ℕ)
target_path_and_query t = if is_some t.scheme || not (is_some t.authority) then Some (or_slash t.path_and_query) else None

-- the target as text
abbrev pub target_text : PlainTarget → List ℕ
target_text t =
    framed_text [] t.scheme (codes "://") ++ framed_text [] t.authority [] ++ target_path t ++ framed_text (codes "?") (target_query t) []

-- a method's bytes and a target, or a status code
pub data PlainHead : Type 0 where
  Request : (method : List ℕ) (target : PlainTarget) → PlainHead
  Response : (status : ℕ) → PlainHead

abbrev pub IsRequest : PlainHead → Type 0
IsRequest (Request method target) = Unit {0}
IsRequest (Response status) = ⊥

abbrev pub IsResponse : PlainHead → Type 0
IsResponse (Request method target) = ⊥
IsResponse (Response status) = Unit {0}

pub record PlainMessage : Type 0 where
  pub head : PlainHead
  pub fields : Entries FieldValue
  pub body : List ℕ
  pub trailers : Option (Entries FieldValue)
