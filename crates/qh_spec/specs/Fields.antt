-- The fields that stand for a message (RFC 9114, section 4.3), in the order in which they are written.
use Rattle.std.specs.Prelude.{ℕ, List, [], ◌∷◌, ◌++◌, map, codes, Option, Some, None}
use Rattle.http.specs.StatusCode.{code_digits}
use Rattle.http_header.specs.HeaderMap.{Entries, pairs}
use Rattle.http_header.specs.FieldValue.{FieldValue}
use Rattle.qh_spec.specs.Message.{PlainHead, Request, Response, PlainMessage, PlainTarget, target_path_and_query}

-- a field line: a name and a value
pub record Field : Type 0 where
  pub name : List ℕ
  pub value : List ℕ

abbrev pub optional_field : List ℕ → Option (List ℕ) → List Field
optional_field name None = []
optional_field name (Some value) = record { name = name; value = value } ∷ []

-- the pseudo-header fields of a request (section 4.3.1)
abbrev pub request_fields : List ℕ → PlainTarget → List Field
request_fields method target =
    record { name = codes ":method"; value = method } ∷ (optional_field (codes ":scheme") target.scheme
    ++ (optional_field (codes ":authority") target.authority ++ optional_field (codes ":path") (target_path_and_query target)))

-- that of a response (section 4.3.2)
abbrev pub response_fields : ℕ → List Field
response_fields status = record { name = codes ":status"; value = code_digits status } ∷ []

abbrev pub head_fields : PlainHead → List Field
head_fields (Request method target) = request_fields method target
head_fields (Response status) = response_fields status

-- the fields of a map, name by name
abbrev pub map_fields : Entries FieldValue → List Field
map_fields m = map (λ (p : List ℕ × FieldValue). record { name = p.0; value = p.1.bytes }) (pairs m)

abbrev pub message_fields : PlainMessage → List Field
message_fields m = head_fields m.head ++ map_fields m.fields

abbrev pub trailer_fields : Option (Entries FieldValue) → List Field
trailer_fields None = []
trailer_fields (Some m) = map_fields m
