-- What a service may be asked and may answer, and the service that echoes (own).
use Rattle.std.specs.Prelude.{ℕ, ◌≤◌, List, [], ◌∷◌, ◌++◌, length, take, codes}
use Rattle.qh_spec.specs.Fields.{message_fields, trailer_fields}
use Rattle.qh_spec.specs.Message.{PlainHead, Request, Response, IsRequest, PlainMessage, target_text}
use Rattle.qh_spec.specs.Size.{section_size}

-- a status from 200 to 999
abbrev pub IsAnswerHead : PlainHead → Type 0
IsAnswerHead (Request method target) = ⊥
IsAnswerHead (Response status) = (200 ≤ status) × (status ≤ 999)

-- the request's sections lie within this size
pub record IsServable (section : ℕ) (m : PlainMessage) : Type 0 where
  pub head : IsRequest m.head
  pub fields : section_size (message_fields m) ≤ section
  pub trailers : section_size (trailer_fields m.trailers) ≤ section

-- a response whose sections and body lie within these sizes
pub record IsLawful (section body : ℕ) (m : PlainMessage) : Type 0 where
  pub head : IsAnswerHead m.head
  pub fields : section_size (message_fields m) ≤ section
  pub trailers : section_size (trailer_fields m.trailers) ≤ section
  pub length_fits : length m.body ≤ body

-- METHOD TARGET
abbrev pub request_line : PlainHead → List ℕ
request_line (Request method target) = method ++ (codes " " ++ target_text target)
request_line (Response status) = []

-- status 200, the request's line, a newline and its body, cut to this many bytes, and the request's trailers
abbrev pub echo : ℕ → PlainMessage → PlainMessage
echo limit m = record {
  head = Response 200;
  fields = [];
  body = take limit (request_line m.head ++ (10 ∷ m.body));
  trailers = m.trailers;
}
