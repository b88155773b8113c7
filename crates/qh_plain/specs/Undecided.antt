-- Requests that can't be judged without memory: a `Uri` shows an empty path as `/`, and tells it apart only in a copy (own).
use Rattle.std.specs.Prelude.{◌≡◌, ℕ, ◌<◌, List, codes, slice_get, Some}
use Rattle.http_uri.specs.Grammar.{or_slash}
use Rattle.qh_spec.specs.Message.{PlainTarget, PlainHead, Request, Response, PlainMessage}
use Rattle.qh_spec.specs.Validity.{IsValidRequest}

-- the target with the path `/`
abbrev pub with_slash : PlainTarget → PlainTarget
with_slash t = record { scheme = t.scheme; authority = t.authority; path_and_query = codes "/" }

abbrev pub head_with_slash : PlainHead → PlainHead
head_with_slash (Request method target) = Request method (with_slash target)
head_with_slash (Response status) = Response status

abbrev pub message_with_slash : PlainMessage → PlainMessage
message_with_slash m = record { head = head_with_slash m.head; fields = m.fields; body = m.body; trailers = m.trailers }

-- a path that is shown as `/`: it is that, or empty
abbrev pub ShowsSlash : PlainHead → Type 0
ShowsSlash (Request method target) = or_slash target.path_and_query ≡ codes "/"
ShowsSlash (Response status) = ⊥

-- the request is shown with the path `/`, and it may be asked if it has that path
pub record IsUndecided (section request_body : ℕ) (m : PlainMessage) : Type 0 where
  pub shown : ShowsSlash m.head
  pub sound : IsValidRequest section request_body (message_with_slash m)

-- one of the requests is such, and each before it may be asked
pub record IsUndecidedList (max_requests section request_body : ℕ) (requests : List PlainMessage) : Type 0 where
  pub index : ℕ
  pub request : PlainMessage
  pub few : index < max_requests
  pub is : slice_get requests index ≡ Some request
  pub undecided : IsUndecided section request_body request
  pub before : (j : ℕ) (m : PlainMessage) → j < index → slice_get requests j ≡ Some m → IsValidRequest section request_body m
