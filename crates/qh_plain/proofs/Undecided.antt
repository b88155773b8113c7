-- Requests that are shown with the path `/`.
use Rattle.std.proofs.Common.{◌≡◌, ◌≢◌, ◌↔◌, ℕ, ◌≤◌, Bool, IsTrue, not, ◌||◌, Result, Ok, Err, IfOk, OnErr, List, ◌∷◌, ◌++◌, length, codes, Some, None, sym, ap, subst, if◌then◌else◌}
use Rattle.std.specs.Prelude.{is_some}
use Rattle.std.proofs.lemmas.Result.{IfOk-weaker}
use Rattle.qh_spec.specs.Fields.{Field, optional_field, head_fields, message_fields, map_fields}
use Rattle.qh_spec.specs.Message.{PlainTarget, PlainHead, Request, Response, PlainMessage}
use Rattle.qh_spec.specs.Same.{bytes_under}
use Rattle.qh_spec.specs.Validity.{FitsSection, IsValidTarget, AreValidHosts, IsValidHead, AreValidTrailers}
use Rattle.qh_plain.specs.Undecided.{head_with_slash, ShowsSlash, IsUndecided}

-- a head whose target alone is to be judged
pub head_valid : {E : Type 0} (r : Result Bool E) (h : PlainHead) (method : List ℕ) (t : PlainTarget) (hosts : List (List ℕ)) → h ≡ Request method t → method ≢ codes "CONNECT"
    → AreValidHosts t.authority hosts → IfOk r (λ v. IsTrue v ↔ IsValidTarget t) → IfOk r (λ v. IsTrue v ↔ IsValidHead h hosts)
head_valid r h method t hosts is other alone told =
    rw is
    (IfOk-weaker r (λ v. IsTrue v ↔ IsValidTarget t) (λ v. IsTrue v ↔ IsValidHead (Request method t) hosts)
    (λ v both. (λ yes. (other, both.0 yes, alone), λ valid. both.1 valid.1)) told)

-- the fields are the same
head_same : (h : PlainHead) → ShowsSlash h → head_fields (head_with_slash h) ≡ head_fields h
head_same (Request m t) e =
    let with_path = λ (z : List ℕ). record { name = codes ":method"; value = m } ∷ (optional_field (codes ":scheme") t.scheme
    ++ (optional_field (codes ":authority") t.authority
    ++ optional_field (codes ":path") (if is_some t.scheme || not (is_some t.authority) then Some z else None))) in
    ap with_path (sym e)
head_same (Response s) e = absurd e

sound : (section request_body : ℕ) (m : PlainMessage) → FitsSection section (message_fields m) → AreValidTrailers section m.trailers → length m.body ≤ request_body
    → ShowsSlash m.head → IsValidHead (head_with_slash m.head) (bytes_under m.fields (codes "host")) → IsUndecided section request_body m
sound section request_body m fit trailers body shown head = record {
  shown = shown;
  sound = record {
    head = head;
    fields_fit = subst (λ (fs : List Field). FitsSection section fs) (sym (ap (λ (fs : List Field). fs ++ map_fields m.fields) (head_same m.head shown))) fit;
    trailers = trailers;
    body_fits = body;
  };
}

-- a request of which all but the head was found sound
pub undecided : {A E : Type 0} (r : Result A E) (section request_body : ℕ) (m : PlainMessage) → FitsSection section (message_fields m) → AreValidTrailers section m.trailers
    → length m.body ≤ request_body → OnErr r (ShowsSlash m.head) → OnErr r (IsValidHead (head_with_slash m.head) (bytes_under m.fields (codes "host")))
    → OnErr r (IsUndecided section request_body m)
undecided (Ok v) section request_body m fit trailers body shown head = tt
undecided (Err e) section request_body m fit trailers body shown head = sound section request_body m fit trailers body shown head
