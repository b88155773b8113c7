-- Rows of bodies and fields of a script's requests.
use Rattle.std.proofs.Common.{◌≡◌, ℕ, ◌<◌, ◌≤◌, true, false, List, [], ◌∷◌, ◌++◌, nat_lt, codes, Option, Some, None, refl, sym, ap, ◌∙◌, arith, lt-ltb}
use Rattle.std.proofs.lemmas.Bool.{le-ltb}
use Rattle.http_header.specs.FieldValue.{plain_value}
use Rattle.http_header.specs.HeaderMap.{append}
use Rattle.qh_spec.specs.Message.{PlainMessage}
use Rattle.qh_spec.specs.MessageRows.{get_message}
use Rattle.qh_spec.specs.Script.{Script, empty_script, trailers_so_far, field_count, where_room, with_field, with_trailer, change_last, with_requests, applied, IsScript, IsRefusedAt, at_line}
use Rattle.qh_spec.specs.ScriptLine.{Line, Field, Trailer, Body, IsLine, worded, body}
use Rattle.qh_spec.proofs.LineLaws.{line_one}
use Rattle.qh_spec.proofs.ScriptRows.{default_fits, with_get, taken_get}

-- ---- the last request

last_refused : (f : PlainMessage → Option PlainMessage) (front : List PlainMessage) (m : PlainMessage) → f m ≡ None → change_last f (front ++ m ∷ []) ≡ None
last_refused f [] m e = rw e
last_refused f (x ∷ []) m e = rw e
last_refused f (x ∷ y ∷ front) m e = let rest = last_refused f (y ∷ front) m e in rw rest

last_changed : (f : PlainMessage → Option PlainMessage) (front : List PlainMessage) (m n : PlainMessage) → f m ≡ Some n → change_last f (front ++ m ∷ []) ≡ Some (front ++ n ∷ [])
last_changed f [] m n e = rw e
last_changed f (x ∷ []) m n e = rw e
last_changed f (x ∷ y ∷ front) m n e = let rest = last_changed f (y ∷ front) m n e in rw rest

no_room : (m n : PlainMessage) → 2000 ≤ field_count m → where_room m n ≡ None
no_room m n full = let t : nat_lt (field_count m) 2000 ≡ false = le-ltb (field_count m) 2000 full in rw t

room : (m n : PlainMessage) → field_count m < 2000 → where_room m n ≡ Some n
room m n few = let t : nat_lt (field_count m) 2000 ≡ true = lt-ltb (field_count m) 2000 few in rw t

refuses : (f : PlainMessage → Option PlainMessage) (front : List PlainMessage) (m : PlainMessage) (s : Script) → s.requests ≡ front ++ m ∷ [] → f m ≡ None
    → with_requests s (change_last f s.requests) ≡ None
refuses f front m s is e = ap (λ (ms : List PlainMessage). with_requests s (change_last f ms)) is ∙ ap (with_requests s) (last_refused f front m e)

changes : (f : PlainMessage → Option PlainMessage) (front : List PlainMessage) (m n : PlainMessage) (s : Script) → s.requests ≡ front ++ m ∷ [] → f m ≡ Some n
    → with_requests s (change_last f s.requests) ≡ Some (record s { requests = front ++ n ∷ [] })
changes f front m n s is e = ap (λ (ms : List PlainMessage). with_requests s (change_last f ms)) is ∙ ap (with_requests s) (last_changed f front m n e)

pub field_too_many : (front : List PlainMessage) (m : PlainMessage) (s : Script) (name value : List ℕ) → s.requests ≡ front ++ m ∷ [] → 2000 ≤ field_count m → applied (Field name value) s ≡ None
field_too_many front m s name value is full =
    refuses (with_field name value) front m s is (no_room m (record m { fields = append m.fields name (plain_value value) }) full)

pub trailer_too_many : (front : List PlainMessage) (m : PlainMessage) (s : Script) (name value : List ℕ) → s.requests ≡ front ++ m ∷ [] → 2000 ≤ field_count m → applied (Trailer name value) s ≡ None
trailer_too_many front m s name value is full =
    refuses (with_trailer name value) front m s is (no_room m (record m { trailers = Some (append (trailers_so_far m) name (plain_value value)) }) full)

pub field_taken : (front : List PlainMessage) (m : PlainMessage) (s : Script) (name value : List ℕ) → s.requests ≡ front ++ m ∷ [] → field_count m < 2000
    → applied (Field name value) s ≡ Some (record s { requests = front ++ record m { fields = append m.fields name (plain_value value) } ∷ [] })
field_taken front m s name value is few =
    let n : PlainMessage = record m { fields = append m.fields name (plain_value value) } in
    changes (with_field name value) front m n s is (room m n few)

pub trailer_taken : (front : List PlainMessage) (m : PlainMessage) (s : Script) (name value : List ℕ) → s.requests ≡ front ++ m ∷ [] → field_count m < 2000
    → applied (Trailer name value) s ≡ Some (record s { requests = front ++ record m { trailers = Some (append (trailers_so_far m) name (plain_value value)) } ∷ [] })
trailer_taken front m s name value is few =
    let n : PlainMessage = record m { trailers = Some (append (trailers_so_far m) name (plain_value value)) } in
    changes (with_trailer name value) front m n s is (room m n few)

-- ---- bodies

abbrev with_text : List ℕ → Script
with_text text = record empty_script { requests = record get_message { body = text } ∷ [] }

body_line : (text : List ℕ) → IsLine (codes "body " ++ text) (Body text)
body_line text = worded (codes "body") text (Body text) refl (body refl)

pub second_body_is : IsScript (codes "request GET https://a.test/" ++ 10 ∷ codes "body a" ++ 10 ∷ codes "body b") (with_text (codes "b"))
second_body_is = record {
  short = omega arith;
  taken = (
    with_get,
    taken_get,
    (
      with_text (codes "a"),
      record { line = Body (codes "a"); is = body_line (codes "a"); makes = refl },
      (with_text (codes "b"), record { line = Body (codes "b"); is = body_line (codes "b"); makes = refl }, refl),
    ),
  );
  fits = default_fits;
}

-- before the first request
pub early_body_refused : IsRefusedAt (codes "body a" ++ 10 ∷ codes "request GET https://a.test/") 1
early_body_refused =
    at_line [] (codes "body a") (codes "request GET https://a.test/" ∷ []) empty_script (omega arith) refl refl
    (λ t taken.
    let same = line_one (codes "body a") taken.line (Body (codes "a")) taken.is (body_line (codes "a")) in
    let none : None ≡ Some t = ap (λ (l : Line). applied l empty_script) (sym same) ∙ taken.makes in
    absurd cc)
