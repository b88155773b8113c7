-- What is kept of a script, line by line.
use Rattle.std.proofs.Common.{◌≡◌, ℕ, ◌+◌, ◌<◌, ◌≤◌, true, false, nat_lt, List, [], ◌∷◌, ◌++◌, length, Option, Some, None, refl, sym, ap, ◌∙◌, subst, arith, inl, inr, lt-ltb, le-ltb, length-append}
use Rattle.std.specs.Prelude.{bytes_eq, is_some}
use Rattle.std.proofs.lemmas.Bool.{cases_Bool}
use Rattle.std.proofs.lemmas.List.Sums.{sum_by-cons}
use Rattle.http_header.specs.FieldValue.{FieldValue, plain_value}
use Rattle.http_header.specs.HeaderMap.{Entry, Entries, append, value_count}
use Rattle.qh_spec.specs.Config.{PlainConfig, FitVersions}
use Rattle.qh_spec.specs.declared.link.Upset.{Upset}
use Rattle.qh_spec.specs.declared.script.Setting.{Setting}
use Rattle.qh_spec.specs.declared.script.Setting.TheVariants.{Section, RequestBody, Response, Cap, Bidi, Window, Idle, Rtt, Rounds, Step}
use Rattle.qh_spec.specs.Message.{PlainMessage, PlainTarget, Request as RequestHead}
use Rattle.qh_spec.specs.Script.{Script, applied, change_last, field_count, filling, set_config, set_number, trailers_so_far, with_body, with_field, with_requests, with_trailer}
use Rattle.qh_spec.specs.ScriptLine as says
use Rattle.qh_spec.specs.ScriptLine.{Line as PlainLine}
use Rattle.qh_script.specs.Config.{unversioned}
use Rattle.qh_script.specs.Line.{Means}
use Rattle.qh_script.specs.Outline.{IsFull, IsOneMore, IsOutline, MakesOutline, PlainOutline, last_count}
use Rattle.qh_script.specs.Script.{MakesNone}
use Rattle.qh_script.specs.declared.line.Line.{Line}

-- ---- one value more

count_cons : (e : Entry FieldValue) (m : Entries FieldValue) → value_count (e ∷ m) ≡ length e.1 + value_count m
count_cons e m = sum_by-cons (λ (x : Entry FieldValue). length x.1) e m

count_append : (m : Entries FieldValue) (name : List ℕ) (x : FieldValue) → value_count (append m name x) ≡ value_count m + 1
count_append [] name x = refl
count_append (e ∷ m) name x =
    elim (cases_Bool (bytes_eq e.0 name)) [
      | inl t ↦ rw t (omega (arith, count_cons (e.0, e.1 ++ x ∷ []) m, count_cons e m, length-append e.1 (x ∷ [])))
      | inr f ↦ rw f (omega (arith, count_cons e (append m name x), count_cons e m, count_append m name x))
    ]

-- a change of a request, which has k fields and trailers, and then n
abbrev Turns : (PlainMessage → Option PlainMessage) → (k n : ℕ) → Type 0
Turns f k n = (m : PlainMessage) → field_count m ≡ k → (changed : PlainMessage) × (f m ≡ Some changed) × (field_count changed ≡ n)

field_turns : (name value : List ℕ) (k : ℕ) → k < 2000 → Turns (with_field name value) k (k + 1)
field_turns name value k few m is =
    let test : nat_lt (field_count m) 2000 ≡ true = lt-ltb (field_count m) 2000 (omega (arith, is)) in (
      record m { fields = append m.fields name (plain_value value) },
      rw test refl,
      omega (arith, is, count_append m.fields name (plain_value value)),
    )

trailer_turns : (name value : List ℕ) (k : ℕ) → k < 2000 → Turns (with_trailer name value) k (k + 1)
trailer_turns name value k few m is =
    let test : nat_lt (field_count m) 2000 ≡ true = lt-ltb (field_count m) 2000 (omega (arith, is)) in (
      record m { trailers = Some (append (trailers_so_far m) name (plain_value value)) },
      rw test refl,
      omega (arith, is, count_append (trailers_so_far m) name (plain_value value)),
    )

body_turns : (bytes : List ℕ) (k : ℕ) → Turns (with_body bytes) k k
body_turns bytes k m is = (record m { body = bytes }, refl, is)

field_full : (name value : List ℕ) (m : PlainMessage) → 2000 ≤ field_count m → with_field name value m ≡ None
field_full name value m full = let test : nat_lt (field_count m) 2000 ≡ false = le-ltb (field_count m) 2000 full in rw test refl

trailer_full : (name value : List ℕ) (m : PlainMessage) → 2000 ≤ field_count m → with_trailer name value m ≡ None
trailer_full name value m full = let test : nat_lt (field_count m) 2000 ≡ false = le-ltb (field_count m) 2000 full in rw test refl

-- ---- the last request

some_same : (a b : ℕ) → Some a ≡ Some b → a ≡ b
some_same a b e = cc

last_behind : (m : PlainMessage) (ms : List PlainMessage) (n : ℕ) → last_count ms ≡ Some n → last_count (m ∷ ms) ≡ Some n
last_behind m [] n e = absurd cc
last_behind m (x ∷ ms) n e = e

record IsChanged (f : PlainMessage → Option PlainMessage) (ms : List PlainMessage) (n : ℕ) : Type 0 where
  changed : List PlainMessage
  is : change_last f ms ≡ Some changed
  count : last_count changed ≡ Some n

last_turned : (f : PlainMessage → Option PlainMessage) (ms : List PlainMessage) (k n : ℕ) → Turns f k n → last_count ms ≡ Some k → IsChanged f ms n
last_turned f [] k n turns e = absurd cc
last_turned f (m ∷ []) k n turns e =
    let t = turns m (some_same (field_count m) k e) in
    record { changed = t.0 ∷ []; is = rw t.1 refl; count = ap Some t.2 }
last_turned f (m ∷ x ∷ ms) k n turns e =
    let r = last_turned f (x ∷ ms) k n turns e in
    record { changed = m ∷ r.changed; is = rw r.is refl; count = last_behind m r.changed n r.count }

last_refused : (f : PlainMessage → Option PlainMessage) (ms : List PlainMessage) (k : ℕ) → ((m : PlainMessage) → field_count m ≡ k → f m ≡ None)
    → last_count ms ≡ Some k → change_last f ms ≡ None
last_refused f [] k never e = absurd cc
last_refused f (m ∷ []) k never e = rw (never m (some_same (field_count m) k e)) refl
last_refused f (m ∷ x ∷ ms) k never e = rw (last_refused f (x ∷ ms) k never e) refl

no_last : (f : PlainMessage → Option PlainMessage) (ms : List PlainMessage) → last_count ms ≡ None → change_last f ms ≡ None
no_last f [] e = refl
no_last f (m ∷ []) e = absurd cc
no_last f (m ∷ x ∷ ms) e = rw (no_last f (x ∷ ms) e) refl

last_pushed : (ms : List PlainMessage) (m : PlainMessage) → last_count (ms ++ m ∷ []) ≡ Some (field_count m)
last_pushed [] m = refl
last_pushed (x ∷ ms) m = last_behind x (ms ++ m ∷ []) (field_count m) (last_pushed ms m)

-- ---- lines

-- what a line says makes a script of s, of which p is kept
pub record Steps (l : PlainLine) (s : Script) (p : PlainOutline) : Type 0 where
  next : Script
  makes : applied l s ≡ Some next
  outline : IsOutline p next

pub outlined : (line : Line) (l : PlainLine) (s : Script) (p : PlainOutline) → Means line l → Steps l s p → MakesOutline line s p
outlined line l s p means t = record { next = t.next; makes = (l, means, t.makes); outline = t.outline }

-- the same of a line that says this
pub steps_as : (l m : PlainLine) (s : Script) (p : PlainOutline) → l ≡ m → Steps m s p → Steps l s p
steps_as l m s p e t = subst (λ (x : PlainLine). Steps x s p) (sym e) t

module _ (s : Script) (o : PlainOutline) (h : IsOutline o s) where
  pub empty_step : Steps says.Empty s o
  empty_step = record { next = s; makes = refl; outline = h }

  pub disturb_step : (u : Upset) → Steps (says.Disturb u) s o
  disturb_step u = record {
    next = record s { schedule = s.schedule ++ u ∷ [] };
    makes = refl;
    outline = record { count = h.count; config = h.config; versions = h.versions };
  }

  pub request_step : (method : List ℕ) (target : PlainTarget) (p : PlainOutline) → p ≡ record o { field_count = Some 0 } → Steps (says.Request method target) s p
  request_step method target p e =
      let m : PlainMessage = record { head = RequestHead method target; fields = []; body = []; trailers = None } in
      record {
        next = record s { requests = s.requests ++ m ∷ [] };
        makes = refl;
        outline = record {
          count = ap (λ (x : PlainOutline). x.field_count) e ∙ sym (last_pushed s.requests m);
          config = ap (λ (x : PlainOutline). x.config) e ∙ h.config;
          versions = h.versions;
        };
      }

  turned : (f : PlainMessage → Option PlainMessage) (k n : ℕ) (p : PlainOutline) → Turns f k n → o.field_count ≡ Some k → p.field_count ≡ Some n → p.config ≡ o.config
      → (t : Script) × (with_requests s (change_last f s.requests) ≡ Some t) × IsOutline p t
  turned f k n p turns was is same =
      let c = last_turned f s.requests k n turns (sym h.count ∙ was) in (
        record s { requests = c.changed },
        rw c.is refl,
        record { count = is ∙ sym c.count; config = same ∙ h.config; versions = h.versions },
      )

  pub field_step : (name value : List ℕ) (p : PlainOutline) → IsOneMore o.field_count p.field_count → p.config ≡ o.config → Steps (says.Field name value) s p
  field_step name value p one same =
      let t = turned (with_field name value) one.count (one.count + 1) p (field_turns name value one.count one.room) one.was one.now same in
      record { next = t.0; makes = t.1; outline = t.2 }

  pub trailer_step : (name value : List ℕ) (p : PlainOutline) → IsOneMore o.field_count p.field_count → p.config ≡ o.config → Steps (says.Trailer name value) s p
  trailer_step name value p one same =
      let t = turned (with_trailer name value) one.count (one.count + 1) p (trailer_turns name value one.count one.room) one.was one.now same in
      record { next = t.0; makes = t.1; outline = t.2 }

  there : (c : Option ℕ) → is_some c ≡ true → (k : ℕ) × (c ≡ Some k)
  there None e = absurd cc
  there (Some k) e = (k, refl)

  -- a body in place of another
  bodied : (bytes : List ℕ) → is_some o.field_count ≡ true → (t : Script) × (with_requests s (change_last (with_body bytes) s.requests) ≡ Some t) × IsOutline o t
  bodied bytes some =
      let k = there o.field_count some in
      turned (with_body bytes) k.0 k.0 o (body_turns bytes k.0) k.1 k.1 refl

  pub body_step : (bytes : List ℕ) → is_some o.field_count ≡ true → Steps (says.Body bytes) s o
  body_step bytes some = let t = bodied bytes some in record { next = t.0; makes = t.1; outline = t.2 }

  pub fill_step : (n : ℕ) → is_some o.field_count ≡ true → Steps (says.Fill n) s o
  fill_step n some = let t = bodied (filling 0 n) some in record { next = t.0; makes = t.1; outline = t.2 }

  -- settings
  set_unversioned : (x : Setting) (n : ℕ) (c : PlainConfig) → set_config x n (unversioned c) ≡ unversioned (set_config x n c)
  set_unversioned Section n c = refl
  set_unversioned RequestBody n c = refl
  set_unversioned Response n c = refl
  set_unversioned Cap n c = refl
  set_unversioned Bidi n c = refl
  set_unversioned Window n c = refl
  set_unversioned Idle n c = refl
  set_unversioned Rtt n c = refl
  set_unversioned Rounds n c = refl
  set_unversioned Step n c = refl

  set_versions : (x : Setting) (n : ℕ) (c : PlainConfig) → FitVersions c → FitVersions (set_config x n c)
  set_versions Section n c v = record { known = v.known; offered = v.offered }
  set_versions RequestBody n c v = record { known = v.known; offered = v.offered }
  set_versions Response n c v = record { known = v.known; offered = v.offered }
  set_versions Cap n c v = record { known = v.known; offered = v.offered }
  set_versions Bidi n c v = record { known = v.known; offered = v.offered }
  set_versions Window n c v = record { known = v.known; offered = v.offered }
  set_versions Idle n c v = record { known = v.known; offered = v.offered }
  set_versions Rtt n c v = record { known = v.known; offered = v.offered }
  set_versions Rounds n c v = v
  set_versions Step n c v = v

  pub set_step : (x : Setting) (n : ℕ) (p : PlainOutline) → p ≡ record o { config = set_config x n o.config } → Steps (says.Set x n) s p
  set_step x n p e = record {
    next = set_number x n s;
    makes = refl;
    outline = record {
      count = ap (λ (y : PlainOutline). y.field_count) e ∙ h.count;
      config = ap (λ (y : PlainOutline). y.config) e ∙ (ap (set_config x n) h.config ∙ set_unversioned x n s.config);
      versions = set_versions x n s.config h.versions;
    };
  }

  pub retry_step : (p : PlainOutline) → p ≡ record o { config = record o.config { retry = true } } → Steps says.RetryOn s p
  retry_step p e = record {
    next = record s { config = record s.config { retry = true } };
    makes = refl;
    outline = record {
      count = ap (λ (y : PlainOutline). y.field_count) e ∙ h.count;
      config = ap (λ (y : PlainOutline). y.config) e ∙ ap (λ (c : PlainConfig). record c { retry = true }) h.config;
      versions = record { known = h.versions.known; offered = h.versions.offered };
    };
  }

  pub grease_step : (p : PlainOutline) → p ≡ record o { config = record o.config { send_grease = false } } → Steps says.GreaseOff s p
  grease_step p e = record {
    next = record s { config = record s.config { send_grease = false } };
    makes = refl;
    outline = record {
      count = ap (λ (y : PlainOutline). y.field_count) e ∙ h.count;
      config = ap (λ (y : PlainOutline). y.config) e ∙ ap (λ (c : PlainConfig). record c { send_grease = false }) h.config;
      versions = record { known = h.versions.known; offered = h.versions.offered };
    };
  }

  -- ---- lines that aren't taken

  full_last : (f : PlainMessage → Option PlainMessage) (c : Option ℕ) → o.field_count ≡ c → IsFull c → ((m : PlainMessage) → 2000 ≤ field_count m → f m ≡ None)
      → change_last f s.requests ≡ None
  full_last f None e full never = no_last f s.requests (sym h.count ∙ e)
  full_last f (Some k) e full never = last_refused f s.requests k (λ m is. never m (omega (arith, is, full))) (sym h.count ∙ e)

  pub field_none : (name value : List ℕ) → IsFull o.field_count → applied (says.Field name value) s ≡ None
  field_none name value full = rw (full_last (with_field name value) o.field_count refl full (field_full name value)) refl

  pub trailer_none : (name value : List ℕ) → IsFull o.field_count → applied (says.Trailer name value) s ≡ None
  trailer_none name value full = rw (full_last (with_trailer name value) o.field_count refl full (trailer_full name value)) refl

  gone : (c : Option ℕ) → is_some c ≡ false → c ≡ None
  gone None e = refl
  gone (Some k) e = absurd cc

  pub body_none : (bytes : List ℕ) → is_some o.field_count ≡ false → applied (says.Body bytes) s ≡ None
  body_none bytes none = rw (no_last (with_body bytes) s.requests (sym h.count ∙ gone o.field_count none)) refl

  pub fill_none : (n : ℕ) → is_some o.field_count ≡ false → applied (says.Fill n) s ≡ None
  fill_none n none = rw (no_last (with_body (filling 0 n)) s.requests (sym h.count ∙ gone o.field_count none)) refl

pub none_as : (line : Line) (l m : PlainLine) (s : Script) → Means line l → l ≡ m → applied m s ≡ None → MakesNone line s
none_as line l m s means e none = (l, means, ap (λ (x : PlainLine). applied x s) e ∙ none)
