-- What the parts of a head are for the fields that give it: a request, a response, or a fault.
use Rattle.std.proofs.Common.{◌≡◌, inl, inr, ℕ, ◌+◌, ◌/◌, ◌%◌, true, false, cond, List, [], ◌∷◌, Option, Some, None, Result, Ok, Err, ◌↔◌, refl, sym, ap, ◌∙◌, subst, arith, not, ◌||◌, ◌==◌, length, codes}
use Rattle.std.specs.Prelude.{bytes_eq, slice_get, is_some, IsSome, IsNone, IfOk, IfErr, IsErrOf, unwrap_or, map}
use Rattle.std.specs.List.{AllByRecursion}
use Rattle.std.specs.Option.{option_map}
use Rattle.std.proofs.lemmas.Bool.{cases_Bool}
use Rattle.std.proofs.lemmas.Slice.Eq.{bytes_eq-Decides}
use Rattle.http.specs.StatusCode.{code_digits}
use Rattle.http_header.specs.FieldValue.{FieldValue}
use Rattle.http_header.specs.HeaderMap.{Entries, get_all}
use Rattle.http_uri.specs.Grammar.{IsAuthority, without_fragment, path_of, query_of}
use Rattle.http_uri.specs.Uri.{PartsFit, IsUriOfParts}
use Rattle.http_uri.specs.declared.uri.Uri.{Uri as Target}
use Rattle.qh_spec.specs.Fields.{Field}
use Rattle.qh_spec.specs.Meaning.{IsReadable, AreReadable, values_of, last_of, last_or, pseudo, host_of, ChoosesAuthority, kept_path, given_target, MeansRequest}
use Rattle.qh_spec.specs.Message.{PlainTarget, target_of}
use Rattle.qh_spec.specs.Refusal as told
use Rattle.qh_spec.specs.Refusal.{HeaderFault, fields_map, AreTaken, HasMethod, IsRequestFault, IsResponseFault}
use Rattle.qh_spec.specs.Same.{SameTarget, bytes_under}
use Rattle.qh_spec.proofs.MapLaws.{fields_make}
use Rattle.qh_spec.proofs.RefusalLaws.{taken_readable}
use Rattle.qh_h3wire.specs.Header.{IsHeaderOf, map_host, IsAuthorityOf, IsTargetOf}
use Rattle.qh_h3wire.specs.HeadParts.{parts, IsUriAnswer, IsPartsAnswer}
use Rattle.qh_h3wire.specs.HeaderFault.{IfFault, IsHostAnswer, IsAuthorityAnswer, IsPartsFault}
use Rattle.qh_h3wire.specs.PlainHeader.{PlainHeader}
use Rattle.qh_h3wire.specs.declared.headers.HeaderError.{HeaderError}
use Rattle.qh_h3wire.specs.declared.headers.HeaderError.TheVariants.{InvalidHeaderName, InvalidHeaderValue, InvalidRequest, MissingMethod, MissingStatus, MissingAuthority, ContradictedAuthority, Memory}
use Rattle.qh_h3wire.proofs.Readable.{read_authority}
use Rattle.qh_h3wire.proofs.Requests.{authority_found, both_fit, Unlike, unlike_clause, target_made, no_target, request_fault, answer_missing, answer_invalid, answer_memory, answer_method, found_one, found_alike, uri_error, memory_target}

-- each value of a name is of the kind that readable fields of this name have
all_values : (name : List ℕ) (P : List ℕ → Type 0) (fs : List Field) → ((f : Field) → f.name ≡ name → IsReadable f → P f.value) → AreReadable fs → AllByRecursion P (values_of name fs)
all_values name P [] w a = tt
all_values name P (f ∷ fs) w a =
    elim (cases_Bool (bytes_eq f.name name)) [
      | inl t ↦ rw t (w f ((bytes_eq-Decides f.name name).0 t) a.0, all_values name P fs w a.1)
      | inr t ↦ rw t (all_values name P fs w a.1)
    ]

last_all : (P : List ℕ → Type 0) (x : List ℕ) (xs : List (List ℕ)) → P x → AllByRecursion P xs → P (last_or x xs)
last_all P x [] h a = h
last_all P x (y ∷ ys) h a = last_all P y ys a.0 a.1

last_has : (P : List ℕ → Type 0) (xs : List (List ℕ)) (v : List ℕ) → AllByRecursion P xs → last_of xs ≡ Some v → P v
last_has P [] v a e = cc
last_has P (x ∷ xs) v a e = let same : last_or x xs ≡ v = cc in subst P same (last_all P x xs a.0 a.1)

pseudo_has : (name : List ℕ) (P : List ℕ → Type 0) (fs : List Field) (v : List ℕ) → ((f : Field) → f.name ≡ name → IsReadable f → P f.value) → AreTaken [] fs → pseudo name fs ≡ Some v → P v
pseudo_has name P fs v w t e = last_has P (values_of name fs) v (all_values name P fs w (taken_readable [] fs t)) e

-- the first host field of the map is that of the fields
pub first_bytes : (vs : List FieldValue) → option_map (λ (v : FieldValue). v.bytes) (slice_get vs 0) ≡ slice_get (map (λ (v : FieldValue). v.bytes) vs) 0
first_bytes [] = refl
first_bytes (v ∷ vs) = refl

host_same : (fs : List Field) (h : PlainHeader) → AreTaken [] fs → IsHeaderOf fs h → host_of fs ≡ map_host h.fields
host_same fs h t i =
    let under : bytes_under (fields_map fs) (codes "host") ≡ values_of (codes "host") fs = (fields_make fs (taken_readable [] fs t)).values (codes "host") in
    sym (
    ap map_host i.fields_are ∙ first_bytes (get_all (fields_map fs) (codes "host"))
    ∙ ap (λ (z : List (List ℕ)). slice_get z 0) under
    )

chosen_by : (own host : Option (List ℕ)) (a : List ℕ) → IsAuthorityOf own host a → ChoosesAuthority own host a
chosen_by None None a h = h
chosen_by None (Some b) a h = h.0
chosen_by (Some o) None a h = h
chosen_by (Some o) (Some b) a h = (h.0 ∙ h.1, h.1)

is_name : (own host : Option (List ℕ)) (a : List ℕ) → ((v : List ℕ) → own ≡ Some v → IsAuthority v) → IsAuthorityOf own host a → IsAuthority a
is_name None None a w h = absurd h
is_name None (Some b) a w h = subst IsAuthority (sym h.0) h.1
is_name (Some o) None a w h = subst IsAuthority (sym h) (w o refl)
is_name (Some o) (Some b) a w h = subst IsAuthority (sym h.0) (w o refl)

path_kept : (o : Option (List ℕ)) → kept_path o ≡ unwrap_or (option_map without_fragment o) []
path_kept None = refl
path_kept (Some p) = refl

some_mapped : (o : Option (List ℕ)) → is_some (option_map without_fragment o) ≡ is_some o
some_mapped None = refl
some_mapped (Some p) = refl

-- a target by its parts
pub same_target : (t u : PlainTarget) → t.scheme ≡ u.scheme → t.authority ≡ u.authority → t.path_and_query ≡ u.path_and_query → SameTarget t u
same_target t u s a d =
    let both : ◌≡◌ {A = Option (List ℕ) × List ℕ} (t.scheme, t.path_and_query) (u.scheme, u.path_and_query) = cc in
    record {
      scheme = s;
      authority = a;
      path = ap (λ (z : Option (List ℕ) × List ℕ). cond (not (length z.1 == 0) || is_some z.0) (path_of z.1) []) both;
      query = ap query_of d;
    }

own_authority : (fs : List Field) (h : PlainHeader) → AreTaken [] fs → IsHeaderOf fs h → (v : List ℕ) → h.authority ≡ Some v → IsAuthority v
own_authority fs h t i v e = pseudo_has (codes ":authority") IsAuthority fs v (λ f n r. read_authority f n r) t (sym i.authority ∙ e)

-- the authority of a head is the one that its fields choose
chosen : (fs : List Field) (h : PlainHeader) (a : List ℕ) → AreTaken [] fs → IsHeaderOf fs h → IsAuthorityOf h.authority (map_host h.fields) a
    → ChoosesAuthority (pseudo (codes ":authority") fs) (host_of fs) a
chosen fs h a t i c =
    let e : pseudo (codes ":authority") fs ≡ h.authority = sym i.authority in
    let b = host_same fs h t i in
    rw (e, b) (chosen_by h.authority (map_host h.fields) a c)

scheme_some : (fs : List Field) (h : PlainHeader) → IsHeaderOf fs h → is_some h.scheme ≡ is_some (pseudo (codes ":scheme") fs)
scheme_some fs h i = ap (λ (z : Option (List ℕ)). is_some z) i.scheme

path_some : (fs : List Field) (h : PlainHeader) → IsHeaderOf fs h → is_some h.path ≡ is_some (pseudo (codes ":path") fs)
path_some fs h i = ap (λ (z : Option (List ℕ)). is_some z) i.path ∙ some_mapped (pseudo (codes ":path") fs)

-- the parts of a head that make a target give a request
pub means_request : (h : PlainHeader) (m : List ℕ) (u : PlainTarget) → h.method ≡ Some m → IsTargetOf h u → (fs : List Field) → AreTaken [] fs → IsHeaderOf fs h → MeansRequest fs m u
means_request h m u e is fs t i =
    let s = scheme_some fs h i in
    let p = path_some fs h i in
    record {
      method_is = sym i.method ∙ e;
      authority = is.name;
      chosen = chosen fs h is.name t i is.authority;
      makes = record {
        is_authority = is_name h.authority (map_host h.fields) is.name (own_authority fs h t i) is.authority;
        both = (λ x. sym p ∙ is.both.0 (s ∙ x), λ y. sym s ∙ is.both.1 (p ∙ y));
      };
      target_is = same_target (given_target fs is.name) u (sym i.scheme ∙ sym is.scheme_kept) (sym is.authority_kept)
          (path_kept (pseudo (codes ":path") fs) ∙ ap (λ (z : Option (List ℕ)). unwrap_or z []) (sym i.path) ∙ sym is.path_kept);
    }

host_refused : (fs : List Field) (b : List ℕ) (e : HeaderError) → HasMethod fs → ChoosesAuthority (pseudo (codes ":authority") fs) (host_of fs) b → IsHostAnswer (Err e) b → IfFault e (IsRequestFault fs)
host_refused fs b InvalidRequest m c h = (m, b, c, λ makes. h makes.is_authority)
host_refused fs b Memory m c h = tt
host_refused fs b InvalidHeaderName m c h = absurd h
host_refused fs b InvalidHeaderValue m c h = absurd h
host_refused fs b MissingMethod m c h = absurd h
host_refused fs b MissingStatus m c h = absurd h
host_refused fs b MissingAuthority m c h = absurd h
host_refused fs b ContradictedAuthority m c h = absurd h

parts_refused : (fs : List Field) (own host : Option (List ℕ)) (e : HeaderError) → HasMethod fs → pseudo (codes ":authority") fs ≡ own → host_of fs ≡ host
    → IsAuthorityAnswer (Err e) own host → IfFault e (IsRequestFault fs)
parts_refused fs None None e m p q h =
    let f : e ≡ MissingAuthority = cc in
    subst (λ (z : HeaderError). IfFault z (IsRequestFault fs)) (sym f) (m, p, q)
parts_refused fs (Some a) None e m p q h = cc
parts_refused fs None (Some b) e m p q h = host_refused fs b e m (rw (p, q) refl) h
parts_refused fs (Some a) (Some b) e m p q h =
    elim (cases_Bool (bytes_eq a b)) [
      | inl t ↦ let g = rw t at h in cc
      | inr t ↦
          let g = rw t at h in
          let f : e ≡ ContradictedAuthority = cc in
          subst (λ (z : HeaderError). IfFault z (IsRequestFault fs)) (sym f) (
            m,
            a,
            b,
            p,
            q,
            λ same. let u : bytes_eq a b ≡ true = (bytes_eq-Decides a b).1 same in let both : true ≡ false = sym u ∙ t in cc,
          )
    ]

-- a head without an authority, or with two unlike ones, or with a host that is none
pub no_authority : (h : PlainHeader) (e : HeaderError) → IsSome h.method → IsAuthorityAnswer (Err e) h.authority (map_host h.fields) → (fs : List Field) → AreTaken [] fs → IsHeaderOf fs h
    → IfFault e (IsRequestFault fs)
no_authority h e m a fs t i =
    parts_refused fs h.authority (map_host h.fields) e (ap (λ (z : Option (List ℕ)). is_some z) (sym i.method) ∙ m) (sym i.authority) (host_same fs h t i) a

-- parts that make no target
pub unfit : (h : PlainHeader) (a : List ℕ) → IsSome h.method → IsAuthorityAnswer (Ok a) h.authority (map_host h.fields) → (PartsFit (parts h.scheme a h.path) → ⊥)
    → (fs : List Field) → AreTaken [] fs → IsHeaderOf fs h → IsRequestFault fs told.InvalidRequest
unfit h a m answer n fs t i =
    let s = scheme_some fs h i in
    let p = path_some fs h i in (
      ap (λ (z : Option (List ℕ)). is_some z) (sym i.method) ∙ m,
      a,
      chosen fs h a t i (authority_found h.authority (map_host h.fields) a answer),
      λ makes. n (both_fit (parts h.scheme a h.path) refl (λ x. p ∙ makes.both.0 (sym s ∙ x), λ y. s ∙ makes.both.1 (sym p ∙ y))),
    )

-- all that is told of the parts of a request's head
abbrev Answer : Type 0
Answer = Result (List ℕ × Target × Entries FieldValue) HeaderError

pub record PartsFacts (r : Answer) (h : PlainHeader) : Type 0 where
  pub value : IfOk r (λ p. (h.method ≡ Some p.0) × IsTargetOf h (target_of p.1) × (p.2 ≡ h.fields))
  pub missing_method : IsErrOf r MissingMethod ↔ IsNone h.method
  pub missing_authority : IsErrOf r MissingAuthority ↔ (IsSome h.method × (h.authority ≡ None) × (map_host h.fields ≡ None))
  pub contradicted : IsErrOf r ContradictedAuthority ↔ (IsSome h.method × Unlike h.authority (map_host h.fields))
  pub invalid : IsErrOf r InvalidRequest → (t : PlainTarget) → IsTargetOf h t → ⊥
  pub memory : IsErrOf r Memory → (h.authority ≡ None) × ((t : PlainTarget) × IsTargetOf h t)
  pub no_other : IfErr r IsPartsFault
  pub means : IfOk r (λ p. (fs : List Field) → AreTaken [] fs → IsHeaderOf fs h → MeansRequest fs p.0 (target_of p.1))
  pub refused : IfErr r (λ e. (fs : List Field) → AreTaken [] fs → IsHeaderOf fs h → IfFault e (IsRequestFault fs))

made_facts : (p : List ℕ × Target × Entries FieldValue) (h : PlainHeader) (a : List ℕ) → h.method ≡ Some p.0 → p.2 ≡ h.fields → IsAuthorityAnswer (Ok a) h.authority (map_host h.fields)
    → PartsFit (parts h.scheme a h.path) → IsUriOfParts (parts h.scheme a h.path) p.1 → PartsFacts (Ok p) h
made_facts p h a m f answer fit uri =
    let target = target_made h a p.1 answer fit uri in
    let some = ap is_some m in
    record {
      value = (m, target, f);
      missing_method = (λ g. cc, λ n. cc);
      missing_authority = (λ g. cc, λ u. absurd (found_one h.authority (map_host h.fields) a answer u.1 u.2));
      contradicted = (λ g. cc, λ u. absurd (found_alike h.authority (map_host h.fields) a answer u.1));
      invalid = λ g. cc;
      memory = λ g. cc;
      no_other = tt;
      means = means_request h p.0 (target_of p.1) m target;
      refused = tt;
    }

no_method_facts : (h : PlainHeader) → h.method ≡ None → PartsFacts (Err MissingMethod) h
no_method_facts h m =
    let none = ap is_some m in
    record {
      value = tt;
      missing_method = (λ _. none, λ _. refl);
      missing_authority = (λ g. cc, λ u. let some = u.0 in cc);
      contradicted = (λ g. cc, λ u. let some = u.0 in cc);
      invalid = λ g. cc;
      memory = λ g. cc;
      no_other = tt;
      means = tt;
      refused = λ fs t i. sym i.method ∙ m;
    }

no_authority_facts : (h : PlainHeader) (e : HeaderError) → IsSome h.method → IsAuthorityAnswer (Err e) h.authority (map_host h.fields) → IsUriAnswer (Err e) (Err e) h.scheme h.path → PartsFacts (Err e) h
no_authority_facts h e m answer uri =
    let own = h.authority in
    let host = map_host h.fields in
    let missing = answer_missing (List ℕ × Target × Entries FieldValue) own host e answer in
    record {
      value = tt;
      missing_method = (λ g. let f : e ≡ MissingMethod = cc in absurd (answer_method own host e answer f), λ n. cc);
      missing_authority = (λ g. let both = missing.0 g in (m, both.0, both.1), λ u. missing.1 (u.1, u.2));
      contradicted = unlike_clause (List ℕ × Target × Entries FieldValue) h.method own host e m answer;
      invalid = λ g t is. let f : e ≡ InvalidRequest = cc in answer_invalid own host e answer f is.name is.authority;
      memory = λ g.
          let f : e ≡ Memory = cc in
          let a : IsAuthorityAnswer (Err Memory) own host = subst (λ (z : HeaderError). IsAuthorityAnswer (Err z) own host) f answer in
          let u : IsUriAnswer (Err e) (Err Memory) h.scheme h.path = subst (λ (z : HeaderError). IsUriAnswer (Err e) (Err z) h.scheme h.path) f uri in
          (answer_memory own host e answer f, memory_target h a u.1);
      no_other = request_fault own host e answer;
      means = tt;
      refused = no_authority h e m answer;
    }

unfit_facts : (h : PlainHeader) (a : List ℕ) → IsSome h.method → IsAuthorityAnswer (Ok a) h.authority (map_host h.fields) → (PartsFit (parts h.scheme a h.path) → ⊥) → PartsFacts (Err InvalidRequest) h
unfit_facts h a m answer none = record {
  value = tt;
  missing_method = (λ g. cc, λ n. cc);
  missing_authority = (λ g. cc, λ u. absurd (found_one h.authority (map_host h.fields) a answer u.1 u.2));
  contradicted = (λ g. cc, λ u. absurd (found_alike h.authority (map_host h.fields) a answer u.1));
  invalid = λ g. no_target h a none;
  memory = λ g. cc;
  no_other = tt;
  means = tt;
  refused = unfit h a m answer none;
}

refused_facts : (h : PlainHeader) (e : HeaderError) (a : Result (List ℕ) HeaderError) → IsSome h.method → IsAuthorityAnswer a h.authority (map_host h.fields) → IsUriAnswer (Err e) a h.scheme h.path
    → PartsFacts (Err e) h
refused_facts h e (Ok a) m answer uri = subst (λ (z : HeaderError). PartsFacts (Err z) h) (sym uri.0) (unfit_facts h a m answer uri.1)
refused_facts h e (Err f) m answer uri =
    let same : e ≡ f = (let both : ◌≡◌ {A = Result Target HeaderError} (Err e) (Err f) = uri_error (Err e) f h.scheme h.path uri in cc) in
    let own = subst (λ (z : HeaderError). IsUriAnswer (Err z) (Err f) h.scheme h.path) same uri in
    subst (λ (z : HeaderError). PartsFacts (Err z) h) (sym same) (no_authority_facts h f m answer own)

found_facts : (p : List ℕ × Target × Entries FieldValue) (h : PlainHeader) (a : Result (List ℕ) HeaderError) → h.method ≡ Some p.0 → p.2 ≡ h.fields → IsAuthorityAnswer a h.authority (map_host h.fields)
    → IsUriAnswer (Ok p.1) a h.scheme h.path → PartsFacts (Ok p) h
found_facts p h (Ok a) m f answer uri = made_facts p h a m f answer uri.0 uri.1
found_facts p h (Err e) m f answer uri = let both : ◌≡◌ {A = Result Target HeaderError} (Ok p.1) (Err e) = uri_error (Ok p.1) e h.scheme h.path uri in cc

pub parts_facts : (r : Answer) (h : PlainHeader) → IsPartsAnswer r h → PartsFacts r h
parts_facts (Ok p) h is = found_facts p h is.2.0 is.0 is.1 is.2.1 is.2.2
parts_facts (Err e) h (inl none) = subst (λ (z : HeaderError). PartsFacts (Err z) h) (sym none.0) (no_method_facts h none.1)
parts_facts (Err e) h (inr is) = refused_facts h e is.1.0 is.0 is.1.1 is.1.2

digits_once : (a b : ℕ) → code_digits a ≡ code_digits b → a ≡ b
digits_once a b e =
    let x : 48 + a / 100 ≡ 48 + b / 100 = cc in
    let y : 48 + a / 10 % 10 ≡ 48 + b / 10 % 10 = cc in
    let z : 48 + a % 10 ≡ 48 + b % 10 = cc in
    omega arith

pub same_status : (a b : Option ℕ) → option_map code_digits a ≡ option_map code_digits b → a ≡ b
same_status None None e = refl
same_status None (Some b) e = cc
same_status (Some a) None e = cc
same_status (Some a) (Some b) e = let d : code_digits a ≡ code_digits b = cc in ap Some (digits_once a b d)
