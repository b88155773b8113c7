-- The authority and the target of a request.
use Rattle.std.proofs.Common.{◌≡◌, ◌≢◌, ℕ, Bool, true, false, List, refl, sym, ap, ◌∙◌, subst, Option, Some, None, Result, Ok, Err, ◌↔◌, Bor, inl, inr}
use Rattle.std.specs.Prelude.{bytes_eq, IsSome, IsErrOf, unwrap_or, []}
use Rattle.std.specs.Bool.{beq}
use Rattle.std.specs.Option.{option_map, option_copied, is_some}
use Rattle.std.proofs.lemmas.Bool.{cases_Bool}
use Rattle.std.proofs.lemmas.Slice.Eq.{bytes_eq-Decides}
use Rattle.http_header.specs.FieldValue.{FieldValue}
use Rattle.http_uri.specs.Grammar.{IsAuthority}
use Rattle.http_uri.specs.Uri.{PartsFit, IsUriOfParts}
use Rattle.http_uri.specs.declared.uri.Parts.{Parts}
use Rattle.http_uri.specs.declared.uri.Uri.{Uri as Target}
use Rattle.qh_spec.specs.Message.{PlainTarget, target_of}
use Rattle.qh_h3wire.specs.Header.{map_host, IsAuthorityOf, IsTargetOf}
use Rattle.qh_h3wire.specs.HeadParts.{parts, target_fault, IsUriAnswer, IsTargetAnswer}
use Rattle.qh_h3wire.specs.HeaderFault.{authority_fault, IsHostAnswer, IsAuthorityAnswer, IsPartsFault}
use Rattle.qh_h3wire.specs.PlainHeader.{PlainHeader}
use Rattle.qh_h3wire.specs.declared.headers.HeaderError.{HeaderError}
use Rattle.qh_h3wire.specs.declared.headers.HeaderError.TheVariants.{InvalidHeaderName, InvalidHeaderValue, InvalidRequest, MissingMethod, MissingStatus, MissingAuthority, ContradictedAuthority, Memory}

-- the bytes of a value behind a reference
pub host_bytes : (r : Option (Bor FieldValue)) → option_map (λ (v : Bor FieldValue). v.now.bytes) r ≡ option_map (λ (v : FieldValue). v.bytes) (option_copied r)
host_bytes None = refl
host_bytes (Some v) = refl

abbrev pub Unlike : Option (List ℕ) → Option (List ℕ) → Type 0
Unlike own host = (a : List ℕ) × (b : List ℕ) × (own ≡ Some a) × (host ≡ Some b) × (a ≢ b)

-- both ways, for the two faults
pub record Faulty (T : Type 0) (own host : Option (List ℕ)) (e : HeaderError) : Type 0 where
  pub missing : IsErrOf {T = T} (Err e) MissingAuthority ↔ ((own ≡ None) × (host ≡ None))
  pub contradicted : IsErrOf {T = T} (Err e) ContradictedAuthority ↔ Unlike own host

missing_both : (T : Type 0) (own host : Option (List ℕ)) (e : HeaderError) → own ≡ None → host ≡ None → e ≡ MissingAuthority → Faulty T own host e
missing_both T own host e o h f = record {
  missing = (λ _. (o, h), λ _. ap (λ (z : HeaderError). Err z) f);
  contradicted = (λ g. let same : e ≡ ContradictedAuthority = cc in let both : MissingAuthority ≡ ContradictedAuthority = sym f ∙ same in cc, λ u. let both : ◌≡◌ {A = Option (List ℕ)} None (Some u.0) = sym o ∙ u.2 in cc);
}

unlike_both : (T : Type 0) (own host : Option (List ℕ)) (a b : List ℕ) (e : HeaderError) → own ≡ Some a → host ≡ Some b → bytes_eq a b ≡ false → e ≡ ContradictedAuthority → Faulty T own host e
unlike_both T own host a b e o h t f = record {
  missing = (λ g. let same : e ≡ MissingAuthority = cc in let both : ContradictedAuthority ≡ MissingAuthority = sym f ∙ same in cc, λ u. let both : ◌≡◌ {A = Option (List ℕ)} (Some a) None = sym o ∙ u.0 in cc);
  contradicted = (λ _. (a, b, o, h, λ q. let same : bytes_eq a b ≡ true = (bytes_eq-Decides a b).1 q in let both : true ≡ false = sym same ∙ t in cc), λ _. ap (λ (z : HeaderError). Err z) f);
}

pub faulty : (T : Type 0) (own host : Option (List ℕ)) (e : HeaderError) → Some e ≡ authority_fault own host → Faulty T own host e
faulty T None None e h = let f : e ≡ MissingAuthority = cc in missing_both T None None e refl refl f
faulty T None (Some b) e h = cc
faulty T (Some a) None e h = cc
faulty T (Some a) (Some b) e h =
    elim (cases_Bool (bytes_eq a b)) [
      | inl t ↦ let g = rw t at h in cc
      | inr t ↦ let g = rw t at h in let f : e ≡ ContradictedAuthority = cc in unlike_both T (Some a) (Some b) a b e refl refl t f
    ]

-- the fault that was found is the one that is there
answer_unlike : (T : Type 0) (own host : Option (List ℕ)) (e : HeaderError) → IsAuthorityAnswer (Err e) own host → IsErrOf {T = T} (Err e) ContradictedAuthority ↔ Unlike own host
answer_unlike T None None e h =
    let f : e ≡ MissingAuthority = cc in
    (missing_both T None None e refl refl f).contradicted
answer_unlike T (Some a) None e h = cc
answer_unlike T (Some a) (Some b) e h =
    elim (cases_Bool (bytes_eq a b)) [
      | inl t ↦ let g = rw t at h in cc
      | inr t ↦ let g = rw t at h in let f : e ≡ ContradictedAuthority = cc in (unlike_both T (Some a) (Some b) a b e refl refl t f).contradicted
    ]
answer_unlike T None (Some b) ContradictedAuthority h = absurd h
answer_unlike T None (Some b) InvalidRequest h = (λ g. cc, λ u. let both : ◌≡◌ {A = Option (List ℕ)} None (Some u.0) = u.2 in cc)
answer_unlike T None (Some b) Memory h = (λ g. cc, λ u. let both : ◌≡◌ {A = Option (List ℕ)} None (Some u.0) = u.2 in cc)
answer_unlike T None (Some b) InvalidHeaderName h = absurd h
answer_unlike T None (Some b) InvalidHeaderValue h = absurd h
answer_unlike T None (Some b) MissingMethod h = absurd h
answer_unlike T None (Some b) MissingStatus h = absurd h
answer_unlike T None (Some b) MissingAuthority h = absurd h

pub unlike_clause : (T : Type 0) (method own host : Option (List ℕ)) (e : HeaderError) → IsSome method → IsAuthorityAnswer (Err e) own host
    → IsErrOf {T = T} (Err e) ContradictedAuthority ↔ (IsSome method × Unlike own host)
unlike_clause T method own host e m h = let c = answer_unlike T own host e h in (λ g. (m, c.0 g), λ u. c.1 u.1)

pub authority_found : (own host : Option (List ℕ)) (a : List ℕ) → IsAuthorityAnswer (Ok a) own host → IsAuthorityOf own host a
authority_found None None a h = cc
authority_found None (Some b) a h = h
authority_found (Some own) None a h = let e : a ≡ own = cc in e
authority_found (Some own) (Some b) a h =
    elim (cases_Bool (bytes_eq own b)) [
      | inl t ↦ let g = rw t at h in let e : a ≡ own = cc in (e, (bytes_eq-Decides own b).0 t)
      | inr t ↦ let g = rw t at h in cc
    ]

-- a scheme and a path, or neither
fit_both : (p : Parts) → IsSome p.authority → PartsFit p → IsSome p.scheme ↔ IsSome p.path_and_query
fit_both p a f = (λ s. (f.0 s).1, λ d. f.1 (a, d))

pub both_fit : (p : Parts) → IsSome p.authority → (IsSome p.scheme ↔ IsSome p.path_and_query) → PartsFit p
both_fit p a b = (λ s. (a, b.0 s), λ d. b.1 d.1)

pub target_made : (h : PlainHeader) (authority : List ℕ) (u : Target) → IsAuthorityAnswer (Ok authority) h.authority (map_host h.fields) → PartsFit (parts h.scheme authority h.path) → IsUriOfParts (parts h.scheme authority h.path) u
    → IsTargetOf h (target_of u)
target_made h authority u a f is = record {
  name = authority;
  authority = authority_found h.authority (map_host h.fields) authority a;
  authority_kept = is.1;
  both = fit_both (parts h.scheme authority h.path) refl f;
  scheme_kept = is.0;
  path_kept = is.2;
}

pub no_target : (h : PlainHeader) (authority : List ℕ) → (PartsFit (parts h.scheme authority h.path) → ⊥) → (t : PlainTarget) → IsTargetOf h t → ⊥
no_target h authority f t is = f (both_fit (parts h.scheme authority h.path) refl is.both)

host_fault : (host : List ℕ) (e : HeaderError) → IsHostAnswer (Err e) host → IsPartsFault e
host_fault host InvalidRequest h = tt
host_fault host Memory h = tt
host_fault host InvalidHeaderName h = absurd h
host_fault host InvalidHeaderValue h = absurd h
host_fault host MissingMethod h = absurd h
host_fault host MissingStatus h = absurd h
host_fault host MissingAuthority h = absurd h
host_fault host ContradictedAuthority h = absurd h

-- a fault of the authority is one of a request
pub request_fault : (own host : Option (List ℕ)) (e : HeaderError) → IsAuthorityAnswer (Err e) own host → IsPartsFault e
request_fault None None e h = let f : e ≡ MissingAuthority = cc in subst IsPartsFault (sym f) tt
request_fault (Some a) None e h = cc
request_fault None (Some b) e h = host_fault b e h
request_fault (Some a) (Some b) e h =
    elim (cases_Bool (bytes_eq a b)) [
      | inl t ↦ let g = rw t at h in cc
      | inr t ↦ let g = rw t at h in let f : e ≡ ContradictedAuthority = cc in subst IsPartsFault (sym f) tt
    ]

-- with an authority of its own a request can only have two that differ
own_fault : (own : List ℕ) (host : Option (List ℕ)) (e : HeaderError) → IsAuthorityAnswer (Err e) (Some own) host → e ≡ ContradictedAuthority
own_fault own None e h = cc
own_fault own (Some b) e h =
    elim (cases_Bool (bytes_eq own b)) [
      | inl t ↦ let g = rw t at h in cc
      | inr t ↦ let g = rw t at h in cc
    ]

pub answer_missing : (T : Type 0) (own host : Option (List ℕ)) (e : HeaderError) → IsAuthorityAnswer (Err e) own host → IsErrOf {T = T} (Err e) MissingAuthority ↔ ((own ≡ None) × (host ≡ None))
answer_missing T None None e h = (λ _. (refl, refl), λ _. let f : e ≡ MissingAuthority = cc in ap (λ (z : HeaderError). Err z) f)
answer_missing T (Some a) host e h =
    let f = own_fault a host e h in
    (λ g. cc, λ u. let both : ◌≡◌ {A = Option (List ℕ)} (Some a) None = u.0 in cc)
answer_missing T None (Some b) e h = (
  λ g. let f : e ≡ MissingAuthority = cc in absurd (subst (λ (z : HeaderError). IsHostAnswer (Err z) b) f h),
  λ u. let both : ◌≡◌ {A = Option (List ℕ)} (Some b) None = u.1 in cc,
)

pub answer_invalid : (own host : Option (List ℕ)) (e : HeaderError) → IsAuthorityAnswer (Err e) own host → e ≡ InvalidRequest → (a : List ℕ) → IsAuthorityOf own host a → ⊥
answer_invalid None None e h f a is = is
answer_invalid (Some own) host e h f a is = let g = own_fault own host e h in cc
answer_invalid None (Some b) e h f a is = let none : IsAuthority b → ⊥ = subst (λ (z : HeaderError). IsHostAnswer (Err z) b) f h in none is.1

pub answer_memory : (own host : Option (List ℕ)) (e : HeaderError) → IsAuthorityAnswer (Err e) own host → e ≡ Memory → own ≡ None
answer_memory None host e h f = refl
answer_memory (Some own) host e h f = let g = own_fault own host e h in cc

pub answer_method : (own host : Option (List ℕ)) (e : HeaderError) → IsAuthorityAnswer (Err e) own host → e ≡ MissingMethod → ⊥
answer_method None None e h f = let g : e ≡ MissingAuthority = cc in cc
answer_method (Some own) host e h f = let g = own_fault own host e h in cc
answer_method None (Some b) e h f = subst (λ (z : HeaderError). IsHostAnswer (Err z) b) f h

-- one that is found is there
pub found_one : (own host : Option (List ℕ)) (a : List ℕ) → IsAuthorityAnswer (Ok a) own host → own ≡ None → host ≡ None → ⊥
found_one None None a h n m = cc
found_one None (Some b) a h n m = cc
found_one (Some own) host a h n m = cc

pub found_alike : (own host : Option (List ℕ)) (a : List ℕ) → IsAuthorityAnswer (Ok a) own host → Unlike own host → ⊥
found_alike None host a h u = let both : ◌≡◌ {A = Option (List ℕ)} None (Some u.0) = u.2 in cc
found_alike (Some own) None a h u = let both : ◌≡◌ {A = Option (List ℕ)} None (Some u.1) = u.3 in cc
found_alike (Some own) (Some b) a h u =
    elim (cases_Bool (bytes_eq own b)) [
      | inl t ↦
          let x : own ≡ u.0 = (let both : ◌≡◌ {A = Option (List ℕ)} (Some own) (Some u.0) = u.2 in cc) in
          let y : b ≡ u.1 = (let both : ◌≡◌ {A = Option (List ℕ)} (Some b) (Some u.1) = u.3 in cc) in
          u.4 (sym x ∙ (bytes_eq-Decides own b).0 t ∙ y)
      | inr t ↦ let g = rw t at h in cc
    ]

-- an error of the authority is that of the target
pub uri_error : (r : Result Target HeaderError) (e : HeaderError) (scheme path : Option (List ℕ)) → IsUriAnswer r (Err e) scheme path → r ≡ Err e
uri_error r Memory scheme path h = h.0
uri_error r InvalidRequest scheme path h = h
uri_error r InvalidHeaderName scheme path h = h
uri_error r InvalidHeaderValue scheme path h = h
uri_error r MissingMethod scheme path h = h
uri_error r MissingStatus scheme path h = h
uri_error r MissingAuthority scheme path h = h
uri_error r ContradictedAuthority scheme path h = h

-- the host field that there was no memory to share
memory_host : (own host : Option (List ℕ)) → IsAuthorityAnswer (Err Memory) own host → (own ≡ None) × (b : List ℕ) × (host ≡ Some b) × IsAuthority b
memory_host None None h = cc
memory_host None (Some b) h = (refl, b, refl, h)
memory_host (Some own) host h = let g = own_fault own host Memory h in cc

-- it is the authority of the request
host_chosen : (own host : Option (List ℕ)) (b : List ℕ) → own ≡ None → host ≡ Some b → IsAuthority b → IsAuthorityAnswer (Ok b) own host × IsAuthorityOf own host b
host_chosen own host b o h is = rw (o, h) ((refl, is), (refl, is))

-- the target that there was no memory to make
pub memory_target : (h : PlainHeader) → IsAuthorityAnswer (Err Memory) h.authority (map_host h.fields) → (IsSome h.scheme ↔ IsSome h.path) → (t : PlainTarget) × IsTargetOf h t
memory_target h answer both =
    let host = memory_host h.authority (map_host h.fields) answer in
    let t : PlainTarget = record { scheme = h.scheme; authority = Some host.1; path_and_query = unwrap_or h.path [] } in
    (t, record { name = host.1; authority = (host_chosen h.authority (map_host h.fields) host.1 host.0 host.2 host.3).1; authority_kept = refl; both = both; scheme_kept = refl; path_kept = refl })

-- a scheme without a path, or a path without one: no target, whether or not there is memory
pub memory_unfit : (own host scheme path : Option (List ℕ)) → IsAuthorityAnswer (Err Memory) own host → ((IsSome scheme ↔ IsSome path) → ⊥) → IsTargetAnswer (Err InvalidRequest) scheme own path host
memory_unfit own host scheme path answer unfit =
    let b = memory_host own host answer in
    (Ok b.1, (host_chosen own host b.1 b.0 b.2 b.3).0, (refl, λ fit. unfit (fit_both (parts scheme b.1 path) refl fit)))

-- the tests of a scheme and a path agree where both are there, or neither
both_there : (x y : Option (List ℕ)) → (beq (is_some x) (is_some y) ≡ true → IsSome x ↔ IsSome y) × (beq (is_some x) (is_some y) ≡ false → (IsSome x ↔ IsSome y) → ⊥)
both_there None None = (λ t. (λ a. a, λ a. a), λ f. cc)
both_there None (Some y) = (λ t. cc, λ f both. let none : false ≡ true = both.1 refl in cc)
both_there (Some x) None = (λ t. cc, λ f both. let none : false ≡ true = both.0 refl in cc)
both_there (Some x) (Some y) = (λ t. (λ a. refl, λ a. refl), λ f. cc)

-- a fault of the authority, where the other parts fit or don't
fault_refused : (own host scheme path : Option (List ℕ)) (e : HeaderError) (fits : Bool) → IsAuthorityAnswer (Err e) own host → (fits ≡ true → IsSome scheme ↔ IsSome path)
    → (fits ≡ false → (IsSome scheme ↔ IsSome path) → ⊥) → IsTargetAnswer (Err (target_fault e fits)) scheme own path host
fault_refused own host scheme path Memory true answer agree unlike = (Err Memory, answer, (refl, agree refl))
fault_refused own host scheme path Memory false answer agree unlike = memory_unfit own host scheme path answer (unlike refl)
fault_refused own host scheme path InvalidRequest fits answer agree unlike = (Err InvalidRequest, answer, refl)
fault_refused own host scheme path InvalidHeaderName fits answer agree unlike = (Err InvalidHeaderName, answer, refl)
fault_refused own host scheme path InvalidHeaderValue fits answer agree unlike = (Err InvalidHeaderValue, answer, refl)
fault_refused own host scheme path MissingMethod fits answer agree unlike = (Err MissingMethod, answer, refl)
fault_refused own host scheme path MissingStatus fits answer agree unlike = (Err MissingStatus, answer, refl)
fault_refused own host scheme path MissingAuthority fits answer agree unlike = (Err MissingAuthority, answer, refl)
fault_refused own host scheme path ContradictedAuthority fits answer agree unlike = (Err ContradictedAuthority, answer, refl)

pub target_refused : (own host scheme path : Option (List ℕ)) (e f : HeaderError) (a b : Bool) → IsAuthorityAnswer (Err e) own host → a ≡ is_some scheme → b ≡ is_some path → f ≡ target_fault e (beq a b)
    → IsTargetAnswer (Err f) scheme own path host
target_refused own host scheme path e f a b answer s p is =
    let both = both_there scheme path in
    let same : f ≡ target_fault e (beq (is_some scheme) (is_some path)) = is ∙ ap (λ (z : Bool). target_fault e (beq z b)) s ∙ ap (λ (z : Bool). target_fault e (beq (is_some scheme) z)) p in
    subst (λ (z : HeaderError). IsTargetAnswer (Err z) scheme own path host) (sym same) (fault_refused own host scheme path e (beq (is_some scheme) (is_some path)) answer both.0 both.1)
