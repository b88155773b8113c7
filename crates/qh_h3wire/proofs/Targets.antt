-- The target of a request, and its path as it is written.
use Rattle.std.proofs.Common.{◌≡◌, inl, inr, ℕ, Bool, true, false, cond, List, [], ◌∷◌, length, Option, Some, None, ◌↔◌, refl, sym, ap, subst, not, ◌||◌, ◌==◌, arith}
use Rattle.std.specs.Prelude.{bytes_eq, is_some, IsSome, unwrap_or}
use Rattle.std.specs.Option.{option_map, ForNone, ForSome}
use Rattle.std.proofs.lemmas.Bool.{cases_Bool, ne_eqb}
use Rattle.std.proofs.lemmas.Slice.Eq.{bytes_eq-Decides}
use Rattle.http_header.specs.FieldValue.{FieldValue}
use Rattle.http_header.specs.HeaderMap.{Entries}
use Rattle.http_uri.specs.Grammar.{or_slash, path_of, query_of}
use Rattle.http_uri.specs.Uri.{uri_scheme, uri_authority, uri_data}
use Rattle.http_uri.specs.declared.uri.Uri.{Uri as Target}
use Rattle.qh_spec.specs.Message.{PlainTarget, target_of}
use Rattle.qh_spec.specs.Same.{SameTarget}
use Rattle.qh_h3wire.specs.Header.{request_header, map_host, IsAuthorityOf, IsTargetOf}
use Rattle.qh_h3wire.specs.HeaderFault.{authority_fault}
use Rattle.qh_h3wire.specs.ReadBack.{slash_target}

pub some_bytes : (x : ℕ) (xs : List ℕ) → (length (x ∷ xs) == 0) ≡ false
some_bytes x xs = ne_eqb (length (x ∷ xs)) 0 (λ e. omega (arith, e))

pub no_slash : (x : ℕ) (xs : List ℕ) → or_slash (x ∷ xs) ≡ x ∷ xs
no_slash x xs = let n = some_bytes x xs in rw n refl

-- whether there is a path
abbrev pub has : Option (List ℕ) → List ℕ → Bool
has scheme p = not (length p == 0) || is_some scheme

-- a scheme is there exactly where a path is
abbrev pub FitTogether : Option (List ℕ) → List ℕ → Type 0
FitTogether scheme p = IsSome scheme ↔ IsSome (cond (has scheme p) (Some p) None)

-- the path as it is written
abbrev written : Option (List ℕ) → Option (List ℕ) → List ℕ → List ℕ
written scheme authority p = unwrap_or (cond (is_some scheme || not (is_some authority)) (Some (or_slash p)) None) []

pub read_path : (scheme : Option (List ℕ)) (p a : List ℕ) → FitTogether scheme p → written scheme (Some a) p ≡ unwrap_or (option_map or_slash (cond (has scheme p) (Some p) None)) []
read_path None [] a b = refl
read_path None (x ∷ xs) a b = let n = some_bytes x xs in let both : false ≡ true = b.1 (rw n refl) in cc
read_path (Some s) [] a b = refl
read_path (Some s) (x ∷ xs) a b = let n = some_bytes x xs in rw n (rw n refl)

same_path : (scheme : Option (List ℕ)) (p a : List ℕ) → FitTogether scheme p → cond (has scheme p) (path_of p) [] ≡ cond (has scheme (written scheme (Some a) p)) (path_of (written scheme (Some a) p)) []
same_path None [] a b = refl
same_path None (x ∷ xs) a b = let n = some_bytes x xs in let both : false ≡ true = b.1 (rw n refl) in cc
same_path (Some s) [] a b = refl
same_path (Some s) (x ∷ xs) a b = ap (λ (q : List ℕ). cond (has (Some s) q) (path_of q) []) (sym (no_slash x xs))

same_query : (scheme : Option (List ℕ)) (p a : List ℕ) → FitTogether scheme p → query_of p ≡ query_of (written scheme (Some a) p)
same_query None [] a b = refl
same_query None (x ∷ xs) a b = let n = some_bytes x xs in let both : false ≡ true = b.1 (rw n refl) in cc
same_query (Some s) [] a b = refl
same_query (Some s) (x ∷ xs) a b = ap query_of (sym (no_slash x xs))

-- a target that has an authority, and what is read of it
pub record IsFit (t : PlainTarget) (name : List ℕ) : Type 0 where
  pub authority : t.authority ≡ Some name
  pub both : FitTogether t.scheme t.path_and_query

pub slashed : (t : PlainTarget) (name : List ℕ) → IsFit t name → SameTarget t (slash_target t)
slashed t name f =
    let e = f.authority in
    record {
      scheme = refl;
      authority = refl;
      path = rw e (same_path t.scheme t.path_and_query name f.both);
      query = rw e (same_query t.scheme t.path_and_query name f.both);
    }

-- an authority that no host field contradicts
agreed : (own host : Option (List ℕ)) → None ≡ authority_fault own host → IsSome own → (a : List ℕ) × (own ≡ Some a) × IsAuthorityOf own host a
agreed None host e s = cc
agreed (Some own) None e s = (own, refl, refl)
agreed (Some own) (Some b) e s =
    elim (cases_Bool (bytes_eq own b)) [
      | inl t ↦ (own, refl, (refl, (bytes_eq-Decides own b).0 t))
      | inr t ↦ let g = rw t at e in cc
    ]

-- a target with an authority has a scheme exactly where it has a path
together : (scheme authority : Option (List ℕ)) (p a : List ℕ) → authority ≡ Some a → ForNone scheme (ForSome authority (λ _. p ≡ [])) → FitTogether scheme p
together None authority p a e alone = subst (FitTogether None) (sym (alone refl a e)) (λ x. x, λ x. x)
together (Some s) authority [] a e alone = (λ x. refl, λ x. refl)
together (Some s) authority (x ∷ xs) a e alone = let n = some_bytes x xs in (λ _. rw n refl, λ _. refl)

path_is_kept : (scheme : Option (List ℕ)) (p : List ℕ) → p ≡ unwrap_or (cond (has scheme p) (Some p) None) []
path_is_kept None [] = refl
path_is_kept (Some s) [] = refl
path_is_kept scheme (x ∷ xs) = let n = some_bytes x xs in rw n refl

-- the head of a request whose target has an authority makes this target
pub makes_own_target : (m : List ℕ) (u : Target) (f : Entries FieldValue) → None ≡ authority_fault (uri_authority u) (map_host f) → IsSome (uri_authority u)
    → IsTargetOf (request_header m (target_of u) f) (target_of u)
makes_own_target m u f e s =
    let own = agreed (uri_authority u) (map_host f) e s in
    record {
      name = own.0;
      authority = own.2;
      authority_kept = own.1;
      both = together (uri_scheme u) (uri_authority u) (uri_data u) own.0 own.1 u.authority_alone;
      scheme_kept = refl;
      path_kept = path_is_kept (uri_scheme u) (uri_data u);
    }
