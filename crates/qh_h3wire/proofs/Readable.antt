-- A field that isn't of the kind that its name tells can't be read.
use Rattle.std.proofs.Common.{◌≡◌, ◌≢◌, inl, inr, ℕ, true, false, List, refl, sym, ap, ◌∙◌, arith, subst}
use Rattle.std.specs.Prelude.{codes, slice_index, Result, Ok, Err, IfErr}
use Rattle.std.proofs.lemmas.Bool.{ne_eqb}
use Rattle.http_header.specs.FieldName.{IsHeaderName}
use Rattle.http_header.specs.FieldValue.{IsFieldValue}
use Rattle.http.specs.StatusCode.{IsCodeText}
use Rattle.http_header.specs.Token.{is_token_byte, IsToken}
use Rattle.http_uri.specs.Grammar.{IsScheme, IsAuthority, IsPathInput}
use Rattle.qh_spec.specs.Fields.{Field}
use Rattle.qh_spec.specs.Meaning.{IsReadable, method, scheme, authority, path, status, plain, is_pseudo_name}
use Rattle.qh_spec.specs.Refusal.{IsReadableName}
use Rattle.qh_h3wire.specs.HeaderFault.{RefusesSeen, RefusesPlain, RefusesField}
use Rattle.qh_h3wire.specs.Kinds.{HasKind}
use Rattle.qh_h3wire.specs.declared.headers.HeaderError.{HeaderError}
use Rattle.qh_h3wire.specs.declared.headers.HeaderError.TheVariants.{InvalidHeaderName, InvalidHeaderValue, InvalidRequest, MissingMethod, MissingStatus, MissingAuthority, ContradictedAuthority, Memory}
use Rattle.qh_h3wire.specs.declared.headers.field.Kind.TheVariants.{Method, Scheme, Authority, Path, Status}

-- a colon begins no name of a field
no_colon : (name : List ℕ) → slice_index name 0 ≡ 58 → IsHeaderName name → ⊥
unfolding is_token_byte
no_colon name e h =
    let t : is_token_byte (slice_index name 0) ≡ true = h.0.0.1 0 0 (let n = h.0.0.0 in omega (arith, n)) in
    let both : false ≡ true = sym (ap is_token_byte e) ∙ t in
    cc

-- so the name of a field isn't a pseudo field's
pub is_plain : (name : List ℕ) → IsHeaderName name → is_pseudo_name name ≡ false
is_plain name h = ne_eqb (slice_index name 0) 58 (λ e. no_colon name e h)

-- two names whose third bytes differ
pub apart : (name a b : List ℕ) → name ≡ a → name ≡ b → slice_index a 2 ≢ slice_index b 2 → ⊥
apart name a b p q n = n (ap (λ (z : List ℕ). slice_index z 2) (sym p ∙ q))

pub named : (name a : List ℕ) → name ≡ a → slice_index a 0 ≡ 58 → IsHeaderName name → ⊥
named name a p e h = no_colon name (ap (λ (z : List ℕ). slice_index z 0) p ∙ e) h

-- what can be read has the kind that its name tells
read_method : (f : Field) → f.name ≡ codes ":method" → IsReadable f → HasKind f Method
read_method f e (method p v) = v
read_method f e (scheme p v) = absurd (apart f.name (codes ":method") (codes ":scheme") e p (omega arith))
read_method f e (authority p v) = absurd (apart f.name (codes ":method") (codes ":authority") e p (omega arith))
read_method f e (path p v) = absurd (apart f.name (codes ":method") (codes ":path") e p (omega arith))
read_method f e (status p v) = absurd (apart f.name (codes ":method") (codes ":status") e p (omega arith))
read_method f e (plain h v) = absurd (named f.name (codes ":method") e refl h)

read_scheme : (f : Field) → f.name ≡ codes ":scheme" → IsReadable f → HasKind f Scheme
read_scheme f e (method p v) = absurd (apart f.name (codes ":scheme") (codes ":method") e p (omega arith))
read_scheme f e (scheme p v) = v
read_scheme f e (authority p v) = absurd (apart f.name (codes ":scheme") (codes ":authority") e p (omega arith))
read_scheme f e (path p v) = absurd (apart f.name (codes ":scheme") (codes ":path") e p (omega arith))
read_scheme f e (status p v) = absurd (apart f.name (codes ":scheme") (codes ":status") e p (omega arith))
read_scheme f e (plain h v) = absurd (named f.name (codes ":scheme") e refl h)

pub read_authority : (f : Field) → f.name ≡ codes ":authority" → IsReadable f → HasKind f Authority
read_authority f e (method p v) = absurd (apart f.name (codes ":authority") (codes ":method") e p (omega arith))
read_authority f e (scheme p v) = absurd (apart f.name (codes ":authority") (codes ":scheme") e p (omega arith))
read_authority f e (authority p v) = v
read_authority f e (path p v) = absurd (apart f.name (codes ":authority") (codes ":path") e p (omega arith))
read_authority f e (status p v) = absurd (apart f.name (codes ":authority") (codes ":status") e p (omega arith))
read_authority f e (plain h v) = absurd (named f.name (codes ":authority") e refl h)

read_path : (f : Field) → f.name ≡ codes ":path" → IsReadable f → HasKind f Path
read_path f e (method p v) = absurd (apart f.name (codes ":path") (codes ":method") e p (omega arith))
read_path f e (scheme p v) = absurd (apart f.name (codes ":path") (codes ":scheme") e p (omega arith))
read_path f e (authority p v) = absurd (apart f.name (codes ":path") (codes ":authority") e p (omega arith))
read_path f e (path p v) = v
read_path f e (status p v) = absurd (apart f.name (codes ":path") (codes ":status") e p (omega arith))
read_path f e (plain h v) = absurd (named f.name (codes ":path") e refl h)

pub read_status : (f : Field) → f.name ≡ codes ":status" → IsReadable f → HasKind f Status
read_status f e (method p v) = absurd (apart f.name (codes ":status") (codes ":method") e p (omega arith))
read_status f e (scheme p v) = absurd (apart f.name (codes ":status") (codes ":scheme") e p (omega arith))
read_status f e (authority p v) = absurd (apart f.name (codes ":status") (codes ":authority") e p (omega arith))
read_status f e (path p v) = absurd (apart f.name (codes ":status") (codes ":path") e p (omega arith))
read_status f e (status p v) = v
read_status f e (plain h v) = absurd (named f.name (codes ":status") e refl h)

-- a value that isn't of its kind, or that wasn't kept
seen_as : (e : HeaderError) (f : Field) (P : Type 0) → IsReadableName f.name → (P → IsReadable f) → (IsReadable f → P) → RefusesSeen e P → RefusesField e f
seen_as InvalidHeaderValue f P n w r h = (n, λ i. h (r i))
seen_as Memory f P n w r h = w h
seen_as InvalidHeaderName f P n w r h = absurd h
seen_as InvalidRequest f P n w r h = absurd h
seen_as MissingMethod f P n w r h = absurd h
seen_as MissingStatus f P n w r h = absurd h
seen_as MissingAuthority f P n w r h = absurd h
seen_as ContradictedAuthority f P n w r h = absurd h

seen_in : {T : Type 0} (r : Result T HeaderError) (f : Field) (value : List ℕ) (P : List ℕ → Type 0) → value ≡ f.value → IsReadableName f.name → (P f.value → IsReadable f) → (IsReadable f → P f.value)
    → IfErr r (λ e. RefusesSeen e (P value)) → IfErr r (λ e. RefusesField e f)
seen_in (Ok x) f value P same n w r h = tt
seen_in (Err e) f value P same n w r h = seen_as e f (P f.value) n w r (subst (λ (z : List ℕ). RefusesSeen e (P z)) same h)

pub method_refused : {T : Type 0} (r : Result T HeaderError) (f : Field) (name value : List ℕ) → name ≡ codes ":method" → name ≡ f.name → value ≡ f.value
    → IfErr r (λ e. RefusesSeen e (IsToken value)) → IfErr r (λ e. RefusesField e f)
method_refused r f name value n own same =
    let is : f.name ≡ codes ":method" = sym own ∙ n in
    seen_in r f value IsToken same (inl (inl (sym is))) (λ v. method is v) (read_method f is)

pub scheme_refused : {T : Type 0} (r : Result T HeaderError) (f : Field) (name value : List ℕ) → name ≡ codes ":scheme" → name ≡ f.name → value ≡ f.value
    → IfErr r (λ e. RefusesSeen e (IsScheme value)) → IfErr r (λ e. RefusesField e f)
scheme_refused r f name value n own same =
    let is : f.name ≡ codes ":scheme" = sym own ∙ n in
    seen_in r f value IsScheme same (inl (inr (inl (sym is)))) (λ v. scheme is v) (read_scheme f is)

pub authority_refused : {T : Type 0} (r : Result T HeaderError) (f : Field) (name value : List ℕ) → name ≡ codes ":authority" → name ≡ f.name → value ≡ f.value
    → IfErr r (λ e. RefusesSeen e (IsAuthority value)) → IfErr r (λ e. RefusesField e f)
authority_refused r f name value n own same =
    let is : f.name ≡ codes ":authority" = sym own ∙ n in
    seen_in r f value IsAuthority same (inl (inr (inr (inl (sym is))))) (λ v. authority is v) (read_authority f is)

pub path_refused : {T : Type 0} (r : Result T HeaderError) (f : Field) (name value : List ℕ) → name ≡ codes ":path" → name ≡ f.name → value ≡ f.value
    → IfErr r (λ e. RefusesSeen e (IsPathInput value)) → IfErr r (λ e. RefusesField e f)
path_refused r f name value n own same =
    let is : f.name ≡ codes ":path" = sym own ∙ n in
    seen_in r f value IsPathInput same (inl (inr (inr (inr (inl (sym is)))))) (λ v. path is v) (read_path f is)

pub status_refused : {T : Type 0} (r : Result T HeaderError) (f : Field) (name value : List ℕ) → name ≡ codes ":status" → name ≡ f.name → value ≡ f.value
    → IfErr r (λ e. RefusesSeen e (IsCodeText value)) → IfErr r (λ e. RefusesField e f)
status_refused r f name value n own same =
    let is : f.name ≡ codes ":status" = sym own ∙ n in
    seen_in r f value IsCodeText same (inl (inr (inr (inr (inr (inl (sym is))))))) (λ v. status is v) (read_status f is)

-- what is wrong with a value whose name is one of a field
pub plain_fault : (e : HeaderError) (f : Field) → IsHeaderName f.name → RefusesSeen e (IsFieldValue f.value) → RefusesPlain e f
plain_fault InvalidHeaderValue f n h = (n, h)
plain_fault Memory f n h = (n, h)
plain_fault InvalidHeaderName f n h = absurd h
plain_fault InvalidRequest f n h = absurd h
plain_fault MissingMethod f n h = absurd h
plain_fault MissingStatus f n h = absurd h
plain_fault MissingAuthority f n h = absurd h
plain_fault ContradictedAuthority f n h = absurd h
