-- A field can be read exactly where it has the kind that its name tells.
use Rattle.std.proofs.Common.{◌≡◌, ◌≢◌, ◌↔◌, ℕ, true, false, List, refl, sym, ap, ◌∙◌, arith}
use Rattle.std.specs.Prelude.{codes, slice_index, IfOk, IsTrue, Bool, Result}
use Rattle.std.proofs.lemmas.Bool.{ne_eqb}
use Rattle.std.proofs.lemmas.Result.{IfOk-weaker}
use Rattle.http_header.specs.FieldName.{IsHeaderName}
use Rattle.http_header.specs.Token.{is_token_byte}
use Rattle.qh_base.specs.declared.memory.Memory.{Memory}
use Rattle.qh_spec.specs.Fields.{Field}
use Rattle.qh_spec.specs.Meaning.{IsReadable, method, scheme, authority, path, status, plain, is_pseudo_name}
use Rattle.qh_plain.specs.Kinds.{IsKind, HasKind, IsOther}
use Rattle.qh_plain.specs.declared.meanings.readable.Kind.{Kind}
use Rattle.qh_plain.specs.declared.meanings.readable.Kind.TheVariants.{Method, Scheme, Authority, Path, Status, Plain}

-- a colon begins no name of a field
no_colon : (name : List ℕ) → slice_index name 0 ≡ 58 → IsHeaderName name → ⊥
unfolding is_token_byte
no_colon name e h =
    let t : is_token_byte (slice_index name 0) ≡ true = h.0.0.1 0 0 (let n = h.0.0.0 in omega (arith, n)) in
    let both : false ≡ true = sym (ap is_token_byte e) ∙ t in
    cc

-- so the name of a field isn't a pseudo field's
pub is_plain : (name : List ℕ) → IsHeaderName name → is_pseudo_name name ≡ false
is_plain name h = ne_eqb (slice_index name 0) 58 (λ e. no_colon name e h)

-- two names whose third bytes differ
apart : (name a b : List ℕ) → name ≡ a → name ≡ b → slice_index a 2 ≢ slice_index b 2 → ⊥
apart name a b p q n = n (ap (λ (z : List ℕ). slice_index z 2) (sym p ∙ q))

named : (name a : List ℕ) → name ≡ a → slice_index a 0 ≡ 58 → IsHeaderName name → ⊥
named name a p e h = no_colon name (ap (λ (z : List ℕ). slice_index z 0) p ∙ e) h

-- what can be read has the kind that its name tells
read_method : (f : Field) → f.name ≡ codes ":method" → IsReadable f → HasKind f Method
read_method f e (method p v) = v
read_method f e (scheme p v) = absurd (apart f.name (codes ":method") (codes ":scheme") e p (omega arith))
read_method f e (authority p v) = absurd (apart f.name (codes ":method") (codes ":authority") e p (omega arith))
read_method f e (path p v) = absurd (apart f.name (codes ":method") (codes ":path") e p (omega arith))
read_method f e (status p v) = absurd (apart f.name (codes ":method") (codes ":status") e p (omega arith))
read_method f e (plain h v) = absurd (named f.name (codes ":method") e refl h)

read_scheme : (f : Field) → f.name ≡ codes ":scheme" → IsReadable f → HasKind f Scheme
read_scheme f e (method p v) = absurd (apart f.name (codes ":scheme") (codes ":method") e p (omega arith))
read_scheme f e (scheme p v) = v
read_scheme f e (authority p v) = absurd (apart f.name (codes ":scheme") (codes ":authority") e p (omega arith))
read_scheme f e (path p v) = absurd (apart f.name (codes ":scheme") (codes ":path") e p (omega arith))
read_scheme f e (status p v) = absurd (apart f.name (codes ":scheme") (codes ":status") e p (omega arith))
read_scheme f e (plain h v) = absurd (named f.name (codes ":scheme") e refl h)

read_authority : (f : Field) → f.name ≡ codes ":authority" → IsReadable f → HasKind f Authority
read_authority f e (method p v) = absurd (apart f.name (codes ":authority") (codes ":method") e p (omega arith))
read_authority f e (scheme p v) = absurd (apart f.name (codes ":authority") (codes ":scheme") e p (omega arith))
read_authority f e (authority p v) = v
read_authority f e (path p v) = absurd (apart f.name (codes ":authority") (codes ":path") e p (omega arith))
read_authority f e (status p v) = absurd (apart f.name (codes ":authority") (codes ":status") e p (omega arith))
read_authority f e (plain h v) = absurd (named f.name (codes ":authority") e refl h)

read_path : (f : Field) → f.name ≡ codes ":path" → IsReadable f → HasKind f Path
read_path f e (method p v) = absurd (apart f.name (codes ":path") (codes ":method") e p (omega arith))
read_path f e (scheme p v) = absurd (apart f.name (codes ":path") (codes ":scheme") e p (omega arith))
read_path f e (authority p v) = absurd (apart f.name (codes ":path") (codes ":authority") e p (omega arith))
read_path f e (path p v) = v
read_path f e (status p v) = absurd (apart f.name (codes ":path") (codes ":status") e p (omega arith))
read_path f e (plain h v) = absurd (named f.name (codes ":path") e refl h)

read_status : (f : Field) → f.name ≡ codes ":status" → IsReadable f → HasKind f Status
read_status f e (method p v) = absurd (apart f.name (codes ":status") (codes ":method") e p (omega arith))
read_status f e (scheme p v) = absurd (apart f.name (codes ":status") (codes ":scheme") e p (omega arith))
read_status f e (authority p v) = absurd (apart f.name (codes ":status") (codes ":authority") e p (omega arith))
read_status f e (path p v) = absurd (apart f.name (codes ":status") (codes ":path") e p (omega arith))
read_status f e (status p v) = v
read_status f e (plain h v) = absurd (named f.name (codes ":status") e refl h)

read_plain : (f : Field) → IsOther f.name → IsReadable f → HasKind f Plain
read_plain f n (method p v) = absurd (n.method p)
read_plain f n (scheme p v) = absurd (n.scheme p)
read_plain f n (authority p v) = absurd (n.authority p)
read_plain f n (path p v) = absurd (n.path p)
read_plain f n (status p v) = absurd (n.status p)
read_plain f n (plain h v) = (h, v)

kind_is : (f : Field) (k : Kind) → IsKind f.name k → HasKind f k ↔ IsReadable f
kind_is f Method e = (λ v. method e v, read_method f e)
kind_is f Scheme e = (λ v. scheme e v, read_scheme f e)
kind_is f Authority e = (λ v. authority e v, read_authority f e)
kind_is f Path e = (λ v. path e v, read_path f e)
kind_is f Status e = (λ v. status e v, read_status f e)
kind_is f Plain n = (λ h. plain h.0 h.1, read_plain f n)

pub read_as : (f : Field) (k : Kind) (r : Result Bool Memory) → IsKind f.name k → IfOk r (λ has. IsTrue has ↔ HasKind f k) → IfOk r (λ readable. IsTrue readable ↔ IsReadable f)
read_as f k r e h =
    let both = kind_is f k e in
    IfOk-weaker r (λ has. IsTrue has ↔ HasKind f k) (λ has. IsTrue has ↔ IsReadable f) (λ b p. (λ t. both.0 (p.0 t), λ i. p.1 (both.1 i))) h
