-- A target's text is cut into parts in one way.
use Rattle.std.proofs.Common.{◌≡◌, ℕ, List, ◌++◌, length, get_or, Option, Some, None, IsTrue, refl, sym, ap, ◌∙◌, subst, arith, inl, inr}
use Rattle.std.proofs.lemmas.List.{append_cancel_left}
use Rattle.http_uri.specs.ByteClasses.{is_delimiter}
use Rattle.http_uri.specs.Grammar.{IsTail, IsAbsoluteForm, IsForm, IsUriText, normal_scheme}
use Rattle.http_uri.proofs.UriLemmas.{cut_name, cut_rest, cut_authority, cut_long, cut_scheme, cut_first, IsAuthority_first, IsAuthority_no_scheme}
use Rattle.qh_spec.specs.Message.{PlainTarget}

-- what follows an authority is kept in one way
tail_one : (tail x y : List ℕ) → IsTail tail x → IsTail tail y → x ≡ y
tail_one tail x y (inl p) (inl q) = p.1 ∙ sym q.1
tail_one tail x y (inl p) (inr q) = let mark = subst (λ t. IsTrue (is_delimiter (get_or t 0 0))) p.0 q.0 in cc
tail_one tail x y (inr p) (inl q) = let mark = subst (λ t. IsTrue (is_delimiter (get_or t 0 0))) q.0 p.0 in cc
tail_one tail x y (inr p) (inr q) = p.2 ∙ sym q.2

absolute_one : (text s a k t b l : List ℕ) → IsAbsoluteForm text s a k → IsAbsoluteForm text t b l → (s ≡ t) × (a ≡ b) × (k ≡ l)
absolute_one text s a k t b l p q =
    let name = sym (cut_name text s a k p) ∙ cut_name text t b l q in
    let rest = sym (cut_rest text s a k p) ∙ cut_rest text t b l q in
    let same : a ≡ b = sym (cut_authority text s a k p) ∙ rw rest (cut_authority text t b l q) in
    let tail : p.tail ≡ q.tail = append_cancel_left a p.tail q.tail (rest ∙ ap (λ (z : List ℕ). z ++ q.tail) (sym same)) in
    (p.normal ∙ ap normal_scheme name ∙ sym q.normal, same, tail_one q.tail k l (subst (λ z. IsTail z k) tail p.is_tail) q.is_tail)

form_one : (text : List ℕ) (s a : Option (List ℕ)) (k : List ℕ) (t b : Option (List ℕ)) (l : List ℕ) → IsForm text s a k → IsForm text t b l → (s ≡ t) × (a ≡ b) × (k ≡ l)
form_one text None None k None None l p q = (refl, refl, p.1 ∙ sym q.1)
form_one text None None k None (Some b) l p q = absurd (elim p.0.0 [ inl star ↦ q.1 star | inr slash ↦ IsAuthority_first text q.0 slash ])
form_one text None None k (Some t) None l p q = absurd q
form_one text None None k (Some t) (Some b) l p q =
    absurd (elim p.0.0 [ inl star ↦ omega (arith, ap length star, cut_long text t b l q) | inr slash ↦ cut_first text t b l q slash ])
form_one text None (Some a) k None None l p q = absurd (elim q.0.0 [ inl star ↦ p.1 star | inr slash ↦ IsAuthority_first text p.0 slash ])
form_one text None (Some a) k None (Some b) l p q = (refl, ap Some (p.2 ∙ sym q.2), p.3 ∙ sym q.3)
form_one text None (Some a) k (Some t) None l p q = absurd q
form_one text None (Some a) k (Some t) (Some b) l p q = absurd (IsAuthority_no_scheme text p.0 (cut_scheme text t b l q))
form_one text (Some s) None k t b l p q = absurd p
form_one text (Some s) (Some a) k None None l p q =
    absurd (elim q.0.0 [ inl star ↦ omega (arith, ap length star, cut_long text s a k p) | inr slash ↦ cut_first text s a k p slash ])
form_one text (Some s) (Some a) k None (Some b) l p q = absurd (IsAuthority_no_scheme text q.0 (cut_scheme text s a k p))
form_one text (Some s) (Some a) k (Some t) None l p q = absurd q
form_one text (Some s) (Some a) k (Some t) (Some b) l p q =
    let same = absolute_one text s a k t b l p q in
    (ap Some same.0, ap Some same.1, same.2)

same_parts : (t u : PlainTarget) → t.scheme ≡ u.scheme → t.authority ≡ u.authority → t.path_and_query ≡ u.path_and_query → t ≡ u
same_parts t u s a k =
    let of : Option (List ℕ) → Option (List ℕ) → List ℕ → PlainTarget = λ x y z. record { scheme = x; authority = y; path_and_query = z } in
    ap (λ (x : Option (List ℕ)). of x t.authority t.path_and_query) s ∙ ap (λ (y : Option (List ℕ)). of u.scheme y t.path_and_query) a
    ∙ ap (λ (z : List ℕ). of u.scheme u.authority z) k

-- a text is one target
pub target_one : (text : List ℕ) (t u : PlainTarget) → IsUriText text t.scheme t.authority t.path_and_query → IsUriText text u.scheme u.authority u.path_and_query → t ≡ u
target_one text t u p q =
    let same = form_one text t.scheme t.authority t.path_and_query u.scheme u.authority u.path_and_query p.1 q.1 in
    same_parts t u same.0 same.1 same.2
