-- Where a URI is cut, and which texts are one.
use Rattle.std.proofs.Common.{◌≡◌, ℕ, ◌+◌, ◌-◌, ◌≤◌, Bool, IsTrue, IsFalse, List, [], ◌++◌, length, take, drop, take_all, length-drop, Some, None, refl, sym, ap, ◌∙◌, subst, arith, inl, inr}
use Rattle.std.proofs.lemmas.Bool.{cases_Bool}
use Rattle.http_uri.specs.Grammar.{IsScheme, IsAuthority, IsTail, IsPathInput, IsAbsoluteForm, HasScheme, EndsAuthority, StartsOrigin, scheme_len, authority_len, normal_scheme, without_fragment}
use Rattle.http_uri.proofs.UriLemmas.{cut_name, cut_rest, cut_authority, cut_tail, cut_scheme, authority_ends, absolute_from_cuts, none_of, only_origin, IsAuthority_no_scheme}
use Rattle.qh_grammar.specs.Uri.{IsUri, IsAbsolute, IsSomeTail}

rest_all : (text : List ℕ) (n : ℕ) → take (length text - n) (drop n text) ≡ drop n text
rest_all text n = take_all (length text - n) (drop n text) (omega (arith, length-drop n text))

-- what stands behind so many bytes, as a slice takes it
abbrev pub behind : List ℕ → ℕ → List ℕ
behind text n = take (length text - n) (drop n text)

-- ---- absolute URIs

pub no_scheme : (text : List ℕ) (n : ℕ) → n ≡ scheme_len text → ¬ (IsScheme (take n text)) → ¬ (IsAbsolute text)
no_scheme text n is never (s, a, k, h) = never (rw (is, cut_name text s a k h) h.is_scheme)

behind_cut : (text s a k : List ℕ) (n : ℕ) → n ≡ scheme_len text → (h : IsAbsoluteForm text s a k) → behind text (n + 3) ≡ a ++ h.tail
behind_cut text s a k n is h = rest_all text (n + 3) ∙ ap (λ (m : ℕ). drop (m + 3) text) is ∙ cut_rest text s a k h

pub no_authority : (text : List ℕ) (n end : ℕ) → n ≡ scheme_len text → end ≡ authority_len (behind text (n + 3))
    → ¬ (IsAuthority (take end (behind text (n + 3)))) → ¬ (IsAbsolute text)
no_authority text n end is ends never (s, a, k, h) =
    let rest = behind_cut text s a k n is h in
    never (rw (ends, rest, cut_authority text s a k h) h.is_authority)

pub tail_ends : (text : List ℕ) (end : ℕ) → end ≡ authority_len text → EndsAuthority (behind text end)
tail_ends text end ends = rw (rest_all text end, ends) (authority_ends text)

pub absolute_made : (text : List ℕ) (n end : ℕ) → HasScheme text → n ≡ scheme_len text → IsScheme (take n text) → IsAuthority (take end (behind text (n + 3)))
    → IsSomeTail (behind (behind text (n + 3)) end) → IsAbsolute text
absolute_made text n end has is named valid (k, t) =
    let front = rest_all text (n + 3) in
    let tail : IsTail (drop end (drop (n + 3) text)) k =
    subst (λ (z : List ℕ). IsTail z k) (rest_all (behind text (n + 3)) end ∙ ap (drop end) front) t in (
      normal_scheme (take n text),
      take end (behind text (n + 3)),
      k,
      absolute_from_cuts text (normal_scheme (take n text)) (take end (behind text (n + 3))) k n end has is named refl (ap (take end) front) valid tail,
    )

pub tail_told : (text : List ℕ) (n end : ℕ) → n ≡ scheme_len text → end ≡ authority_len (behind text (n + 3)) → IsAbsolute text → IsSomeTail (behind (behind text (n + 3)) end)
tail_told text n end is ends (s, a, k, h) =
    let rest = behind_cut text s a k n is h in
    let last : behind (behind text (n + 3)) end ≡ h.tail =
    rest_all (behind text (n + 3)) end ∙ rw (ends, rest) (cut_tail text s a k h) in
    (k, subst (λ (z : List ℕ). IsTail z k) (sym last) h.is_tail)

-- ---- all forms

-- a test of the one form that a text can have
pub tested : (P Q : Type 0) (b : Bool) → (IsTrue b → P) → (P → Q) → (IsFalse b → ¬ Q) → (IsTrue b → Q) × (Q → IsTrue b)
tested P Q b made to never =
    (λ t. to (made t), λ q. elim (cases_Bool b) [ inl t ↦ t | inr f ↦ absurd (never f q) ])

pub origin_uri : (text : List ℕ) → length text ≤ 65534 → StartsOrigin text → IsPathInput text → IsUri text
origin_uri text short start path = (None, None, without_fragment text, (short, ((start, path), refl)))

pub no_origin_uri : (text : List ℕ) → StartsOrigin text → ¬ (IsPathInput text) → ¬ (IsUri text)
no_origin_uri text start never (s, a, k, u) = only_origin text start (λ o. never o.1) s a k u

pub absolute_uri : (text : List ℕ) → length text ≤ 65534 → IsAbsolute text → IsUri text
absolute_uri text short (s, a, k, h) = (Some s, Some a, k, (short, h))

pub no_absolute_uri : (text : List ℕ) → ¬ (StartsOrigin text) → HasScheme text → ¬ (IsAbsolute text) → ¬ (IsUri text)
no_absolute_uri text other has never (s, a, k, u) =
    none_of text (λ o. other o.0) (λ auth _. IsAuthority_no_scheme text auth has) (λ x y z h. never (x, y, z, h)) s a k u

pub authority_uri : (text : List ℕ) → length text ≤ 65534 → ¬ (StartsOrigin text) → IsAuthority text → IsUri text
authority_uri text short other auth = (None, Some text, [], (short, (auth, (λ star. other (inl star)), refl, refl)))

pub no_authority_uri : (text : List ℕ) → ¬ (StartsOrigin text) → ¬ (HasScheme text) → ¬ (IsAuthority text) → ¬ (IsUri text)
no_authority_uri text other none never (s, a, k, u) =
    none_of text (λ o. other o.0) (λ auth _. never auth) (λ x y z h. none (cut_scheme text x y z h)) s a k u
