-- A map and fields agree exactly where they do at each name of the map and at each field.
use Rattle.std.proofs.Common.{◌≡◌, ◌↔◌, ◌⊎◌, inl, inr, ℕ, zero, suc, ◌+◌, ◌<◌, true, false, List, [], ◌∷◌, length, take, get_or, refl, sym, ap, ◌∙◌, subst, arith}
use Rattle.std.specs.Prelude.{Bool, bytes_eq, Contains, MatchBool, map}
use Rattle.std.specs.List.{AllByRecursion, AllWithin, HoldsAt}
use Rattle.std.proofs.lemmas.Bool.{cases_Bool}
use Rattle.std.proofs.lemmas.List.Elements.{All-from_recursion, recursion_from_All, All-from_all_within}
use Rattle.std.proofs.lemmas.Slice.Eq.{bytes_eq-Decides}
use Rattle.http_header.specs.HeaderMap.{Entries, keys, get_all}
use Rattle.http_header.specs.FieldValue.{FieldValue}
use Rattle.http_header.specs.Token.{lowercase}
use Rattle.qh_spec.specs.Fields.{Field}
use Rattle.qh_spec.specs.Lists.{In}
use Rattle.qh_spec.specs.Meaning.{IsReadable, method, scheme, authority, path, status, plain, AreReadable, values_of, is_pseudo_name, MeansFields}
use Rattle.qh_spec.specs.Same.{bytes_under}
use Rattle.qh_plain.specs.Agreement.{HasValues, IsCovered}

-- a test of each element, and what it means
pub all_of : {X : Type 0} (P : X → Type 0) (d : X) (r : Bool) (xs : List X)
    → MatchBool r (AllWithin P xs 0 (length xs)) ((k : ℕ) × (k < length xs) × HoldsAt (λ x. P x → ⊥) xs k) → (r ≡ true) ↔ AllByRecursion P xs
all_of P d true xs m = (λ _. recursion_from_All P xs (All-from_all_within P xs m), λ _. refl)
all_of P d false xs m = (λ t. cc, λ all. absurd (m.2 d (All-from_recursion P xs all m.0 d m.1)))

-- one more of the elements so far
pub all_more : {X : Type 0} (P : X → Type 0) (xs : List X) (i : ℕ) (x : X) → i < length xs → x ≡ get_or xs i x → AllByRecursion P (take i xs) → P x
    → AllByRecursion P (take (i + 1) xs)
all_more P [] i x h e a p = absurd (omega arith)
all_more P (y ∷ xs) zero x h e a p = (subst P e p, tt)
all_more P (y ∷ xs) (suc i) x h e a p =
    let s : suc i + 1 ≡ suc (i + 1) = omega arith in
    rw s (a.0, all_more P xs i x (omega arith) e a.1 p)

-- an element of which it doesn't hold
pub not_all : {X : Type 0} (P : X → Type 0) (xs : List X) (i : ℕ) (x : X) → i < length xs → x ≡ get_or xs i x → (P x → ⊥) → AllByRecursion P xs → ⊥
not_all P [] i x h e n a = absurd (omega arith)
not_all P (y ∷ xs) zero x h e n a = n (subst P (sym e) a.0)
not_all P (y ∷ xs) (suc i) x h e n a = not_all P xs i x (omega arith) e n a.1

-- the names of a map
in_keys : (xs : List (List ℕ)) (name : List ℕ) → Contains xs name → In name xs
in_keys [] name c = absurd (let h = c.1 in omega (arith, h))
in_keys (x ∷ xs) name (zero, h, e) = inl e
in_keys (x ∷ xs) name (suc k, h, e) = inr (in_keys xs name (k, omega arith, e))

is_contained : (xs : List (List ℕ)) (name : List ℕ) → In name xs → Contains xs name
is_contained [] name h = absurd h
is_contained (x ∷ xs) name (inl e) = (0, omega arith, e)
is_contained (x ∷ xs) name (inr h) = let c = is_contained xs name h in (suc c.0, (let l = c.1 in omega (arith, l)), c.2)

absent : (m : Entries FieldValue) (name : List ℕ) → (In name (keys m) → ⊥) → get_all m name ≡ []
absent [] name n = refl
absent (e ∷ m) name n =
    elim (cases_Bool (bytes_eq e.0 name)) [
      | inl t ↦ absurd (n (inl ((bytes_eq-Decides e.0 name).0 t)))
      | inr t ↦ rw t (absent m name (λ i. n (inr i)))
    ]

is_in : (xs : List (List ℕ)) (name : List ℕ) → In name xs ⊎ (In name xs → ⊥)
is_in [] name = inr (λ h. h)
is_in (x ∷ xs) name =
    elim (cases_Bool (bytes_eq x name)) [
      | inl t ↦ inl (inl ((bytes_eq-Decides x name).0 t))
      | inr t ↦ elim (is_in xs name) [
        | inl i ↦ inl (inr i)
        | inr n ↦ inr (λ h. elim h [ inl e ↦ (let u : bytes_eq x name ≡ true = (bytes_eq-Decides x name).1 e in let both : true ≡ false = sym u ∙ t in cc) | inr i ↦ n i ])
      ]
    ]

all_at : (P : List ℕ → Type 0) (xs : List (List ℕ)) (name : List ℕ) → AllByRecursion P xs → In name xs → P name
all_at P [] name a h = absurd h
all_at P (x ∷ xs) name a (inl e) = subst P e a.0
all_at P (x ∷ xs) name a (inr h) = all_at P xs name a.1 h

all_from : (P : List ℕ → Type 0) (xs : List (List ℕ)) → ((name : List ℕ) → P name) → AllByRecursion P xs
all_from P [] p = tt
all_from P (x ∷ xs) p = (p x, all_from P xs p)

-- a field whose name isn't a pseudo field's has its name in lower case
lowered : (f : Field) → IsReadable f → is_pseudo_name f.name ≡ false → lowercase f.name ≡ f.name
lowered f (method p v) n = let both : true ≡ false = sym (ap is_pseudo_name p) ∙ n in cc
lowered f (scheme p v) n = let both : true ≡ false = sym (ap is_pseudo_name p) ∙ n in cc
lowered f (authority p v) n = let both : true ≡ false = sym (ap is_pseudo_name p) ∙ n in cc
lowered f (path p v) n = let both : true ≡ false = sym (ap is_pseudo_name p) ∙ n in cc
lowered f (status p v) n = let both : true ≡ false = sym (ap is_pseudo_name p) ∙ n in cc
lowered f (plain h v) n = h.1

covered_readable : (m : Entries FieldValue) (fs : List Field) → AllByRecursion (IsCovered m) fs → AreReadable fs
covered_readable m [] c = tt
covered_readable m (f ∷ fs) c = (c.0.0, covered_readable m fs c.1)

-- fields of which the map has the names have no value under another name
uncovered : (m : Entries FieldValue) (fs : List Field) (name : List ℕ) → AllByRecursion (IsCovered m) fs → is_pseudo_name name ≡ false → (In name (keys m) → ⊥) → values_of name fs ≡ []
uncovered m [] name c p n = refl
uncovered m (f ∷ fs) name c p n =
    elim (cases_Bool (bytes_eq f.name name)) [
      | inl t ↦
          let same : f.name ≡ name = (bytes_eq-Decides f.name name).0 t in
          let q : is_pseudo_name f.name ≡ false = ap is_pseudo_name same ∙ p in
          elim c.0.1 [
            | inl pseudo ↦ (let both : true ≡ false = sym pseudo ∙ q in cc)
            | inr there ↦ absurd (n (subst (λ (z : List ℕ). In z (keys m)) (lowered f c.0.0 q ∙ same) (in_keys (keys m) (lowercase f.name) there)))
          ]
      | inr t ↦ rw t (uncovered m fs name c.1 p n)
    ]

pub agree_means : (m : Entries FieldValue) (fs : List Field) → AllByRecursion (HasValues m fs) (keys m) → AllByRecursion (IsCovered m) fs → MeansFields fs m
agree_means m fs a c = record {
  readable = covered_readable m fs c;
  values = λ name.
      elim (is_in (keys m) name) [
        | inl i ↦ all_at (HasValues m fs) (keys m) name a i
        | inr n ↦
            let none : bytes_under m name ≡ [] = ap (map (λ (v : FieldValue). v.bytes)) (absent m name n) in
            elim (cases_Bool (is_pseudo_name name)) [
              | inl p ↦ rw p none
              | inr p ↦ rw p (none ∙ sym (uncovered m fs name c p n))
            ]
      ];
}

-- a field has a value under its name
has_value : (fs : List Field) (f : Field) → In f fs → values_of f.name fs ≡ [] → ⊥
has_value [] f h e = h
has_value (g ∷ fs) f (inl same) e =
    let t : bytes_eq g.name f.name ≡ true = (bytes_eq-Decides g.name f.name).1 (ap (λ (z : Field). z.name) same) in
    let some = rw t at e in
    cc
has_value (g ∷ fs) f (inr h) e =
    elim (cases_Bool (bytes_eq g.name f.name)) [
      | inl t ↦ (let some = rw t at e in cc)
      | inr t ↦ has_value fs f h (rw t at e)
    ]

readable_at : (fs : List Field) (f : Field) → AreReadable fs → In f fs → IsReadable f
readable_at [] f r h = absurd h
readable_at (g ∷ fs) f r (inl e) = subst IsReadable e r.0
readable_at (g ∷ fs) f r (inr h) = readable_at fs f r.1 h

covered_at : (m : Entries FieldValue) (fs : List Field) (f : Field) → MeansFields fs m → In f fs → IsCovered m f
covered_at m fs f means h =
    let r = readable_at fs f means.readable h in
    elim (cases_Bool (is_pseudo_name f.name)) [
      | inl p ↦ (r, inl p)
      | inr p ↦ elim (is_in (keys m) f.name) [
        | inl i ↦ (r, inr (is_contained (keys m) (lowercase f.name) (subst (λ (z : List ℕ). In z (keys m)) (sym (lowered f r p)) i)))
        | inr n ↦
            let none : bytes_under m f.name ≡ [] = ap (map (λ (v : FieldValue). v.bytes)) (absent m f.name n) in
            let given : bytes_under m f.name ≡ values_of f.name fs = rw p at (means.values f.name) in
            absurd (has_value fs f h (sym given ∙ none))
      ]
    ]

each_covered : (m : Entries FieldValue) (fs some : List Field) → MeansFields fs m → ((f : Field) → In f some → In f fs) → AllByRecursion (IsCovered m) some
each_covered m fs [] means sub = tt
each_covered m fs (f ∷ some) means sub = (covered_at m fs f means (sub f (inl refl)), each_covered m fs some means (λ g h. sub g (inr h)))

pub means_agree : (m : Entries FieldValue) (fs : List Field) → MeansFields fs m → AllByRecursion (HasValues m fs) (keys m) × AllByRecursion (IsCovered m) fs
means_agree m fs means = (all_from (HasValues m fs) (keys m) means.values, each_covered m fs fs means (λ f h. h))
