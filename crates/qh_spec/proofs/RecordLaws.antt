-- How records grow: growths in a row, and how many entries they bring.
use Rattle.std.proofs.Common.{◌≡◌, ◌⊎◌, inl, inr, ℕ, zero, suc, ◌+◌, ◌*◌, ◌<◌, ◌≤◌, ◌==◌, true, false, List, [], ◌∷◌, ◌++◌, length, refl, sym, ap, ◌∙◌, subst, arith, append_assoc, length-append}
use Rattle.std.specs.Prelude.{if◌then◌else◌}
use Rattle.std.proofs.lemmas.Bool.{cases_lt, cases_eq, eq-eqb, ne_eqb}
use Rattle.std.proofs.lemmas.Option.{slice_get_within}
use Rattle.qh_spec.specs.Growth.{streams_of, Grew}
use Rattle.qh_spec.specs.Lists.{In, Distinct}
use Rattle.qh_spec.specs.Message.{PlainMessage}
use Rattle.qh_spec.specs.Record.{PlainEntry}
use Rattle.qh_spec.proofs.Members.{in_split, from_map}

streams_of-append : (xs ys : List PlainEntry) → streams_of (xs ++ ys) ≡ streams_of xs ++ streams_of ys
streams_of-append [] ys = refl
streams_of-append (x ∷ xs) ys = ap (λ (z : List ℕ). x.stream ∷ z) (streams_of-append xs ys)

length-streams_of : (xs : List PlainEntry) → length (streams_of xs) ≡ length xs
length-streams_of [] = refl
length-streams_of (x ∷ xs) = let r = length-streams_of xs in omega (arith, r)

pub distinct_append : {X : Type 0} (xs ys : List X) → Distinct xs → Distinct ys → ((x : X) → In x xs → In x ys → ⊥) → Distinct (xs ++ ys)
distinct_append [] ys d e f = e
distinct_append (x ∷ xs) ys d e f =
    (λ h. elim (in_split x xs ys h) [ inl a ↦ d.0 a | inr b ↦ f x (inl refl) b ], distinct_append xs ys d.1 e (λ z a b. f z (inr a) b))

pub grew_twice : (a b c : List PlainEntry) (requests : List PlainMessage) (g : Grew a b requests) (h : Grew b c requests)
    → ((id : ℕ) → In id (streams_of g.fresh) → In id (streams_of h.fresh) → ⊥) → Grew a c requests
grew_twice a b c requests g h apart = record {
  fresh = g.fresh ++ h.fresh;
  longer = h.longer ∙ ap (λ (z : List PlainEntry). z ++ h.fresh) g.longer ∙ append_assoc a g.fresh h.fresh;
  once = subst Distinct (sym (streams_of-append g.fresh h.fresh)) (distinct_append (streams_of g.fresh) (streams_of h.fresh) g.once h.once apart);
  as_asked = λ e i. elim (in_split e g.fresh h.fresh i) [ inl l ↦ g.as_asked e l | inr r ↦ h.as_asked e r ];
}

-- the list without the first x
abbrev pub without : ℕ → List ℕ → List ℕ
without x [] = []
without x (y ∷ ys) = if y == x then ys else y ∷ without x ys

length-without : (x : ℕ) (ys : List ℕ) → length ys ≤ length (without x ys) + 1
length-without x [] = omega arith
length-without x (y ∷ ys) =
    elim (cases_eq y x) [
      | inl e ↦ let t : y == x ≡ true = eq-eqb y x e in rw t (omega arith)
      | inr n ↦ let t : y == x ≡ false = ne_eqb y x n in let r = length-without x ys in rw t (omega (arith, r))
    ]

in_without : (x z : ℕ) (ys : List ℕ) → In z (without x ys) → In z ys
in_without x z [] h = h
in_without x z (y ∷ ys) h =
    elim (cases_eq y x) [
      | inl e ↦ let t : y == x ≡ true = eq-eqb y x e in inr (rw t at h)
      | inr n ↦
          let t : y == x ≡ false = ne_eqb y x n in
          let h' : In z (y ∷ without x ys) = rw t at h in
          elim h' [ inl a ↦ inl a | inr b ↦ inr (in_without x z ys b) ]
    ]

distinct_without : (x : ℕ) (ys : List ℕ) → Distinct ys → Distinct (without x ys)
distinct_without x [] d = d
distinct_without x (y ∷ ys) d =
    elim (cases_eq y x) [
      | inl e ↦ let t : y == x ≡ true = eq-eqb y x e in rw t d.1
      | inr n ↦ let t : y == x ≡ false = ne_eqb y x n in rw t (λ h. d.0 (in_without x y ys h), distinct_without x ys d.1)
    ]

gone : (x : ℕ) (ys : List ℕ) → Distinct ys → In x (without x ys) → ⊥
gone x [] d h = h
gone x (y ∷ ys) d h =
    elim (cases_eq y x) [
      | inl e ↦
          let t : y == x ≡ true = eq-eqb y x e in
          let h' : In x ys = rw t at h in
          d.0 (subst (λ (z : ℕ). In z ys) (sym e) h')
      | inr n ↦
          let t : y == x ≡ false = ne_eqb y x n in
          let h' : In x (y ∷ without x ys) = rw t at h in
          elim h' [ inl a ↦ n a | inr b ↦ gone x ys d.1 b ]
    ]

-- the number is four times one below n
abbrev pub IsFourTimes : ℕ → ℕ → Type 0
IsFourTimes n x = (i : ℕ) × (i < n) × (x ≡ 4 * i)

-- of such numbers without repetition there are at most n
pub few_such : (n : ℕ) (xs : List ℕ) → Distinct xs → ((x : ℕ) → In x xs → IsFourTimes n x) → length xs ≤ n
few_such zero [] d f = omega arith
few_such zero (x ∷ xs) d f = let r = f x (inl refl) in absurd (omega (arith, r.1))
few_such (suc n) xs d f =
    let rest = few_such n (without (4 * n) xs) (distinct_without (4 * n) xs d)
    (λ x h. let r = f x (in_without (4 * n) x xs h) in
    elim (cases_lt r.0 n) [
      | inl l ↦ (r.0, l, r.2)
      | inr g ↦
          let same : x ≡ 4 * n = omega (arith, r.1, r.2, g) in
          absurd (gone (4 * n) xs d (subst (λ (z : ℕ). In z (without (4 * n) xs)) same h))
    ]) in
    omega (arith, rest, length-without (4 * n) xs)

in_or_not : (x : ℕ) (xs : List ℕ) → In x xs ⊎ (In x xs → ⊥)
in_or_not x [] = inr (λ h. h)
in_or_not x (y ∷ ys) =
    elim (cases_eq y x) [
      | inl e ↦ inl (inl e)
      | inr n ↦ elim (in_or_not x ys) [ inl h ↦ inl (inr h) | inr m ↦ inr (λ h. elim h [ inl a ↦ n a | inr b ↦ m b ]) ]
    ]

-- where there are as many, each is among them
pub all_such : (n : ℕ) (xs : List ℕ) → Distinct xs → ((x : ℕ) → In x xs → IsFourTimes n x) → length xs ≡ n → (i : ℕ) → i < n → In (4 * i) xs
all_such n xs d f l i b =
    elim (in_or_not (4 * i) xs) [
      | inl h ↦ h
      | inr m ↦
          let more : length ((4 * i) ∷ xs) ≤ n = few_such n ((4 * i) ∷ xs) (m, d) (λ x h. elim h [ inl e ↦ (i, b, sym e) | inr t ↦ f x t ]) in
          absurd (omega (arith, more, l))
    ]

streams_fit : (a b : List PlainEntry) (requests : List PlainMessage) (g : Grew a b requests) (x : ℕ) → In x (streams_of g.fresh) → IsFourTimes (length requests) x
streams_fit a b requests g x h =
    let e = from_map (λ (e : PlainEntry). e.stream) x g.fresh h in
    let asked = g.as_asked e.0 e.1 in
    (asked.index, slice_get_within requests asked.index asked.asked asked.asked_is, sym e.2 ∙ asked.stream_is)

pub grew_few : (a b : List PlainEntry) (requests : List PlainMessage) → Grew a b requests → length b ≤ length a + length requests
grew_few a b requests g =
    let few = few_such (length requests) (streams_of g.fresh) g.once (streams_fit a b requests g) in
    let whole : length b ≡ length (a ++ g.fresh) = ap length g.longer in
    omega (arith, few, whole, length-append a g.fresh, length-streams_of g.fresh)

pub grew_all : (a b : List PlainEntry) (requests : List PlainMessage) (g : Grew a b requests) → length b ≡ length a + length requests
    → (i : ℕ) → i < length requests → In (4 * i) (streams_of g.fresh)
grew_all a b requests g l i h =
    let whole : length b ≡ length (a ++ g.fresh) = ap length g.longer in
    all_such (length requests) (streams_of g.fresh) g.once (streams_fit a b requests g)
    (omega (arith, l, whole, length-append a g.fresh, length-streams_of g.fresh)) i h
