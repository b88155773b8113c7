-- The first line of a script that isn't carried out yet.
use Rattle.std.proofs.Common.{◌≡◌, inl, inr, ℕ, ◌==◌, true, false, ◌+◌, ◌<◌, ◌≤◌, List, [], ◌∷◌, ◌++◌, length, refl, sym, ap, ◌∙◌, subst, arith, append_assoc, append-nil, length-append}
use Rattle.std.specs.List.{AllByRecursion}
use Rattle.std.proofs.lemmas.Bool.{cases_eq, ne_eqb}
use Rattle.qh_spec.specs.Lines.{lines}
use Rattle.qh_exchange.specs.Unbuilt.{IsUnbuiltLine, IsUnbuiltAt}

-- lines that are carried out
abbrev pub AreBuilt : List (List ℕ) → Type 0
AreBuilt ls = AllByRecursion (λ (l : List ℕ). IsUnbuiltLine l → ⊥) ls

built_more : (ls : List (List ℕ)) (l : List ℕ) → AreBuilt ls → (IsUnbuiltLine l → ⊥) → AreBuilt (ls ++ l ∷ [])
built_more [] l p q = (q, tt)
built_more (k ∷ ls) l p q = (p.0, built_more ls l p.1 q)

built_at : (front rest : List (List ℕ)) (l : List ℕ) → AreBuilt (front ++ l ∷ rest) → IsUnbuiltLine l → ⊥
built_at [] rest l p = p.0
built_at (k ∷ front) rest l p = built_at front rest l p.1

-- how far the lines of a text are carried out
pub record Seen (text rest : List ℕ) (count : ℕ) : Type 0 where
  pub seen : List (List ℕ)
  pub is : lines text ≡ seen ++ lines rest
  pub built : AreBuilt seen
  pub counted : count ≡ length seen
  pub room : count + length rest ≤ length text

pub seen_none : (text : List ℕ) → Seen text text 0
seen_none text = record { seen = []; is = refl; built = tt; counted = refl; room = omega arith }

pub seen_more : (text rest line behind : List ℕ) (n : ℕ) → Seen text rest n → lines rest ≡ line ∷ lines behind → length behind < length rest
    → (IsUnbuiltLine line → ⊥) → Seen text behind (n + 1)
seen_more text rest line behind n p cut shorter built =
    let room = p.room in
    let counted = p.counted in
    record {
      seen = p.seen ++ line ∷ [];
      is = p.is ∙ ap (λ (z : List (List ℕ)). p.seen ++ z) cut ∙ sym (append_assoc p.seen (line ∷ []) (lines behind));
      built = built_more p.seen line p.built built;
      counted = omega (arith, length-append p.seen (line ∷ []));
      room = omega arith;
    }

pub seen_found : (text rest line behind : List ℕ) (n : ℕ) → Seen text rest n → lines rest ≡ line ∷ lines behind → IsUnbuiltLine line → IsUnbuiltAt text (n + 1)
seen_found text rest line behind n p cut unbuilt = record {
  front = p.seen;
  line = line;
  rest = lines behind;
  is = p.is ∙ ap (λ (z : List (List ℕ)). p.seen ++ z) cut;
  built = p.built;
  unbuilt = unbuilt;
  count = ap (λ (k : ℕ). k + 1) p.counted;
}

-- what a test for no length says
pub no_length : (n : ℕ) → true ≡ (n == 0) → n ≡ 0
no_length n e = elim (cases_eq n 0) [ inl z ↦ z | inr d ↦ let t : n == 0 ≡ false = ne_eqb n 0 d in let f : ⊥ = cc in absurd f ]

nothing_left : (rest : List ℕ) → length rest ≡ 0 → rest ≡ []
nothing_left [] e = refl
nothing_left (b ∷ bs) e = absurd (omega arith)

pub seen_all : (text rest : List ℕ) (n : ℕ) → Seen text rest n → length rest ≡ 0 → (m : ℕ) → IsUnbuiltAt text m → ⊥
seen_all text rest n p e m u =
    let all : lines text ≡ p.seen = p.is ∙ ap (λ (z : List ℕ). p.seen ++ lines z) (nothing_left rest e) ∙ append-nil p.seen in
    built_at u.front u.rest u.line (subst AreBuilt (sym all ∙ u.is) p.built) u.unbuilt
