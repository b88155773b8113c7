-- Texts that are parted at a space.
use Rattle.std.proofs.Common.{◌≡◌, ◌≢◌, Bool, true, false, not, ◌&&◌, ◌==◌, ℕ, zero, suc, ◌+◌, ◌-◌, ◌<◌, List, [], ◌∷◌, ◌++◌, length, get_or, take, drop, refl, sym, ap, ◌∙◌, subst, arith, add-one, length-drop}
use Rattle.std.proofs.lemmas.List.{take_all}
use Rattle.qh_script.specs.Line.{HasNoSpace}

-- a space stands there
pub no_space_within : (front back : List ℕ) → HasNoSpace (front ++ (32 ∷ back)) → ⊥
no_space_within [] back h = h.0 refl
no_space_within (b ∷ bs) back h = no_space_within bs back h.1

pub first_same : (front back front' back' : List ℕ) → HasNoSpace front → HasNoSpace front' → front ++ (32 ∷ back) ≡ front' ++ (32 ∷ back') → (front ≡ front') × (back ≡ back')
first_same [] back [] back' h h' e = (refl, cc)
first_same [] back (c ∷ cs) back' h h' e = absurd (h'.0 cc)
first_same (b ∷ bs) back [] back' h h' e = absurd (h.0 cc)
first_same (b ∷ bs) back (c ∷ cs) back' h h' e =
    let same : b ≡ c = cc in
    let rest = first_same bs back cs back' h.1 h'.1 cc in
    let r : bs ≡ cs = rest.0 in
    (cc, rest.1)

pub last_same : (front back front' back' : List ℕ) → HasNoSpace back → HasNoSpace back' → front ++ (32 ∷ back) ≡ front' ++ (32 ∷ back') → (front ≡ front') × (back ≡ back')
last_same [] back [] back' h h' e = (refl, cc)
last_same [] back (c ∷ cs) back' h h' e =
    let r : back ≡ cs ++ (32 ∷ back') = cc in
    absurd (no_space_within cs back' (rw r at h))
last_same (b ∷ bs) back [] back' h h' e =
    let r : back' ≡ bs ++ (32 ∷ back) = cc in
    absurd (no_space_within bs back (rw r at h'))
last_same (b ∷ bs) back (c ∷ cs) back' h h' e =
    let same : b ≡ c = cc in
    let rest = last_same bs back cs back' h h' cc in
    let r : bs ≡ cs = rest.0 in
    (cc, rest.1)

-- one more byte at the end of the front, and at the front of the tail
more : (text : List ℕ) (i : ℕ) → i < length text → HasNoSpace (take i text) → get_or text i 0 ≢ 32 → HasNoSpace (take (suc i) text)
more [] i l h n = absurd (omega arith)
more (b ∷ bs) zero l h n = (n, tt)
more (b ∷ bs) (suc i) l h n = (h.0, more bs i (omega arith) h.1 n)

pub no_space_more : (text : List ℕ) (i : ℕ) → i < length text → HasNoSpace (take i text) → get_or text i 0 ≢ 32 → HasNoSpace (take (i + 1) text)
no_space_more text i l h n = rw add-one (more text i l h n)

before : (text : List ℕ) (i : ℕ) → i < length text → HasNoSpace (drop (suc i) text) → get_or text i 0 ≢ 32 → HasNoSpace (drop i text)
before [] i l h n = absurd (omega arith)
before (b ∷ bs) zero l h n = (n, h)
before (b ∷ bs) (suc i) l h n = before bs i (omega arith) h n

pub no_space_before : (text : List ℕ) (i : ℕ) → i < length text → HasNoSpace (drop (i + 1) text) → get_or text i 0 ≢ 32 → HasNoSpace (drop i text)
no_space_before text i l h n = before text i l (rw add-one at h) n

-- a text at the byte of an index
part : (text : List ℕ) (i : ℕ) → i < length text → get_or text i 0 ≡ 32 → text ≡ take i text ++ (32 ∷ drop (suc i) text)
part [] i l h = absurd (omega arith)
part (b ∷ bs) zero l h = ap (λ x. x ∷ bs) h
part (b ∷ bs) (suc i) l h = ap (λ xs. b ∷ xs) (part bs i (omega arith) h)

parted_at : (text : List ℕ) (i : ℕ) → i < length text → get_or text i 0 ≡ 32 → text ≡ take i text ++ (32 ∷ drop (i + 1) text)
parted_at text i l h = subst (λ (n : ℕ). text ≡ take i text ++ (32 ∷ drop n text)) (sym (add-one i)) (part text i l h)

-- both as a program takes them
pub parted : (text : List ℕ) (i : ℕ) → i < length text → get_or text i 0 ≡ 32 → text ≡ take i text ++ (32 ∷ take (length text - (i + 1)) (drop (i + 1) text))
parted text i l h =
    let whole : take (length text - (i + 1)) (drop (i + 1) text) ≡ drop (i + 1) text = take_all _ _ (omega (arith, length-drop (i + 1) text)) in
    parted_at text i l h ∙ ap (λ xs. take i text ++ (32 ∷ xs)) (sym whole)

pub back_has_none : (text : List ℕ) (i n : ℕ) → n ≡ i + 1 → HasNoSpace (drop n text) → HasNoSpace (take (length text - n) (drop n text))
back_has_none text i n e h =
    let whole : take (length text - n) (drop n text) ≡ drop n text = take_all _ _ (omega (arith, length-drop n text)) in
    rw whole h

-- the same as a test, which computes on words that are written out
abbrev pub no_space : List ℕ → Bool
no_space [] = true
no_space (b ∷ bs) = not (b == 32) && no_space bs

no_space_head : (b : ℕ) (rest : Bool) → b ≡ 32 → (not (b == 32) && rest) ≡ true → ⊥
no_space_head b rest same e = let f : (not (32 == 32) && rest) ≡ true = rw same at e in cc

no_space_tail : (head rest : Bool) → (head && rest) ≡ true → rest ≡ true
no_space_tail true rest e = e
no_space_tail false rest e = cc

pub no_space_literal : (word : List ℕ) → no_space word ≡ true → HasNoSpace word
no_space_literal [] e = tt
no_space_literal (b ∷ bs) e = (λ same. no_space_head b (no_space bs) same e, no_space_literal bs (no_space_tail (not (b == 32)) (no_space bs) e))
