-- How two spellings of one front agree, and with what follows them.
use Rattle.std.proofs.Common.{◌≡◌, ℕ, ◌+◌, ◌-◌, ◌^◌, List, [], ◌∷◌, ◌++◌, length, refl, sym, ap, ◌∙◌, arith, append_assoc}
use Rattle.qh_spec.specs.Varint.{IsVarint}
use Rattle.qh_spec.specs.PrefixInteger.{IsContinued, IsPrefixed, short, long}
use Rattle.qh_spec.proofs.Varints.{one_form}

-- fronts of one length of one list
pub halves : {X : Type 0} (a x b y : List X) → length a ≡ length b → a ++ x ≡ b ++ y → (a ≡ b) × (x ≡ y)
halves [] x [] y l e = (refl, e)
halves [] x (q ∷ b) y l e = absurd (omega arith)
halves (p ∷ a) x [] y l e = absurd (omega arith)
halves (p ∷ a) x (q ∷ b) y l e =
    let rest : a ++ x ≡ b ++ y = cc in
    let first : p ≡ q = cc in
    let r = halves a x b y (omega arith) rest in
    (let h : a ≡ b = r.0 in cc, r.1)

-- the same where each has a further part between
pub inner : {X : Type 0} (a s x b t y : List X) → (a ++ s) ++ x ≡ (b ++ t) ++ y → a ++ (s ++ x) ≡ b ++ (t ++ y)
inner a s x b t y e = sym (append_assoc a s x) ∙ e ∙ append_assoc b t y

pub varints_agree : (a x b y : List ℕ) (m n : ℕ) → IsVarint a m → IsVarint b n → a ++ x ≡ b ++ y → (m ≡ n) × (x ≡ y)
varints_agree a x b y m n p q e =
    let r = one_form a b x y m n p q e in
    (r.1, (halves a x b y (ap length r.0) e).1)

pub continued_agree : (a x b y : List ℕ) (m n : ℕ) → IsContinued a m → IsContinued b n → a ++ x ≡ b ++ y → (m ≡ n) × (x ≡ y)
continued_agree [] x b y m n p q e = absurd p
continued_agree (c ∷ a) x [] y m n p q e = absurd q
continued_agree (c ∷ []) x (d ∷ []) y m n p q e =
    let rest : x ≡ y = cc in
    let same : c ≡ d = cc in
    (p.1 ∙ same ∙ sym q.1, rest)
continued_agree (c ∷ []) x (d ∷ d' ∷ b) y m n p q e =
    let same : c ≡ d = cc in
    let low = p.0 in
    let high = q.0 in
    absurd (omega arith)
continued_agree (c ∷ c' ∷ a) x (d ∷ []) y m n p q e =
    let same : c ≡ d = cc in
    let low = q.0 in
    let high = p.0 in
    absurd (omega arith)
continued_agree (c ∷ c' ∷ a) x (d ∷ d' ∷ b) y m n p q e =
    let same : c ≡ d = cc in
    let rest : (c' ∷ a) ++ x ≡ (d' ∷ b) ++ y = cc in
    let r = continued_agree (c' ∷ a) x (d' ∷ b) y p.2 q.2 p.4 q.4 rest in
    let high = r.0 in
    let i = p.3 in
    let j = q.3 in
    (omega arith, r.1)

pub prefixed_agree : (lead bits : ℕ) (a x b y : List ℕ) (m n : ℕ) → IsPrefixed lead bits a m → IsPrefixed lead bits b n → a ++ x ≡ b ++ y → (m ≡ n) × (x ≡ y)
prefixed_agree lead bits a x b y m n (short p is) (short q js) e =
    let both : (lead + m) ∷ x ≡ (lead + n) ∷ y = ap (λ (z : List ℕ). z ++ x) (sym is) ∙ e ∙ ap (λ (z : List ℕ). z ++ y) js in
    let first : lead + m ≡ lead + n = cc in
    let rest : x ≡ y = cc in
    (omega arith, rest)
prefixed_agree lead bits a x b y m n (short p is) (long more over js c s f) e =
    let both : (lead + m) ∷ x ≡ (lead + (2 ^ bits - 1)) ∷ (more ++ y) = ap (λ (z : List ℕ). z ++ x) (sym is) ∙ e ∙ ap (λ (z : List ℕ). z ++ y) js in
    let first : lead + m ≡ lead + (2 ^ bits - 1) = cc in
    absurd (omega arith)
prefixed_agree lead bits a x b y m n (long more over is c s f) (short q js) e =
    let both : (lead + (2 ^ bits - 1)) ∷ (more ++ x) ≡ (lead + n) ∷ y = ap (λ (z : List ℕ). z ++ x) (sym is) ∙ e ∙ ap (λ (z : List ℕ). z ++ y) js in
    let first : lead + (2 ^ bits - 1) ≡ lead + n = cc in
    absurd (omega arith)
prefixed_agree lead bits a x b y m n (long more over is c s f) (long more' over' js c' s' f') e =
    let both : (lead + (2 ^ bits - 1)) ∷ (more ++ x) ≡ (lead + (2 ^ bits - 1)) ∷ (more' ++ y) = ap (λ (z : List ℕ). z ++ x) (sym is) ∙ e ∙ ap (λ (z : List ℕ). z ++ y) js in
    let rest : more ++ x ≡ more' ++ y = cc in
    let r = continued_agree more x more' y over over' c c' rest in
    let o = r.0 in
    (omega arith, r.1)

pub empty_front : {X : Type 0} (a b : List X) → [] ≡ a ++ b → a ≡ []
empty_front [] b e = refl
empty_front (x ∷ a) b e = let l : 0 ≡ length (x ∷ (a ++ b)) = ap length e in absurd (omega arith)
