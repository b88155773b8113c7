-- A text has one list of commands on a token log, or is refused at one line.
use Rattle.std.proofs.Common.{◌≡◌, ℕ, ◌+◌, ◌<◌, ◌≤◌, ◌^◌, true, false, List, [], ◌∷◌, ◌++◌, length, codes, decimal, Option, Some, None, refl, sym, ap, ◌∙◌, subst, arith, inl, inr}
use Rattle.std.specs.Prelude.{is_some}
use Rattle.std.proofs.lemmas.Bool.{cases_Bool, cases_lt, false≢true}
use Rattle.std.proofs.lemmas.Fmt.{decimal_injective}
use Rattle.qh_spec.specs.Lines.{lines}
use Rattle.qh_spec.specs.Script.{max_script}
use Rattle.qh_spec.specs.TokenFilter.{TokenLimits}
use Rattle.qh_spec.specs.TokenLog.{Token}
use Rattle.qh_spec.specs.TokenScript.{TokenLine, Empty, Log, Look, IsTokenLine, empty, log, look, TokenScript, empty_tokens, applied, IsTaken, AreTaken, IsTokenScript, IsTokenRefusedAt, too_long, at_line, unlimited}
use Rattle.qh_spec.proofs.InTurn.{in_turn_one, none_refused, first_refused, lines_judged}
use Rattle.qh_spec.proofs.LineLaws.{split_first, solid_decimal}

-- ---- lines

-- a number and what stands behind the space after it
numbers_one : (m n : ℕ) (x y : List ℕ) → m < 2 ^ 64 → n < 2 ^ 64 → decimal m ++ 32 ∷ x ≡ decimal n ++ 32 ∷ y → (m ≡ n) × (x ≡ y)
numbers_one m n x y h g e =
    let both = split_first (decimal m) (decimal n) x y (solid_decimal m h) (solid_decimal n g) e in
    (decimal_injective m n h g both.0, both.1)

log_one : (a b i j : ℕ) → a ≤ 2 ^ 30 → i ≤ 2 ^ 30 → b < 2 ^ 32 → j < 2 ^ 32 → decimal a ++ 32 ∷ decimal b ≡ decimal i ++ 32 ∷ decimal j
    → Log (record { max_bytes = a; k_num = b }) ≡ Log (record { max_bytes = i; k_num = j })
log_one a b i j p q r s e =
    let first = numbers_one a i (decimal b) (decimal j) (omega arith) (omega arith) e in
    let bytes : a ≡ i = first.0 in
    let k : b ≡ j = decimal_injective b j (omega arith) (omega arith) first.1 in
    cc

look_one : (a b c i j k : ℕ) → a < 2 ^ 64 → i < 2 ^ 64 → b < 2 ^ 63 → j < 2 ^ 63 → c < 2 ^ 63 → k < 2 ^ 63
    → decimal a ++ 32 ∷ (decimal b ++ 32 ∷ decimal c) ≡ decimal i ++ 32 ∷ (decimal j ++ 32 ∷ decimal k)
    → Look (record { nonce = a; issued = b; lifetime = c }) ≡ Look (record { nonce = i; issued = j; lifetime = k })
look_one a b c i j k p q r s t u e =
    let first = numbers_one a i (decimal b ++ 32 ∷ decimal c) (decimal j ++ 32 ∷ decimal k) p q e in
    let second = numbers_one b j (decimal c) (decimal k) (omega arith) (omega arith) first.1 in
    let nonce : a ≡ i = first.0 in
    let issued : b ≡ j = second.0 in
    let lifetime : c ≡ k = decimal_injective c k (omega arith) (omega arith) second.1 in
    cc

pub apart : (text x y : List ℕ) → text ≡ codes "tokenlog " ++ x → text ≡ codes "token " ++ y → ⊥
apart text x y e f = let no : codes "tokenlog " ++ x ≡ codes "token " ++ y = sym e ∙ f in absurd cc

pub token_line_one : (text : List ℕ) (l m : TokenLine) → IsTokenLine text l → IsTokenLine text m → l ≡ m
token_line_one text _ _ (empty e) (empty f) = refl
token_line_one text _ _ (empty e) (log a b f p q) = absurd cc
token_line_one text _ _ (empty e) (look a b c f p q r) = absurd cc
token_line_one text _ _ (log a b e p q) (empty f) = absurd cc
token_line_one text _ _ (log a b e p q) (log i j f r s) =
    let both : codes "tokenlog " ++ (decimal a ++ 32 ∷ decimal b) ≡ codes "tokenlog " ++ (decimal i ++ 32 ∷ decimal j) = sym e ∙ f in
    log_one a b i j p r q s cc
token_line_one text _ _ (log a b e p q) (look i j k f r s t) = absurd (apart text _ _ e f)
token_line_one text _ _ (look a b c e p q r) (empty f) = absurd cc
token_line_one text _ _ (look a b c e p q r) (log i j f s t) = absurd (apart text _ _ f e)
token_line_one text _ _ (look a b c e p q r) (look i j k f s t u) =
    let both : codes "token " ++ (decimal a ++ 32 ∷ (decimal b ++ 32 ∷ decimal c)) ≡ codes "token " ++ (decimal i ++ 32 ∷ (decimal j ++ 32 ∷ decimal k)) = sym e ∙ f in
    look_one a b c i j k p s q t r u cc

-- ---- texts

pub taken_one : (text : List ℕ) (s t u : TokenScript) → IsTaken text s t → IsTaken text s u → t ≡ u
taken_one text s t u p q =
    let same = token_line_one text p.line q.line p.is q.is in
    let both : Some t ≡ Some u = sym p.makes ∙ ap (λ (l : TokenLine). applied l s) same ∙ q.makes in
    cc

-- what a text with commands makes
abbrev said : TokenLimits → List Token → TokenScript
said limits ts = record { limits = Some limits; tokens = ts }

made_one : (text : List ℕ) (limits other : TokenLimits) (ts us : List Token) → IsTokenScript text limits ts → IsTokenScript text other us
    → said limits ts ≡ said other us
made_one text limits other ts us p q = in_turn_one IsTaken taken_one (lines text) empty_tokens (said limits ts) (said other us) p.taken q.taken

pub one_log : (text : List ℕ) (limits other : TokenLimits) (ts us : List Token) → IsTokenScript text limits ts → IsTokenScript text other us → limits ≡ other
one_log text limits other ts us p q =
    let same : Some limits ≡ Some other = ap (λ (s : TokenScript). s.limits) (made_one text limits other ts us p q) in
    cc

pub one_list : (text : List ℕ) (limits other : TokenLimits) (ts us : List Token) → IsTokenScript text limits ts → IsTokenScript text other us → ts ≡ us
one_list text limits other ts us p q = ap (λ (s : TokenScript). s.tokens) (made_one text limits other ts us p q)

at_and_all : (text : List ℕ) (front : List (List ℕ)) (line : List ℕ) (rest : List (List ℕ)) (s t : TokenScript) → lines text ≡ front ++ line ∷ rest
    → AreTaken front empty_tokens s → ((u : TokenScript) → IsTaken line s u → ⊥) → AreTaken (lines text) empty_tokens t → ⊥
at_and_all text front line rest s t is p never q =
    none_refused IsTaken taken_one front line rest empty_tokens s t (subst (λ (ls : List (List ℕ)). AreTaken ls empty_tokens t) is q) p never

pub one_refusal : (text : List ℕ) (i j : ℕ) → IsTokenRefusedAt text i → IsTokenRefusedAt text j → i ≡ j
one_refusal text _ _ (too_long h) (too_long k) = refl
one_refusal text _ _ (too_long h) (at_line front line rest s short is p never) = absurd (omega arith)
one_refusal text _ _ (too_long h) (unlimited short p) = absurd (omega arith)
one_refusal text _ _ (at_line front line rest s short is p never) (too_long k) = absurd (omega arith)
one_refusal text _ _ (at_line front line rest s short is p never) (at_line others other more t small at q not) =
    ap (λ (n : ℕ). n + 1) (first_refused IsTaken taken_one front line rest others other more empty_tokens s t (sym is ∙ at) p never q not)
one_refusal text _ _ (at_line front line rest s short is p never) (unlimited small q) = absurd (at_and_all text front line rest s empty_tokens is p never q)
one_refusal text _ _ (unlimited short p) (too_long k) = absurd (omega arith)
one_refusal text _ _ (unlimited short p) (at_line front line rest s small is q never) = absurd (at_and_all text front line rest s empty_tokens is q never p)
one_refusal text _ _ (unlimited short p) (unlimited small q) = refl

pub not_both : (text : List ℕ) (limits : TokenLimits) (ts : List Token) (i : ℕ) → IsTokenScript text limits ts → IsTokenRefusedAt text i → ⊥
not_both text limits ts _ p (too_long h) = let short = p.short in omega arith
not_both text limits ts _ p (at_line front line rest s short is q never) = at_and_all text front line rest s (said limits ts) is q never p.taken
not_both text limits ts _ p (unlimited short q) =
    let same : said limits ts ≡ empty_tokens = in_turn_one IsTaken taken_one (lines text) empty_tokens (said limits ts) empty_tokens p.taken q in
    let none : Some limits ≡ None = ap (λ (s : TokenScript). s.limits) same in
    cc

-- lines that give no limits say nothing
abbrev pub IsPlain : TokenScript → Type 0
IsPlain s = is_some s.limits ≡ false → s ≡ empty_tokens

line_plain : (l : TokenLine) (s t : TokenScript) → applied l s ≡ Some t → IsPlain s → IsPlain t
line_plain Empty s t e p = let same : s ≡ t = cc in subst IsPlain same p
line_plain (Log limits) s t e p =
    elim (cases_Bool (is_some s.limits)) [
      | inl i ↦ let none : None ≡ Some t = rw i at e in absurd cc
      | inr i ↦
          let one : Some (record s { limits = Some limits }) ≡ Some t = rw i at e in
          let same : record s { limits = Some limits } ≡ t = cc in
          subst IsPlain same (λ no. absurd (false≢true (sym no)))
    ]
line_plain (Look token) s t e p =
    elim (cases_Bool (is_some s.limits)) [
      | inl i ↦
          let one : Some (record s { tokens = s.tokens ++ token ∷ [] }) ≡ Some t = rw i at e in
          let same : record s { tokens = s.tokens ++ token ∷ [] } ≡ t = cc in
          subst IsPlain same (λ no. absurd (false≢true (sym no ∙ i)))
      | inr i ↦ let none : None ≡ Some t = rw i at e in absurd cc
    ]

pub all_plain : (ls : List (List ℕ)) (s t : TokenScript) → AreTaken ls s t → IsPlain s → IsPlain t
all_plain [] s t q p = subst IsPlain (sym q) p
all_plain (l ∷ ls) s t q p = all_plain ls q.0 t q.2 (line_plain q.1.line s q.0 q.1.makes p)

some_is : (o : Option TokenLimits) → is_some o ≡ true → (limits : TokenLimits) × (o ≡ Some limits)
some_is None e = absurd (false≢true e)
some_is (Some limits) e = (limits, refl)

pub judged : (text : List ℕ) → ((limits : TokenLimits) (ts : List Token) → IsTokenScript text limits ts → ⊥) → ((i : ℕ) → IsTokenRefusedAt text i → ⊥) → ⊥
judged text none refused =
    elim (cases_lt max_script (length text)) [
      | inl long ↦ refused 0 (too_long long)
      | inr short ↦
          lines_judged IsTaken (lines text) empty_tokens
          (λ s taken. elim (cases_Bool (is_some s.limits)) [
            | inl i ↦
                let given = some_is s.limits i in
                let same : s ≡ said given.0 s.tokens = ap (λ (o : Option TokenLimits). record s { limits = o }) given.1 in
                none given.0 s.tokens (record { short = short; taken = subst (λ (t : TokenScript). AreTaken (lines text) empty_tokens t) same taken })
            | inr i ↦
                let same : s ≡ empty_tokens = all_plain (lines text) empty_tokens s taken (λ e. refl) i in
                refused (length (lines text) + 1) (unlimited short (subst (λ (t : TokenScript). AreTaken (lines text) empty_tokens t) same taken))
          ])
          (λ front line rest mid is before never. refused (length front + 1) (at_line front line rest mid short is before never))
    ]
