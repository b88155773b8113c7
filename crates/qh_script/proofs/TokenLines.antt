-- Lines of commands on a token log.
use Rattle.std.proofs.Common.{◌≡◌, ◌≢◌, ℕ, ◌+◌, ◌^◌, ◌<◌, ◌≤◌, List, [], ◌∷◌, ◌++◌, length, codes, decimal, refl, sym, ap, ◌∙◌, subst, arith}
use Rattle.qh_spec.specs.TokenFilter.{TokenLimits}
use Rattle.qh_spec.specs.TokenLog.{Token}
use Rattle.qh_spec.specs.TokenScript.{TokenLine, Empty, Log, Look, IsTokenLine, empty, log, look}
use Rattle.qh_spec.proofs.TokenTexts.{apart}
use Rattle.qh_script.specs.Line.{HasNoSpace, SplitsFirst, IsNumber}
use Rattle.qh_script.proofs.Decimals.{decimal_no_space}
use Rattle.qh_script.proofs.Spaces.{no_space_within, no_space_literal, first_same}

-- a number in front of a space
number_front : (text front back rest : List ℕ) (n : ℕ) → SplitsFirst text front back → n < 2 ^ 64 → text ≡ decimal n ++ 32 ∷ rest
    → (front ≡ decimal n) × (back ≡ rest)
number_front text front back rest n s h e = first_same front back (decimal n) rest s.1 (decimal_no_space n h) (sym s.0 ∙ e)

-- ---- MAX_BYTES K

record IsLimits (text : List ℕ) (l : TokenLimits) : Type 0 where
  is : text ≡ decimal l.max_bytes ++ 32 ∷ decimal l.k_num
  bytes : l.max_bytes ≤ 2 ^ 30
  k : l.k_num < 2 ^ 32

abbrev IsLog : List ℕ → TokenLimits → Type 0
IsLog text l = IsTokenLine (codes "tokenlog " ++ text) (Log l)

limits_in : (text : List ℕ) (l : TokenLimits) → IsLog text l → IsLimits text l
limits_in text _ (log b k e p q) = record { is = cc; bytes = p; k = q }

limits_parts : (text front back : List ℕ) (l : TokenLimits) → SplitsFirst text front back → IsLog text l → IsNumber front l.max_bytes × IsNumber back l.k_num
limits_parts text front back l s is =
    let p = limits_in text l is in
    let same = number_front text front back (decimal l.k_num) l.max_bytes s (omega (arith, p.bytes)) p.is in
    ((same.0, omega (arith, p.bytes)), (same.1, omega (arith, p.k)))

pub no_limits_alone : (text : List ℕ) → HasNoSpace text → (l : TokenLimits) → IsLog text l → ⊥
no_limits_alone text h l is = no_space_within (decimal l.max_bytes) (decimal l.k_num) (rw ((limits_in text l is).is) at h)

pub no_limits_bytes : (text front back : List ℕ) → SplitsFirst text front back → ((n : ℕ) → IsNumber front n → n < 2 ^ 30 + 1 → ⊥)
    → (l : TokenLimits) → IsLog text l → ⊥
no_limits_bytes text front back s none l is = none l.max_bytes (limits_parts text front back l s is).0 (omega (arith, (limits_in text l is).bytes))

pub no_limits_k : (text front back : List ℕ) → SplitsFirst text front back → ((n : ℕ) → IsNumber back n → n < 2 ^ 32 → ⊥)
    → (l : TokenLimits) → IsLog text l → ⊥
no_limits_k text front back s none l is = none l.k_num (limits_parts text front back l s is).1 (limits_in text l is).k

pub is_limits : (text front back : List ℕ) (b k : ℕ) → SplitsFirst text front back → IsNumber front b → b < 2 ^ 30 + 1 → IsNumber back k → k < 2 ^ 32
    → IsLog text (record { max_bytes = b; k_num = k })
is_limits text front back b k s i p j q = log b k (rw (s.0, i.0, j.0) refl) (omega arith) q

-- ---- NONCE ISSUED LIFETIME

record IsToken (text : List ℕ) (t : Token) : Type 0 where
  is : text ≡ decimal t.nonce ++ 32 ∷ (decimal t.issued ++ 32 ∷ decimal t.lifetime)
  nonce : t.nonce < 2 ^ 64
  issued : t.issued < 2 ^ 63
  lifetime : t.lifetime < 2 ^ 63

abbrev IsLook : List ℕ → Token → Type 0
IsLook text t = IsTokenLine (codes "token " ++ text) (Look t)

token_in : (text : List ℕ) (t : Token) → IsLook text t → IsToken text t
token_in text _ (look n i l e p q r) = record { is = cc; nonce = p; issued = q; lifetime = r }

token_front : (text front behind : List ℕ) (t : Token) → SplitsFirst text front behind → IsLook text t
    → (front ≡ decimal t.nonce) × (behind ≡ decimal t.issued ++ 32 ∷ decimal t.lifetime)
token_front text front behind t s is =
    let p = token_in text t is in
    number_front text front behind (decimal t.issued ++ 32 ∷ decimal t.lifetime) t.nonce s p.nonce p.is

token_back : (text front behind mid back : List ℕ) (t : Token) → SplitsFirst text front behind → SplitsFirst behind mid back → IsLook text t
    → (mid ≡ decimal t.issued) × (back ≡ decimal t.lifetime)
token_back text front behind mid back t s u is =
    number_front behind mid back (decimal t.lifetime) t.issued u (omega (arith, (token_in text t is).issued)) (token_front text front behind t s is).1

pub no_token_alone : (text : List ℕ) → HasNoSpace text → (t : Token) → IsLook text t → ⊥
no_token_alone text h t is = no_space_within (decimal t.nonce) (decimal t.issued ++ 32 ∷ decimal t.lifetime) (rw ((token_in text t is).is) at h)

pub no_token_short : (text front behind : List ℕ) → SplitsFirst text front behind → HasNoSpace behind → (t : Token) → IsLook text t → ⊥
no_token_short text front behind s h t is =
    no_space_within (decimal t.issued) (decimal t.lifetime) (rw ((token_front text front behind t s is).1) at h)

pub no_token_nonce : (text front behind : List ℕ) → SplitsFirst text front behind → ((n : ℕ) → n < 2 ^ 64 → front ≢ decimal n) → (t : Token) → IsLook text t → ⊥
no_token_nonce text front behind s none t is = none t.nonce (token_in text t is).nonce (token_front text front behind t s is).0

pub no_token_issued : (text front behind mid back : List ℕ) → SplitsFirst text front behind → SplitsFirst behind mid back
    → ((n : ℕ) → IsNumber mid n → n < 2 ^ 63 → ⊥) → (t : Token) → IsLook text t → ⊥
no_token_issued text front behind mid back s u none t is =
    let h = (token_in text t is).issued in
    none t.issued ((token_back text front behind mid back t s u is).0, omega arith) h

pub no_token_lifetime : (text front behind mid back : List ℕ) → SplitsFirst text front behind → SplitsFirst behind mid back
    → ((n : ℕ) → IsNumber back n → n < 2 ^ 63 → ⊥) → (t : Token) → IsLook text t → ⊥
no_token_lifetime text front behind mid back s u none t is =
    let h = (token_in text t is).lifetime in
    none t.lifetime ((token_back text front behind mid back t s u is).1, omega arith) h

pub is_token : (text front behind mid back : List ℕ) (n i l : ℕ) → SplitsFirst text front behind → SplitsFirst behind mid back → IsNumber front n → IsNumber mid i → i < 2 ^ 63
    → IsNumber back l → l < 2 ^ 63 → IsLook text (record { nonce = n; issued = i; lifetime = l })
is_token text front behind mid back n i l s u p q h r g = look n i l (rw (s.0, u.0, p.0, q.0, r.0) refl) p.1 h g

-- ---- whole lines

pub empty_line : (text : List ℕ) → length text ≡ 0 → IsTokenLine text Empty
empty_line [] e = empty refl
empty_line (b ∷ bs) e = absurd (omega arith)

pub no_line_spaceless : (text : List ℕ) → 0 < length text → HasNoSpace text → (l : TokenLine) → IsTokenLine text l → ⊥
no_line_spaceless text some h _ (empty e) = omega (arith, ap length e)
no_line_spaceless text some h _ (log b k e p q) = no_space_within (codes "tokenlog") (decimal b ++ 32 ∷ decimal k) (rw e at h)
no_line_spaceless text some h _ (look n i l e p q r) = no_space_within (codes "token") (decimal n ++ 32 ∷ (decimal i ++ 32 ∷ decimal l)) (rw e at h)

pub no_line_word : (text front back : List ℕ) → 0 < length text → SplitsFirst text front back → front ≢ codes "tokenlog" → front ≢ codes "token" → (l : TokenLine)
    → IsTokenLine text l → ⊥
no_line_word text front back some s f g _ (empty e) = omega (arith, ap length e)
no_line_word text front back some s f g _ (log b k e p q) =
    f (first_same front back (codes "tokenlog") (decimal b ++ 32 ∷ decimal k) s.1 (no_space_literal (codes "tokenlog") refl) (sym s.0 ∙ e)).0
no_line_word text front back some s f g _ (look n i l e p q r) =
    g (first_same front back (codes "token") (decimal n ++ 32 ∷ (decimal i ++ 32 ∷ decimal l)) s.1 (no_space_literal (codes "token") refl) (sym s.0 ∙ e)).0

only_log : (text back : List ℕ) → text ≡ codes "tokenlog " ++ back → ((l : TokenLimits) → IsLog back l → ⊥) → (l : TokenLine) → IsTokenLine text l → ⊥
only_log text back is none _ (empty e) = let no : [] ≡ codes "tokenlog " ++ back = sym e ∙ is in absurd cc
only_log text back is none _ (log b k e p q) = none (record { max_bytes = b; k_num = k }) (log b k (sym is ∙ e) p q)
only_log text back is none _ (look n i l e p q r) = absurd (apart text _ _ is e)

only_look : (text back : List ℕ) → text ≡ codes "token " ++ back → ((t : Token) → IsLook back t → ⊥) → (l : TokenLine) → IsTokenLine text l → ⊥
only_look text back is none _ (empty e) = let no : [] ≡ codes "token " ++ back = sym e ∙ is in absurd cc
only_look text back is none _ (log b k e p q) = absurd (apart text _ _ e is)
only_look text back is none _ (look n i l e p q r) = none (record { nonce = n; issued = i; lifetime = l }) (look n i l (sym is ∙ e) p q r)

-- the text that was split, by its word
log_text : (text front back : List ℕ) → SplitsFirst text front back → front ≡ codes "tokenlog" → text ≡ codes "tokenlog " ++ back
log_text text front back s e = s.0 ∙ ap (λ (z : List ℕ). z ++ 32 ∷ back) e

look_text : (text front back : List ℕ) → SplitsFirst text front back → front ≡ codes "token" → text ≡ codes "token " ++ back
look_text text front back s e = s.0 ∙ ap (λ (z : List ℕ). z ++ 32 ∷ back) e

pub log_line : (text front back : List ℕ) (l : TokenLimits) → SplitsFirst text front back → front ≡ codes "tokenlog" → IsLog back l → IsTokenLine text (Log l)
log_line text front back l s e is = subst (λ (z : List ℕ). IsTokenLine z (Log l)) (sym (log_text text front back s e)) is

pub look_line : (text front back : List ℕ) (t : Token) → SplitsFirst text front back → front ≡ codes "token" → IsLook back t → IsTokenLine text (Look t)
look_line text front back t s e is = subst (λ (z : List ℕ). IsTokenLine z (Look t)) (sym (look_text text front back s e)) is

pub no_log_line : (text front back : List ℕ) → SplitsFirst text front back → front ≡ codes "tokenlog" → ((l : TokenLimits) → IsLog back l → ⊥) → (l : TokenLine)
    → IsTokenLine text l → ⊥
no_log_line text front back s e none l is = only_log text back (log_text text front back s e) none l is

pub no_look_line : (text front back : List ℕ) → SplitsFirst text front back → front ≡ codes "token" → ((t : Token) → IsLook back t → ⊥) → (l : TokenLine)
    → IsTokenLine text l → ⊥
no_look_line text front back s e none l is = only_look text back (look_text text front back s e) none l is
