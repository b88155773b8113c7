-- What a run says of tokens that it looks at.
use Rattle.std.proofs.Common.{◌≡◌, Bool, List, ◌∷◌, ◌++◌, ℕ, ◌+◌, ◌<◌, length, get_or, drop, sym, ap, subst, ◌∙◌, append_assoc}
use Rattle.std.proofs.lemmas.List.{at_drop_more}
use Rattle.qh_spec.specs.TokenFilter.{TokenLimits}
use Rattle.qh_spec.specs.TokenLog.{Token, TokenLog, accepts, checked}
use Rattle.qh_spec.specs.TokenScript.{token_line, token_lines}
use Rattle.qh_script.specs.declared.tokens.TokenCommand.{TokenCommand}
use Rattle.qh_script.specs.Tokens.{token_of, tokens_of}

-- What was written so far, and the lines of the tokens that are left, by a log that is stood for, are the whole.
pub record AreLeft (limits : TokenLimits) (Stands : TokenLog → Type 0) (written whole : List ℕ) (left : List Token) : Type 0 where
  pub log : TokenLog
  pub stands : Stands log
  pub lines : written ++ token_lines limits log left ≡ whole

-- each log that is stood for looked at the token
abbrev pub Looked : TokenLimits → (Stands Next : TokenLog → Type 0) → Token → Bool → Type 0
Looked limits Stands Next t counts = (l : TokenLog) → Stands l → (counts ≡ accepts limits l t) × Next (checked limits l t)

one_less : (limits : TokenLimits) (Stands Next : TokenLog → Type 0) (written whole : List ℕ) (t : Token) (left : List Token) (counts : Bool)
    → AreLeft limits Stands written whole (t ∷ left) → Looked limits Stands Next t counts → AreLeft limits Next (written ++ token_line counts) whole left
one_less limits Stands Next written whole t left counts p looks =
    let looked = looks p.log p.stands in
    let rest : List ℕ = token_lines limits (checked limits p.log t) left in
    record {
      log = checked limits p.log t;
      stands = looked.1;
      lines = append_assoc written (token_line counts) rest ∙ ap (λ (b : Bool). written ++ (token_line b ++ rest)) looked.0 ∙ p.lines;
    }

pub left_less : (limits same : TokenLimits) (Stands Next : TokenLog → Type 0) (written next whole : List ℕ) (tokens : List TokenCommand) (i : ℕ) (d : TokenCommand) (counts : Bool)
    → i < length tokens → AreLeft limits Stands written whole (tokens_of (drop i tokens)) → Looked same Stands Next (token_of (get_or tokens i d)) counts → same ≡ limits
    → next ≡ written ++ token_line counts → AreLeft limits Next next whole (tokens_of (drop (i + 1) tokens))
left_less limits same Stands Next written next whole tokens i d counts within p looks as_ e =
    subst (λ (z : List ℕ). AreLeft limits Next z whole (tokens_of (drop (i + 1) tokens))) (sym e)
    (one_less limits Stands Next written whole (token_of (get_or tokens i d)) (tokens_of (drop (i + 1) tokens)) counts
    (subst (AreLeft limits Stands written whole) (at_drop_more tokens_of tokens i d within) p)
    (subst (λ (z : TokenLimits). Looked z Stands Next (token_of (get_or tokens i d)) counts) as_ looks))
