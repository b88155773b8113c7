-- Commands on a token log, line by line, and what is written of them (own).
use Rattle.std.specs.Prelude.{◌≡◌, Bool, ℕ, ◌+◌, ◌^◌, ◌<◌, ◌≤◌, List, [], ◌∷◌, ◌++◌, length, codes, decimal, is_some, Option, Some, None, if◌then◌else◌}
use Rattle.qh_spec.specs.Lines.{lines, InTurn}
use Rattle.qh_spec.specs.Report.{newline, ok_line}
use Rattle.qh_spec.specs.Script.{max_script}
use Rattle.qh_spec.specs.TokenFilter.{TokenLimits}
use Rattle.qh_spec.specs.TokenLog.{Token, TokenLog, empty_log, accepts, checked}

-- what a line says
pub data TokenLine : Type 0 where
  Empty : TokenLine
  -- the limits of the log, once, before every token
  Log : (limits : TokenLimits) → TokenLine
  -- a token that is looked at
  Look : (token : Token) → TokenLine

pub data IsTokenLine (text : List ℕ) : TokenLine → Type 0 where
  empty : text ≡ [] → IsTokenLine text Empty
  log : (bytes k : ℕ) → text ≡ codes "tokenlog " ++ (decimal bytes ++ (codes " " ++ decimal k)) → bytes ≤ 2 ^ 30 → k < 2 ^ 32
      → IsTokenLine text (Log (record { max_bytes = bytes; k_num = k }))
  look : (nonce issued lifetime : ℕ) → text ≡ codes "token " ++ (decimal nonce ++ (codes " " ++ (decimal issued ++ (codes " " ++ decimal lifetime))))
      → nonce < 2 ^ 64 → issued < 2 ^ 63 → lifetime < 2 ^ 63
      → IsTokenLine text (Look (record { nonce = nonce; issued = issued; lifetime = lifetime }))

-- what the lines so far say
pub record TokenScript : Type 0 where
  pub limits : Option TokenLimits
  pub tokens : List Token

abbrev pub empty_tokens : TokenScript
empty_tokens = record { limits = None; tokens = [] }

-- what a line makes of it; nothing where the line isn't taken there
abbrev pub applied : TokenLine → TokenScript → Option TokenScript
applied Empty s = Some s
applied (Log limits) s = if is_some s.limits then None else Some (record s { limits = Some limits })
applied (Look t) s = if is_some s.limits then Some (record s { tokens = s.tokens ++ t ∷ [] }) else None

-- the text is a line that is taken, and makes t of s
pub record IsTaken (text : List ℕ) (s t : TokenScript) : Type 0 where
  pub line : TokenLine
  pub is : IsTokenLine text line
  pub makes : applied line s ≡ Some t

-- the lines are taken, one after another
abbrev pub AreTaken : List (List ℕ) → TokenScript → TokenScript → Type 0
AreTaken ls s t = InTurn IsTaken ls s t

-- the text has commands on a log with these limits
pub record IsTokenScript (text : List ℕ) (limits : TokenLimits) (tokens : List Token) : Type 0 where
  pub short : length text ≤ max_script
  pub taken : AreTaken (lines text) empty_tokens (record { limits = Some limits; tokens = tokens })

-- The line that is refused, counted from 1: the first that isn't taken; 0 for a text that is too long, and one past the
-- lines where no line gives the limits.
pub data IsTokenRefusedAt (text : List ℕ) : ℕ → Type 0 where
  too_long : max_script < length text → IsTokenRefusedAt text 0
  at_line : (front : List (List ℕ)) (line : List ℕ) (rest : List (List ℕ)) (s : TokenScript) → length text ≤ max_script → lines text ≡ front ++ line ∷ rest
      → AreTaken front empty_tokens s → ((t : TokenScript) → IsTaken line s t → ⊥) → IsTokenRefusedAt text (length front + 1)
  unlimited : length text ≤ max_script → AreTaken (lines text) empty_tokens empty_tokens → IsTokenRefusedAt text (length (lines text) + 1)

-- the line of a token, by whether it counts
abbrev pub token_line : Bool → List ℕ
token_line counts = (if counts then codes "ok" else codes "reused") ++ newline

-- a line for each token, as the log comes to it
abbrev pub token_lines : TokenLimits → TokenLog → List Token → List ℕ
token_lines limits l [] = []
token_lines limits l (t ∷ ts) = token_line (accepts limits l t) ++ token_lines limits (checked limits l t) ts

-- what is written: the lines of the tokens on an empty log, then `ok` and how many there are
abbrev pub token_report : TokenLimits → List Token → List ℕ
token_report limits tokens = token_lines limits empty_log tokens ++ ok_line (length tokens)
