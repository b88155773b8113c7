-- What contracts see of commands on a log of tokens.
use Rattle.std.specs.Prelude.{◌≡◌, ℕ, ◌+◌, true, is_some, List, map, Some}
use Rattle.qh_spec.specs.Lines.{lines}
use Rattle.qh_spec.specs.TokenFilter.{TokenLimits as PlainLimits}
use Rattle.qh_spec.specs.TokenLog.{Token}
use Rattle.qh_spec.specs.TokenScript as says
use Rattle.qh_spec.specs.TokenScript.{TokenLine as PlainLine, TokenScript, applied, IsTaken, AreTaken, IsTokenScript, IsTokenRefusedAt}
use Rattle.qh_script.specs.Script.{IsFirstRefused}
use Rattle.qh_script.specs.declared.script.ScriptError.{ScriptError}
use Rattle.qh_script.specs.declared.script.ScriptError.TheVariants.{Refused, Memory}
use Rattle.qh_script.specs.declared.script.untaken.Untaken.{Untaken}
use Rattle.qh_script.specs.declared.script.untaken.Untaken.TheVariants as untaken
use Rattle.qh_script.specs.declared.tokens.TokenCommand.{TokenCommand}
use Rattle.qh_script.specs.declared.tokens.TokenLimits.{TokenLimits}
use Rattle.qh_script.specs.declared.tokens.line.TokenLine.{TokenLine}
use Rattle.qh_script.specs.declared.tokens.line.TokenLine.TheVariants.{Empty, Log, Look}

abbrev pub limits_of : TokenLimits → PlainLimits
limits_of l = record { max_bytes = l.max_bytes; k_num = l.k_num }

abbrev pub token_of : TokenCommand → Token
token_of t = record { nonce = t.nonce; issued = t.issued.0; lifetime = t.lifetime.0 }

abbrev pub tokens_of : List TokenCommand → List Token
tokens_of ts = map token_of ts

abbrev pub line_of : TokenLine → PlainLine
line_of Empty = says.Empty
line_of (Log l) = says.Log (limits_of l)
line_of (Look t) = says.Look (token_of t)

-- the limits of the log are given
abbrev pub HasLimits : TokenScript → Type 0
HasLimits s = is_some s.limits ≡ true

-- the line is taken behind the limits
pub record IsTakenBehind (text : List ℕ) (s : TokenScript) : Type 0 where
  pub next : TokenScript
  pub taken : IsTaken text s next
  pub limited : HasLimits next

-- the same of each line of a text, one after another
pub record AreTakenBehind (text : List ℕ) (s : TokenScript) : Type 0 where
  pub end : TokenScript
  pub taken : AreTaken (lines text) s end
  pub limited : HasLimits end

-- the same of what a line says
pub record IsAppliedBehind (l : PlainLine) (s : TokenScript) : Type 0 where
  pub next : TokenScript
  pub makes : applied l s ≡ Some next
  pub limited : HasLimits next

-- what is known where a line isn't taken: that it is refused, or, where memory was wanting, that it isn't
abbrev pub WhenUntaken : Untaken → (refused wanting : Type 0) → Type 0
WhenUntaken untaken.Refused refused wanting = refused
WhenUntaken untaken.Memory refused wanting = wanting

-- what an error says of the lines of a text, where s is the state before the first
abbrev pub RefusesTokenLines : List ℕ → TokenScript → ScriptError → Type 0
RefusesTokenLines text s (Refused n) = IsFirstRefused IsTaken text s n
RefusesTokenLines text s Memory = AreTakenBehind text s

-- the same of an error that comes after so many lines: a refusal counts them
abbrev pub IsFaultBehind : List ℕ → TokenScript → (count : ℕ) → ScriptError → Type 0
IsFaultBehind text s count (Refused n) = (line : ℕ) × IsFirstRefused IsTaken text s line × (n ≡ count + line)
IsFaultBehind text s count Memory = AreTakenBehind text s

-- Which line of the text is refused. Memory is wanting only for a text that has commands, whole and without a fault.
abbrev pub RefusesTokens : List ℕ → ScriptError → Type 0
RefusesTokens text (Refused n) = IsTokenRefusedAt text n
RefusesTokens text Memory = (limits : PlainLimits) × (tokens : List Token) × IsTokenScript text limits tokens
