-- What the refusal of a script says, and of a line of it.
use Rattle.std.specs.Prelude.{◌≡◌, ℕ, ◌+◌, List, ◌∷◌, ◌++◌, length, Some, None}
use Rattle.qh_spec.specs.Lines.{lines, InTurn}
use Rattle.qh_spec.specs.Script.{Script as PlainScript, applied, IsScript, IsRefusedAt}
use Rattle.qh_spec.specs.ScriptLine.{Line as PlainLine}
use Rattle.qh_script.specs.Line.{Means}
use Rattle.qh_script.specs.declared.line.Line.{Line}
use Rattle.qh_script.specs.declared.script.ScriptError.{ScriptError}
use Rattle.qh_script.specs.declared.script.ScriptError.TheVariants.{Refused, Memory}
use Rattle.qh_script.specs.declared.script.untaken.Untaken.{Untaken}
use Rattle.qh_script.specs.declared.script.untaken.Untaken.TheVariants as untaken

-- Which line of the text is refused. Memory is wanting only for a text that is a script, whole and without a fault.
abbrev pub RefusesScript : List ℕ → ScriptError → Type 0
RefusesScript text (Refused n) = IsRefusedAt text n
RefusesScript text Memory = (s : PlainScript) × IsScript text s

-- which line of the text is refused, or nothing where memory was wanting
abbrev pub RefusesKnown : List ℕ → ScriptError → Type 0
RefusesKnown text (Refused n) = IsRefusedAt text n
RefusesKnown text Memory = Unit {0}

-- what the line stands for makes one script of another, or isn't taken there
abbrev pub Makes : Line → PlainScript → PlainScript → Type 0
Makes line s t = (l : PlainLine) × Means line l × (applied l s ≡ Some t)

abbrev pub MakesNone : Line → PlainScript → Type 0
MakesNone line s = (l : PlainLine) × Means line l × (applied l s ≡ None)

-- what is known where a line isn't taken: nothing where memory was wanting
abbrev pub WhenRefused : Untaken → Type 0 → Type 0
WhenRefused untaken.Refused P = P
WhenRefused untaken.Memory P = Unit {0}

-- The n-th line of the text, counted from 1, is the first that isn't taken, where a line makes one state of another and s is
-- the state before the first.
pub record IsFirstRefused {S : Type 0} (makes : List ℕ → S → S → Type 0) (text : List ℕ) (s : S) (n : ℕ) : Type 0 where
  pub front : List (List ℕ)
  pub line : List ℕ
  pub rest : List (List ℕ)
  pub mid : S
  pub is : lines text ≡ front ++ line ∷ rest
  pub taken : InTurn makes front s mid
  pub refused : (t : S) → makes line mid t → ⊥
  pub count : n ≡ length front + 1

-- the same of an error, or nothing
abbrev pub RefusesLines : {S : Type 0} → (List ℕ → S → S → Type 0) → List ℕ → S → ScriptError → Type 0
RefusesLines makes text s (Refused n) = IsFirstRefused makes text s n
RefusesLines makes text s Memory = Unit {0}

-- the same of an error that can't be want of memory
abbrev pub RefusesLine : {S : Type 0} → (List ℕ → S → S → Type 0) → List ℕ → S → ScriptError → Type 0
RefusesLine makes text s (Refused n) = IsFirstRefused makes text s n
RefusesLine makes text s Memory = ⊥
