-- What was read of field lines so far.
use Rattle.std.specs.Prelude.{ℕ, List, [], ◌∷◌, ◌++◌, take, Result, MatchResult}
use Rattle.qh_spec.specs.Fields.{Field}
use Rattle.qh_spec.specs.Meaning.{AreReadable}
use Rattle.qh_spec.specs.Refusal.{AreTaken, IsFieldFault, IsRefused}
use Rattle.qh_h3wire.specs.Header.{IsHeaderOf}
use Rattle.qh_h3wire.specs.HeaderFault.{IfFault}
use Rattle.qh_h3wire.specs.PlainHeader.{PlainHeader}
use Rattle.qh_h3wire.specs.declared.headers.HeaderError.{HeaderError}
use Rattle.qh_h3wire.specs.declared.headers.HeaderError.TheVariants.{Memory}

-- the fields are kept, and give this
pub record AreRead (fields : List Field) (h : PlainHeader) : Type 0 where
  pub taken : AreTaken [] fields
  pub is : IsHeaderOf fields h

-- the fault of a line behind these; want of memory tells nothing of it
abbrev pub RefusesLine : HeaderError → List Field → Field → Type 0
RefusesLine e front f = IfFault e (IsFieldFault front f)

-- the line is kept behind these, or not
abbrev pub TakesLine : {T : Type 0} → Result T HeaderError → List Field → Field → PlainHeader → Type 0
TakesLine result front f h = MatchResult result (λ _. AreRead (front ++ f ∷ []) h) (λ e. RefusesLine e front f)

-- all lines are kept, or one has this fault; want of memory tells nothing of them
abbrev pub TakesLines : {T : Type 0} → Result T HeaderError → List Field → PlainHeader → Type 0
TakesLines result fields h = MatchResult result (λ _. AreRead fields h) (λ e. IfFault e (IsRefused [] fields))

-- how many names a map may have
abbrev pub most_names : ℕ
most_names = 24576

-- The fault of the lines. Want of memory stands for no fault of the first lines, as many as a map may have names: each of them can
-- be read, and so is kept. A line behind them may be one too many for a map, so nothing is told of those.
abbrev pub RefusesLines : HeaderError → List Field → Type 0
RefusesLines Memory fields = AreReadable (take most_names fields)
RefusesLines e fields = IfFault e (IsRefused [] fields)
