-- What is kept of a script to judge its lines and its settings.
use Rattle.std.specs.Prelude.{◌≡◌, ℕ, ◌+◌, ◌<◌, ◌≤◌, List, [], ◌∷◌, length, Option, Some, None}
use Rattle.qh_spec.specs.Config.{PlainConfig, FitVersions}
use Rattle.qh_spec.specs.Lines.{lines}
use Rattle.qh_spec.specs.Message.{PlainMessage}
use Rattle.qh_spec.specs.Script.{Script as PlainScript, field_count, IsTaken, AreTaken}
use Rattle.qh_script.specs.Config.{unversioned}
use Rattle.qh_script.specs.Script.{Makes}
use Rattle.qh_script.specs.declared.line.Line.{Line}

pub record PlainOutline : Type 0 where
  -- how many fields and trailers the last request has, where there is one
  pub field_count : Option ℕ
  -- the settings without versions
  pub config : PlainConfig

-- how many fields and trailers the last request has, where there is one
abbrev pub last_count : List PlainMessage → Option ℕ
last_count [] = None
last_count (m ∷ []) = Some (field_count m)
last_count (m ∷ n ∷ more) = last_count (n ∷ more)

-- This is kept of the script, whose versions fit.
pub record IsOutline (o : PlainOutline) (s : PlainScript) : Type 0 where
  pub count : o.field_count ≡ last_count s.requests
  pub config : o.config ≡ unversioned s.config
  pub versions : FitVersions s.config

-- the line makes a script of s, of which this is kept
pub record MakesOutline (line : Line) (s : PlainScript) (o : PlainOutline) : Type 0 where
  pub next : PlainScript
  pub makes : Makes line s next
  pub outline : IsOutline o next

-- the text is a line that does
pub record IsOutlined (text : List ℕ) (s : PlainScript) (o : PlainOutline) : Type 0 where
  pub next : PlainScript
  pub taken : IsTaken text s next
  pub outline : IsOutline o next

-- the same of each of the n lines of a text, one after another
pub record AreOutlined (text : List ℕ) (s : PlainScript) (o : PlainOutline) (n : ℕ) : Type 0 where
  pub end : PlainScript
  pub taken : AreTaken (lines text) s end
  pub outline : IsOutline o end
  pub count : n ≡ length (lines text)

-- the last request has one field or trailer more
pub record IsOneMore (old new : Option ℕ) : Type 0 where
  pub count : ℕ
  pub was : old ≡ Some count
  pub room : count < 2000
  pub now : new ≡ Some (count + 1)

-- it takes no more, or there is none
abbrev pub IsFull : Option ℕ → Type 0
IsFull None = Unit {0}
IsFull (Some count) = 2000 ≤ count
