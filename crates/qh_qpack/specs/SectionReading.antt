-- What was read of a section so far.
use Rattle.std.specs.Prelude.{◌≡◌, ◌≤◌, ℕ, List, [], ◌∷◌, ◌++◌, Result, MatchResult}
use Rattle.std.specs.Borrow.{Bor}
use Rattle.qh_spec.specs.Fields.{Field}
use Rattle.qh_spec.specs.Section.{AreLines}
use Rattle.qh_qpack.specs.Lines.{line_field}
use Rattle.qh_qpack.specs.SectionFault.{bounded_size, IsSectionFault}
use Rattle.qh_qpack.specs.declared.decoder.DecoderError.{DecoderError}
use Rattle.qh_qpack.specs.declared.line.Line.{Line}

-- the lines in front of the rest are those of these fields, whose size is within the limit
pub record LinesRead (max_size : ℕ) (bytes rest : List ℕ) (fields : List Field) (size : ℕ) : Type 0 where
  pub front : List ℕ
  pub whole : bytes ≡ 0 ∷ 0 ∷ (front ++ rest)
  pub are : AreLines front fields
  pub sized : size ≡ bounded_size fields
  pub within : size ≤ max_size

-- one line more was read in front of the rest, or the section is at fault there
abbrev pub TakesLine : Result (Line × Bor (List ℕ) × ℕ) DecoderError → (max_size : ℕ) → (bytes : List ℕ) → List Field → Type 0
TakesLine result max_size bytes fields =
    MatchResult result (λ r. LinesRead max_size bytes r.1.now (fields ++ line_field r.0 ∷ []) r.2) (λ e. IsSectionFault max_size bytes e)
