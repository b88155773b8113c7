-- What one read of a source gave.
use Rattle.std.specs.Prelude.{◌≡◌, ℕ, List, Option}
use Rattle.qh_spec.specs.Fault.{Rose}
use Rattle.qh_exchange.specs.declared.input.Piece.{Piece}
use Rattle.qh_exchange.specs.declared.input.Piece.TheVariants.{Bytes, End, Failed}
use Rattle.qh_exchange.specs.Reading.{IsPiece, IsAtEnd}

abbrev pub ReadsPiece : Piece → (before after : Option (List ℕ)) → (old new : List ℕ) → (faults_before faults_after : ℕ) → Type 0
ReadsPiece Bytes before after old new faults_before faults_after = IsPiece before after old new × (faults_after ≡ faults_before)
ReadsPiece End before after old new faults_before faults_after = (new ≡ old) × IsAtEnd before after × (faults_after ≡ faults_before)
ReadsPiece Failed before after old new faults_before faults_after = Rose faults_before faults_after
