-- What is held in front, as bytes.
use Rattle.std.specs.Prelude.{ℕ, List}
use Rattle.qh_h3.specs.declared.frame.front.Kept.{Kept}
use Rattle.qh_h3.specs.declared.frame.front.Kept.TheVariants.{Piece, Run}

abbrev pub bytes_of : Kept → List ℕ
bytes_of (Piece b) = b
bytes_of (Run r) = r.items
