-- Words that are written out.
use Rattle.std.proofs.Common.{◌≡◌, ℕ, true, false, List, bytes_eq, sym, ◌∙◌}
use Rattle.std.proofs.lemmas.Slice.Eq.{bytes_eq-Decides}

-- two words differ where the test says so
pub differ : (word other : List ℕ) → bytes_eq word other ≡ false → word ≡ other → ⊥
differ word other f e = let t : false ≡ true = sym f ∙ (bytes_eq-Decides word other).1 e in cc
