-- Whether an end is open, by what is told of it.
use Rattle.std.proofs.Common.{◌≡◌, Bool, true, false, refl, sym, ◌∙◌}
use Rattle.std.specs.Prelude.{not}

pub shut_of : (a b : Bool) → (b ≡ true → a ≡ true) → a ≡ false → b ≡ false
shut_of a false opens e = refl
shut_of a true opens e = let up = opens refl in let z : a ≡ true = up in cc

pub open_of : (b r : Bool) → r ≡ not b → r ≡ false → b ≡ true
open_of true r is e = refl
open_of false r is e = let z : true ≡ false = sym is ∙ e in cc

pub closed_of : (b r : Bool) → r ≡ not b → r ≡ true → b ≡ false
closed_of true r is e = let z : false ≡ true = sym is ∙ e in cc
closed_of false r is e = refl
