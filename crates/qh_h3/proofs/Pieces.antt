-- Two pieces that are held.
use Rattle.std.proofs.Common.{◌≡◌, ℕ, Bool, true, false, List, [], ◌∷◌, ◌++◌, length, refl, sym, ap, ◌∙◌, arith}
use Rattle.std.specs.Prelude.{IsTrue}

never : false ≡ true → ⊥
never h = let z : false ≡ true = h in cc

pub front_some : (b : Bool) (front more : List ℕ) → b ≡ false → (IsTrue b → front ≡ []) × (front ≡ [] → IsTrue b) → (IsTrue b → front ++ more ≡ []) × (front ++ more ≡ [] → IsTrue b)
front_some b [] more f e = absurd (never (sym f ∙ e.1 refl))
front_some b (x ∷ xs) more f e = (λ t. absurd (never (sym f ∙ t)), λ h. let l = ap length h in absurd (omega arith))
