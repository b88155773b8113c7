-- Answers that are true exactly where a fact holds.
use Rattle.std.proofs.Common.{◌≡◌, ◌↔◌, false, Option, Some, None, Result}
use Rattle.std.specs.Prelude.{Bool, IfOk, IfSome, IfNone, IsTrue}
use Rattle.std.proofs.lemmas.Option.{MatchOption-at_none, MatchOption-at_some}
use Rattle.std.proofs.lemmas.Result.{IfOk-weaker}
use Rattle.std.specs.Prelude.{⊤}

-- a fact that doesn't hold
pub denied : (P : Type 0) → (P → ⊥) → (IsTrue false → P) × (P → IsTrue false)
denied P n = (λ t. cc, λ p. absurd (n p))

-- the same answer for a fact that is as much
pub answers_both : {E : Type 0} (P Q : Type 0) (r : Result Bool E) → P ↔ Q → IfOk r (λ b. IsTrue b ↔ P) → IfOk r (λ b. IsTrue b ↔ Q)
answers_both P Q r both h =
    IfOk-weaker r (λ b. IsTrue b ↔ P) (λ b. IsTrue b ↔ Q) (λ b p. (λ t. both.0 (p.0 t), λ q. p.1 (both.1 q))) h

-- what a clause says where there is nothing, and where there is something
pub if_none : {X : Type 0} (o : Option X) (P : Type 0) → o ≡ None → IfNone o P → P
if_none o P e h = MatchOption-at_none P (λ _. ⊤) e h

pub if_some : {X : Type 0} (o : Option X) (P : X → Type 0) (x : X) → o ≡ Some x → IfSome o P → P x
if_some o P x e h = MatchOption-at_some ⊤ P x e h
