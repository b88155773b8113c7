-- A call at a state, as whoever makes calls there is told of it.
use Rattle.std.proofs.Common.{Result, Ok, Err}
use Rattle.std.specs.Prelude.{IfOk, MatchResult}

module _ {X Y A : Type 0} where
  -- what is told is of the answer too, and some of it is of each answer
  pub told_too : (J K T : Type 0) (r : Result X Y) (P Q R : X → Type 0) → MatchResult r (λ x. P x × Q x) (λ _. J × K) → T → (A → IfOk r R) → MatchResult r (λ x. P x × Q x × T × (A → R x)) (λ _. J × K × T)
  told_too J K T (Ok x) P Q R h rest tells = (h.0, h.1, rest, tells)
  told_too J K T (Err e) P Q R h rest tells = (h.0, h.1, rest)
