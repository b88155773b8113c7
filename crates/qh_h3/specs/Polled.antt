-- Answers of calls that may have to wait.
use Rattle.std.specs.Prelude.{Option, Some, None, Result, Ok, Err}
use Rattle.futures.specs.declared.task.Poll.{Poll}
use Rattle.futures.specs.declared.task.Poll.TheVariants.{Ready, Pending}

module _ {A E : Type 0} where
  -- the fact for each answer
  abbrev pub MatchPoll : Poll (Result (Option A) E) → (A → Type 0) → Type 0 → (E → Type 0) → Type 0 → Type 0
  MatchPoll (Ready (Ok (Some x))) some none err pending = some x
  MatchPoll (Ready (Ok None)) some none err pending = none
  MatchPoll (Ready (Err e)) some none err pending = err e
  MatchPoll Pending some none err pending = pending

  abbrev pub IfPiece : Poll (Result (Option A) E) → (A → Type 0) → Type 0
  IfPiece r P = MatchPoll r P (Unit {0}) (λ _. Unit {0}) (Unit {0})

  abbrev pub IfEnd : Poll (Result (Option A) E) → Type 0 → Type 0
  IfEnd r P = MatchPoll r (λ _. Unit {0}) P (λ _. Unit {0}) (Unit {0})
