-- What is done with a connection (own; RFC 9114, section 5).
use Rattle.std.specs.Prelude.{ℕ, List, [], ◌∷◌, ◌++◌, Option, Result, Ok, Err}
use Rattle.futures.specs.declared.task.Poll.{Poll}
use Rattle.futures.specs.declared.task.Poll.TheVariants.{Ready, Pending}

-- a close that was asked for: its code and its reason
pub record Closing : Type 0 where
  pub code : ℕ
  pub reason : List ℕ

abbrev pub closing : ℕ → List ℕ → List Closing → List Closing
closing code reason all = all ++ record { code = code; reason = reason } ∷ []

module _ {T E : Type 0} where
  -- the fact for the stream that a call gave, if it gave one
  abbrev pub IfStream : Poll (Result T E) → (T → Type 0) → Type 0
  IfStream (Ready (Ok stream)) P = P stream
  IfStream (Ready (Err e)) P = Unit {0}
  IfStream Pending P = Unit {0}
