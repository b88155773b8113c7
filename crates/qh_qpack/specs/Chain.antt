-- Steps that may fail, one after another.
use Rattle.std.specs.Prelude.{Option, Some, None, Result, Ok, Err}

infixl 10 ◌>>=◌
abbrev pub ◌>>=◌ : {A B : Type 0} → Option A → (A → Option B) → Option B
None >>= f = None
(Some x) >>= f = f x

-- the same of steps that tell what is wrong
infixl 10 ◌|>◌
abbrev pub ◌|>◌ : {A B E : Type 0} → Result A E → (A → Result B E) → Result B E
(Err e) |> f = Err e
(Ok x) |> f = f x
