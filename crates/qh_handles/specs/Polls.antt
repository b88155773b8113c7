-- What a poll answers, by cases.
use Rattle.std.specs.Prelude.{Result, Ok, Err}
use Rattle.futures.specs.declared.task.Poll.{Poll}
use Rattle.futures.specs.declared.task.Poll.TheVariants.{Ready, Pending}

abbrev pub MatchPoll : {A : Type 0} → Poll A → (A → Type 0) → Type 0 → Type 0
MatchPoll (Ready x) P Q = P x
MatchPoll Pending P Q = Q

-- it is ready with a value, it is ready with an error, or it waits
abbrev pub MatchAnswer : {A E : Type 0} → Poll (Result A E) → (A → Type 0) → (E → Type 0) → Type 0 → Type 0
MatchAnswer (Ready (Ok x)) P Q R = P x
MatchAnswer (Ready (Err e)) P Q R = Q e
MatchAnswer Pending P Q R = R
