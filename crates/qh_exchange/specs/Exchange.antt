-- What the answers of an exchange say of its list of requests.
use Rattle.std.specs.Prelude.{Result, Err}
use Rattle.qh_pair.specs.declared.error.ExchangeError.{ExchangeError}
use Rattle.qh_pair.specs.declared.error.ExchangeError.TheVariants.{Invalid, Memory}

-- the list isn't valid; or there was no memory to tell, and the fact holds
abbrev pub IsInvalidAnswer : {T : Type 0} → Result T ExchangeError → Type 0 → Type 0
IsInvalidAnswer (Err (Invalid index)) P = Unit {0}
IsInvalidAnswer (Err Memory) P = P
IsInvalidAnswer _ P = ⊥

-- the errors of a list that may not be asked
abbrev pub IsListError : ExchangeError → Type 0
IsListError (Invalid index) = Unit {0}
IsListError Memory = Unit {0}
IsListError _ = ⊥
