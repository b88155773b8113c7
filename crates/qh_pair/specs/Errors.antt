-- What the answers of a turn, or of an exchange, say.
use Rattle.std.specs.Prelude.{◌≡◌, ℕ, Result, Ok, Err}
use Rattle.qh_base.specs.declared.connection_error.ConnectionError.{ConnectionError}
use Rattle.qh_pair.specs.declared.error.ExchangeError.{ExchangeError}
use Rattle.qh_pair.specs.declared.error.ExchangeError.TheVariants.{Invalid, Link, TimedOut, OutOfRounds, Protocol, Memory}

-- the fact, where the answer is this one
abbrev pub IfInvalid : {T : Type 0} → Result T ExchangeError → (ℕ → Type 0) → Type 0
IfInvalid (Err (Invalid index)) P = P index
IfInvalid _ P = Unit {0}

abbrev pub IfLink : {T : Type 0} → Result T ExchangeError → Type 0 → Type 0
IfLink (Err Link) P = P
IfLink _ P = Unit {0}

abbrev pub IfTimedOut : {T : Type 0} → Result T ExchangeError → Type 0 → Type 0
IfTimedOut (Err TimedOut) P = P
IfTimedOut _ P = Unit {0}

abbrev pub IfOutOfRounds : {T : Type 0} → Result T ExchangeError → Type 0 → Type 0
IfOutOfRounds (Err OutOfRounds) P = P
IfOutOfRounds _ P = Unit {0}

abbrev pub IfProtocol : {T : Type 0} → Result T ExchangeError → (ConnectionError → Type 0) → Type 0
IfProtocol (Err (Protocol e)) P = P e
IfProtocol _ P = Unit {0}

abbrev pub IfMemory : {T : Type 0} → Result T ExchangeError → Type 0 → Type 0
IfMemory (Err Memory) P = P
IfMemory _ P = Unit {0}

-- an exchange ends by the error that ended its rounds; where they were made it has answers, or no memory for them
abbrev pub EndsAs : {T : Type 0} → (made : Result (Unit {0}) ExchangeError) → Result T ExchangeError → Type 0
EndsAs (Err e) (Err f) = f ≡ e
EndsAs (Err e) (Ok answers) = ⊥
EndsAs (Ok _) (Err f) = f ≡ Memory
EndsAs (Ok _) (Ok answers) = Unit {0}
