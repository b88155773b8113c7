-- What a turn and its steps add to the events of a link, and why one fails.
use Rattle.std.specs.Prelude.{◌≡◌, ◌≢◌, ◌⊎◌, ◌<◌, ℕ, suc, Bool, true, false, List, [], ◌∷◌, ◌++◌, Option, Some, None, Result, Ok, Err, length}
use Rattle.qh_base.specs.declared.connection_error.ConnectionError.{ConnectionError}
use Rattle.qh_base.specs.declared.connection_error.ConnectionError.TheVariants as lost
use Rattle.qh_conn.specs.declared.config.ConnConfig.{ConnConfig}
use Rattle.qh_converse.specs.Settled.{idle_of, milliseconds}
use Rattle.qh_roles.specs.Client.{held}
use Rattle.qh_spec.specs.declared.link.Event.{Event}
use Rattle.qh_spec.specs.declared.link.Event.TheVariants.{Fault}
use Rattle.qh_spec.specs.Message.{PlainMessage}
use Rattle.qh_spec.specs.Record.{PlainEntry}
use Rattle.qh_spec.specs.Turns.{AreWholeTurns}
use Rattle.qh_pair.specs.Clock.{HasPassed, HasTimedOut}
use Rattle.qh_pair.specs.Full.{AreFullTurns, EndsInFullTurn}
use Rattle.qh_pair.specs.Ends.{End}
use Rattle.qh_pair.specs.Pair.{PairState, Running}
use Rattle.qh_pair.specs.declared.error.ExchangeError.{ExchangeError}
use Rattle.qh_pair.specs.declared.error.ExchangeError.TheVariants.{Invalid, Link, OutOfRounds}
use Rattle.qh_base.specs.declared.time.Span.{Span}

-- where the events were told they are told still, with more that are of this kind behind them
abbrev pub Adds : (List Event → Type 0) → Option (List Event) → Option (List Event) → Type 0
Adds Kind before after = (events : List Event) → before ≡ Some events → (more : List Event) × (after ≡ Some (events ++ more)) × Kind more

-- the last event of all is that a call on the link failed
pub record EndsInFault (more : List Event) : Type 0 where
  pub front : List Event
  pub are : more ≡ front ++ Fault ∷ []

-- where the events were told, some were added, the last of which is that a call on the link failed
abbrev pub AddsFault : Option (List Event) → Option (List Event) → Type 0
AddsFault before after = Adds EndsInFault before after

-- the call answered that the link failed
abbrev pub is_link : ExchangeError → Bool
is_link Link = true
is_link _ = false

abbrev pub has_link_failed : {T : Type 0} → Result T ExchangeError → Bool
has_link_failed (Ok x) = false
has_link_failed (Err e) = is_link e

-- the errors that a turn may answer
abbrev pub IsTurnError : ExchangeError → Type 0
IsTurnError (Invalid index) = ⊥
IsTurnError OutOfRounds = ⊥
IsTurnError _ = Unit {0}

-- ---- an end that is lost

-- the end is lost, with this error
abbrev pub IsLostWith : ConnectionError → Option End → Type 0
IsLostWith e None = ⊥
IsLostWith e (Some c) = c.core.error ≡ Some e

abbrev pub IsNotLost : Option End → Type 0
IsNotLost None = Unit {0}
IsNotLost (Some c) = c.core.error ≡ None

-- it is the error of the end that is lost, the client's where both are
abbrev pub IsKeptError : ConnectionError → PairState → Type 0
IsKeptError e p = IsLostWith e p.client_end ⊎ (IsNotLost p.client_end × IsLostWith e p.server_end)

-- a loss of a connection other than by its idle time or for want of memory
pub record IsProtocolLoss (e : ConnectionError) (p : PairState) : Type 0 where
  pub kept : IsKeptError e p
  pub not_idle : e ≢ lost.TimedOut
  pub not_memory : e ≢ lost.Memory

-- ---- how an exchange ends without its answers

-- a pair with these requests and settings stands where these turns leave it
pub record WasMade (id_length : ℕ) (config : ConnConfig) (requests : List PlainMessage) (told_before told_after : Option (List Event)) (served_before served_after : List PlainEntry) (p : PairState) : Type 0 where
  pub asked : p.client.requests ≡ requests
  pub config_is : p.config ≡ config
  pub ids : length p.ids.client ≡ id_length
  pub stands : (events more : List Event) (fresh : List PlainEntry) → told_before ≡ Some events → told_after ≡ Some (events ++ more)
      → served_after ≡ served_before ++ fresh → Running p more fresh

-- There were requests, and exactly so many rounds were made, each a whole turn where the events are told, and for each there is a pair
-- of which it was a full one. There is a pair that stands where all of them leave it, with fewer answers than requests, and the last
-- turn was a full one of it. That these are one pair, or the pair that ran, isn't said.
pub record RanOut (id_length : ℕ) (config : ConnConfig) (rounds : ℕ) (requests : List PlainMessage) (told_before told_after : Option (List Event)) (moments_before moments_after : List ℕ) (served_before served_after : List PlainEntry) : Type 0 where
  pub some : requests ≢ []
  pub turns : Adds (AreWholeTurns rounds) told_before told_after
  pub full : Adds (AreFullTurns requests rounds []) told_before told_after
  pub moments : List ℕ
  pub moments_are : moments_after ≡ moments_before ++ moments
  pub rounds_are : length moments ≡ rounds
  pub pair : PairState
  pub made : WasMade id_length config requests told_before told_after served_before served_after pair
  pub last : (n : ℕ) → rounds ≡ suc n → Adds (EndsInFullTurn pair) told_before told_after
  pub fewer : held pair.client.answers < length requests

-- there is a pair with these requests, standing where the events and the record leave it, that lost the connection of one of its ends
-- with this error; that it is the pair that ran isn't said
pub record WasLost (id_length : ℕ) (config : ConnConfig) (requests : List PlainMessage) (told_before told_after : Option (List Event)) (served_before served_after : List PlainEntry) (e : ConnectionError) : Type 0 where
  pub pair : PairState
  pub made : WasMade id_length config requests told_before told_after served_before served_after pair
  pub loss : IsProtocolLoss e pair

-- as long as the idle time passed in this call, from its first round to its last
pub record WasIdle (idle : Option Span) (moments_before moments_after : List ℕ) : Type 0 where
  pub moments : List ℕ
  pub are : moments_after ≡ moments_before ++ moments
  pub passed : HasPassed idle moments

-- as long as an idle time of its own passed, or as one that is in force by what some hello says
abbrev pub HasWaitedFor : (own : Option Span) → (moments_before moments_after : List ℕ) → Type 0
HasWaitedFor own before after = WasIdle own before after ⊎ ((said : ℕ) × WasIdle (idle_of (milliseconds own) said) before after)

-- an end of this pair waited in this call as long as its idle time, from the first round of the call to the last
pub record WasTimedOut (p : PairState) (moments_before moments_after : List ℕ) : Type 0 where
  pub moments : List ℕ
  pub are : moments_after ≡ moments_before ++ moments
  pub timed_out : HasTimedOut p moments
