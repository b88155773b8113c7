-- What the calls of a link add to its events and moments.
use Rattle.std.specs.Prelude.{ℕ, Bool, true, false, List, [], ◌∷◌, take, Option, Some, None, Result, Ok, Err}
use Rattle.qh_base.specs.declared.time.Moment.{Moment}
use Rattle.qh_spec.specs.declared.sides.Side.{Side}
use Rattle.qh_spec.specs.declared.link.Event.{Event}
use Rattle.qh_spec.specs.declared.link.Event.TheVariants.{Sent, Given, Dry, Round, Fault}
use Rattle.qh_link.specs.declared.link.LinkFault.{LinkFault}
use Rattle.qh_link.specs.declared.link.LinkFault.TheVariants.{Failed, Memory}

abbrev pub fault_events : LinkFault → List Event
fault_events Failed = Fault ∷ []
fault_events Memory = []

abbrev pub send_events : Side → List ℕ → Result (Unit {0}) LinkFault → List Event
send_events from datagram (Ok done) = Sent from datagram ∷ []
send_events from datagram (Err e) = fault_events e

abbrev pub round_events : Result Moment LinkFault → List Event
round_events (Ok moment) = Round moment.0 ∷ []
round_events (Err e) = fault_events e

abbrev pub round_moments : Result Moment LinkFault → List ℕ
round_moments (Ok moment) = moment.0 ∷ []
round_moments (Err e) = []

abbrev pub take_events : Side → List ℕ → Result (Option ℕ) LinkFault → List Event
take_events to buf (Ok (Some n)) = Given to (take n buf) ∷ []
take_events to buf (Ok None) = Dry to ∷ []
take_events to buf (Err e) = fault_events e

-- how many bytes the call wrote
abbrev pub taken : Result (Option ℕ) LinkFault → ℕ
taken (Ok (Some n)) = n
taken (Ok None) = 0
taken (Err e) = 0

abbrev pub is_failed : LinkFault → Bool
is_failed Failed = true
is_failed Memory = false

-- the call answered that the link failed
abbrev pub has_failed : {T : Type 0} → Result T LinkFault → Bool
has_failed (Ok x) = false
has_failed (Err e) = is_failed e
