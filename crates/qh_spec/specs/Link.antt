-- The events of a link: what each end sent and was given, and the rounds.
use Rattle.std.specs.Prelude.{ℕ, List, [], ◌∷◌, ◌++◌, Option, Some, None}
use Rattle.qh_spec.specs.declared.sides.Side.{Side}
use Rattle.qh_spec.specs.declared.sides.Side.TheVariants.{Client, Server}
use Rattle.qh_spec.specs.declared.link.Event.{Event}
use Rattle.qh_spec.specs.declared.link.Event.TheVariants.{Sent, Given, Dry, Round, Fault}

abbrev pub other : Side → Side
other Client = Server
other Server = Client

-- x where the two sides are one, and else y
abbrev pub if_same_side : {X : Type 0} → Side → Side → X → X → X
if_same_side Client Client x y = x
if_same_side Client Server x y = y
if_same_side Server Client x y = y
if_same_side Server Server x y = x

-- the datagrams that a side sent, in order
abbrev pub sent_by : Side → List Event → List (List ℕ)
sent_by s [] = []
sent_by s (Sent t d ∷ es) = if_same_side s t (d ∷ sent_by s es) (sent_by s es)
sent_by s (Given t d ∷ es) = sent_by s es
sent_by s (Dry t ∷ es) = sent_by s es
sent_by s (Round n ∷ es) = sent_by s es
sent_by s (Fault ∷ es) = sent_by s es

-- the datagrams that were given to a side, in order
abbrev pub given_to : Side → List Event → List (List ℕ)
given_to s [] = []
given_to s (Sent t d ∷ es) = given_to s es
given_to s (Given t d ∷ es) = if_same_side s t (d ∷ given_to s es) (given_to s es)
given_to s (Dry t ∷ es) = given_to s es
given_to s (Round n ∷ es) = given_to s es
given_to s (Fault ∷ es) = given_to s es

-- the moments of the rounds, in order
abbrev pub moments_of : List Event → List ℕ
moments_of [] = []
moments_of (Sent t d ∷ es) = moments_of es
moments_of (Given t d ∷ es) = moments_of es
moments_of (Dry t ∷ es) = moments_of es
moments_of (Round n ∷ es) = n ∷ moments_of es
moments_of (Fault ∷ es) = moments_of es

-- what a link tells with these events behind it; one that tells nothing goes on telling nothing
abbrev pub told : Option (List Event) → List Event → Option (List Event)
told None more = None
told (Some events) more = Some (events ++ more)
