-- Whole turns of an exchange, and links that give all in time (own).
use Rattle.std.specs.Prelude.{◌≡◌, ◌≤◌, ◌<◌, ◌+◌, ℕ, zero, suc, List, [], ◌∷◌, ◌++◌, length, map}
use Rattle.qh_spec.specs.declared.sides.Side.{Side}
use Rattle.qh_spec.specs.declared.sides.Side.TheVariants.{Client, Server}
use Rattle.qh_spec.specs.declared.link.Event.{Event}
use Rattle.qh_spec.specs.declared.link.Event.TheVariants.{Sent, Given, Dry, Round, Fault}
use Rattle.qh_spec.specs.Honest.{Neighbours}
use Rattle.qh_spec.specs.Link.{other, sent_by, given_to, moments_of}
use Rattle.qh_spec.specs.Lists.{In}

-- a side takes datagrams until there is none, or 65,536 (own)
pub data IsIntake (s : Side) (events : List Event) : Type 0 where
  until_dry : (ds : List (List ℕ)) → length ds < 65536 → events ≡ map (λ (d : List ℕ). Given s d) ds ++ Dry s ∷ [] → IsIntake s events
  full : (ds : List (List ℕ)) → length ds ≡ 65536 → events ≡ map (λ (d : List ℕ). Given s d) ds → IsIntake s events

-- a side sends at most 4,096 datagrams (own)
pub record IsOutput (s : Side) (events : List Event) : Type 0 where
  pub sent : List (List ℕ)
  pub few : length sent ≤ 4096
  pub is : events ≡ map (λ (d : List ℕ). Sent s d) sent

-- a round, what the client and the server take, and what the client and the server send (own)
pub record IsWholeTurn (events : List Event) : Type 0 where
  pub moment : ℕ
  pub to_client : List Event
  pub to_server : List Event
  pub by_client : List Event
  pub by_server : List Event
  pub is : events ≡ Round moment ∷ (to_client ++ (to_server ++ (by_client ++ by_server)))
  pub client_takes : IsIntake Client to_client
  pub server_takes : IsIntake Server to_server
  pub client_sends : IsOutput Client by_client
  pub server_sends : IsOutput Server by_server

-- so many whole turns, one after another, and nothing else (own)
abbrev pub AreWholeTurns : ℕ → List Event → Type 0
AreWholeTurns zero events = events ≡ []
AreWholeTurns (suc n) events = (turn rest : List Event) × (events ≡ turn ++ rest) × IsWholeTurn turn × AreWholeTurns n rest

-- the event before these, where they hold a round (own)
abbrev pub before_round : Event → List Event → List Event
before_round x [] = []
before_round x (y ∷ ys) = x ∷ y ∷ ys

-- the events up to the last round (own)
abbrev pub up_to_round : List Event → List Event
up_to_round [] = []
up_to_round (Round n ∷ es) = Round n ∷ up_to_round es
up_to_round (Sent t d ∷ es) = before_round (Sent t d) (up_to_round es)
up_to_round (Given t d ∷ es) = before_round (Given t d) (up_to_round es)
up_to_round (Dry t ∷ es) = before_round (Dry t) (up_to_round es)
up_to_round (Fault ∷ es) = before_round Fault (up_to_round es)

-- what was sent to a side before the round that is on (own)
abbrev pub due_to : Side → List Event → List (List ℕ)
due_to s before = sent_by (other s) (up_to_round before)

-- A side is given exactly what is due, in order and each once, before it finds none. The link never fails, and a
-- round begins 1 to 10 milliseconds after the one before (own).
pub record IsPrompt (events : List Event) : Type 0 where
  pub given : (before after : List Event) (s : Side) (d : List ℕ) → events ≡ before ++ Given s d ∷ after
      → (rest : List (List ℕ)) × (due_to s before ≡ given_to s before ++ d ∷ rest)
  pub dry : (before after : List Event) (s : Side) → events ≡ before ++ Dry s ∷ after → due_to s before ≡ given_to s before
  pub no_fault : In Fault events → ⊥
  pub steps : Neighbours (λ m n. (m + 1000000 ≤ n) × (n ≤ m + 10000000)) (moments_of events)
