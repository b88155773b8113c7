-- What a link in memory gives and refuses, by its step and its schedule (own).
use Rattle.std.specs.Prelude.{◌≡◌, ℕ, zero, suc, ◌+◌, ◌-◌, ◌*◌, ◌%◌, ◌^◌, ◌<◌, ◌≤◌, ◌==◌, nat_lt, min, Bool, true, false, ◌&&◌, List, [], ◌∷◌, ◌++◌, length, map, filter, fold, Option, Some, None, slice_get, if◌then◌else◌}
use Rattle.std.specs.List.{list_any}
use Rattle.qh_spec.specs.declared.sides.Side.{Side}
use Rattle.qh_spec.specs.declared.link.Event.{Event}
use Rattle.qh_spec.specs.declared.link.Event.TheVariants.{Sent, Given, Dry, Round, Fault}
use Rattle.qh_spec.specs.declared.link.Select.{Select}
use Rattle.qh_spec.specs.declared.link.Select.TheVariants.{One, All, Each}
use Rattle.qh_spec.specs.declared.link.Upset.{Upset}
use Rattle.qh_spec.specs.declared.link.Upset.TheVariants.{Lose, Twice, Late, Fail, Forge}
use Rattle.qh_spec.specs.Link.{other, if_same_side, given_to, moments_of}
use Rattle.qh_spec.specs.Lists.{In}

-- how a link in memory is set up
pub record Plan : Type 0 where
  -- milliseconds from round to round
  pub step : ℕ
  pub schedule : List Upset

-- the send with this number is meant
abbrev pub selects : Select → ℕ → Bool
selects (One k) n = n == k
selects All n = true
selects (Each m) n = n % m == 0

abbrev pub loses : ℕ → Upset → Bool
loses n (Lose which) = selects which n
loses n (Twice which) = false
loses n (Late which rounds) = false
loses n (Fail k) = false
loses n (Forge round side bytes) = false

abbrev pub doubles : ℕ → Upset → Bool
doubles n (Lose which) = false
doubles n (Twice which) = selects which n
doubles n (Late which rounds) = false
doubles n (Fail k) = false
doubles n (Forge round side bytes) = false

abbrev pub fails : ℕ → Upset → Bool
fails n (Lose which) = false
fails n (Twice which) = false
fails n (Late which rounds) = false
fails n (Fail k) = n == k
fails n (Forge round side bytes) = false

-- the delay that this entry gives to the n-th send, and else the one before
abbrev pub delay_by : ℕ → ℕ → Upset → ℕ
delay_by n before (Lose which) = before
delay_by n before (Twice which) = before
delay_by n before (Late which rounds) = if selects which n then rounds else before
delay_by n before (Fail k) = before
delay_by n before (Forge round side bytes) = before

-- the bytes that this entry gives to a side in a round
abbrev pub forges : ℕ → Side → Upset → List (List ℕ)
forges r s (Lose which) = []
forges r s (Twice which) = []
forges r s (Late which rounds) = []
forges r s (Fail k) = []
forges r s (Forge round side bytes) = if round == r then if_same_side s side (bytes ∷ []) [] else []

-- what the schedule as a whole says of the n-th send: whether it fails, in how many copies it comes, and how many
-- rounds later than the next one
abbrev pub is_failing : List Upset → ℕ → Bool
is_failing schedule n = list_any (fails n) schedule

abbrev pub copies_of : List Upset → ℕ → ℕ
copies_of schedule n = if list_any (loses n) schedule then 0 else if list_any (doubles n) schedule then 2 else 1

abbrev pub delay_of : List Upset → ℕ → ℕ
delay_of schedule n = fold (delay_by n) 0 schedule

-- the bytes that a side is given in a round although nobody sent them, in the schedule's order
abbrev pub forged : List Upset → ℕ → Side → List (List ℕ)
forged [] r s = []
forged (u ∷ us) r s = forges r s u ++ forged us r s

-- a datagram on its way: the round in which it comes, and to whom
pub record Flight : Type 0 where
  pub round : ℕ
  pub to : Side
  pub datagram : List ℕ

abbrev pub repeated : {X : Type 0} → ℕ → X → List X
repeated zero x = []
repeated (suc n) x = x ∷ repeated n x

-- The n-th send, in round r, puts its copies on their way: to the other side, for the next round or a later one. A
-- datagram above 2,048 bytes doesn't come.
abbrev pub flights_of_send : List Upset → (r n : ℕ) → Side → List ℕ → List Flight
flights_of_send schedule r n s d =
    if nat_lt 2048 (length d) then [] else repeated (copies_of schedule n) (record { round = r + 1 + delay_of schedule n; to = other s; datagram = d })

-- All that was put on its way by events that begin in round r, after n sends, in the order of sending. A send that
-- fails counts as one.
abbrev pub flights_from : List Upset → (r n : ℕ) → List Event → List Flight
flights_from schedule r n [] = []
flights_from schedule r n (Sent s d ∷ es) = flights_of_send schedule r (n + 1) s d ++ flights_from schedule r (n + 1) es
flights_from schedule r n (Given s d ∷ es) = flights_from schedule r n es
flights_from schedule r n (Dry s ∷ es) = flights_from schedule r n es
flights_from schedule r n (Round moment ∷ es) = flights_from schedule (r + 1) n es
flights_from schedule r n (Fault ∷ es) = flights_from schedule r (n + 1) es

abbrev pub flights : List Upset → List Event → List Flight
flights schedule events = flights_from schedule 0 0 events

abbrev pub is_due : ℕ → Side → Flight → Bool
is_due r s f = (f.round == r) && if_same_side s f.to true false

-- what a side is to be given in round r: what comes then, in the order of sending, and then what is forged
abbrev pub due_in : List Upset → List Event → ℕ → Side → List (List ℕ)
due_in schedule events r s = map (λ (f : Flight). f.datagram) (filter (is_due r s) (flights schedule events)) ++ forged schedule r s

-- what a side is to be given up to round r
abbrev pub due_through : List Upset → List Event → ℕ → Side → List (List ℕ)
due_through schedule events zero s = []
due_through schedule events (suc r) s = due_through schedule events r s ++ due_in schedule events (suc r) s

-- how many rounds began
abbrev pub round_count : List Event → ℕ
round_count events = length (moments_of events)

-- how many sends were made, those that failed among them
abbrev pub send_count : List Event → ℕ
send_count [] = 0
send_count (Sent s d ∷ es) = send_count es + 1
send_count (Given s d ∷ es) = send_count es
send_count (Dry s ∷ es) = send_count es
send_count (Round moment ∷ es) = send_count es
send_count (Fault ∷ es) = send_count es + 1

-- the next datagram for a side, where one is ready: what is due up to the round that is on, without what was given
abbrev pub next_for : List Upset → List Event → Side → Option (List ℕ)
next_for schedule events s = slice_get (due_through schedule events (round_count events) s) (length (given_to s events))

-- the moment of round r, with a step in milliseconds
abbrev pub moment_of : (step r : ℕ) → ℕ
moment_of step r = min (2 ^ 62 - 1) (r * (step * 1000000))

-- the event is what a link with this step and schedule lets happen after these events
abbrev pub Happens : (step : ℕ) → List Upset → List Event → Event → Type 0
Happens step schedule before (Sent s d) = is_failing schedule (send_count before + 1) ≡ false
Happens step schedule before (Given s d) = next_for schedule before s ≡ Some d
Happens step schedule before (Dry s) = next_for schedule before s ≡ None
Happens step schedule before (Round moment) = moment ≡ moment_of step (round_count before + 1)
Happens step schedule before Fault = is_failing schedule (send_count before + 1) ≡ true

-- each event is what the link lets happen after those before it
abbrev pub IsScheduled : (step : ℕ) → List Upset → List Event → Type 0
IsScheduled step schedule events =
    (before after : List Event) (e : Event) → events ≡ before ++ e ∷ after → Happens step schedule before e

-- what an entry of a schedule may hold
abbrev pub IsSelect : Select → Type 0
IsSelect (One k) = (1 ≤ k) × (k < 2 ^ 63)
IsSelect All = Unit {0}
IsSelect (Each m) = (1 ≤ m) × (m < 2 ^ 63)

abbrev pub IsUpset : Upset → Type 0
IsUpset (Lose which) = IsSelect which
IsUpset (Twice which) = IsSelect which
IsUpset (Late which rounds) = IsSelect which × (1 ≤ rounds) × (rounds ≤ 1000)
IsUpset (Fail k) = (1 ≤ k) × (k < 2 ^ 63)
IsUpset (Forge round side bytes) = (1 ≤ round) × (round < 2 ^ 63) × (1 ≤ length bytes) × (length bytes ≤ 2048)

-- no entry gives an end bytes that nobody sent
abbrev pub IsUnforged : List Upset → Type 0
IsUnforged schedule = (round : ℕ) (side : Side) (bytes : List ℕ) → In (Forge round side bytes) schedule → ⊥
