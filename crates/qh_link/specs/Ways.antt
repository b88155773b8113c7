-- What is on its way to either end of a link in memory.
use Rattle.std.specs.Prelude.{ℕ, ◌+◌, ◌≤◌, ◌==◌, not, List, map, filter}
use Rattle.std.specs.VecDeque.{deque_len, deque_capacity}
use Rattle.qh_spec.specs.declared.sides.Side.{Side}
use Rattle.qh_spec.specs.declared.sides.Side.TheVariants.{Client, Server}
use Rattle.qh_link.specs.declared.ways.Postponed.{Postponed}
use Rattle.qh_link.specs.declared.ways.Way.{Way}
use Rattle.qh_link.specs.declared.ways.Ways.{Ways}

-- what is ready for a side
abbrev pub ready_to : Ways → Side → List (List ℕ)
ready_to ways Client = ways.to_client.ready.items
ready_to ways Server = ways.to_server.ready.items

-- what comes to a side in later rounds
abbrev pub later_to : Ways → Side → List Postponed
later_to ways Client = ways.to_client.later.items
later_to ways Server = ways.to_server.later.items

-- the datagrams that come in this round
abbrev pub arriving : ℕ → List Postponed → List (List ℕ)
arriving r later = map (λ (p : Postponed). p.datagram) (filter (λ (p : Postponed). p.round == r) later)

-- those that come in another
abbrev pub remaining : ℕ → List Postponed → List Postponed
remaining r later = filter (λ (p : Postponed). not (p.round == r)) later

-- there is room for all that is late and this many more
abbrev pub HasRoom : Way → ℕ → Type 0
HasRoom way more = deque_len way.later + more + deque_len way.ready ≤ deque_capacity way.ready
