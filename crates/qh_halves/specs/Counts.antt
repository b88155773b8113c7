-- How many streams there were of each direction (RFC 9000, sections 2.1 and 4.6).
use Rattle.std.specs.Prelude.{ℕ, ◌+◌, ◌/◌, ◌%◌, ◌≤◌, ◌^◌, ◌==◌, nat_lt, nat_le, ◌*◌, min, max, Bool, ◌&&◌, ◌||◌, not}
use Rattle.qh_spec.specs.declared.sides.Side.{Side}
use Rattle.qh_spec.specs.declared.sides.Side.TheVariants.{Client, Server}
use Rattle.qh_spec.specs.StreamId.{side_bit}
use Rattle.qh_buffers.specs.declared.send_buffer.Mark.TheVariants.{Acked}
use Rattle.qh_halves.specs.declared.counts.StreamCounts.{StreamCounts}

-- the count that the peer may open: those that are closed and the limit, at most 2^60; it never falls
abbrev pub count_limit : StreamCounts → ℕ
count_limit c = max (min (2 ^ 60) (c.closed + c.max_concurrent)) c.announced.value

-- this side opens the stream of an id
abbrev pub is_own : Side → (id : ℕ) → Bool
is_own side id = side_bit side == id % 2

-- both sides send on it
abbrev pub is_bi : (id : ℕ) → Bool
is_bi id = id / 2 % 2 == 0

abbrev pub index_of : (id : ℕ) → ℕ
index_of id = id / 4

-- this side sends on it, or reads it
abbrev pub has_send : Side → (id : ℕ) → Bool
has_send side id = is_own side id || is_bi id

abbrev pub has_recv : Side → (id : ℕ) → Bool
has_recv side id = not (is_own side id) || is_bi id

-- what holds of the counts of a direction
pub record AreCounts (c : StreamCounts) : Type 0 where
  pub opened : c.opened ≤ c.max_opened
  pub max_opened : c.max_opened ≤ 2 ^ 60
  pub accepted : c.accepted ≤ c.arrived
  pub arrived : c.arrived ≤ c.announced.value
  pub announced : c.announced.value ≤ 2 ^ 60

-- no stream less was opened, nor did one less arrive
pub record AreNoFewer (old new : StreamCounts) : Type 0 where
  pub opened : old.opened ≤ new.opened
  pub arrived : old.arrived ≤ new.arrived

-- no streams yet, and a count that the peer knows
abbrev pub new_counts : (max_concurrent : ℕ) → StreamCounts
new_counts max_concurrent = record { opened = 0; max_opened = 0; arrived = 0; accepted = 0; closed = 0; max_concurrent = max_concurrent; announced = record { value = min max_concurrent (2 ^ 60); mark = Acked } }

abbrev pub other_side : Side → Side
other_side Client = Server
other_side Server = Client

-- the count of streams that the peer permits; it never falls
abbrev pub with_max_opened : (count : ℕ) → StreamCounts → StreamCounts
with_max_opened count c = record c { max_opened = max c.max_opened (min count (2 ^ 60)) }

-- each fourth id from the first on, `count` of them: streams of one side and direction
abbrev pub is_in_range : (first count : ℕ) → (k : ℕ) → Bool
is_in_range first count k = k % 4 == first % 4 && (nat_le first k && nat_lt k (first + 4 * count))
