-- Streams that wait for something to be sent, the greater priority first, then the lesser id (quinn-proto,
-- `PendingStreamsQueue`).
use Rattle.std.specs.Prelude.{◌≡◌, ℕ, ℤ, ◌==◌, nat_lt, int_lt, Bool, true, false, ◌&&◌, ◌||◌, List, Option, Some, is_some, count_by}
use Rattle.std.specs.Ordering.{int_eq, nat_cmp}
use Rattle.std.specs.BTreeMap.{is_at}
use Rattle.std.specs.Map.{lookup, values_of}
use Rattle.std.specs.Option.{option_flatten}
use Rattle.qh_halves.specs.declared.pending.PendingStream.{PendingStream}

pub record PlainPending : Type 0 where
  -- each stream that has room, by its id, with the priority with which it waits
  pub streams : List (ℕ × Option ℤ)

abbrev pub goes_before : PendingStream → PendingStream → Bool
goes_before p q = int_lt q.priority p.priority || (int_eq p.priority q.priority && nat_lt p.id q.id)

abbrev pub stream_in : List (ℕ × Option ℤ) → (id : ℕ) → Option (Option ℤ)
stream_in streams id = lookup (is_at (nat_cmp id)) streams

-- the stream has room in the queue
abbrev pub has_room : PlainPending → (id : ℕ) → Bool
has_room p id = is_some (stream_in p.streams id)

-- the priority with which the stream waits; none if it doesn't
abbrev pub waits : PlainPending → (id : ℕ) → Option ℤ
waits p id = option_flatten (stream_in p.streams id)

-- how many streams wait
abbrev pub waiting : PlainPending → ℕ
waiting p = count_by (λ (o : Option ℤ). is_some o) (values_of p.streams)

-- it waits, and all others that wait come behind it
pub record IsFirst (p : PlainPending) (s : PendingStream) : Type 0 where
  pub is_there : waits p s.id ≡ Some s.priority
  pub before : (k : ℕ) (priority : ℤ) → waits p k ≡ Some priority → (k == s.id) ≡ false → goes_before s (record { priority = priority; id = k }) ≡ true
