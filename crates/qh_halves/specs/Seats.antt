-- How the queue of waiting streams is kept: each stream that has room has a place of its own, at which it stands if it waits.
use Rattle.std.specs.Prelude.{◌≡◌, ℕ, ℤ, ◌<◌, List, length, map, slice_index_or, Option, Some, None}
use Rattle.std.specs.Ordering.{nat_cmp}
use Rattle.std.specs.BTreeMap.{is_at}
use Rattle.std.specs.List.Sorted.{IsStrictlySortedBy}
use Rattle.std.specs.Map.{lookup, keys_of}
use Rattle.std.specs.Option.{option_map}
use Rattle.slab.specs.Slab.{Slab, get}
use Rattle.qh_halves.specs.declared.pending.PendingStream.{PendingStream}

abbrev pub priority_of : Option PendingStream → Option ℤ
priority_of o = option_map (λ (p : PendingStream). p.priority) o

-- the priority with which the stream at a place waits
abbrev pub priority_at : List (Option PendingStream) → (place : ℕ) → Option ℤ
priority_at leaves place = priority_of (slice_index_or leaves place None)

abbrev pub with_priorities : List (Option PendingStream) → List (ℕ × ℕ) → List (ℕ × Option ℤ)
with_priorities leaves seats = map (λ e. (e.0, priority_at leaves e.1)) seats

abbrev pub seat_in : List (ℕ × ℕ) → (id : ℕ) → Option ℕ
seat_in seats id = lookup (is_at (nat_cmp id)) seats

pub record AreSeated (seats : List (ℕ × ℕ)) (ids : Slab ℕ) (leaves : List (Option PendingStream)) : Type 0 where
  pub sorted : IsStrictlySortedBy nat_cmp (keys_of seats)
  -- the places that are taken are those of the streams that have room
  pub held : (k place : ℕ) → seat_in seats k ≡ Some place → get ids place ≡ Some k
  pub taken : (place k : ℕ) → get ids place ≡ Some k → seat_in seats k ≡ Some place
  pub within : (k place : ℕ) → seat_in seats k ≡ Some place → place < length leaves
  -- a stream that waits stands at its own place
  pub named : (place : ℕ) (p : PendingStream) → slice_index_or leaves place None ≡ Some p → get ids place ≡ Some p.id
