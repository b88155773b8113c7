-- What a seat knows of a cell that is set once (own).
use Rattle.std.specs.Prelude.{◌≡◌, ◌⊎◌, Option, Some, None}
use Rattle.std.specs.declared.snapshot.Snapshot.{Snapshot}

module _ {T : Type 0} where
  -- what was known stays known
  abbrev pub Stays : Option T → Option T → Type 0
  Stays None new = Unit {0}
  Stays (Some x) new = new ≡ Some x

  -- A value was offered to the cell. Either the seat set nothing, or the cell was empty, it set this very value, and knows it.
  abbrev pub IsOffered : T → (old new own_old own_new : Option T) → Type 0
  IsOffered value old new own_old own_new = Stays old new × ((own_new ≡ own_old) ⊎ ((old ≡ None) × (new ≡ Some value) × (own_new ≡ Some value)))

  -- if both know it, they know the same
  abbrev pub AreOne : Option T → Option T → Type 0
  AreOne (Some x) (Some y) = x ≡ y
  AreOne (Some x) None = Unit {0}
  AreOne None y = Unit {0}

  -- the first of the two, if there is one, else the second
  abbrev pub first_of : Option T → Option T → Option T
  first_of None y = y
  first_of (Some x) y = Some x

  abbrev pub own_of : Option (Snapshot T) → Option T
  own_of None = None
  own_of (Some s) = Some s.value
