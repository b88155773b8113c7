-- Reading fields, as functions on lists.
use Rattle.std.specs.Prelude.{ℕ, zero, suc, nat_lt, List, [], ◌∷◌, length, Option, Some, None, if◌then◌else◌, take, drop}
use Rattle.qh_base.specs.Varint.{varint_at}
use Rattle.qh_spec.specs.QuicFrames.{Part, Number, Fixed, Counted, ShortCounted, Left, Ranges, Value, Num, Text, Nums}

infixl 10 ◌>>=◌
abbrev pub ◌>>=◌ : {A B : Type 0} → Option A → (A → Option B) → Option B
None >>= f = None
(Some x) >>= f = f x

-- a number and the bytes after it
unfoldable pub number_at : List ℕ → Option (ℕ × List ℕ)
number_at bytes = varint_at bytes >>= λ found. Some (found.0, drop found.1 bytes)

-- so many bytes and the bytes after them
unfoldable pub taken_at : ℕ → List ℕ → Option (List ℕ × List ℕ)
taken_at n bytes = if nat_lt (length bytes) n then None else Some (take n bytes, drop n bytes)

-- the bytes behind their length
unfoldable pub counted_at : List ℕ → Option (List ℕ × List ℕ)
counted_at bytes = number_at bytes >>= λ n. taken_at n.0 n.1

-- the bytes behind their length in one byte
unfoldable pub short_at : List ℕ → Option (List ℕ × List ℕ)
short_at [] = None
short_at (n ∷ bytes) = taken_at n bytes

-- so many pairs of a gap and a range
abbrev pub pairs_at : ℕ → List ℕ → Option (List ℕ × List ℕ)
pairs_at zero bytes = Some ([], bytes)
pairs_at (suc n) bytes = do
  gap ← number_at bytes
  range ← number_at gap.1
  more ← pairs_at n range.1
  Some (gap.0 ∷ (range.0 ∷ more.0), more.1)

-- the ranges of an ACK
unfoldable pub ranges_at : List ℕ → Option (List ℕ × List ℕ)
ranges_at bytes = do
  n ← number_at bytes
  first ← number_at n.1
  more ← pairs_at n.0 first.1
  Some (first.0 ∷ more.0, more.1)

abbrev pub text_of : Option (List ℕ × List ℕ) → Option (Value × List ℕ)
text_of found = found >>= λ t. Some (Text t.0, t.1)

-- a value of each kind of field
abbrev pub value_at : Part → List ℕ → Option (Value × List ℕ)
value_at Number bytes = number_at bytes >>= λ n. Some (Num n.0, n.1)
value_at (Fixed n) bytes = text_of (taken_at n bytes)
value_at Counted bytes = text_of (counted_at bytes)
value_at ShortCounted bytes = text_of (short_at bytes)
value_at Left bytes = Some (Text bytes, [])
value_at Ranges bytes = ranges_at bytes >>= λ ns. Some (Nums ns.0, ns.1)

-- several values
abbrev pub values_at : List Part → List ℕ → Option (List Value × List ℕ)
values_at [] bytes = Some ([], bytes)
values_at (part ∷ parts) bytes = do
  value ← value_at part bytes
  more ← values_at parts value.1
  Some (value.0 ∷ more.0, more.1)
