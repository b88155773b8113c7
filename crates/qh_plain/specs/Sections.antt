-- Reading a line of a field section, as functions on lists.
use Rattle.std.specs.Prelude.{ℕ, ◌+◌, ◌-◌, ◌*◌, ◌%◌, ◌^◌, nat_lt, List, [], ◌∷◌, length, Option, Some, None, if◌then◌else◌, take, drop, slice_get}
use Rattle.qh_spec.specs.Fields.{Field}
use Rattle.qh_spec.specs.Section.{Form, Indexed, Named, NamedNever, Literal, LiteralNever, lead_of, bits_of}
use Rattle.qh_plain.specs.Chain.{◌>>=◌}
use Rattle.qh_spec.specs.StaticTable.{static_table}

-- a number that is small enough
abbrev pub below_limit : ℕ → Option ℕ
below_limit n = if nat_lt n (2 ^ 63) then Some n else None

-- the number so far and seven more bits, which have this weight
abbrev pub septet_added : ℕ → ℕ → ℕ → Option ℕ
septet_added value weight byte = below_limit (value + byte % 128 * weight)

-- the weight of the next seven bits, which stands still at the limit: from there on only zeros are small enough
abbrev pub next_weight : ℕ → ℕ
next_weight weight = if nat_lt (2 ^ 56) weight then 2 ^ 63 else weight * 128

-- the number that goes on, and what follows it
abbrev pub continued_from : (value weight : ℕ) → List ℕ → Option (ℕ × List ℕ)
continued_from value weight [] = None
continued_from value weight (b ∷ bs) =
    septet_added value weight b >>= λ n. (if nat_lt b 128 then Some (n, bs) else continued_from n (next_weight weight) bs)

-- the integer in the low bits of a first byte from `lead` to below `lead + size`, or past them
abbrev pub prefixed_at : (lead size : ℕ) → List ℕ → Option (ℕ × List ℕ)
prefixed_at lead size [] = None
prefixed_at lead size (b ∷ bs) =
    if nat_lt (b - lead + 1) size then Some (b - lead, bs) else (continued_from 0 1 bs >>= λ r. (below_limit (size - 1 + r.0) >>= λ n. Some (n, r.1)))

-- so many bytes, and what follows them
abbrev pub counted : ℕ → List ℕ → Option (List ℕ × List ℕ)
counted n bytes = if nat_lt (length bytes) n then None else Some (take n bytes, drop n bytes)

abbrev pub string_at : List ℕ → Option (List ℕ × List ℕ)
string_at [] = None
string_at (b ∷ bs) = if nat_lt b 128 then (prefixed_at 0 128 (b ∷ bs) >>= λ n. counted n.0 n.1) else None

-- the form that a first byte tells; the gaps are compressed strings and references to a dynamic table
abbrev pub form_of : ℕ → Option Form
form_of b =
    if nat_lt b 32 then None else if nat_lt b 40 then Some Literal else if nat_lt b 48 then None else if nat_lt b 56 then Some LiteralNever
    else if nat_lt b 80 then None else if nat_lt b 96 then Some Named else if nat_lt b 112 then None else if nat_lt b 128 then Some NamedNever
    else if nat_lt b 192 then None else Some Indexed

abbrev pub named_at : ℕ → List ℕ → Option (Field × List ℕ)
named_at n bytes = slice_get static_table n >>= λ row. (string_at bytes >>= λ v. Some (record { name = row.name; value = v.0 }, v.1))

abbrev pub literal_at : ℕ → List ℕ → Option (Field × List ℕ)
literal_at n bytes = counted n bytes >>= λ name. (string_at name.1 >>= λ v. Some (record { name = name.0; value = v.0 }, v.1))

abbrev pub follows_at : Form → ℕ → List ℕ → Option (Field × List ℕ)
follows_at Indexed n bytes = slice_get static_table n >>= λ f. Some (f, bytes)
follows_at Named n bytes = named_at n bytes
follows_at NamedNever n bytes = named_at n bytes
follows_at Literal n bytes = literal_at n bytes
follows_at LiteralNever n bytes = literal_at n bytes

-- the line that begins the bytes, and what follows it
abbrev pub line_at : List ℕ → Option (Field × List ℕ)
line_at [] = None
line_at (b ∷ bs) = form_of b >>= λ form. (prefixed_at (lead_of form) (2 ^ bits_of form) (b ∷ bs) >>= λ n. follows_at form n.0 n.1)
