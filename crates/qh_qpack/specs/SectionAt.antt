-- Reading a field section, as functions on lists.
use Rattle.std.specs.Prelude.{ℕ, ◌+◌, ◌-◌, ◌*◌, ◌%◌, ◌^◌, ◌==◌, nat_lt, List, [], ◌∷◌, length, Option, Some, None, Result, Ok, Err, if◌then◌else◌, take, drop, slice_get}
use Rattle.std.specs.Option.{ok_or}
use Rattle.qh_spec.specs.Fields.{Field}
use Rattle.qh_spec.specs.Section.{Form, Indexed, Named, NamedNever, Literal, LiteralNever}
use Rattle.qh_spec.specs.StaticTable.{static_table}
use Rattle.qh_qpack.specs.Chain.{◌>>=◌, ◌|>◌}
use Rattle.qh_qpack.specs.declared.decoder.DecoderError.{DecoderError}
use Rattle.qh_qpack.specs.declared.decoder.DecoderError.TheVariants.{Malformed, Huffman, Dynamic}

-- a number that is small enough
abbrev pub below_limit : ℕ → Option ℕ
below_limit n = if nat_lt n (2 ^ 63) then Some n else None

-- the number so far and seven more bits, which have this weight
abbrev pub septet_added : ℕ → ℕ → ℕ → Option ℕ
septet_added value weight byte = below_limit (value + byte % 128 * weight)

-- the weight of the next seven bits, which stands still at the limit: from there on only zeros are small enough
abbrev pub next_weight : ℕ → ℕ
next_weight weight = if nat_lt (2 ^ 56) weight then 2 ^ 63 else weight * 128

-- the number that goes on, and what follows it
abbrev pub continued_from : (value weight : ℕ) → List ℕ → Option (ℕ × List ℕ)
continued_from value weight [] = None
continued_from value weight (b ∷ bs) =
    septet_added value weight b >>= λ n. (if nat_lt b 128 then Some (n, bs) else continued_from n (next_weight weight) bs)

-- the integer in the low bits of a first byte from `lead` to below `lead + size`, or past them
abbrev pub prefixed_at : (lead size : ℕ) → List ℕ → Option (ℕ × List ℕ)
prefixed_at lead size [] = None
prefixed_at lead size (b ∷ bs) =
    if nat_lt (b - lead + 1) size then Some (b - lead, bs) else (continued_from 0 1 bs >>= λ r. (below_limit (size - 1 + r.0) >>= λ n. Some (n, r.1)))

-- so many bytes, and what follows them
abbrev pub counted : ℕ → List ℕ → Option (List ℕ × List ℕ)
counted n bytes = if nat_lt (length bytes) n then None else Some (take n bytes, drop n bytes)

-- a string whose bit H is 0
abbrev pub plain_at : List ℕ → Option (List ℕ × List ℕ)
plain_at bytes = prefixed_at 0 128 bytes >>= λ n. counted n.0 n.1

-- a string; its bit H comes before what else may be wrong with it
abbrev pub string_at : List ℕ → Result (List ℕ × List ℕ) DecoderError
string_at [] = Err Malformed
string_at (b ∷ bs) = if nat_lt b 128 then ok_or (plain_at (b ∷ bs)) Malformed else Err Huffman

-- the form that a first byte tells; the gaps are compressed names and references to a dynamic table
abbrev pub form_of : ℕ → Result Form DecoderError
form_of b =
    if nat_lt b 32 then Err Dynamic else if nat_lt b 40 then Ok Literal else if nat_lt b 48 then Err Huffman else if nat_lt b 56 then Ok LiteralNever
    else if nat_lt b 64 then Err Huffman else if nat_lt b 80 then Err Dynamic else if nat_lt b 96 then Ok Named else if nat_lt b 112 then Err Dynamic
    else if nat_lt b 128 then Ok NamedNever else if nat_lt b 192 then Err Dynamic else Ok Indexed

-- a row of the static table
abbrev pub indexed_at : ℕ → List ℕ → Result (Field × List ℕ) DecoderError
indexed_at n bytes = ok_or (slice_get static_table n) Malformed |> λ f. Ok (f, bytes)

abbrev pub indexed_line_at : List ℕ → Result (Field × List ℕ) DecoderError
indexed_line_at bytes = ok_or (prefixed_at 192 64 bytes) Malformed |> λ n. indexed_at n.0 n.1

-- a name of the static table, and a value
abbrev pub named_at : ℕ → List ℕ → Result (Field × List ℕ) DecoderError
named_at n bytes = ok_or (slice_get static_table n) Malformed |> λ row. (string_at bytes |> λ v. Ok (record { name = row.name; value = v.0 }, v.1))

abbrev pub named_line_at : (lead : ℕ) → List ℕ → Result (Field × List ℕ) DecoderError
named_line_at lead bytes = ok_or (prefixed_at lead 16 bytes) Malformed |> λ n. named_at n.0 n.1

-- a name of this length, and a value
abbrev pub literal_at : ℕ → List ℕ → Result (Field × List ℕ) DecoderError
literal_at n bytes = ok_or (counted n bytes) Malformed |> λ name. (string_at name.1 |> λ v. Ok (record { name = name.0; value = v.0 }, v.1))

abbrev pub literal_line_at : (lead : ℕ) → List ℕ → Result (Field × List ℕ) DecoderError
literal_line_at lead bytes = ok_or (prefixed_at lead 8 bytes) Malformed |> λ n. literal_at n.0 n.1

abbrev pub form_line_at : Form → List ℕ → Result (Field × List ℕ) DecoderError
form_line_at Indexed bytes = indexed_line_at bytes
form_line_at Named bytes = named_line_at 80 bytes
form_line_at NamedNever bytes = named_line_at 112 bytes
form_line_at Literal bytes = literal_line_at 32 bytes
form_line_at LiteralNever bytes = literal_line_at 48 bytes

-- the line that begins the bytes, and what follows it; or what is wrong with it
abbrev pub line_at : List ℕ → Result (Field × List ℕ) DecoderError
line_at [] = Err Malformed
line_at (b ∷ bs) = form_of b |> λ form. form_line_at form (b ∷ bs)

-- a required insert count or a base of 0, which other numbers don't begin with (RFC 9204, section 4.5.1)
abbrev pub zero_at : List ℕ → Result (List ℕ) DecoderError
zero_at [] = Err Malformed
zero_at (b ∷ bs) = if b == 0 then Ok bs else Err Dynamic

-- both, and the lines that follow them
abbrev pub prefix_at : List ℕ → Result (List ℕ) DecoderError
prefix_at bytes = zero_at bytes |> zero_at
