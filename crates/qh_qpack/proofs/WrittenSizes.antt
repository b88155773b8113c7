-- How long what is written is.
use Rattle.std.proofs.Common.{◌≡◌, ℕ, zero, suc, ◌+◌, ◌-◌, ◌/◌, ◌^◌, ◌≤◌, nat_lt, List, [], ◌∷◌, ◌++◌, length, arith, inl, inr, Option, Some, None, length-append}
use Rattle.std.specs.Prelude.{position, flat_map}
use Rattle.std.proofs.lemmas.Bool.{cases_Bool}
use Rattle.std.proofs.lemmas.List.Sums.{sum_by-cons}
use Rattle.qh_spec.specs.Fields.{Field}
use Rattle.qh_spec.specs.PrefixInteger.{continued_within, prefixed}
use Rattle.qh_spec.specs.Section.{string_bytes, same_name, same_field, named_line, indexed_line, line_bytes, section_bytes}
use Rattle.qh_spec.specs.Size.{section_size}
use Rattle.qh_spec.specs.StaticTable.{static_table}

continued_short : (k n : ℕ) → length (continued_within k n) ≤ k + 1
continued_short zero n = omega arith
continued_short (suc k) n =
    elim (cases_Bool (nat_lt n 128)) [
      | inl t ↦ rw t (omega arith)
      | inr t ↦ let later = continued_short k (n / 128) in rw t (omega arith)
    ]

-- an integer has eleven bytes at most
prefixed_short : (lead bits n : ℕ) → length (prefixed lead bits n) ≤ 11
prefixed_short lead bits n =
    elim (cases_Bool (nat_lt (n + 1) (2 ^ bits))) [
      | inl t ↦ rw t (omega arith)
      | inr t ↦ let later = continued_short 9 (n + 1 - 2 ^ bits) in rw t (omega arith)
    ]

string_short : (text : List ℕ) → length (string_bytes text) ≤ length text + 11
string_short text = let start = prefixed_short 0 7 (length text) in omega (arith, length-append (prefixed 0 7 (length text)) text)

named_short : (o : Option ℕ) (f : Field) → length (named_line o f) ≤ length f.name + length f.value + 32
named_short (Some index) f =
    let start = prefixed_short 80 4 index in
    let value = string_short f.value in
    omega (arith, length-append (prefixed 80 4 index) (string_bytes f.value))
named_short None f =
    let start = prefixed_short 32 3 (length f.name) in
    let value = string_short f.value in
    omega (arith, length-append (prefixed 32 3 (length f.name)) (f.name ++ string_bytes f.value), length-append f.name (string_bytes f.value))

indexed_short : (o : Option ℕ) (f : Field) → length (indexed_line o f) ≤ length f.name + length f.value + 32
indexed_short (Some index) f = let start = prefixed_short 192 6 index in omega arith
indexed_short None f = named_short (position (same_name f) static_table) f

lines_short : (fs : List Field) → length (flat_map line_bytes fs) ≤ section_size fs
lines_short [] = omega arith
lines_short (f ∷ fs) =
    let first = indexed_short (position (same_field f) static_table) f in
    let later = lines_short fs in
    let parts : section_size (f ∷ fs) ≡ (length f.name + length f.value + 32) + section_size fs = sum_by-cons (λ (g : Field). length g.name + length g.value + 32) f fs in
    omega (arith, length-append (line_bytes f) (flat_map line_bytes fs))

pub section_short : (fs : List Field) → length (section_bytes fs) ≤ section_size fs + 2
section_short fs = let lines = lines_short fs in omega arith
