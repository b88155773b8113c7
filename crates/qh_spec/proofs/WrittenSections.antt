-- The sections that are written are sections.
use Rattle.std.proofs.Common.{◌≡◌, ℕ, ◌+◌, ◌-◌, ◌*◌, ◌/◌, ◌%◌, ◌^◌, ◌<◌, ◌≤◌, nat_lt, zero, suc, Bool, true, false, List, [], ◌∷◌, ◌++◌, length, get_or, Option, Some, None, inl, inr, refl, sym, ap, ◌∙◌, arith, append-nil}
use Rattle.std.specs.Prelude.{◌&&◌, bytes_eq, position, flat_map}
use Rattle.std.specs.List.{AllByRecursion}
use Rattle.std.proofs.lemmas.Bool.{cases_lt, lt-ltb, le-ltb}
use Rattle.std.proofs.lemmas.List.Quantifiers.{position-Some}
use Rattle.std.proofs.lemmas.List.Sums.{sum_by-cons}
use Rattle.std.proofs.lemmas.Option.{slice_get-get_or}
use Rattle.std.proofs.lemmas.Slice.Eq.{bytes_eq-Decides}
use Rattle.qh_spec.specs.Fields.{Field}
use Rattle.qh_spec.specs.PrefixInteger.{IsContinued, IsPrefixed, short, long, continued_within, prefixed}
use Rattle.qh_spec.specs.Section.{Indexed, Named, Literal, IsString, IsLine, AreLines, IsSection, string_bytes, same_name, same_field, named_line, indexed_line, line_bytes, section_bytes}
use Rattle.qh_spec.specs.Size.{section_size}
use Rattle.qh_spec.specs.StaticTable.{static_table}
use Rattle.qh_spec.proofs.SectionLaws.{field_is}
use Rattle.qh_spec.proofs.SectionRows.{table_size}

-- one more byte in front
continued_more : (b n high : ℕ) (rest : List ℕ) → 128 ≤ b → b < 256 → n + 128 ≡ b + 128 * high → IsContinued rest high → IsContinued (b ∷ rest) n
continued_more b n high [] low up sum h = absurd h
continued_more b n high (c ∷ rest) low up sum h = (low, up, high, sum, h)

continued_is : (k n : ℕ) → n < 128 ^ (suc k) → IsContinued (continued_within k n) n
continued_is zero n bound = (omega arith, refl)
continued_is (suc k) n bound =
    elim (cases_lt n 128) [
      | inl low ↦ let t : nat_lt n 128 ≡ true = lt-ltb n 128 low in rw t (low, refl)
      | inr high ↦
          let t : nat_lt n 128 ≡ false = le-ltb n 128 high in
          rw t (continued_more (128 + n % 128) n (n / 128) (continued_within k (n / 128)) (omega arith) (omega arith) (omega arith) (continued_is k (n / 128) (omega (arith, bound))))
    ]

-- the shortest form of an integer is a form
pub prefixed_is : (lead bits n : ℕ) → n < 2 ^ 63 → IsPrefixed lead bits (prefixed lead bits n) n
prefixed_is lead bits n bound =
    elim (cases_lt (n + 1) (2 ^ bits)) [
      | inl low ↦ let t : nat_lt (n + 1) (2 ^ bits) ≡ true = lt-ltb (n + 1) (2 ^ bits) low in rw t (short low refl)
      | inr high ↦
          let t : nat_lt (n + 1) (2 ^ bits) ≡ false = le-ltb (n + 1) (2 ^ bits) high in
          let over : ℕ = n + 1 - 2 ^ bits in
          rw t (long (continued_within 9 over) over refl (continued_is 9 over (omega (arith, bound))) (omega (arith, high)) bound)
    ]

string_is : (text : List ℕ) → length text < 2 ^ 63 → IsString (string_bytes text) text
string_is text bound = record { start = prefixed 0 7 (length text); whole = refl; count = prefixed_is 0 7 (length text) bound }

both_true : (a b : Bool) → (a && b) ≡ true → (a ≡ true) × (b ≡ true)
both_true true b e = (refl, e)
both_true false b e = cc

abbrev found_row : ℕ → Field
found_row i = get_or static_table i (record { name = []; value = [] })

named_is : (f : Field) → length f.name < 2 ^ 63 → length f.value < 2 ^ 63 → (o : Option ℕ) → position (same_name f) static_table ≡ o → IsLine (named_line o f) f
named_is f name value None e = record {
  form = Literal;
  start = prefixed 32 3 (length f.name);
  number = length f.name;
  rest = f.name ++ string_bytes f.value;
  whole = refl;
  integer = prefixed_is 32 3 (length f.name) name;
  follows = record { value_bytes = string_bytes f.value; whole = refl; name = refl; value = string_is f.value value };
}
named_is f name value (Some i) e =
    let at = position-Some (same_name f) static_table i (record { name = []; value = [] }) e in
    let inside = at.0 in
    let same : (found_row i).name ≡ f.name = (bytes_eq-Decides (found_row i).name f.name).0 at.1 in
    record {
      form = Named;
      start = prefixed 80 4 i;
      number = i;
      rest = string_bytes f.value;
      whole = refl;
      integer = prefixed_is 80 4 i (omega (arith, inside, table_size));
      follows = record {
        row = found_row i;
        found = slice_get-get_or static_table i (record { name = []; value = [] }) inside;
        name = sym same;
        value = string_is f.value value;
      };
    }

indexed_is : (f : Field) → length f.name < 2 ^ 63 → length f.value < 2 ^ 63 → (o : Option ℕ) → position (same_field f) static_table ≡ o → IsLine (indexed_line o f) f
indexed_is f name value None e = named_is f name value (position (same_name f) static_table) refl
indexed_is f name value (Some i) e =
    let at = position-Some (same_field f) static_table i (record { name = []; value = [] }) e in
    let inside = at.0 in
    let both = both_true (bytes_eq (found_row i).name f.name) (bytes_eq (found_row i).value f.value) at.1 in
    let row : found_row i ≡ f = field_is (found_row i) f ((bytes_eq-Decides (found_row i).name f.name).0 both.0) ((bytes_eq-Decides (found_row i).value f.value).0 both.1) in
    record {
      form = Indexed;
      start = prefixed 192 6 i;
      number = i;
      rest = [];
      whole = sym (append-nil (prefixed 192 6 i));
      integer = prefixed_is 192 6 i (omega (arith, inside, table_size));
      follows = (refl, slice_get-get_or static_table i (record { name = []; value = [] }) inside ∙ ap (λ (z : Field). Some z) row);
    }

-- a name and a value that have a spelling
abbrev pub IsShortField : Field → Type 0
IsShortField f = (length f.name < 2 ^ 63) × (length f.value < 2 ^ 63)

written_lines : (fs : List Field) → AllByRecursion IsShortField fs → AreLines (flat_map line_bytes fs) fs
written_lines [] all = refl
written_lines (f ∷ fs) all =
    let first = all.0 in
    (line_bytes f, flat_map line_bytes fs, refl, indexed_is f first.0 first.1 (position (same_field f) static_table) refl, written_lines fs all.1)

-- the section that is written
pub section_written : (fs : List Field) → AllByRecursion IsShortField fs → IsSection (section_bytes fs) fs
section_written fs all = (flat_map line_bytes fs, refl, written_lines fs all)

short_fields : (fs : List Field) → section_size fs < 2 ^ 62 → AllByRecursion IsShortField fs
short_fields [] h = tt
short_fields (f ∷ fs) h =
    let parts : section_size (f ∷ fs) ≡ (length f.name + length f.value + 32) + section_size fs = sum_by-cons (λ (g : Field). length g.name + length g.value + 32) f fs in
    ((omega (arith, parts, h), omega (arith, parts, h)), short_fields fs (omega (arith, parts, h)))

-- the same of fields whose size isn't too great
pub sized_section_written : (fs : List Field) → section_size fs < 2 ^ 62 → IsSection (section_bytes fs) fs
sized_section_written fs h = section_written fs (short_fields fs h)
