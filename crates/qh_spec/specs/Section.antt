-- Field sections (RFC 9204, section 4.5) without references to a dynamic table and without compressed strings.
use Rattle.std.specs.Prelude.{◌≡◌, ℕ, List, [], ◌∷◌, ◌++◌, length, bytes_eq, Bool, ◌&&◌, Option, Some, None, slice_get, position, flat_map}
use Rattle.qh_spec.specs.Fields.{Field}
use Rattle.qh_spec.specs.PrefixInteger.{IsPrefixed, prefixed}
use Rattle.qh_spec.specs.StaticTable.{static_table}

-- The forms of a line (sections 4.5.2, 4.5.4 and 4.5.6). The forms that end in Never have the bit N set, which asks
-- that no one index the line and doesn't change the field.
pub data Form : Type 0 where
  Indexed : Form
  Named : Form
  NamedNever : Form
  Literal : Form
  LiteralNever : Form

-- the bits in front of the line's integer, as a byte: 11, 0101, 0111, 00100, 00110
abbrev pub lead_of : Form → ℕ
lead_of Indexed = 192
lead_of Named = 80
lead_of NamedNever = 112
lead_of Literal = 32
lead_of LiteralNever = 48

-- how many bits the integer has in the first byte
abbrev pub bits_of : Form → ℕ
bits_of Indexed = 6
bits_of Named = 4
bits_of NamedNever = 4
bits_of Literal = 3
bits_of LiteralNever = 3

-- a string: a bit 0, its length in seven bits, its bytes (section 4.1.2)
pub record IsString (bytes text : List ℕ) : Type 0 where
  pub start : List ℕ
  pub whole : bytes ≡ start ++ text
  pub count : IsPrefixed 0 7 start (length text)

-- the field has its name from the static table
pub record IsNamedField (index : ℕ) (bytes : List ℕ) (f : Field) : Type 0 where
  pub row : Field
  pub found : slice_get static_table index ≡ Some row
  pub name : f.name ≡ row.name
  pub value : IsString bytes f.value

-- the field has its name written out, of this length
pub record IsLiteralField (count : ℕ) (bytes : List ℕ) (f : Field) : Type 0 where
  pub value_bytes : List ℕ
  pub whole : bytes ≡ f.name ++ value_bytes
  pub name : count ≡ length f.name
  pub value : IsString value_bytes f.value

-- what follows the integer of a line
abbrev pub FollowsInteger : Form → ℕ → List ℕ → Field → Type 0
FollowsInteger Indexed n bytes f = (bytes ≡ []) × (slice_get static_table n ≡ Some f)
FollowsInteger Named n bytes f = IsNamedField n bytes f
FollowsInteger NamedNever n bytes f = IsNamedField n bytes f
FollowsInteger Literal n bytes f = IsLiteralField n bytes f
FollowsInteger LiteralNever n bytes f = IsLiteralField n bytes f

pub record IsLine (bytes : List ℕ) (f : Field) : Type 0 where
  pub form : Form
  pub start : List ℕ
  pub number : ℕ
  pub rest : List ℕ
  pub whole : bytes ≡ start ++ rest
  pub integer : IsPrefixed (lead_of form) (bits_of form) start number
  pub follows : FollowsInteger form number rest f

-- one line for each field, in order
abbrev pub AreLines : List ℕ → List Field → Type 0
AreLines bytes [] = bytes ≡ []
AreLines bytes (f ∷ fs) = (line rest : List ℕ) × (bytes ≡ line ++ rest) × IsLine line f × AreLines rest fs

-- a required insert count and a base of 0 (section 4.5.1), and the lines
abbrev pub IsSection : List ℕ → List Field → Type 0
IsSection bytes fields = (lines : List ℕ) × (bytes ≡ 0 ∷ 0 ∷ lines) × AreLines lines fields

-- the form that is written: a string
abbrev pub string_bytes : List ℕ → List ℕ
string_bytes text = prefixed 0 7 (length text) ++ text

abbrev pub same_name : Field → Field → Bool
same_name f row = bytes_eq row.name f.name

abbrev pub same_field : Field → Field → Bool
same_field f row = bytes_eq row.name f.name && bytes_eq row.value f.value

-- a line whose name has this index in the table, or none
abbrev pub named_line : Option ℕ → Field → List ℕ
named_line (Some index) f = prefixed 80 4 index ++ string_bytes f.value
named_line None f = prefixed 32 3 (length f.name) ++ (f.name ++ string_bytes f.value)

-- a line that has this index in the table, or none
abbrev pub indexed_line : Option ℕ → Field → List ℕ
indexed_line (Some index) f = prefixed 192 6 index
indexed_line None f = named_line (position (same_name f) static_table) f

-- The line that is written: the least index of the name and the value, where they stand in the table; else the least
-- index of the name; else the name.
abbrev pub line_bytes : Field → List ℕ
line_bytes f = indexed_line (position (same_field f) static_table) f

abbrev pub section_bytes : List Field → List ℕ
section_bytes fields = 0 ∷ 0 ∷ flat_map line_bytes fields
