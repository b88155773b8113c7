-- Why bytes aren't read as a field section: the first line at fault (RFC 9204, sections 4.5 and 2.2).
use Rattle.std.specs.Prelude.{◌≡◌, ◌≢◌, ◌⊎◌, ℕ, ◌-◌, ◌^◌, ◌<◌, ◌≤◌, min, List, [], ◌∷◌, ◌++◌, length}
use Rattle.qh_spec.specs.Fields.{Field}
use Rattle.qh_spec.specs.PrefixInteger.{IsPrefixed}
use Rattle.qh_spec.specs.Section.{Form, Indexed, Named, NamedNever, Literal, LiteralNever, lead_of, bits_of, IsLine, AreLines, IsSection}
use Rattle.qh_spec.specs.Size.{section_size}
use Rattle.qh_spec.specs.StaticTable.{static_table}
use Rattle.qh_qpack.specs.declared.decoder.DecoderError.{DecoderError}
use Rattle.qh_qpack.specs.declared.decoder.DecoderError.TheVariants.{HeaderTooLong, Malformed, Huffman, Dynamic, Memory}

-- the size of a section (RFC 9114, section 4.2.2), up to the greatest number of 64 bits
abbrev pub bounded_size : List Field → ℕ
bounded_size fields = min (2 ^ 64 - 1) (section_size fields)

-- A first byte of a line that refers to a dynamic table: 10 an indexed line, 01x0 a line whose name is indexed, 0001 and
-- 0000 those with an index behind the base (sections 4.5.2 to 4.5.5).
abbrev pub IsDynamicByte : ℕ → Type 0
IsDynamicByte b = ((128 ≤ b) × (b < 192)) ⊎ ((64 ≤ b) × (b < 80)) ⊎ ((96 ≤ b) × (b < 112)) ⊎ (b < 32)

-- a first byte of a line whose name is written out and compressed: 001x1 (section 4.5.6)
abbrev pub IsHuffmanByte : ℕ → Type 0
IsHuffmanByte b = ((40 ≤ b) × (b < 48)) ⊎ ((56 ≤ b) × (b < 64))

-- what stands between the integer of a line and its value, which an indexed line lacks
abbrev pub IsBeforeValue : Form → ℕ → List ℕ → Type 0
IsBeforeValue Indexed n name = ⊥
IsBeforeValue Named n name = (name ≡ []) × (n < length static_table)
IsBeforeValue NamedNever n name = (name ≡ []) × (n < length static_table)
IsBeforeValue Literal n name = n ≡ length name
IsBeforeValue LiteralNever n name = n ≡ length name

-- the bytes begin with a line's integer and name, and then a value that is compressed (section 4.1.2)
pub record HasHuffmanValue (bytes : List ℕ) : Type 0 where
  pub form : Form
  pub start : List ℕ
  pub number : ℕ
  pub name : List ℕ
  pub first : ℕ
  pub rest : List ℕ
  pub whole : bytes ≡ start ++ (name ++ first ∷ rest)
  pub integer : IsPrefixed (lead_of form) (bits_of form) start number
  pub before : IsBeforeValue form number name
  pub set : 128 ≤ first

-- the bytes begin with a compressed string where a name or a value stands
abbrev pub HasHuffman : List ℕ → Type 0
HasHuffman [] = ⊥
HasHuffman (b ∷ bs) = IsHuffmanByte b ⊎ HasHuffmanValue (b ∷ bs)

abbrev pub HasDynamic : List ℕ → Type 0
HasDynamic [] = ⊥
HasDynamic (b ∷ bs) = IsDynamicByte b

-- the bytes begin with this line
pub record BeginsLine (bytes : List ℕ) (f : Field) : Type 0 where
  pub line : List ℕ
  pub rest : List ℕ
  pub whole : bytes ≡ line ++ rest
  pub is_line : IsLine line f

-- What is wrong with the line that begins the bytes, behind these fields. Bytes that no line begins, and that refer to no
-- dynamic table and have no compressed string, are malformed: a line is cut, an index is past the table, an integer is too
-- large.
abbrev pub IsLineFault : (max_size : ℕ) → List Field → List ℕ → DecoderError → Type 0
IsLineFault max_size front bytes Dynamic = HasDynamic bytes
IsLineFault max_size front bytes Huffman = HasHuffman bytes
IsLineFault max_size front bytes Malformed = (HasDynamic bytes → ⊥) × (HasHuffman bytes → ⊥) × ((f : Field) → BeginsLine bytes f → ⊥)
IsLineFault max_size front bytes (HeaderTooLong size) =
    (f : Field) × BeginsLine bytes f × (size ≡ bounded_size (front ++ f ∷ [])) × (max_size < size)
IsLineFault max_size front bytes Memory = ⊥

-- Why the bytes aren't a section of at most this size: a required insert count or a base other than 0 is dynamic (section
-- 4.5.1), and a cut one malformed; else the first line at fault, behind fields whose size is within the limit.
pub data IsSectionFault (max_size : ℕ) (bytes : List ℕ) : DecoderError → Type 0 where
  count : (b : ℕ) (rest : List ℕ) → bytes ≡ b ∷ rest → b ≢ 0 → IsSectionFault max_size bytes Dynamic
  base : (b : ℕ) (rest : List ℕ) → bytes ≡ 0 ∷ b ∷ rest → b ≢ 0 → IsSectionFault max_size bytes Dynamic
  no_count : bytes ≡ [] → IsSectionFault max_size bytes Malformed
  no_base : bytes ≡ 0 ∷ [] → IsSectionFault max_size bytes Malformed
  line : (front : List Field) (lines rest : List ℕ) (fault : DecoderError) → bytes ≡ 0 ∷ 0 ∷ (lines ++ rest) → AreLines lines front
      → bounded_size front ≤ max_size → rest ≢ [] → IsLineFault max_size front rest fault → IsSectionFault max_size bytes fault

-- the bytes are a section of at most this size
abbrev pub IsSectionWithin : (max_size : ℕ) → List ℕ → Type 0
IsSectionWithin max_size bytes = (fields : List Field) × IsSection bytes fields × (bounded_size fields ≤ max_size)

-- the fault, or want of memory for bytes that have none
abbrev pub RefusesSection : (max_size : ℕ) → List ℕ → DecoderError → Type 0
RefusesSection max_size bytes Memory = IsSectionWithin max_size bytes
RefusesSection max_size bytes (HeaderTooLong size) = IsSectionFault max_size bytes (HeaderTooLong size)
RefusesSection max_size bytes Malformed = IsSectionFault max_size bytes Malformed
RefusesSection max_size bytes Huffman = IsSectionFault max_size bytes Huffman
RefusesSection max_size bytes Dynamic = IsSectionFault max_size bytes Dynamic

-- names and values short enough to be written
abbrev pub IsWritable : Field → Type 0
IsWritable f = (length f.name < 2 ^ 63) × (length f.value < 2 ^ 63)
