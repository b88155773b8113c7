-- How packets and what they consist of are kept, and what parts of them are.
use Rattle.std.specs.Prelude.{◌≡◌, ℕ, ◌<◌, ◌≤◌, ◌^◌, ◌+◌, List, [], ◌∷◌, ◌++◌, length, drop, Option, Some, None}
use Rattle.std.specs.Int.{w64, to_be_bytes}
use Rattle.qh_spec.specs.declared.sides.Space.{Space}
use Rattle.qh_spec.specs.declared.sides.Space.TheVariants.{Initial, Data}
use Rattle.qh_spec.specs.Datagram.{Packet, IsPacketContent}
use Rattle.qh_spec.specs.Tag.{padded}
use Rattle.qh_spec.specs.QuicFrames.{Part, Number, Fixed, Counted, ShortCounted, Left, Ranges, Value, Num, Text, Nums}
use Rattle.qh_plain.specs.declared.packets.value.Content.{Content}
use Rattle.qh_plain.specs.declared.packets.value.Content.TheVariants as kept
use Rattle.qh_plain.specs.declared.packets.value.Part.{Part as KeptPart}
use Rattle.qh_plain.specs.declared.packets.value.Part.TheVariants as part

-- what a kept value is
abbrev pub value_of : Content → Value
value_of (kept.Number n) = Num n
value_of (kept.Text bytes) = Text bytes
value_of (kept.Numbers ns) = Nums ns

-- what a kept kind of field is
abbrev pub part_of : KeptPart → Part
part_of part.Number = Number
part_of (part.Fixed n) = Fixed n
part_of part.Counted = Counted
part_of part.ShortCounted = ShortCounted
part_of part.Left = Left
part_of part.Ranges = Ranges

-- numbers stay below the bound of their forms
abbrev pub IsSmall : Content → Type 0
IsSmall (kept.Number n) = n < 2 ^ 62
IsSmall _ = Unit {0}

-- the number that a value is, if it is one
abbrev pub number_in : Value → Option ℕ
number_in (Num n) = Some n
number_in _ = None

-- the bytes that a value is, if it is bytes
abbrev pub text_in : Value → Option (List ℕ)
text_in (Text bytes) = Some bytes
text_in _ = None

-- the numbers that a value is, if it is several
abbrev pub numbers_in : Value → Option (List ℕ)
numbers_in (Nums ns) = Some ns
numbers_in _ = None

-- these stand in the places of a tag
pub record IsLaidOut (bytes front : List ℕ) (sender number key_length : ℕ) (back : List ℕ) (space : ℕ) : Type 0 where
  pub front_length : length front ≡ 16
  pub back_length : length back ≡ 4
  pub bound : number < 2 ^ 64
  pub is : bytes ≡ front ++ (165 ∷ sender ∷ (to_be_bytes w64 number ++ (key_length ∷ (back ++ space ∷ []))))

-- a key id of this length stands in the two places of a tag
pub record HasKey (front : List ℕ) (key_length : ℕ) (back : List ℕ) : Type 0 where
  pub key_id : List ℕ
  pub short : key_length ≤ 20
  pub its_length : length key_id ≡ key_length
  pub in_front : front ≡ padded 16 key_id
  pub in_back : back ≡ padded 4 (drop 16 key_id)

-- the first byte of a header whose number has so many bytes, with the reserved bits 0 (RFC 9000, section 17)
abbrev pub first_byte : Space → ℕ → ℕ
first_byte Initial width = 191 + width
first_byte Data width = 63 + width

-- the parts behind a header
pub record AreParts (width : ℕ) (body number frames tag : List ℕ) : Type 0 where
  pub whole : body ≡ number ++ (frames ++ tag)
  pub number_length : length number ≡ width
  pub tag_length : length tag ≡ 32

-- a header of the space with this first byte, and this body behind it, say the packet
pub record HasBody (space : Space) (first : ℕ) (body : List ℕ) (p : Packet) : Type 0 where
  pub number : List ℕ
  pub frames : List ℕ
  pub tag : List ℕ
  pub some_number : 0 < length number
  pub short_number : length number ≤ 4
  pub first_is : first ≡ first_byte space (length number)
  pub whole : body ≡ number ++ (frames ++ tag)
  pub content : IsPacketContent space number frames tag p

-- what was found, as a list
abbrev pub listed : Option Packet → List Packet
listed None = []
listed (Some p) = p ∷ []
