-- When the bytes of a hello are refused, with TRANSPORT_PARAMETER_ERROR (RFC 9000, sections 4.6, 7.3, 7.4 and 18.2). Parameters with
-- unknown ids are skipped (RFC 9000, section 7.4.2).
use Rattle.std.specs.Prelude.{◌≡◌, ℕ, ◌<◌, ◌≤◌, ◌^◌, List, [], ◌∷◌, length, map, Option, Some, None}
use Rattle.std.specs.List.{AllByRecursion}
use Rattle.qh_spec.specs.declared.sides.Side.{Side}
use Rattle.qh_spec.specs.declared.sides.Side.TheVariants.{Client}
use Rattle.qh_spec.specs.Hello.{Parameter, Hello, IsHelloOf, value_of, SaysNumber, SaysIdLimit, IfThere}
use Rattle.qh_spec.specs.Lists.{Distinct}
use Rattle.qh_spec.specs.ParameterIds as parameter_ids
use Rattle.qh_spec.specs.Varint.{IsVarint}

-- what the reader of a hello knows of the connection ids that were used (RFC 9000, section 7.3)
pub record IdsUsed : Type 0 where
  -- at a client: the destination id of its first Initial packet; None at a server
  pub original : Option (List ℕ)
  -- the source id of the peer's Initial packets
  pub source : List ℕ
  -- at a client: the source id of the Retry packet that it took, if it took one; None at a server
  pub retry : Option (List ℕ)

-- the faults, in their order: if there are several, the first counts (the order is own)
pub data HelloFault : Type 0 where
  -- The bytes are no hello of the peer's: another first byte, a cut name or value, bytes that are left over (own).
  NotAHello : HelloFault
  -- the server name has more than 255 bytes (own)
  LongName : HelloFault
  -- a parameter is repeated (section 7.4)
  RepeatedId : HelloFault
  -- a client gives a parameter that only a server may give (section 18.2)
  ServerOnly : HelloFault
  -- the value of a number isn't exactly one variable-length integer (sections 7.4 and 18.2)
  NotANumber : HelloFault
  -- a connection id is absent, there without being due, or another than the one that was used (section 7.3)
  OtherId : HelloFault
  -- a stateless reset token isn't 16 bytes long (sections 7.4 and 18.2)
  TokenLength : HelloFault
  -- a number is out of its range (sections 4.6 and 18.2)
  OutOfRange : HelloFault

-- its place in that order
abbrev pub place_of : HelloFault → ℕ
place_of NotAHello = 0
place_of LongName = 1
place_of RepeatedId = 2
place_of ServerOnly = 3
place_of NotANumber = 4
place_of OtherId = 5
place_of TokenLength = 6
place_of OutOfRange = 7

-- ---- the rules that a hello keeps

-- "A client MUST NOT include any server-only transport parameter" (section 18.2); of those that this repository knows, these
abbrev pub server_only : List ℕ
server_only =
    parameter_ids.original_destination_connection_id ∷ parameter_ids.stateless_reset_token ∷ parameter_ids.retry_source_connection_id ∷ []

-- the parameters whose value is a variable-length integer (section 18.2; RFC 9221, section 3)
abbrev pub numbers : List ℕ
numbers =
    parameter_ids.max_idle_timeout ∷ parameter_ids.initial_max_data ∷ parameter_ids.initial_max_stream_data_bidi_local
    ∷ parameter_ids.initial_max_stream_data_bidi_remote ∷ parameter_ids.initial_max_stream_data_uni ∷ parameter_ids.initial_max_streams_bidi
    ∷ parameter_ids.initial_max_streams_uni ∷ parameter_ids.active_connection_id_limit ∷ parameter_ids.max_datagram_frame_size ∷ []

-- "Endpoints MUST NOT send a parameter more than once" (section 7.4): no id is repeated, known or unknown
abbrev pub HasDistinctIds : Hello → Type 0
HasDistinctIds h = Distinct (map (λ (p : Parameter). p.id) h.parameters)

abbrev pub IsAbsent : Hello → (id : ℕ) → Type 0
IsAbsent h id = value_of id h.parameters ≡ None

abbrev pub IsNumberOrAbsent : Hello → (id : ℕ) → Type 0
IsNumberOrAbsent h id = IfThere (λ (value : List ℕ). (n : ℕ) × IsVarint value n) (value_of id h.parameters)

-- The ids are the ones that were used. It is an error if one is absent that is due, present that isn't due, or doesn't match
-- (section 7.3).
pub record HasIdsUsed (used : IdsUsed) (h : Hello) : Type 0 where
  pub original : value_of parameter_ids.original_destination_connection_id h.parameters ≡ used.original
  pub source : value_of parameter_ids.initial_source_connection_id h.parameters ≡ Some used.source
  pub retry : value_of parameter_ids.retry_source_connection_id h.parameters ≡ used.retry

-- a token is "a sequence of 16 bytes" (section 18.2)
abbrev pub HasWholeToken : Hello → Type 0
HasWholeToken h = IfThere (λ (token : List ℕ). length token ≡ 16) (value_of parameter_ids.stateless_reset_token h.parameters)

-- Each number is in its range. "The value of the active_connection_id_limit parameter MUST be at least 2" (section 18.2). A count of
-- streams "greater than 2^60 .. would allow a maximum stream ID that cannot be expressed as a variable-length integer" (section 4.6).
pub record IsInRange (h : Hello) : Type 0 where
  pub id_limit : (n : ℕ) → SaysIdLimit h n → 2 ≤ n
  pub max_bidi : (n : ℕ) → SaysNumber parameter_ids.initial_max_streams_bidi 0 h n → n ≤ 2 ^ 60
  pub max_uni : (n : ℕ) → SaysNumber parameter_ids.initial_max_streams_uni 0 h n → n ≤ 2 ^ 60

-- the hello keeps the rule that this fault breaks
abbrev pub Keeps : IdsUsed → Hello → HelloFault → Type 0
Keeps used h NotAHello = Unit {0}
Keeps used h LongName = length h.server_name ≤ 255
Keeps used h RepeatedId = HasDistinctIds h
Keeps used h ServerOnly = h.sender ≡ Client → AllByRecursion (IsAbsent h) server_only
Keeps used h NotANumber = AllByRecursion (IsNumberOrAbsent h) numbers
Keeps used h OtherId = HasIdsUsed used h
Keeps used h TokenLength = HasWholeToken h
Keeps used h OutOfRange = IsInRange h

-- ---- what is refused, and what is taken

-- the bytes are this side's hello, and it keeps each rule
pub record IsAcceptable (sender : Side) (used : IdsUsed) (bytes : List ℕ) (h : Hello) : Type 0 where
  pub is : IsHelloOf sender bytes h
  pub keeps : (rule : HelloFault) → Keeps used h rule

-- the bytes have this fault: they are no hello of this side's, or one that breaks its rule
abbrev pub HasHelloFault : (sender : Side) → IdsUsed → (bytes : List ℕ) → HelloFault → Type 0
HasHelloFault sender used bytes NotAHello = (h : Hello) → IsHelloOf sender bytes h → ⊥
HasHelloFault sender used bytes fault = (h : Hello) × IsHelloOf sender bytes h × (Keeps used h fault → ⊥)

-- and none that comes before it: this is the fault for which they are refused
pub record IsHelloFault (sender : Side) (used : IdsUsed) (bytes : List ℕ) (fault : HelloFault) : Type 0 where
  pub has : HasHelloFault sender used bytes fault
  pub first : (earlier : HelloFault) → place_of earlier < place_of fault → HasHelloFault sender used bytes earlier → ⊥
