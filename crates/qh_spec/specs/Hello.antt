-- The hello: what each end says first of itself, in the CRYPTO frames of Initial packets, in the place of a TLS handshake (own; the
-- parameters are the transport parameters of RFC 9000, section 18).
use Rattle.std.specs.Prelude.{◌≡◌, ℕ, ◌<◌, ◌≤◌, ◌^◌, ◌==◌, min, List, [], ◌∷◌, ◌++◌, length, flat_map, Option, Some, None, MatchOption, if◌then◌else◌}
use Rattle.std.specs.List.{AllByRecursion}
use Rattle.qh_spec.specs.declared.sides.Side.{Side}
use Rattle.qh_spec.specs.declared.sides.Side.TheVariants.{Client, Server}
use Rattle.qh_spec.specs.ParameterIds as parameter_ids
use Rattle.qh_spec.specs.Varint.{IsVarint, varint}

-- a transport parameter: its id, and its value (RFC 9000, section 18)
pub record Parameter : Type 0 where
  pub id : ℕ
  pub value : List ℕ

-- the bytes begin with the parameter, its id and its value's length in any form, and go on with the rest (RFC 9000, section 18)
pub record IsParameter (bytes : List ℕ) (p : Parameter) (rest : List ℕ) : Type 0 where
  pub id_bytes : List ℕ
  pub length_bytes : List ℕ
  pub whole : bytes ≡ id_bytes ++ (length_bytes ++ (p.value ++ rest))
  pub id_is : IsVarint id_bytes p.id
  pub length_is : IsVarint length_bytes (length p.value)

-- the bytes are these parameters (RFC 9000, section 18)
abbrev pub AreParameters : List ℕ → List Parameter → Type 0
AreParameters bytes [] = bytes ≡ []
AreParameters bytes (p ∷ ps) = (rest : List ℕ) × IsParameter bytes p rest × AreParameters rest ps

-- who says it, the server name that a client asks for, and the parameters (own)
pub record Hello : Type 0 where
  pub sender : Side
  pub server_name : List ℕ
  pub parameters : List Parameter

-- the first byte of each side's hello (own)
abbrev pub hello_byte : Side → ℕ
hello_byte Client = 1
hello_byte Server = 2

-- the bytes are the hello: who says it, the server name behind its length, and the parameters behind theirs (own)
pub record IsHello (bytes : List ℕ) (h : Hello) : Type 0 where
  pub name_length : List ℕ
  pub parameters_length : List ℕ
  pub parameter_bytes : List ℕ
  pub whole : bytes ≡ hello_byte h.sender ∷ (name_length ++ (h.server_name ++ (parameters_length ++ parameter_bytes)))
  pub name_is : IsVarint name_length (length h.server_name)
  pub length_is : IsVarint parameters_length (length parameter_bytes)
  pub parameters : AreParameters parameter_bytes h.parameters

-- the bytes are the hello, and this side says it (own)
abbrev pub IsHelloOf : Side → List ℕ → Hello → Type 0
IsHelloOf sender bytes h = IsHello bytes h × (h.sender ≡ sender)

-- ---- the bytes that are written: each number in its shortest form

abbrev pub parameter_bytes : Parameter → List ℕ
parameter_bytes p = varint p.id ++ (varint (length p.value) ++ p.value)

abbrev pub hello_bytes : Hello → List ℕ
hello_bytes h =
    hello_byte h.sender
    ∷ (varint (length h.server_name)
    ++ (h.server_name ++ (varint (length (flat_map parameter_bytes h.parameters)) ++ flat_map parameter_bytes h.parameters)))

-- each number and length in it has a form
pub record HasSpelling (h : Hello) : Type 0 where
  pub name : length h.server_name < 2 ^ 62
  pub parameters : AllByRecursion (λ (p : Parameter). (p.id < 2 ^ 62) × (length p.value < 2 ^ 62)) h.parameters
  pub all : length (flat_map parameter_bytes h.parameters) < 2 ^ 62

-- ---- what a hello says (RFC 9000, section 18.2; the defaults are those of that section)

-- the value of the first parameter with this id
abbrev pub value_of : (id : ℕ) → List Parameter → Option (List ℕ)
value_of id [] = None
value_of id (p ∷ ps) = if p.id == id then Some p.value else value_of id ps

-- the parameter is this number, in any form, or the default if it is absent
abbrev pub SaysNumber : (id default : ℕ) → Hello → (n : ℕ) → Type 0
SaysNumber id default h n = MatchOption (value_of id h.parameters) (n ≡ default) (λ value. IsVarint value n)

-- the first flow control and stream limits of whoever says it (RFC 9000, sections 4.1, 4.6 and 18.2)
pub record FirstLimits : Type 0 where
  pub max_data : ℕ
  -- on two-way streams that it opens itself, and on those that the reader opens
  pub bidi_local : ℕ
  pub bidi_remote : ℕ
  -- on one-way streams that the reader opens
  pub uni : ℕ
  -- how many streams the reader may open, two-way and one-way
  pub max_bidi : ℕ
  pub max_uni : ℕ

-- an absent limit is 0 (RFC 9000, section 18.2)
pub record SaysLimits (h : Hello) (l : FirstLimits) : Type 0 where
  pub max_data : SaysNumber parameter_ids.initial_max_data 0 h l.max_data
  pub bidi_local : SaysNumber parameter_ids.initial_max_stream_data_bidi_local 0 h l.bidi_local
  pub bidi_remote : SaysNumber parameter_ids.initial_max_stream_data_bidi_remote 0 h l.bidi_remote
  pub uni : SaysNumber parameter_ids.initial_max_stream_data_uni 0 h l.uni
  pub max_bidi : SaysNumber parameter_ids.initial_max_streams_bidi 0 h l.max_bidi
  pub max_uni : SaysNumber parameter_ids.initial_max_streams_uni 0 h l.max_uni

-- the idle timeout in milliseconds; 0, and so an absent one, is none (RFC 9000, sections 10.1 and 18.2)
abbrev pub SaysIdleTimeout : Hello → ℕ → Type 0
SaysIdleTimeout h milliseconds = SaysNumber parameter_ids.max_idle_timeout 0 h milliseconds

-- how many connection ids of the reader's it keeps; 2 if it doesn't say (RFC 9000, section 18.2)
abbrev pub SaysIdLimit : Hello → ℕ → Type 0
SaysIdLimit h n = SaysNumber parameter_ids.active_connection_id_limit 2 h n

-- the size of the greatest DATAGRAM frame that it takes, if it says one (RFC 9221, section 3)
abbrev pub SaysDatagramSize : Hello → Option ℕ → Type 0
SaysDatagramSize h None = value_of parameter_ids.max_datagram_frame_size h.parameters ≡ None
SaysDatagramSize h (Some n) = (value : List ℕ) × (value_of parameter_ids.max_datagram_frame_size h.parameters ≡ Some value) × IsVarint value n

-- the connection id that it sent its Initial packets from (RFC 9000, section 7.3)
abbrev pub SaysSourceId : Hello → List ℕ → Type 0
SaysSourceId h id = value_of parameter_ids.initial_source_connection_id h.parameters ≡ Some id

-- the destination id of the client's first Initial packet, if it says one (RFC 9000, section 7.3)
abbrev pub SaysOriginalId : Hello → Option (List ℕ) → Type 0
SaysOriginalId h id = value_of parameter_ids.original_destination_connection_id h.parameters ≡ id

-- the source id of the Retry packet, if it says one (RFC 9000, section 7.3)
abbrev pub SaysRetryId : Hello → Option (List ℕ) → Type 0
SaysRetryId h id = value_of parameter_ids.retry_source_connection_id h.parameters ≡ id

-- the token of its stateless resets, if it says one (RFC 9000, sections 10.3 and 18.2)
abbrev pub SaysResetToken : Hello → Option (List ℕ) → Type 0
SaysResetToken h token = value_of parameter_ids.stateless_reset_token h.parameters ≡ token

-- the server name, empty if it asks for none (own)
abbrev pub SaysServerName : Hello → List ℕ → Type 0
SaysServerName h name = h.server_name ≡ name

-- The idle timeout that is in force at an end, in milliseconds, of the one that it says itself and the one that its peer says, where 0
-- is none: "the minimum of the two advertised values (or the sole advertised value, if only one endpoint advertises a non-zero value)"
-- (RFC 9000, section 10.1). None: there is no idle timeout at all. That an end waits three probe timeouts at least isn't in it.
abbrev pub idle_in_force : (own peer : ℕ) → Option ℕ
idle_in_force own peer =
    if own == 0 then (if peer == 0 then None else Some peer)
    else if peer == 0 then Some own
    else Some (min own peer)

-- ---- the hello that an end writes (own)

-- what an end says of itself
pub record Greeting : Type 0 where
  pub sender : Side
  -- empty at a server
  pub server_name : List ℕ
  -- the destination id of the client's first Initial packet, from a server
  pub original_id : Option (List ℕ)
  -- the idle timeout in milliseconds, 0 for none
  pub idle : ℕ
  -- from a server
  pub reset_token : Option (List ℕ)
  pub limits : FirstLimits
  -- how many of the reader's connection ids it keeps
  pub id_limit : ℕ
  -- the source id of its Initial packets
  pub source_id : List ℕ
  -- the source id of the Retry packet, from a server that sent one
  pub retry_id : Option (List ℕ)
  -- the greatest DATAGRAM frame that it takes, if it takes them
  pub datagram : Option ℕ

-- a parameter that is a number, in its shortest form
abbrev pub number_parameter : (id n : ℕ) → Parameter
number_parameter id n = record { id = id; value = varint n }

-- a parameter that may be absent
abbrev pub bytes_if_some : (id : ℕ) → Option (List ℕ) → List Parameter
bytes_if_some id None = []
bytes_if_some id (Some value) = record { id = id; value = value } ∷ []

abbrev pub number_if_some : (id : ℕ) → Option ℕ → List Parameter
number_if_some id None = []
number_if_some id (Some n) = number_parameter id n ∷ []

-- the parameters that it always writes, between those that it may leave out
abbrev pub limit_parameters : FirstLimits → List Parameter
limit_parameters l =
    number_parameter parameter_ids.initial_max_data l.max_data
    ∷ number_parameter parameter_ids.initial_max_stream_data_bidi_local l.bidi_local
    ∷ number_parameter parameter_ids.initial_max_stream_data_bidi_remote l.bidi_remote
    ∷ number_parameter parameter_ids.initial_max_stream_data_uni l.uni
    ∷ number_parameter parameter_ids.initial_max_streams_bidi l.max_bidi
    ∷ number_parameter parameter_ids.initial_max_streams_uni l.max_uni ∷ []

-- the parameters in the order of their ids
abbrev pub hello_of : Greeting → Hello
hello_of g = record {
  sender = g.sender;
  server_name = g.server_name;
  parameters =
      bytes_if_some parameter_ids.original_destination_connection_id g.original_id
      ++ (number_parameter parameter_ids.max_idle_timeout g.idle
      ∷ (bytes_if_some parameter_ids.stateless_reset_token g.reset_token
      ++ (limit_parameters g.limits
      ++ (number_parameter parameter_ids.active_connection_id_limit g.id_limit
      ∷ record { id = parameter_ids.initial_source_connection_id; value = g.source_id }
      ∷ (bytes_if_some parameter_ids.retry_source_connection_id g.retry_id
      ++ number_if_some parameter_ids.max_datagram_frame_size g.datagram)))));
}

-- limits that a hello can say: numbers that have a form, and counts of streams that can be opened (RFC 9000, sections 4.6 and 16)
pub record AreSayable (l : FirstLimits) : Type 0 where
  pub max_data : l.max_data < 2 ^ 62
  pub bidi_local : l.bidi_local < 2 ^ 62
  pub bidi_remote : l.bidi_remote < 2 ^ 62
  pub uni : l.uni < 2 ^ 62
  pub max_bidi : l.max_bidi ≤ 2 ^ 60
  pub max_uni : l.max_uni ≤ 2 ^ 60

-- what holds of a value if there is one
abbrev pub IfThere : {X : Type 0} → (X → Type 0) → Option X → Type 0
IfThere P None = Unit {0}
IfThere P (Some x) = P x

-- a greeting whose numbers and ids are in range, with what a server alone says absent from a client's (RFC 9000, sections 10.3, 17.2 and
-- 18.2; the length of the name is own)
pub record IsSayable (g : Greeting) : Type 0 where
  pub name : length g.server_name ≤ 255
  pub client : g.sender ≡ Client → (g.original_id ≡ None) × (g.reset_token ≡ None) × (g.retry_id ≡ None)
  pub original_id : IfThere (λ (id : List ℕ). length id ≤ 20) g.original_id
  pub idle : g.idle < 2 ^ 62
  pub reset_token : IfThere (λ (token : List ℕ). length token ≡ 16) g.reset_token
  pub limits : AreSayable g.limits
  pub some_ids : 2 ≤ g.id_limit
  pub id_limit : g.id_limit < 2 ^ 62
  pub source_id : length g.source_id ≤ 20
  pub retry_id : IfThere (λ (id : List ℕ). length id ≤ 20) g.retry_id
  pub datagram : IfThere (λ (n : ℕ). n < 2 ^ 62) g.datagram
