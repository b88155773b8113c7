-- Settings (RFC 9114, section 7.2.4): what a list of entries means, why it is refused, what is written.
use Rattle.std.specs.Prelude.{◌≡◌, ◌≢◌, ◌⊎◌, ℕ, ◌-◌, ◌^◌, ◌<◌, ◌≤◌, ◌==◌, ◌||◌, nat_lt, Bool, List, [], ◌∷◌, ◌++◌, map, filter, flat_map, Option, Some, None, if◌then◌else◌}
use Rattle.std.specs.List.{AllByRecursion}
use Rattle.qh_spec.specs.Lists.{In, Distinct}
use Rattle.qh_spec.specs.Varint.{IsVarint, varint}
use Rattle.qh_h3wire.specs.SettingsIds as ids
use Rattle.qh_h3wire.specs.declared.settings.SettingsError.{SettingsError}
use Rattle.qh_h3wire.specs.declared.settings.SettingsError.TheVariants.{Malformed, Repeated, Forbidden, Value, Memory}

-- an entry: an id and a value
pub record Entry : Type 0 where
  pub id : ℕ
  pub value : ℕ

-- two numbers in any forms
pub record IsEntry (bytes : List ℕ) (e : Entry) : Type 0 where
  pub id_bytes : List ℕ
  pub value_bytes : List ℕ
  pub whole : bytes ≡ id_bytes ++ value_bytes
  pub id_is : IsVarint id_bytes e.id
  pub value_is : IsVarint value_bytes e.value

-- the entries one after another, and nothing else
abbrev pub AreEntries : List ℕ → List Entry → Type 0
AreEntries bytes [] = bytes ≡ []
AreEntries bytes (e ∷ es) = (front rest : List ℕ) × (bytes ≡ front ++ rest) × IsEntry front e × AreEntries rest es

-- the ids that HTTP/2 had (RFC 9114, section 11.2.2)
abbrev pub IsReserved : ℕ → Type 0
IsReserved id = (2 ≤ id) × (id ≤ 5)

-- these are 0 or 1 (RFC 9220, section 3; RFC 9297, section 2.1.1)
abbrev pub IsFlag : ℕ → Type 0
IsFlag id = (id ≡ ids.enable_connect_protocol) ⊎ (id ≡ ids.h3_datagram)

abbrev pub ids_of : List Entry → List ℕ
ids_of es = map (λ (e : Entry). e.id) es

-- the entry may stand behind these
pub record IsAllowed (front : List Entry) (e : Entry) : Type 0 where
  pub new : In e.id (ids_of front) → ⊥
  pub known : IsReserved e.id → ⊥
  pub flag : IsFlag e.id → e.value ≤ 1

-- each entry may stand behind these and those before it
abbrev pub AreAllowed : (front es : List Entry) → Type 0
AreAllowed front [] = Unit {0}
AreAllowed front (e ∷ es) = IsAllowed front e × AreAllowed (front ++ e ∷ []) es

-- the value of an id, where an entry has it
abbrev pub value_of : ℕ → List Entry → Option ℕ
value_of id [] = None
value_of id (e ∷ es) = if e.id == id then Some e.value else value_of id es

abbrev pub value_or : ℕ → ℕ → List Entry → ℕ
value_or other id [] = other
value_or other id (e ∷ es) = if e.id == id then e.value else value_or other id es

-- the ids of QPACK's table and of its blocked streams, which are kept as they came (RFC 9204, section 5)
abbrev pub is_kept : Entry → Bool
is_kept e = (e.id == ids.qpack_max_table_capacity) || (e.id == ids.qpack_blocked_streams)

-- settings as values
pub record PlainSettings : Type 0 where
  pub max_field_section_size : ℕ
  pub enable_extended_connect : Bool
  pub enable_datagram : Bool
  -- other ids with their values
  pub other : List (ℕ × ℕ)

abbrev pub pair_of : Entry → ℕ × ℕ
pair_of e = (e.id, e.value)

-- no limit
abbrev pub no_limit : ℕ
no_limit = 2 ^ 62 - 1

-- what allowed entries mean; ids that aren't known are dropped (section 7.2.4)
abbrev pub settings_of : List Entry → PlainSettings
settings_of es = record {
  max_field_section_size = value_or no_limit ids.max_field_section_size es;
  enable_extended_connect = value_or 0 ids.enable_connect_protocol es == 1;
  enable_datagram = value_or 0 ids.h3_datagram es == 1;
  other = map pair_of (filter is_kept es);
}

-- the payload of a SETTINGS frame means this
pub record MeansSettings (payload : List ℕ) (s : PlainSettings) : Type 0 where
  pub entries : List Entry
  pub are : AreEntries payload entries
  pub allowed : AreAllowed [] entries
  pub means : s ≡ settings_of entries

-- the fault of an entry behind these, in this order: it repeats, it is reserved, its flag is neither 0 nor 1
abbrev pub IsEntryFault : List Entry → Entry → SettingsError → Type 0
IsEntryFault front e (Repeated id) = (id ≡ e.id) × In e.id (ids_of front)
IsEntryFault front e (Forbidden id) = (id ≡ e.id) × (In e.id (ids_of front) → ⊥) × IsReserved e.id
IsEntryFault front e (Value id value) = (id ≡ e.id) × (value ≡ e.value) × (In e.id (ids_of front) → ⊥) × IsFlag e.id × (1 < e.value)
IsEntryFault front e Malformed = ⊥
IsEntryFault front e Memory = ⊥

-- why a payload is refused: by the first entry that may not stand there, or that is cut
pub data IsSettingsFault (payload : List ℕ) : SettingsError → Type 0 where
  entry : (front : List Entry) (bytes entry_bytes rest : List ℕ) (e : Entry) (fault : SettingsError) → payload ≡ bytes ++ (entry_bytes ++ rest)
      → AreEntries bytes front → AreAllowed [] front → IsEntry entry_bytes e → IsEntryFault front e fault → IsSettingsFault payload fault
  cut : (front : List Entry) (bytes rest : List ℕ) → payload ≡ bytes ++ rest → AreEntries bytes front → AreAllowed [] front → rest ≢ []
      → ((entry_bytes more : List ℕ) (e : Entry) → rest ≡ entry_bytes ++ more → IsEntry entry_bytes e → ⊥) → IsSettingsFault payload Malformed

-- nothing is wrong with the payload
abbrev pub HasNoFault : List ℕ → Type 0
HasNoFault payload = (e : SettingsError) → IsSettingsFault payload e → ⊥

-- an entry in the shortest forms
abbrev pub entry_bytes : ℕ × ℕ → List ℕ
entry_bytes p = varint p.0 ++ varint p.1

-- an id with value 1, where it is on
abbrev pub switched : Bool → ℕ → List (ℕ × ℕ)
switched on id = if on then (id, 1) ∷ [] else []

-- the limit, where there is one
abbrev pub limited : ℕ → List (ℕ × ℕ)
limited n = if nat_lt n no_limit then (ids.max_field_section_size, n) ∷ [] else []

-- what is written, in this order: the others as they stand, the limit, the two flags
abbrev pub written_entries : PlainSettings → List (ℕ × ℕ)
written_entries s = s.other ++ (limited s.max_field_section_size ++ (switched s.enable_extended_connect ids.enable_connect_protocol ++ switched s.enable_datagram ids.h3_datagram))

abbrev pub settings_bytes : PlainSettings → List ℕ
settings_bytes s = flat_map entry_bytes (written_entries s)

-- an id that stands for itself among the others
abbrev pub IsOtherId : ℕ → Type 0
IsOtherId id = (id < 2 ^ 62) × (IsReserved id → ⊥) × (id ≢ ids.max_field_section_size) × (IsFlag id → ⊥)

-- settings that may be written: the others' ids differ and are no known ones, and each number has a form
pub record AreWritable (s : PlainSettings) : Type 0 where
  pub distinct : Distinct (map (λ (p : ℕ × ℕ). p.0) s.other)
  pub ids : AllByRecursion (λ (p : ℕ × ℕ). IsOtherId p.0 × (p.1 < 2 ^ 62)) s.other

abbrev pub is_kept_pair : ℕ × ℕ → Bool
is_kept_pair p = (p.0 == ids.qpack_max_table_capacity) || (p.0 == ids.qpack_blocked_streams)

abbrev pub at_most_no_limit : ℕ → ℕ
at_most_no_limit n = if nat_lt n no_limit then n else no_limit

-- written settings as they are read: without the others that readers drop, and a limit above the greatest number as none
abbrev pub settings_as_read : PlainSettings → PlainSettings
settings_as_read s = record s { max_field_section_size = at_most_no_limit s.max_field_section_size; other = filter is_kept_pair s.other }
