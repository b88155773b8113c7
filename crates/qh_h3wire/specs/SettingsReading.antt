-- What was read of a SETTINGS frame so far, as the code keeps it.
use Rattle.std.specs.Prelude.{◌≡◌, ◌<◌, ◌^◌, ℕ, length, ◌==◌, List, [], ◌∷◌, ◌++◌, None, Some, Result, MatchResult, if◌then◌else◌}
use Rattle.std.specs.List.{AllByRecursion}
use Rattle.std.specs.Borrow.{Bor}
use Rattle.std.specs.BTreeSet.{contains}
use Rattle.std.specs.Ordering.{nat_cmp}
use Rattle.qh_h3wire.specs.Settings.{Entry, AreEntries, AreAllowed, PlainSettings, settings_of, is_kept, pair_of, IsSettingsFault, HasNoFault}
use Rattle.qh_h3wire.specs.SettingsAt.{has_id, fault_of}
use Rattle.qh_h3wire.specs.SettingsIds as ids
use Rattle.qh_h3wire.specs.SettingsValue.{plain_of}
use Rattle.qh_h3wire.specs.declared.settings.Reading.{Reading}
use Rattle.qh_h3wire.specs.declared.settings.SettingsError.{SettingsError}
use Rattle.qh_h3wire.specs.declared.settings.SettingsError.TheVariants.{Memory}

-- settings with one entry more
abbrev pub with_entry : PlainSettings → Entry → PlainSettings
with_entry s e =
    if e.id == ids.max_field_section_size then record s { max_field_section_size = e.value } else if e.id == ids.enable_connect_protocol then record s { enable_extended_connect = e.value == 1 }
    else if e.id == ids.h3_datagram then record s { enable_datagram = e.value == 1 } else if is_kept e then record s { other = s.other ++ pair_of e ∷ [] } else s

-- these entries were read
pub record HasRead (front : List Entry) (r : Reading) : Type 0 where
  pub seen : (id : ℕ) → contains nat_cmp r.seen id ≡ has_id id front
  pub settings : plain_of r.settings ≡ settings_of front

-- the entries that were read of a payload, and what is left of it
pub record SoFar (payload rest : List ℕ) (front : List Entry) : Type 0 where
  pub bytes : List ℕ
  pub whole : payload ≡ bytes ++ rest
  pub are : AreEntries bytes front
  pub allowed : AreAllowed [] front

-- what is kept tells what was read of a payload
pub record IsReading (payload rest : List ℕ) (r : Reading) : Type 0 where
  pub front : List Entry
  pub so_far : SoFar payload rest front
  pub read : HasRead front r

-- the fault of the entry behind these; want of memory tells nothing of it
abbrev pub RefusesEntry : SettingsError → List Entry → Entry → Type 0
RefusesEntry Memory front e = Unit {0}
RefusesEntry f front e = fault_of front e ≡ Some f

-- the entry was read behind these, or it is at fault
abbrev pub TakesEntry : {T : Type 0} → Result T SettingsError → List Entry → Entry → Reading → Type 0
TakesEntry result front e new =
    MatchResult result (λ _. (fault_of front e ≡ None) × HasRead (front ++ e ∷ []) new) (λ f. RefusesEntry f front e)

-- the fault of a payload; want of memory tells nothing of it
abbrev pub StopsReading : SettingsError → List ℕ → Type 0
StopsReading Memory payload = Unit {0}
StopsReading e payload = IsSettingsFault payload e

-- the fault of a payload, or want of memory for one that has none
abbrev pub RefusesSettings : SettingsError → List ℕ → Type 0
RefusesSettings Memory payload = HasNoFault payload
RefusesSettings e payload = IsSettingsFault payload e

-- an entry was read in front of the rest, or the payload is at fault
abbrev pub TakesFront : Result (Bor (List ℕ)) SettingsError → (payload rest : List ℕ) → Reading → Type 0
TakesFront result payload rest new =
    MatchResult result (λ after. (length after.now < length rest) × IsReading payload after.now new) (λ e. StopsReading e payload)

-- the numbers of each pair have forms
abbrev pub HaveForms : List (ℕ × ℕ) → Type 0
HaveForms ps = AllByRecursion (λ (p : ℕ × ℕ). (p.0 < 2 ^ 62) × (p.1 < 2 ^ 62)) ps
