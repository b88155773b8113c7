-- Reading settings, as a function on lists.
use Rattle.std.specs.Prelude.{ℕ, zero, suc, ◌==◌, ◌&&◌, ◌||◌, nat_lt, nat_le, Bool, false, List, [], ◌∷◌, ◌++◌, length, drop, Option, Some, None, Result, Ok, Err, if◌then◌else◌}
use Rattle.qh_h3wire.specs.Pair.{pair_at}
use Rattle.qh_h3wire.specs.Settings.{Entry, PlainSettings, settings_of}
use Rattle.qh_h3wire.specs.SettingsIds as ids
use Rattle.qh_h3wire.specs.declared.pair.Pair.{Pair}
use Rattle.qh_h3wire.specs.declared.settings.SettingsError.{SettingsError}
use Rattle.qh_h3wire.specs.declared.settings.SettingsError.TheVariants.{Malformed, Repeated, Forbidden, Value}

abbrev pub is_reserved : ℕ → Bool
is_reserved id = nat_le 2 id && nat_le id 5

abbrev pub is_flag : ℕ → Bool
is_flag id = (id == ids.enable_connect_protocol) || (id == ids.h3_datagram)

-- an entry has this id
abbrev pub has_id : ℕ → List Entry → Bool
has_id id [] = false
has_id id (e ∷ es) = (e.id == id) || has_id id es

-- why an entry may stand nowhere
abbrev pub own_fault : Entry → Option SettingsError
own_fault e =
    if is_reserved e.id then Some (Forbidden e.id) else if is_flag e.id then (if nat_lt 1 e.value then Some (Value e.id e.value) else None) else None

-- why an entry may not stand behind these
abbrev pub fault_of : List Entry → Entry → Option SettingsError
fault_of front e = if has_id e.id front then Some (Repeated e.id) else own_fault e

abbrev pub entry_of : Pair → Entry
entry_of p = record { id = p.first; value = p.second }

-- what is read where the entry has no fault
abbrev pub unless_fault : Option SettingsError → Result PlainSettings SettingsError → Result PlainSettings SettingsError
unless_fault None r = r
unless_fault (Some e) r = Err e

-- what is read behind an entry, where one is there
abbrev pub after_entry : Option Pair → (Pair → Result PlainSettings SettingsError) → Result PlainSettings SettingsError
after_entry None go = Err Malformed
after_entry (Some p) go = go p

-- What entries and the bytes behind them mean, in so many steps, of which each takes an entry.
abbrev pub settings_from : ℕ → List Entry → List ℕ → Result PlainSettings SettingsError
settings_from steps front [] = Ok (settings_of front)
settings_from zero front (b ∷ bs) = Err Malformed
settings_from (suc steps) front (b ∷ bs) =
    after_entry (pair_at (b ∷ bs)) (λ p. unless_fault (fault_of front (entry_of p)) (settings_from steps (front ++ entry_of p ∷ []) (drop p.size (b ∷ bs))))

-- what a payload means, or why it is refused; an entry has a byte, so that there are steps enough
unfoldable pub settings_at : List ℕ → Result PlainSettings SettingsError
settings_at payload = settings_from (length payload) [] payload
