-- A SETTINGS frame that was read.
use Rattle.std.proofs.Common.{◌≡◌, ℕ, List, refl, sym, ap, Result, Ok, Err}
use Rattle.qh_base.proofs.Varints.{IsBytes}
use Rattle.qh_h3wire.specs.Frame.{TakesMemory, IsWholeRead}
use Rattle.qh_h3wire.specs.FrameAt.{with_settings}
use Rattle.qh_h3wire.specs.FrameFault.{frame_error}
use Rattle.qh_h3wire.specs.Settings.{PlainSettings, MeansSettings, HasNoFault}
use Rattle.qh_h3wire.specs.SettingsAt.{settings_at}
use Rattle.qh_h3wire.specs.SettingsReading.{RefusesSettings}
use Rattle.qh_h3wire.specs.SettingsValue.{plain_of}
use Rattle.qh_h3wire.specs.declared.frame.Frame.{Frame}
use Rattle.qh_h3wire.specs.declared.frame.Frame.TheVariants as frame
use Rattle.qh_h3wire.specs.declared.frame.FrameError.{FrameError}
use Rattle.qh_h3wire.specs.declared.settings.Settings.{Settings}
use Rattle.qh_h3wire.specs.declared.settings.SettingsError.{SettingsError}
use Rattle.qh_h3wire.specs.declared.settings.SettingsError.TheVariants.{Malformed, Repeated, Forbidden, Value, Memory}
use Rattle.qh_h3wire.proofs.SettingsRead.{means_read, at_fault, fault_read}

pub settings_whole : (payload : List ℕ) (s : Settings) → MeansSettings payload (plain_of s) → ◌≡◌ {A = Result Frame FrameError} (Ok (frame.Settings s)) (with_settings (settings_at payload))
settings_whole payload s m = ap with_settings (sym (means_read payload (plain_of s) m))

-- want of memory stands for no fault
with_memory : (payload : List ℕ) (r : Result PlainSettings SettingsError) → IsBytes payload → settings_at payload ≡ r → HasNoFault payload → TakesMemory (with_settings r)
with_memory payload (Ok s) are h none = tt
with_memory payload (Err e) are h none = absurd (none e (at_fault payload e are h))

pub settings_refused : (payload : List ℕ) (e : SettingsError) → IsBytes payload → RefusesSettings e payload → IsWholeRead (Err (frame_error e)) (with_settings (settings_at payload))
settings_refused payload Memory are h = with_memory payload (settings_at payload) are refl h
settings_refused payload Malformed are h = ap with_settings (sym (fault_read payload Malformed are h))
settings_refused payload (Repeated id) are h = ap with_settings (sym (fault_read payload (Repeated id) are h))
settings_refused payload (Forbidden id) are h = ap with_settings (sym (fault_read payload (Forbidden id) are h))
settings_refused payload (Value id value) are h = ap with_settings (sym (fault_read payload (Value id value) are h))
