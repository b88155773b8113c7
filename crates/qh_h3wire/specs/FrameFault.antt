-- Faults of frames, and their error codes (RFC 9114, section 8.1).
use Rattle.std.specs.Prelude.{Option, Some, None}
use Rattle.qh_base.specs.declared.code.Code.{Code}
use Rattle.qh_spec.specs.Codes as codes
use Rattle.qh_h3wire.specs.declared.frame.FrameError.{FrameError}
use Rattle.qh_h3wire.specs.declared.frame.FrameError.TheVariants.{Malformed, ForbiddenFrame, UnknownFrame, InvalidFrameValue, Incomplete, Settings, InvalidStreamId, InvalidPushId, Memory}
use Rattle.qh_h3wire.specs.declared.settings.SettingsError.{SettingsError}
use Rattle.qh_h3wire.specs.declared.settings.SettingsError.TheVariants as error

-- the fault of a frame whose settings have this fault
abbrev pub frame_error : SettingsError → FrameError
frame_error error.Memory = Memory
frame_error e = Settings e

abbrev pub unexpected : Code
unexpected = record { 0 = codes.h3_frame_unexpected }

abbrev pub broken : Code
broken = record { 0 = codes.h3_frame_error }

abbrev pub wrong_id : Code
wrong_id = record { 0 = codes.h3_id_error }

abbrev pub wrong_settings : Code
wrong_settings = record { 0 = codes.h3_settings_error }

-- the code with which a connection is closed; a frame that is cut has it where the stream ends there (section 7.1)
abbrev pub code_of : FrameError → Option Code
code_of Malformed = Some broken
code_of (ForbiddenFrame kind) = Some unexpected
code_of (UnknownFrame kind) = None
code_of InvalidFrameValue = Some broken
code_of (Incomplete n) = Some broken
code_of (Settings e) = Some wrong_settings
code_of (InvalidStreamId id) = Some wrong_id
code_of (InvalidPushId id) = Some wrong_id
code_of Memory = None
