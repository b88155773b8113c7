-- Reading a frame, as a function on lists.
use Rattle.std.specs.Prelude.{ℕ, ◌+◌, ◌==◌, ◌||◌, nat_lt, Bool, List, length, take, drop, Option, Some, None, Result, Ok, Err, if◌then◌else◌}
use Rattle.qh_base.specs.Varint.{varint_at}
use Rattle.qh_spec.specs.HttpFrameTypes as types
use Rattle.qh_h3wire.specs.Pair.{pair_at}
use Rattle.qh_h3wire.specs.Settings.{PlainSettings}
use Rattle.qh_h3wire.specs.SettingsAt.{settings_at}
use Rattle.qh_h3wire.specs.SettingsValue.{settings_value}
use Rattle.qh_h3wire.specs.declared.frame.Frame.{Frame}
use Rattle.qh_h3wire.specs.declared.frame.Frame.TheVariants.{Headers, CancelPush, Settings, PushPromise, Goaway, MaxPushId, DataLen}
use Rattle.qh_h3wire.specs.declared.frame.FrameError.{FrameError}
use Rattle.qh_h3wire.specs.declared.frame.FrameError.TheVariants as error
use Rattle.qh_h3wire.specs.declared.pair.Pair.{Pair}
use Rattle.qh_h3wire.specs.declared.settings.SettingsError.{SettingsError}

-- the id that takes so many bytes
abbrev pub id_of : Option (ℕ × ℕ) → ℕ → Result ℕ FrameError
id_of None size = Err error.Malformed
id_of (Some found) size = if found.1 == size then Ok found.0 else Err error.Malformed

-- the id that is a whole payload
abbrev pub id_at : List ℕ → Result ℕ FrameError
id_at payload = id_of (varint_at payload) (length payload)

-- a frame with an id
abbrev pub with_id : (ℕ → Frame) → Result ℕ FrameError → Result Frame FrameError
with_id make (Ok id) = Ok (make id)
with_id make (Err e) = Err e

abbrev pub with_settings : Result PlainSettings SettingsError → Result Frame FrameError
with_settings (Ok s) = Ok (Settings (settings_value s))
with_settings (Err e) = Err (error.Settings e)

-- a promise, where an id begins the payload
abbrev pub promise_from : Option (ℕ × ℕ) → List ℕ → Result Frame FrameError
promise_from None payload = Err error.Malformed
promise_from (Some found) payload = Ok (PushPromise found.0 (drop found.1 payload))

-- the types that HTTP/2 had and HTTP/3 reserves (section 7.2.8)
abbrev pub is_reserved_kind : ℕ → Bool
is_reserved_kind kind =
    (kind == types.http2_priority) || ((kind == types.http2_ping) || ((kind == types.http2_window_update) || (kind == types.http2_continuation)))

-- a frame of a type that has no meaning here
abbrev pub of_other_kind : ℕ → Result Frame FrameError
of_other_kind kind = if is_reserved_kind kind then Err (error.ForbiddenFrame kind) else Err (error.UnknownFrame kind)

-- a frame that isn't DATA, with its payload
abbrev pub whole_frame : ℕ → List ℕ → Result Frame FrameError
whole_frame kind payload =
    if kind == types.headers then Ok (Headers payload) else if kind == types.cancel_push then with_id CancelPush (id_at payload) else if kind == types.settings then with_settings (settings_at payload)
    else if kind == types.push_promise then promise_from (varint_at payload) payload else if kind == types.goaway then with_id Goaway (id_at payload)
    else if kind == types.max_push_id then with_id MaxPushId (id_at payload) else of_other_kind kind

-- what follows from the type and the length, which are the two numbers in front
abbrev pub frame_after : Pair → List ℕ → Result Frame FrameError × ℕ
frame_after p bytes =
    if p.first == types.data_ then (Ok (DataLen p.second), p.size)
    else if nat_lt (length (drop p.size bytes)) p.second then (Err (error.Incomplete (p.second + 2)), 0)
    else (whole_frame p.first (take p.second (drop p.size bytes)), p.size + p.second)

abbrev pub frame_from : Option Pair → List ℕ → Result Frame FrameError × ℕ
frame_from None bytes = (Err (error.Incomplete (length bytes + 1)), 0)
frame_from (Some p) bytes = frame_after p bytes

-- the frame that begins the bytes, or why there is none, and how many bytes are used
unfoldable pub frame_at : List ℕ → Result Frame FrameError × ℕ
frame_at bytes = frame_from (pair_at bytes) bytes
