-- What is written of a frame (RFC 9114, sections 7.1 and 7.2).
use Rattle.std.specs.Prelude.{ℕ, ◌<◌, ◌≤◌, ◌^◌, List, [], ◌++◌, length, codes, Result, Ok, Err}
use Rattle.qh_spec.specs.HttpFrame.{HttpFrame, http_frame, data_frame, headers_frame}
use Rattle.qh_spec.specs.Varint.{varint}
use Rattle.qh_spec.specs.HttpFrameTypes as types
use Rattle.qh_h3wire.specs.Settings.{PlainSettings, settings_bytes, AreWritable, settings_as_read}
use Rattle.qh_h3wire.specs.SettingsValue.{plain_of, settings_value}
use Rattle.qh_h3wire.specs.declared.frame.Frame.{Frame}
use Rattle.qh_h3wire.specs.declared.frame.Frame.TheVariants.{Data, Headers, CancelPush, Settings, PushPromise, Goaway, MaxPushId, Grease, DataLen}
use Rattle.qh_h3wire.specs.declared.frame.FrameError.{FrameError}
use Rattle.qh_h3wire.specs.declared.frame.FrameError.TheVariants.{UnknownFrame}

-- each number, and the length of each payload, has a form
abbrev pub IsWritable : Frame → Type 0
IsWritable (Data payload) = length payload < 2 ^ 62
IsWritable (Headers section) = length section < 2 ^ 62
IsWritable (CancelPush id) = id < 2 ^ 62
IsWritable (Settings s) = AreWritable (plain_of s)
IsWritable (PushPromise id section) = (id < 2 ^ 62) × (length (varint id ++ section) < 2 ^ 62)
IsWritable (Goaway id) = id < 2 ^ 62
IsWritable (MaxPushId id) = id < 2 ^ 62
IsWritable Grease = Unit {0}
IsWritable (DataLen n) = n < 2 ^ 62

-- settings have room for eight others, so that their payload's length has a form too
abbrev pub IsInRoom : Frame → Type 0
IsInRoom (Settings s) = length s.other.items ≤ 8
IsInRoom _ = Unit {0}

-- CANCEL_PUSH (section 7.2.3)
abbrev pub cancel_push_frame : ℕ → HttpFrame
cancel_push_frame id = record { kind = types.cancel_push; payload = varint id }

-- SETTINGS (section 7.2.4)
abbrev pub settings_frame : PlainSettings → HttpFrame
settings_frame s = record { kind = types.settings; payload = settings_bytes s }

-- PUSH_PROMISE (section 7.2.5)
abbrev pub push_promise_frame : ℕ → List ℕ → HttpFrame
push_promise_frame id section = record { kind = types.push_promise; payload = varint id ++ section }

-- GOAWAY (section 7.2.6)
abbrev pub goaway_frame : ℕ → HttpFrame
goaway_frame id = record { kind = types.goaway; payload = varint id }

-- MAX_PUSH_ID (section 7.2.7)
abbrev pub max_push_id_frame : ℕ → HttpFrame
max_push_id_frame id = record { kind = types.max_push_id; payload = varint id }

-- a frame of a type that readers skip (section 7.2.8)
abbrev pub grease_frame : HttpFrame
grease_frame = record { kind = types.grease; payload = codes "grease" }

-- a whole frame with the shortest numbers; of a DATA frame whose payload follows the type and the length
abbrev pub frame_bytes : Frame → List ℕ
frame_bytes (Data payload) = http_frame (data_frame payload)
frame_bytes (Headers section) = http_frame (headers_frame section)
frame_bytes (CancelPush id) = http_frame (cancel_push_frame id)
frame_bytes (Settings s) = http_frame (settings_frame (plain_of s))
frame_bytes (PushPromise id section) = http_frame (push_promise_frame id section)
frame_bytes (Goaway id) = http_frame (goaway_frame id)
frame_bytes (MaxPushId id) = http_frame (max_push_id_frame id)
frame_bytes Grease = http_frame grease_frame
frame_bytes (DataLen n) = varint types.data_ ++ varint n

-- what reading a written frame gives: of a DATA frame the length alone, and of a frame to be skipped its type
abbrev pub as_read : Frame → Result Frame FrameError
as_read (Data payload) = Ok (DataLen (length payload))
as_read (Settings s) = Ok (Settings (settings_value (settings_as_read (plain_of s))))
as_read Grease = Err (UnknownFrame types.grease)
as_read frame = Ok frame

-- and the bytes that it uses
abbrev pub used_bytes : Frame → List ℕ
used_bytes (Data payload) = varint types.data_ ++ varint (length payload)
used_bytes frame = frame_bytes frame

-- the payload that a frame shares with its owner
abbrev pub shared_payload : Frame → List ℕ
shared_payload (Data payload) = payload
shared_payload (Headers section) = section
shared_payload (PushPromise id section) = section
shared_payload _ = []

-- and what is written in front of it
abbrev pub head_bytes : Frame → List ℕ
head_bytes (Data payload) = varint types.data_ ++ varint (length payload)
head_bytes (Headers section) = varint types.headers ++ varint (length section)
head_bytes (PushPromise id section) = varint types.push_promise ++ (varint (length (varint id ++ section)) ++ varint id)
head_bytes frame = frame_bytes frame
