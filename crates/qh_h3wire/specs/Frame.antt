-- What reading a frame tells (RFC 9114, sections 7.1 and 7.2).
use Rattle.std.specs.Prelude.{◌≡◌, ℕ, List, [], ◌∷◌, ◌++◌, take, Result, Ok, Err}
use Rattle.qh_spec.specs.HttpFrame.{HttpFrame, IsHttpFrame}
use Rattle.qh_spec.specs.Lists.{In}
use Rattle.qh_spec.specs.Spelling.{known_kinds}
use Rattle.qh_spec.specs.Varint.{IsVarint}
use Rattle.qh_spec.specs.HttpFrameTypes as types
use Rattle.qh_h3wire.specs.Settings.{PlainSettings, MeansSettings, IsSettingsFault, HasNoFault}
use Rattle.qh_h3wire.specs.SettingsValue.{settings_value}
use Rattle.qh_h3wire.specs.declared.frame.Frame.{Frame}
use Rattle.qh_h3wire.specs.declared.frame.Frame.TheVariants.{Headers, CancelPush, Settings, PushPromise, Goaway, MaxPushId, DataLen}
use Rattle.qh_h3wire.specs.declared.frame.FrameError.{FrameError}
use Rattle.qh_h3wire.specs.declared.frame.FrameError.TheVariants as error
use Rattle.qh_h3wire.specs.declared.settings.SettingsError.{SettingsError}

-- the type and the length of a DATA frame, in any forms (section 7.2.1)
pub record IsDataHeader (bytes : List ℕ) (n : ℕ) : Type 0 where
  pub kind_bytes : List ℕ
  pub length_bytes : List ℕ
  pub whole : bytes ≡ kind_bytes ++ length_bytes
  pub kind_is : IsVarint kind_bytes types.data_
  pub length_is : IsVarint length_bytes n

-- what a frame of another type means (sections 7.2.2 to 7.2.7), with ids in any form
pub data MeansFrame (f : HttpFrame) (frame : Frame) : Type 0 where
  headers : f.kind ≡ types.headers → frame ≡ Headers f.payload → MeansFrame f frame
  cancel_push : (id : ℕ) → f.kind ≡ types.cancel_push → IsVarint f.payload id → frame ≡ CancelPush id → MeansFrame f frame
  settings : (s : PlainSettings) → f.kind ≡ types.settings → MeansSettings f.payload s → frame ≡ Settings (settings_value s) → MeansFrame f frame
  push_promise : (id : ℕ) (id_bytes section : List ℕ) → f.kind ≡ types.push_promise → f.payload ≡ id_bytes ++ section → IsVarint id_bytes id → frame ≡ PushPromise id section → MeansFrame f frame
  goaway : (id : ℕ) → f.kind ≡ types.goaway → IsVarint f.payload id → frame ≡ Goaway id → MeansFrame f frame
  max_push_id : (id : ℕ) → f.kind ≡ types.max_push_id → IsVarint f.payload id → frame ≡ MaxPushId id → MeansFrame f frame

-- the fact for each answer, where it is that answer
abbrev pub IfFrame : Result Frame FrameError → (Frame → Type 0) → Type 0
IfFrame (Ok (DataLen n)) P = Unit {0}
IfFrame (Ok frame) P = P frame
IfFrame (Err e) P = Unit {0}

abbrev pub IfHeaders : Result Frame FrameError → (List ℕ → Type 0) → Type 0
IfHeaders (Ok (Headers section)) P = P section
IfHeaders _ P = Unit {0}

abbrev pub IfDataLen : Result Frame FrameError → (ℕ → Type 0) → Type 0
IfDataLen (Ok (DataLen n)) P = P n
IfDataLen _ P = Unit {0}

abbrev pub IfForbidden : Result Frame FrameError → (ℕ → Type 0) → Type 0
IfForbidden (Err (error.ForbiddenFrame kind)) P = P kind
IfForbidden _ P = Unit {0}

abbrev pub IfUnknown : Result Frame FrameError → (ℕ → Type 0) → Type 0
IfUnknown (Err (error.UnknownFrame kind)) P = P kind
IfUnknown _ P = Unit {0}

abbrev pub IfMalformed : Result Frame FrameError → Type 0 → Type 0
IfMalformed (Err error.Malformed) P = P
IfMalformed _ P = Unit {0}

abbrev pub IfSettingsError : Result Frame FrameError → (SettingsError → Type 0) → Type 0
IfSettingsError (Err (error.Settings e)) P = P e
IfSettingsError _ P = Unit {0}

abbrev pub IfIncomplete : Result Frame FrameError → Type 0 → Type 0
IfIncomplete (Err (error.Incomplete n)) P = P
IfIncomplete _ P = Unit {0}

-- the bytes are a frame that means this
pub record IsMeant (bytes : List ℕ) (frame : Frame) : Type 0 where
  pub http : HttpFrame
  pub is : IsHttpFrame bytes http
  pub means : MeansFrame http frame

-- the types that HTTP/2 had and HTTP/3 reserves (section 7.2.8)
abbrev pub reserved_kinds : List ℕ
reserved_kinds = types.http2_priority ∷ types.http2_ping ∷ types.http2_window_update ∷ types.http2_continuation ∷ []

-- a frame of a reserved type
pub record IsReservedFrame (bytes : List ℕ) (kind : ℕ) : Type 0 where
  pub payload : List ℕ
  pub is : IsHttpFrame bytes (record { kind = kind; payload = payload })
  pub reserved : In kind reserved_kinds

-- a frame of a type that has no meaning
pub record IsUnknownFrame (bytes : List ℕ) (kind : ℕ) : Type 0 where
  pub payload : List ℕ
  pub is : IsHttpFrame bytes (record { kind = kind; payload = payload })
  pub unknown : In kind known_kinds → ⊥

-- the types whose payload begins with an id
abbrev pub id_kinds : List ℕ
id_kinds = types.cancel_push ∷ types.push_promise ∷ types.goaway ∷ types.max_push_id ∷ []

-- a frame with an id, whose payload means nothing
pub record IsMalformedFrame (bytes : List ℕ) : Type 0 where
  pub http : HttpFrame
  pub is : IsHttpFrame bytes http
  pub has_id : In http.kind id_kinds
  pub meaningless : (frame : Frame) → MeansFrame http frame → ⊥

-- a SETTINGS frame with this fault
pub record IsFaultySettings (bytes : List ℕ) (e : SettingsError) : Type 0 where
  pub payload : List ℕ
  pub is : IsHttpFrame bytes (record { kind = types.settings; payload = payload })
  pub fault : IsSettingsFault payload e

-- if the bytes begin with a SETTINGS frame, nothing is wrong with its payload
abbrev pub HasSoundSettings : List ℕ → Type 0
HasSoundSettings bytes = (k : ℕ) (payload : List ℕ) → IsHttpFrame (take k bytes) (record { kind = types.settings; payload = payload }) → HasNoFault payload

-- no front of the bytes is a frame, nor the header of a DATA frame
pub record HasNoFrame (bytes : List ℕ) : Type 0 where
  pub no_frame : (k : ℕ) (f : HttpFrame) → IsHttpFrame (take k bytes) f → ⊥
  pub no_data_header : (k n : ℕ) → IsDataHeader (take k bytes) n → ⊥

-- the answers in whose place want of memory may be told: the frames that keep a payload, and settings
abbrev pub TakesMemory : Result Frame FrameError → Type 0
TakesMemory (Ok (Headers section)) = Unit {0}
TakesMemory (Ok (PushPromise id section)) = Unit {0}
TakesMemory (Ok (Settings s)) = Unit {0}
TakesMemory _ = ⊥

-- the answer about a whole frame is the expected one, but for want of memory
abbrev pub IsWholeRead : Result Frame FrameError → Result Frame FrameError → Type 0
IsWholeRead (Err error.Memory) expected = TakesMemory expected
IsWholeRead answer expected = answer ≡ expected

-- the same of the answer and the count of bytes, of which want of memory uses none
abbrev pub IsRead : Result Frame FrameError → ℕ → Result Frame FrameError × ℕ → Type 0
IsRead (Err error.Memory) used expected = (used ≡ 0) × TakesMemory expected.0
IsRead answer used expected = (answer, used) ≡ expected
