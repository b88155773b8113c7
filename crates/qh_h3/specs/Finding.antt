-- Which frame stands next in bytes (RFC 9114, section 7.1), and what readers skip before it (section 9).
use Rattle.std.specs.Prelude.{◌≡◌, ◌⊎◌, ◌&&◌, ◌==◌, ℕ, Bool, true, false, List, [], ◌++◌, take, Option, Some, None, Result, Ok, Err}
use Rattle.std.specs.List.{AllByRecursion}
use Rattle.qh_spec.specs.HttpFrame.{HttpFrame, IsHttpFrame, AreHttpFrames, data_frame}
use Rattle.qh_spec.specs.Lists.{In}
use Rattle.qh_spec.specs.Spelling.{known_kinds}
use Rattle.qh_h3wire.specs.Frame.{IsDataHeader, IsMeant, IsReservedFrame, IsMalformedFrame, IsFaultySettings, HasNoFrame}
use Rattle.qh_h3wire.specs.FrameAt.{frame_at}
use Rattle.qh_h3wire.specs.declared.frame.Frame.{Frame}
use Rattle.qh_h3wire.specs.declared.frame.Frame.TheVariants.{DataLen}
use Rattle.qh_h3wire.specs.declared.frame.FrameError.{FrameError}
use Rattle.qh_h3wire.specs.declared.frame.FrameError.TheVariants as error
use Rattle.qh_h3.specs.declared.frame.error.FrameStreamError.{FrameStreamError}
use Rattle.qh_h3.specs.declared.frame.error.FrameStreamError.TheVariants.{Proto, Memory}
use Rattle.qh_h3.specs.declared.frame.find.Step.{Step}
use Rattle.qh_h3.specs.declared.frame.find.Step.TheVariants as step

-- Each reader skips a frame of an unknown type. The reader of a body passes over a DATA frame without a byte too.
abbrev pub IsSkipped : (of_body : Bool) → HttpFrame → Type 0
IsSkipped of_body f = (In f.kind known_kinds → ⊥) ⊎ ((of_body ≡ true) × (f ≡ data_frame []))

-- frames that are skipped stand before these bytes
pub record Skips (of_body : Bool) (bytes behind : List ℕ) : Type 0 where
  pub frames : List HttpFrame
  pub front : List ℕ
  pub whole : bytes ≡ front ++ behind
  pub framed : AreHttpFrames front frames
  pub each : AllByRecursion (IsSkipped of_body) frames

-- what is used up of a frame that is handed out: of a DATA frame its type and its length
abbrev pub IsHead : List ℕ → Frame → Type 0
IsHead bytes (DataLen n) = IsDataHeader bytes n
IsHead bytes frame = IsMeant bytes frame

-- a DATA frame without a byte, which this reader passes over
abbrev pub is_passed : (of_body : Bool) → Frame → Bool
is_passed of_body (DataLen n) = of_body && (n == 0)
is_passed of_body frame = false

-- how much of a DATA frame's payload is to come
abbrev pub left_of : Frame → ℕ
left_of (DataLen n) = n
left_of frame = 0

abbrev pub is_unknown : FrameError → Bool
is_unknown (error.UnknownFrame kind) = true
is_unknown e = false

abbrev pub is_short : FrameError → Bool
is_short (error.Incomplete n) = true
is_short e = false

-- the fault with which the frame in front is refused
abbrev pub IsRefused : List ℕ → FrameError → Type 0
IsRefused bytes error.Malformed = (size : ℕ) × IsMalformedFrame (take size bytes)
IsRefused bytes (error.ForbiddenFrame kind) = (size : ℕ) × IsReservedFrame (take size bytes) kind
IsRefused bytes (error.Settings e) = (size : ℕ) × IsFaultySettings (take size bytes) e
IsRefused bytes (error.UnknownFrame kind) = ⊥
IsRefused bytes (error.Incomplete n) = ⊥
IsRefused bytes error.Memory = ⊥
IsRefused bytes e = (size : ℕ) × (frame_at bytes ≡ (Err e, size))

-- the fault of a frame stream
abbrev pub fault_of : FrameError → FrameStreamError
fault_of error.Memory = Memory
fault_of e = Proto e

-- nothing is found in front: its frame is refused, or memory is wanted
abbrev pub IsHalt : List ℕ → FrameStreamError → Type 0
IsHalt bytes (Proto e) = IsRefused bytes e
IsHalt bytes Memory = Unit {0}
IsHalt bytes other = ⊥

-- what was found in front of the bytes, of which a rest is left
abbrev pub IsStep : (of_body : Bool) → Step → (bytes rest : List ℕ) → Type 0
IsStep of_body step.Skipped bytes rest = (f : HttpFrame) × (front : List ℕ) × (bytes ≡ front ++ rest) × IsHttpFrame front f × IsSkipped of_body f
IsStep of_body (step.Found f) bytes rest = (head : List ℕ) × (bytes ≡ head ++ rest) × IsHead head f × (is_passed of_body f ≡ false)
IsStep of_body step.Short bytes rest = (rest ≡ bytes) × HasNoFrame bytes
IsStep of_body (step.Halted e) bytes rest = (rest ≡ bytes) × IsHalt bytes e

-- the same, once nothing more is skipped
abbrev pub Finds : (of_body : Bool) → Result (Option Frame) FrameStreamError → (bytes rest : List ℕ) → Type 0
Finds of_body (Ok (Some f)) bytes rest = IsStep of_body (step.Found f) bytes rest
Finds of_body (Ok None) bytes rest = IsStep of_body step.Short bytes rest
Finds of_body (Err e) bytes rest = IsStep of_body (step.Halted e) bytes rest

-- frames were skipped, and then this was found
pub record IsFound (of_body : Bool) (answer : Result (Option Frame) FrameStreamError) (bytes rest : List ℕ) : Type 0 where
  pub behind : List ℕ
  pub skips : Skips of_body bytes behind
  pub finds : Finds of_body answer behind rest
