-- What a control stream may bring (RFC 9114, sections 6.2.1 and 7.2).
use Rattle.std.specs.Prelude.{◌≡◌, ℕ, Bool, true, false, Option, Some, None, Result, Ok, Err}
use Rattle.futures.specs.declared.task.Poll.{Poll}
use Rattle.futures.specs.declared.task.Poll.TheVariants.{Ready, Pending}
use Rattle.qh_base.specs.declared.code.Code.{Code}
use Rattle.qh_spec.specs.Codes as codes
use Rattle.qh_h3wire.specs.FrameFault.{code_of}
use Rattle.qh_h3wire.specs.declared.frame.Frame.{Frame}
use Rattle.qh_h3wire.specs.declared.frame.Frame.TheVariants.{Goaway, CancelPush, MaxPushId}
use Rattle.qh_h3wire.specs.declared.frame.Frame.TheVariants as frames
use Rattle.qh_h3.specs.declared.error.ErrorOrigin.{ErrorOrigin}
use Rattle.qh_h3.specs.declared.error.ErrorOrigin.TheVariants as origin
use Rattle.qh_h3.specs.declared.frame.error.FrameStreamError.{FrameStreamError}
use Rattle.qh_h3.specs.declared.frame.error.FrameStreamError.TheVariants.{Quic, Proto, UnexpectedEnd, Memory}
use Rattle.qh_h3.specs.declared.quic.error.ConnectionErrorIncoming.TheVariants as lost
use Rattle.qh_h3.specs.declared.quic.error.StreamErrorIncoming.{StreamErrorIncoming}
use Rattle.qh_h3.specs.declared.quic.error.StreamErrorIncoming.TheVariants as fault

-- an error of this end with this code; what is said of it is free
abbrev pub HasCode : ℕ → ErrorOrigin → Type 0
HasCode code (origin.Internal e) = e.code.0 ≡ code
HasCode code (origin.Quic e) = ⊥

module _ {T : Type 0} where
  -- the connection ends with this code
  abbrev pub EndsWith : ℕ → Result T ErrorOrigin → Type 0
  EndsWith code (Ok x) = ⊥
  EndsWith code (Err e) = HasCode code e

  -- the same with the code of a frame that is refused
  abbrev pub EndsAs : Option Code → Result T ErrorOrigin → Type 0
  EndsAs (Some code) r = EndsWith code.0 r
  EndsAs None r = ⊥

-- a fault of a stream that may not close while the connection lasts (section 6.2.1; RFC 9204, section 4.2)
abbrev pub IsCritical : StreamErrorIncoming → ErrorOrigin → Type 0
IsCritical (fault.ConnectionErrorIncoming e) r = r ≡ origin.Quic e
IsCritical (fault.StreamTerminated code) r = HasCode codes.h3_closed_critical_stream r
IsCritical (fault.Unknown f) r = HasCode codes.h3_closed_critical_stream r
IsCritical fault.Memory r = r ≡ origin.Quic lost.Memory

-- What the next frame of a control stream gives, and whether the peer's SETTINGS came before it.
abbrev pub IsControl : (had_settings : Bool) → Result (Option Frame) FrameStreamError → Result Frame ErrorOrigin → Type 0
IsControl false (Ok (Some (frames.Settings s))) r = r ≡ Ok (frames.Settings s)
IsControl true (Ok (Some (frames.Settings s))) r = EndsWith codes.h3_frame_unexpected r
IsControl false (Ok (Some f)) r = EndsWith codes.h3_missing_settings r
IsControl true (Ok (Some (Goaway id))) r = r ≡ Ok (Goaway id)
IsControl true (Ok (Some (CancelPush id))) r = r ≡ Ok (CancelPush id)
IsControl true (Ok (Some (MaxPushId id))) r = r ≡ Ok (MaxPushId id)
IsControl true (Ok (Some f)) r = EndsWith codes.h3_frame_unexpected r
IsControl had_settings (Ok None) r = EndsWith codes.h3_closed_critical_stream r
IsControl had_settings (Err UnexpectedEnd) r = EndsWith codes.h3_frame_error r
IsControl had_settings (Err (Proto e)) r = EndsAs (code_of e) r
IsControl had_settings (Err (Quic e)) (Ok f) = ⊥
IsControl had_settings (Err (Quic e)) (Err r) = IsCritical e r
IsControl had_settings (Err Memory) r = r ≡ Err (origin.Quic lost.Memory)

-- a frame that is refused has a code
abbrev pub HasItsCode : Result (Option Frame) FrameStreamError → Type 0
HasItsCode (Err (Proto e)) = (code : Code) × (code_of e ≡ Some code)
HasItsCode other = Unit {0}

-- it is SETTINGS
abbrev pub is_settings : Frame → Bool
is_settings (frames.Settings s) = true
is_settings f = false

-- the same of a call that may have to wait
abbrev pub IsJudged : (had_settings : Bool) → Poll (Result (Option Frame) FrameStreamError) → Poll (Result Frame ErrorOrigin) → Type 0
IsJudged had_settings (Ready r) (Ready x) = IsControl had_settings r x
IsJudged had_settings (Ready r) Pending = ⊥
IsJudged had_settings Pending (Ready x) = ⊥
IsJudged had_settings Pending Pending = Unit {0}
