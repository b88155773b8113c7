-- A frame that is refused has a code.
use Rattle.std.proofs.Common.{◌≡◌, ℕ, Bool, List, refl, Option, Some, None, Result, Ok, Err}
use Rattle.futures.specs.declared.task.Poll.TheVariants.{Ready, Pending}
use Rattle.qh_base.specs.declared.code.Code.{Code}
use Rattle.qh_h3wire.specs.FrameFault.{code_of}
use Rattle.qh_h3wire.specs.declared.frame.Frame.{Frame}
use Rattle.qh_h3wire.specs.declared.frame.FrameError.{FrameError}
use Rattle.qh_h3wire.specs.declared.frame.FrameError.TheVariants as error
use Rattle.qh_h3.specs.Control.{HasItsCode}
use Rattle.qh_h3.specs.Finding.{IsRefused}
use Rattle.qh_h3.specs.Frames.{Held, IsAnswer}
use Rattle.qh_h3.specs.declared.frame.error.FrameStreamError.{FrameStreamError}
use Rattle.qh_h3.specs.declared.frame.error.FrameStreamError.TheVariants.{Quic, Proto, UnexpectedEnd, Memory}

refused_code : (bytes : List ℕ) (e : FrameError) → IsRefused bytes e → (code : Code) × (code_of e ≡ Some code)
refused_code bytes error.Malformed r = (_, refl)
refused_code bytes (error.ForbiddenFrame kind) r = (_, refl)
refused_code bytes (error.UnknownFrame kind) r = absurd r
refused_code bytes error.InvalidFrameValue r = (_, refl)
refused_code bytes (error.Incomplete n) r = absurd r
refused_code bytes (error.Settings e) r = (_, refl)
refused_code bytes (error.InvalidStreamId id) r = (_, refl)
refused_code bytes (error.InvalidPushId id) r = (_, refl)
refused_code bytes error.Memory r = absurd r

pub coded : (of_body : Bool) (found : Result (Option Frame) FrameStreamError) (behind : List ℕ) (new : Held) → IsAnswer of_body (Ready found) behind new → HasItsCode found
coded of_body (Ok (Some f)) behind new a = tt
coded of_body (Ok None) behind new a = tt
coded of_body (Err (Proto e)) behind new a = refused_code behind e a.1
coded of_body (Err (Quic e)) behind new a = tt
coded of_body (Err UnexpectedEnd) behind new a = tt
coded of_body (Err Memory) behind new a = tt
