-- A stream whose bytes are read for its end alone (RFC 9204, section 4.2).
use Rattle.std.specs.Prelude.{◌≡◌, ◌+◌, ℕ, Bool, true, List, [], Option, Result, Ok, Err}
use Rattle.futures.specs.declared.task.Poll.{Poll}
use Rattle.futures.specs.declared.task.Poll.TheVariants.{Ready, Pending}
use Rattle.qh_spec.specs.Codes as codes
use Rattle.qh_h3.specs.Control.{HasCode, IsCritical}
use Rattle.qh_h3.specs.Counts.{Counts}
use Rattle.qh_h3.specs.Frames.{Held, IsCounted, IsTaken}
use Rattle.qh_h3.specs.Streams.{Received, Taken}
use Rattle.qh_h3.specs.declared.error.ErrorOrigin.{ErrorOrigin}
use Rattle.qh_h3.specs.declared.error.ErrorOrigin.TheVariants as origin
use Rattle.qh_h3.specs.declared.frame.error.FrameStreamError.{FrameStreamError}
use Rattle.qh_h3.specs.declared.frame.error.FrameStreamError.TheVariants.{Quic, Memory}
use Rattle.qh_h3.specs.declared.quic.error.ConnectionErrorIncoming.TheVariants as lost

-- the end is answered only once it came, and no fault but the stream's
abbrev pub IsEndAnswer : Poll (Result (Unit {0}) FrameStreamError) → Held → Type 0
IsEndAnswer (Ready (Ok done)) new = new.is_ended ≡ true
IsEndAnswer (Ready (Err (Quic e))) new = Unit {0}
IsEndAnswer (Ready (Err Memory)) new = Unit {0}
IsEndAnswer (Ready (Err other)) new = ⊥
IsEndAnswer Pending new = Unit {0}

-- A call looked for the end of a stream: what was held and taken is dropped.
pub record IsDrained (answer : Poll (Result (Unit {0}) FrameStreamError)) (limit spared : ℕ) (before after : Option Received) (counts_old counts_new : Counts) (old new : Held) : Type 0 where
  pub took : Taken
  pub count : ℕ
  pub taken : IsTaken took count before after old new
  pub bytes : new.bytes ≡ []
  pub is : IsEndAnswer answer new
  pub counted : IsCounted spared count answer counts_old counts_new
  pub within : count + spared ≡ limit

-- the end of an encoder or a decoder stream ends the connection, as its faults do
abbrev pub IsQpackFault : Result (Unit {0}) FrameStreamError → ErrorOrigin → Type 0
IsQpackFault (Ok done) r = HasCode codes.h3_closed_critical_stream r
IsQpackFault (Err (Quic e)) r = IsCritical e r
IsQpackFault (Err Memory) r = r ≡ origin.Quic lost.Memory
IsQpackFault (Err other) r = HasCode codes.h3_closed_critical_stream r
