-- What a buffer holds, in two pieces.
use Rattle.std.specs.Prelude.{◌≡◌, ◌≢◌, ◌⊎◌, ◌++◌, ◌+◌, ◌<◌, List, [], length, ℕ, Bool, true, false, Option, Some, None, Result, Ok, Err}
use Rattle.futures.specs.declared.task.Poll.{Poll}
use Rattle.futures.specs.declared.task.Poll.TheVariants.{Ready, Pending}
use Rattle.qh_h3wire.specs.declared.frame.Frame.{Frame}
use Rattle.qh_h3.specs.Counts.{Counts}
use Rattle.qh_h3.specs.Finding.{IsFound, left_of}
use Rattle.qh_h3.specs.Frames.{Held, IsPiece}
use Rattle.qh_h3.specs.Streams.{Received}
use Rattle.qh_h3.specs.declared.frame.buffer.Buffer.{Buffer}
use Rattle.qh_h3.specs.declared.frame.error.FrameStreamError.{FrameStreamError}
use Rattle.qh_h3.specs.declared.frame.error.FrameStreamError.TheVariants.{UnexpectedEnd}

abbrev pub held_of : Buffer → Held
held_of b = record { bytes = b.front ++ b.more; left = b.left; is_ended = b.is_ended }

-- how much payload is to come behind what was found
abbrev pub left_by : Result (Option Frame) FrameStreamError → ℕ
left_by (Ok (Some f)) = left_of f
left_by other = 0

-- a frame was looked for in what is held
pub record IsLook (of_body : Bool) (answer : Result (Option Frame) FrameStreamError) (old new : Held) : Type 0 where
  pub found : IsFound of_body answer old.bytes new.bytes
  pub left : new.left ≡ left_by answer
  pub is_ended : new.is_ended ≡ old.is_ended

-- at the end of the stream
abbrev pub IsAtEnd : Result (Option Frame) FrameStreamError → Held → Type 0
IsAtEnd (Ok None) h = h.bytes ≡ []
IsAtEnd (Ok (Some f)) h = ⊥
IsAtEnd (Err UnexpectedEnd) h = h.bytes ≢ []
IsAtEnd (Err other) h = ⊥

-- A byte is in front: it was there, and then nothing was taken, or a piece was taken. Without a byte nothing is held.
abbrev pub IsBrought : Poll (Result Bool FrameStreamError) → Buffer → Type 0
IsBrought (Ready (Ok true)) new = 0 < length new.front
IsBrought other new = new.front ++ new.more ≡ []

abbrev pub IsFilled : Poll (Result Bool FrameStreamError) → (before after : Option Received) → (counts_old counts_new : Counts) → (old new : Buffer) → Type 0
IsFilled answer before after counts_old counts_new old new =
    IsBrought answer new × (((answer ≡ Ready (Ok true)) × (after ≡ before) × (counts_new ≡ counts_old) × (held_of new ≡ held_of old)) ⊎ IsPiece answer before after counts_old counts_new (held_of old) (held_of new))
