-- What a frame stream did with its stream (own; RFC 9114, section 7.1).
use Rattle.std.specs.Prelude.{◌≡◌, ◌≢◌, ◌⊎◌, ◌<◌, ◌≤◌, ◌+◌, ℕ, Bool, true, false, ◌||◌, List, [], ◌++◌, length, Option, Some, None, Result, Ok, Err}
use Rattle.futures.specs.declared.task.Poll.{Poll}
use Rattle.futures.specs.declared.task.Poll.TheVariants.{Ready, Pending}
use Rattle.qh_h3wire.specs.Frame.{IsDataHeader, HasNoFrame, IsMeant}
use Rattle.qh_h3wire.specs.declared.frame.Frame.{Frame}
use Rattle.qh_h3.specs.Counts.{Counts, failing, taking, taking_all, waiting}
use Rattle.qh_h3.specs.Faults.{IsFault}
use Rattle.qh_h3.specs.Finding.{IsHead, IsRefused, Skips, is_passed, left_of}
use Rattle.qh_h3.specs.Streams.{Received, Taken, nothing, reading, told}
use Rattle.qh_h3.specs.declared.frame.error.FrameStreamError.{FrameStreamError}
use Rattle.qh_h3.specs.declared.frame.error.FrameStreamError.TheVariants.{Quic, Proto, UnexpectedEnd, Memory}

-- what was taken of a stream and not handed out
pub record Held : Type 0 where
  pub bytes : List ℕ
  -- how much of these, and of what follows, is payload of the DATA frame at hand
  pub left : ℕ
  -- the end of the stream was taken
  pub is_ended : Bool

-- a call took this of the stream, in so many pieces
pub record IsTaken (took : Taken) (count : ℕ) (before after : Option Received) (old new : Held) : Type 0 where
  pub told_is : after ≡ told (reading took) before
  pub is_ended : new.is_ended ≡ (old.is_ended || took.is_ended)
  pub pieces : count ≤ length took.bytes

module _ {T : Type 0} where
  -- What a call counts that took so many pieces, and might have taken so many more. A Pending is the stream's, or no piece more might be taken.
  abbrev pub IsCounted : (spared count : ℕ) → Poll (Result T FrameStreamError) → (old new : Counts) → Type 0
  IsCounted spared count (Ready (Ok x)) old new = new ≡ taking_all count old
  IsCounted spared count (Ready (Err (Quic e))) old new = (new ≡ failing e (taking_all count old)) × IsFault e
  IsCounted spared count (Ready (Err e)) old new = new ≡ taking_all count old
  IsCounted spared count Pending old new = (new ≡ waiting (taking_all count old)) ⊎ ((spared ≡ 0) × (new ≡ taking_all count old))

-- ---- the next frame

-- what was found of bytes that nothing is skipped of any more, and what is held then
abbrev pub IsAnswer : (of_body : Bool) → Poll (Result (Option Frame) FrameStreamError) → (behind : List ℕ) → (new : Held) → Type 0
IsAnswer of_body (Ready (Ok (Some f))) behind new = (head : List ℕ) × (behind ≡ head ++ new.bytes) × IsHead head f × (is_passed of_body f ≡ false) × (new.left ≡ left_of f)
IsAnswer of_body (Ready (Ok None)) behind new = (behind ≡ []) × (new.bytes ≡ []) × (new.is_ended ≡ true) × (new.left ≡ 0)
IsAnswer of_body (Ready (Err (Proto e))) behind new = (new.bytes ≡ behind) × IsRefused behind e × (new.left ≡ 0)
IsAnswer of_body (Ready (Err UnexpectedEnd)) behind new = (new.bytes ≡ behind) × HasNoFrame behind × (behind ≢ []) × (new.is_ended ≡ true) × (new.left ≡ 0)
IsAnswer of_body (Ready (Err (Quic e))) behind new = (new.bytes ≡ behind) × HasNoFrame behind × (new.left ≡ 0)
IsAnswer of_body (Ready (Err Memory)) behind new = (new.bytes ≡ behind) × (new.left ≡ 0)
IsAnswer of_body Pending behind new = (new.bytes ≡ behind) × HasNoFrame behind × (new.left ≡ 0)

-- A call looked for the next frame: what was held and taken is what was skipped, what it handed out, and what is held.
pub record IsNext (of_body : Bool) (answer : Poll (Result (Option Frame) FrameStreamError)) (limit spared : ℕ) (before after : Option Received) (counts_old counts_new : Counts) (old new : Held) : Type 0 where
  pub took : Taken
  pub count : ℕ
  pub behind : List ℕ
  pub taken : IsTaken took count before after old new
  pub skips : Skips of_body (old.bytes ++ took.bytes) behind
  pub is : IsAnswer of_body answer behind new
  pub counted : IsCounted spared count answer counts_old counts_new
  pub within : count + spared ≡ limit

-- ---- the payload of a DATA frame

abbrev pub given : Poll (Result (Option (List ℕ)) FrameStreamError) → List ℕ
given (Ready (Ok (Some piece))) = piece
given other = []

-- nothing is left of the frame; else what is held is used up before more is waited for
abbrev pub IsDataAnswer : Poll (Result (Option (List ℕ)) FrameStreamError) → Taken → (old new : Held) → Type 0
IsDataAnswer (Ready (Ok (Some piece))) took old new = 0 < length piece
IsDataAnswer (Ready (Ok None)) took old new = (old.left ≡ 0) × (took ≡ nothing)
IsDataAnswer (Ready (Err (Proto e))) took old new = ⊥
IsDataAnswer (Ready (Err UnexpectedEnd)) took old new = (0 < old.left) × (new.bytes ≡ []) × (new.is_ended ≡ true)
IsDataAnswer (Ready (Err (Quic e))) took old new = (0 < old.left) × (new.bytes ≡ []) × (took ≡ nothing)
IsDataAnswer (Ready (Err Memory)) took old new = 0 < old.left
IsDataAnswer Pending took old new = (0 < old.left) × (new.bytes ≡ []) × (took ≡ nothing)

-- A call looked for payload: what was held and taken is what it handed out, and what is held.
pub record IsData (answer : Poll (Result (Option (List ℕ)) FrameStreamError)) (before after : Option Received) (counts_old counts_new : Counts) (old new : Held) : Type 0 where
  pub took : Taken
  pub count : ℕ
  pub taken : IsTaken took count before after old new
  pub moved : old.bytes ++ took.bytes ≡ given answer ++ new.bytes
  pub left : length (given answer) + new.left ≡ old.left
  pub is : IsDataAnswer answer took old new
  pub counted : IsCounted 1 count answer counts_old counts_new
  pub within : count ≤ 1

-- ---- taking a piece

-- whether a piece was taken, which then is behind what was held
abbrev pub IsPieceAnswer : Poll (Result Bool FrameStreamError) → Taken → (is_ended : Bool) → (old new : Counts) → Type 0
IsPieceAnswer (Ready (Ok true)) took is_ended old new = (0 < length took.bytes) × (new ≡ taking old)
IsPieceAnswer (Ready (Ok false)) took is_ended old new = (took.bytes ≡ []) × (is_ended ≡ true) × (new ≡ old)
IsPieceAnswer (Ready (Err (Quic e))) took is_ended old new = (took ≡ nothing) × IsFault e × (new ≡ failing e old)
IsPieceAnswer (Ready (Err Memory)) took is_ended old new = (took ≡ nothing) × (new ≡ old)
IsPieceAnswer (Ready (Err other)) took is_ended old new = ⊥
IsPieceAnswer Pending took is_ended old new = (took ≡ nothing) × (new ≡ waiting old)

pub record IsPiece (answer : Poll (Result Bool FrameStreamError)) (before after : Option Received) (counts_old counts_new : Counts) (old new : Held) : Type 0 where
  pub took : Taken
  pub told_is : after ≡ told (reading took) before
  pub is_ended : new.is_ended ≡ (old.is_ended || took.is_ended)
  pub bytes : new.bytes ≡ old.bytes ++ took.bytes
  pub left : new.left ≡ old.left
  pub is : IsPieceAnswer answer took new.is_ended counts_old counts_new
