-- In which order streams are served: the greater priority first, then the lesser id (quinn-proto, `PendingStreamsQueue`).
use Rattle.std.specs.Prelude.{◌≡◌, ◌⊎◌, ℕ, ℤ, Bool, true, false, List, [], ◌∷◌, Option, Some, None}
use Rattle.qh_spec.specs.Lists.{In}
use Rattle.qh_streams.specs.declared.frames.SentFrame.{SentFrame}
use Rattle.qh_streams.specs.declared.frames.SentFrame.TheVariants as sent
use Rattle.qh_halves.specs.Pending.{goes_before}
use Rattle.qh_half.specs.Send.{PlainSend, Waits}
use Rattle.qh_halves.specs.SendHalves.{PlainSendHalves, send_at, half_priority}

-- the stream whose sending half a frame comes of
abbrev pub sender_of : SentFrame → Option ℕ
sender_of (sent.Stream id piece) = Some id.0
sender_of (sent.ResetStream id reset) = Some id.0
sender_of other = None

abbrev pub goes_first : Option ℤ → (id : ℕ) → Option ℤ → (k : ℕ) → Bool
goes_first (Some p) id (Some q) k = goes_before (record { priority = p; id = id }) (record { priority = q; id = k })
goes_first _ id _ k = false

-- it is the same stream, or the other one comes after it
abbrev pub ComesNotBefore : PlainSendHalves → (k id : ℕ) → Type 0
ComesNotBefore s k id = (k ≡ id) ⊎ (goes_first (half_priority (send_at s id)) id (half_priority (send_at s k)) k ≡ true)

-- the frames of streams stand in the order in which these are served
abbrev pub AreInTurn : PlainSendHalves → List SentFrame → Type 0
AreInTurn s [] = Unit {0}
AreInTurn s (f ∷ fs) = ((g : SentFrame) (id k : ℕ) → In g fs → sender_of f ≡ Some id → sender_of g ≡ Some k → ComesNotBefore s k id) × AreInTurn s fs

-- something waits in the half of the stream
pub record WaitsAt (s : PlainSendHalves) (k : ℕ) : Type 0 where
  pub half : PlainSend
  pub was : send_at s k ≡ Some half
  pub waits : Waits half

-- no stream in which something waits now was passed over
abbrev pub NoneIsPassed : (old now : PlainSendHalves) → List SentFrame → Type 0
NoneIsPassed old now frames = (f : SentFrame) (id k : ℕ) → In f frames → sender_of f ≡ Some id → WaitsAt now k → ComesNotBefore old k id
