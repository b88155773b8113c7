-- Which packets of the peer's an end can read, and what it does with one that is new (RFC 9000, sections 12.3 and 17.1).
use Rattle.std.specs.Prelude.{◌≡◌, ◌⊎◌, ℕ, ◌+◌, ◌^◌, ◌<◌, ◌≤◌, List}
use Rattle.qh_base.specs.declared.time.Moment.{Moment}
use Rattle.qh_core.specs.Progress.{NumberedPacket}
use Rattle.qh_core.specs.Receiving.{IsExpectedOf, IsPacketTaken}
use Rattle.qh_core.specs.declared.inner.Inner.{Inner}
use Rattle.qh_spec.specs.QuicFrames.{AreQuicFrames}

-- the number is the one that is expected next, or it is below 2^31 and at most 128 below the one before that
abbrev pub IsTold : (expected number : ℕ) → Type 0
IsTold expected number = (number ≡ expected) ⊎ ((number < 2 ^ 31) × (expected ≤ number + 129))

module _ {S : Type 0} where
  -- its low four bytes tell it to the end
  abbrev pub IsReadable : Inner S → (number : ℕ) → Type 0
  IsReadable c number = (expected : ℕ) → IsExpectedOf c.space expected → IsTold expected number

  -- the packet was taken, with its frames
  pub record IsTakenFrom (now : Moment) (packet : NumberedPacket) (old new : Inner S) : Type 0 where
    pub bytes : List ℕ
    pub are : AreQuicFrames bytes packet.frames
    pub taken : IsPacketTaken now packet.number bytes old new
