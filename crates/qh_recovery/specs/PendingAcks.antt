-- The packet numbers that wait to be acknowledged (RFC 9000, section 13.2).
use Rattle.std.specs.Prelude.{◌≡◌, ◌↔◌, ℕ, ◌-◌, ◌<◌, ◌≤◌, ◌==◌, ◌^◌, nat_le, Bool, true, false, ◌&&◌, ◌||◌, List, [], ◌∷◌, ◌++◌, length, drop, MatchOption, slice_get}
use Rattle.qh_buffers.specs.Ranges.{PlainRange, has, IsGreatest}
use Rattle.qh_buffers.specs.Ranges.{AreApart as AreApartRanges}
use Rattle.qh_frame.specs.AckWritten.{AreApart, IsInOne, ack_frame}
use Rattle.qh_frame.specs.FrameBytes.{IsPut}
use Rattle.qh_spec.specs.Acknowledged.{Covers}
use Rattle.qh_frame.specs.declared.ack.AckRange.{AckRange}

pub record PlainPendingAcks : Type 0 where
  -- the numbers
  pub ranges : List PlainRange
  -- an ACK is due
  pub is_due : Bool

-- A number joins the others, and the least ranges go, whole, if there would be more than 32: all numbers below a bound,
-- which is 0 if none goes. No two ranges touch.
pub record IsJoined (old new : List PlainRange) (n bound : ℕ) : Type 0 where
  pub numbers : (k : ℕ) → has new k ≡ (nat_le bound k && (k == n || has old k))
  pub apart : AreApartRanges 0 new
  pub few : length new ≤ 32
  pub needed : 0 < bound → length new ≡ 32
  pub whole : 0 < bound → (bound == n || has old bound) ≡ false

-- the ranges of an ACK frame have just these numbers, and begin with that of the greatest (RFC 9000, section 19.3.1)
pub record AreAcked (numbers : List PlainRange) (rs : List AckRange) : Type 0 where
  pub apart : AreApart rs
  pub numbers_are : (n : ℕ) → IsInOne rs n ↔ (has numbers n ≡ true)
  pub greatest_first : MatchOption (slice_get rs 0) ⊥ (λ r. IsGreatest numbers r.greatest)

-- an ACK frame of just these numbers, with the delay 0, is appended in at most 515 bytes
pub record IsAckPut (numbers : List PlainRange) (old new : List ℕ) : Type 0 where
  pub ranges : List AckRange
  pub are_acked : AreAcked numbers ranges
  pub covers : (n : ℕ) → Covers (ack_frame 0 ranges) n ↔ (has numbers n ≡ true)
  pub is_put : IsPut old new (ack_frame 0 ranges) 515

-- What follows are words of what is kept, and of the private functions.

-- the ranges are few, and numbers have a form
pub record AreFew (rs : List PlainRange) : Type 0 where
  pub few : length rs ≤ 32
  pub below : (k : ℕ) → has rs k ≡ true → k < 2 ^ 62

-- the last ranges, at most 32
abbrev pub last_ranges : List PlainRange → List PlainRange
last_ranges rs = drop (length rs - 32) rs

-- a range as an ACK frame has it
abbrev pub ack_range : PlainRange → AckRange
ack_range r = record { least = r.start; greatest = r.end - 1 }

-- the ranges as an ACK frame has them
abbrev pub ack_ranges : List PlainRange → List AckRange
ack_ranges [] = []
ack_ranges (r ∷ rs) = ack_ranges rs ++ ack_range r ∷ []
