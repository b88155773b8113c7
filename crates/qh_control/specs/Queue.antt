-- Frames of a connection's own that wait to be sent, and those that are out (RFC 9000, section 13.3).
use Rattle.std.specs.Prelude.{◌≡◌, ℕ, ◌+◌, ◌++◌, Bool, true, false, not, List, [], ◌∷◌, length, filter, map, Option}
use Rattle.std.specs.List.{AllByRecursion}
use Rattle.qh_control.specs.declared.queue.SentControl.{SentControl}
use Rattle.qh_core.specs.Control.{MaySend}
use Rattle.qh_core.specs.declared.control.ControlFrame.{ControlFrame}
use Rattle.qh_core.specs.declared.control.ControlFrame.TheVariants as sending
use Rattle.qh_frame.specs.Plain.{ack_of}
use Rattle.qh_frame.specs.declared.ack.Ack.{Ack}
use Rattle.qh_spec.specs.Acknowledged.{Covers}
use Rattle.qh_spec.specs.declared.sides.Side.{Side}

-- the frames that wait, in the order in which they are sent; those that are out, each with the number of its packet; and for how many more
-- of those memory is there
pub record PlainQueue : Type 0 where
  pub waiting : List ControlFrame
  pub sent : List SentControl
  pub room : ℕ

-- the frame went out in this packet
abbrev pub sent_in : (number : ℕ) → ControlFrame → SentControl
sent_in number frame = record { number = number; frame = frame }

-- what is left of a list without those of which P holds
pub data AreLeft (P : SentControl → Type 0) : (old new : List SentControl) → Type 0 where
  none : AreLeft P [] []
  gone : (s : SentControl) (old new : List SentControl) → P s → AreLeft P old new → AreLeft P (s ∷ old) new
  kept : (s : SentControl) (old new : List SentControl) → (P s → ⊥) → AreLeft P old new → AreLeft P (s ∷ old) (s ∷ new)

-- the frames that the ACK covers are out no more
pub record AreAcknowledged (a : Ack) (old new : PlainQueue) : Type 0 where
  pub left : AreLeft (λ (s : SentControl). Covers (ack_of a) s.number) old.sent new.sent
  pub rest_is : new ≡ record old { sent = new.sent; room = new.room }

abbrev pub is_retire : ControlFrame → Bool
is_retire (sending.RetireConnectionId sequence) = true
is_retire other = false

-- how many RETIRE_CONNECTION_ID frames aren't acknowledged yet
abbrev pub retires : PlainQueue → ℕ
retires q = length (filter is_retire q.waiting) + length (filter (λ (s : SentControl). is_retire s.frame) q.sent)

-- the frames that are out still are those whose packets are; the others wait again, in their order
pub record AreLost (is_out : ℕ → Bool) (old new : PlainQueue) : Type 0 where
  pub sent_is : new.sent ≡ filter (λ (s : SentControl). is_out s.number) old.sent
  pub waiting_is : new.waiting ≡ old.waiting ++ map (λ (s : SentControl). s.frame) (filter (λ (s : SentControl). not (is_out s.number)) old.sent)

-- this side may send each frame that waits or is out, to a peer that takes payloads of DATAGRAM frames up to this length
pub record AreSendable (side : Side) (peer_datagram : Option ℕ) (q : PlainQueue) : Type 0 where
  pub waiting : AllByRecursion (MaySend side peer_datagram) q.waiting
  pub sent : AllByRecursion (λ (s : SentControl). MaySend side peer_datagram s.frame) q.sent

-- what may be sent before may be sent after
abbrev pub StaySendable : (old new : PlainQueue) → Type 0
StaySendable old new = (side : Side) (peer_datagram : Option ℕ) → AreSendable side peer_datagram old → AreSendable side peer_datagram new
