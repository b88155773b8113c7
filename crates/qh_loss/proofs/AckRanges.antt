-- The ranges of an ACK one after another.
use Rattle.std.proofs.Common.{◌≡◌, ◌⊎◌, ◌↔◌, ℕ, ◌+◌, ◌<◌, ◌≤◌, Bool, true, false, ◌||◌, length, Option, Some, None, inl, inr}
use Rattle.qh_spec.specs.Acknowledged.{Covers}
use Rattle.qh_frame.specs.declared.ack.Ack.{Ack}
use Rattle.qh_frame.specs.declared.ack.AckRange.{AckRange}
use Rattle.qh_frame.specs.Plain.{ack_of, IsCovered}
use Rattle.qh_recovery.specs.SentPackets.{packet_at, frame_count, IsWithin}
use Rattle.qh_recovery.specs.declared.congestion.WindowController.{WindowController}
use Rattle.qh_recovery.specs.declared.sent_packets.SentPacket.{SentPacket}
use Rattle.qh_streams.specs.Items.{Items, kept_in, HasRoom}
use Rattle.qh_streams.specs.Streams.{PlainStreams}
use Rattle.qh_streams.specs.declared.frames.SentFrame.{SentFrame}
use Rattle.qh_streams.specs.declared.items.Item.{Item}
use Rattle.qh_loss.specs.Owed.{AreOwed}
use Rattle.qh_loss.specs.Settled.{AreAckConfirmed}
use Rattle.qh_loss.proofs.FramesOut.{Packets}
use Rattle.qh_loss.proofs.AckTaken.{AreAckedSoFar, none_acked_yet, and_more_acked, acked_at_end, within_or_not}

-- the numbers at or below the greatest that the ranges that are left cover
abbrev pub ranges_left : Option Ack → ℕ
ranges_left None = 0
ranges_left (Some a) = a.greatest + 1

abbrev IsAcked : Ack → ℕ → SentPacket SentFrame → Type 0
IsAcked ack k q = Covers (ack_of ack) k

-- what was done so far; of the packets that are out those are still covered that the ranges that are left cover
pub record AreRangesSoFar (ack : Ack) (rest : Option Ack) (old now : Packets) (streams_old streams_now : PlainStreams) (window_old window_now : WindowController)
    (log_old log_now : Option (Items)) (is_any : Bool) : Type 0 where
  pub so_far : AreAckedSoFar (IsAcked ack) old now streams_old streams_now window_old window_now log_old log_now is_any
  pub covered : (n : ℕ) → IsCovered rest n → Covers (ack_of ack) n
  pub left : (k : ℕ) (q : SentPacket SentFrame) → packet_at now k ≡ Some q → Covers (ack_of ack) k → IsCovered rest k

-- a range is acknowledged
module _ (ack : Ack) (rest below : Option Ack) (range : AckRange) (old now new : Packets) (streams_old streams_now streams_new : PlainStreams) (window_old window_now window_new : WindowController)
    (log_old log_now log_new : Option (Items)) (is_any is_more : Bool) (so_far : AreRangesSoFar ack rest old now streams_old streams_now window_old window_now log_old log_now is_any)
    (covers : (n : ℕ) → IsCovered rest n ↔ (((range.least ≤ n) × (n ≤ range.greatest)) ⊎ IsCovered below n))
    (more : AreAckConfirmed (IsWithin range.least range.greatest) now new streams_now streams_new window_now window_new (kept_in log_now) (kept_in log_new)) (room : HasRoom log_new (frame_count new))
    (none : is_more ≡ false → (new ≡ now) × (streams_new ≡ streams_now) × (window_new ≡ window_now))
    (some : is_more ≡ true → length new < length now) (fewer : length new ≤ length now) (owed : AreOwed streams_new new) where
  pub one_more_range : AreRangesSoFar ack below old new streams_old streams_new window_old window_new log_old log_new (is_any || is_more)
  one_more_range = record {
    so_far = and_more_acked (IsAcked ack) old now new streams_old streams_now streams_new window_old window_now window_new log_old log_now log_new is_any so_far.so_far (IsWithin range.least range.greatest) is_more
        (λ k q within. so_far.covered k ((covers k).1 (inl within))) (within_or_not range.least range.greatest) more room none some fewer owed;
    covered = λ n there. so_far.covered n ((covers n).1 (inr there));
    left = λ k q there is_covered.
        let was = (more.taken.packets.left k q).0 there in
        elim ((covers k).0 (so_far.left k q was.0 is_covered)) [ inl within ↦ absurd (was.1 within) | inr beyond ↦ beyond ];
  }

pub no_range_yet : (ack : Ack) (es : Packets) (streams : PlainStreams) (window : WindowController) (log : Option (Items)) → AreOwed streams es → HasRoom log (frame_count es)
    → AreRangesSoFar ack (Some ack) es es streams streams window window log log false
no_range_yet ack es streams window log owed room = record {
  so_far = none_acked_yet (IsAcked ack) es streams window log owed room;
  covered = λ n there. there;
  left = λ k q there is_covered. is_covered;
}

pub ranges_at_end : (ack : Ack) (old now : Packets) (streams_old streams_now : PlainStreams) (window_old window_now : WindowController) (log_old log_now : Option (Items)) (is_any : Bool)
    → AreRangesSoFar ack None old now streams_old streams_now window_old window_now log_old log_now is_any
    → AreAckConfirmed (IsAcked ack) old now streams_old streams_now window_old window_now (kept_in log_old) (kept_in log_now)
ranges_at_end ack old now streams_old streams_now window_old window_now log_old log_now is_any so_far =
    acked_at_end (IsAcked ack) old now streams_old streams_now window_old window_now log_old log_now is_any so_far.so_far (λ k q there is_covered. so_far.left k q there is_covered)
