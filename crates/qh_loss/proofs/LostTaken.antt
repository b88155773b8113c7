-- Packets that are lost one after another.
use Rattle.std.proofs.Common.{◌≡◌, ℕ, ◌+◌, ◌-◌, [], ◌∷◌, ◌++◌, length, None, refl, sym, ap, ◌∙◌, arith, subst, length-append}
use Rattle.qh_recovery.specs.SentPackets.{without, HasInstead, NoneIs, IsLost, IsLeast}
use Rattle.qh_recovery.specs.Window.{lost}
use Rattle.qh_recovery.specs.declared.congestion.WindowController.{WindowController}
use Rattle.qh_recovery.specs.declared.sent_packets.SentPacket.{SentPacket}
use Rattle.qh_streams.specs.Streams.{PlainStreams, KeepsOut, AreLost}
use Rattle.qh_streams.specs.Streams.AreLost.{none as none_lost}
use Rattle.qh_streams.specs.declared.frames.SentFrame.{SentFrame}
use Rattle.qh_loss.specs.Owed.{AreOwed, frames_out}
use Rattle.qh_loss.specs.Settled.{AreLostTaken, window_lost}
use Rattle.qh_loss.proofs.FramesOut.{Packets, AreApart, lost_packet, taken_apart, lost_owed}
use Rattle.qh_loss.proofs.TakenOut.{AreSoFar, none_so_far, one_more, all_taken, one_fewer}

-- what was done so far
pub record AreLostSoFar (P : ℕ → SentPacket SentFrame → Type 0) (next_number : ℕ) (old now : Packets) (streams_old streams_now : PlainStreams) (window_old window_now : WindowController) : Type 0 where
  pub taken : Packets
  pub packets : AreSoFar P old now taken
  pub frames : AreLost streams_old streams_now (frames_out taken)
  pub window : window_now ≡ window_lost next_number taken window_old
  pub count : length taken + length now ≡ length old
  pub owed : AreOwed streams_now now

pub none_lost_yet : (P : ℕ → SentPacket SentFrame → Type 0) (next_number : ℕ) (es : Packets) (streams : PlainStreams) (window : WindowController) → AreOwed streams es
    → AreLostSoFar P next_number es es streams streams window window
none_lost_yet P next_number es streams window owed = record {
  taken = [];
  packets = none_so_far P es;
  frames = none_lost streams;
  window = refl;
  count = omega arith;
  owed = owed;
}

window_more : (next_number : ℕ) (es : Packets) (number : ℕ) (packet : SentPacket SentFrame) (window : WindowController)
    → window_lost next_number (es ++ (number, packet) ∷ []) window ≡ lost number next_number (window_lost next_number es window)
window_more next_number [] number packet window = refl
window_more next_number (e ∷ es) number packet window = window_more next_number es number packet (lost e.0 next_number window)

module _ (P : ℕ → SentPacket SentFrame → Type 0) (next_number : ℕ) (old now new : Packets) (streams_old streams_now streams_new : PlainStreams) (window_old window_now window_new : WindowController)
    (so_far : AreLostSoFar P next_number old now streams_old streams_now window_old window_now) where
  -- one more packet
  pub one_more_lost : (number : ℕ) (packet : SentPacket SentFrame) → IsLeast P now number packet → new ≡ without number now → HasInstead now new number None
      → window_new ≡ lost number next_number window_now → AreLost streams_now streams_new packet.frames.items → KeepsOut streams_now streams_new
      → AreLostSoFar P next_number old new streams_old streams_new window_old window_new
  one_more_lost number packet least new_is left window frames keeps =
      let fewer = one_fewer now number packet least.is_out in
      let count = ap (λ (l : Packets). length l) new_is in
      let longer = length-append so_far.taken ((number, packet) ∷ []) in
      let before = so_far.count in
      record {
        taken = so_far.taken ++ (number, packet) ∷ [];
        packets = one_more P old now new so_far.taken number packet so_far.packets least.is_out least.holds left;
        frames = lost_packet streams_old streams_now streams_new so_far.taken number packet so_far.frames frames;
        window = window ∙ ap (lost number next_number) so_far.window ∙ sym (window_more next_number so_far.taken number packet window_old);
        count = omega (arith, fewer, count, longer, before);
        owed = lost_owed streams_now streams_new packet.frames.items new
            (subst (λ (l : Packets). AreApart streams_now packet.frames.items l) (sym new_is) (taken_apart streams_now now number packet least.is_out so_far.owed)) frames keeps;
      }

pub lost_at_end : (largest_acked moment delay next_number : ℕ) (old now : Packets) (streams_old streams_now : PlainStreams) (window_old window_now : WindowController) (count : ℕ)
    → AreLostSoFar (IsLost largest_acked moment delay) next_number old now streams_old streams_now window_old window_now → NoneIs (IsLost largest_acked moment delay) now → count ≡ length old - length now
    → AreLostTaken largest_acked moment delay next_number old now streams_old streams_now window_old window_now count
lost_at_end largest_acked moment delay next_number old now streams_old streams_now window_old window_now count so_far none count_is =
    let sum = so_far.count in
    record {
      taken = so_far.taken;
      packets = all_taken (IsLost largest_acked moment delay) old now so_far.taken so_far.packets none;
      frames = so_far.frames;
      window = so_far.window;
      count_is = omega (arith, sum, count_is);
    }
