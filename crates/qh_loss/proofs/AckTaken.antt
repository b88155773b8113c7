-- Packets that are acknowledged one after another.
use Rattle.std.proofs.Common.{◌≡◌, ◌⊎◌, ℕ, ◌+◌, ◌<◌, ◌≤◌, Bool, true, false, ◌||◌, List, [], ◌∷◌, ◌++◌, length, Option, Some, None, refl, sym, ap, ◌∙◌, inl, inr, arith, subst}
use Rattle.std.proofs.lemmas.Bool.{cases_lt, both_ways, or_cases, or_parts}
use Rattle.qh_recovery.specs.SentPackets.{packet_at, frame_count, without, HasInstead, NoneIs, IsWithin, IsLeast}
use Rattle.qh_recovery.specs.Window.{acked}
use Rattle.qh_recovery.specs.declared.congestion.WindowController.{WindowController}
use Rattle.qh_recovery.specs.declared.sent_packets.SentPacket.{SentPacket}
use Rattle.qh_recovery.proofs.SentLists.{taken_frames}
use Rattle.qh_streams.specs.Items.{Items, kept_in, AreConfirmed, HasRoom, Logs}
use Rattle.qh_streams.specs.Items.AreConfirmed.{none as none_confirmed}
use Rattle.qh_streams.specs.Streams.{PlainStreams, KeepsOut, AreAcked}
use Rattle.qh_streams.specs.Streams.AreAcked.{none as none_acked}
use Rattle.qh_streams.specs.declared.frames.SentFrame.{SentFrame}
use Rattle.qh_streams.specs.declared.items.Item.{Item}
use Rattle.qh_streams.proofs.ItemLogs.{nothing_logged, logs_both, less_room}
use Rattle.qh_loss.specs.Owed.{AreOwed, frames_out}
use Rattle.qh_loss.specs.Settled.{AreAckConfirmed, window_acked}
use Rattle.qh_loss.proofs.FramesOut.{Packets, AreApart, frames_append, acked_both, acked_packet, confirmed_both, confirmed_packet, taken_apart, acked_owed}
use Rattle.qh_loss.proofs.TakenOut.{AreSoFar, none_so_far, one_more, all_taken, and_more, one_fewer}

-- what was done so far, and whether anything was
pub record AreAckedSoFar (P : ℕ → SentPacket SentFrame → Type 0) (old now : Packets) (streams_old streams_now : PlainStreams) (window_old window_now : WindowController)
    (log_old log_now : Option (Items)) (is_any : Bool) : Type 0 where
  pub taken : Packets
  pub packets : AreSoFar P old now taken
  pub frames : AreAcked streams_old streams_now (frames_out taken)
  pub window : window_now ≡ window_acked taken window_old
  pub none : is_any ≡ false → (now ≡ old) × (streams_now ≡ streams_old) × (window_now ≡ window_old)
  pub some : is_any ≡ true → length now < length old
  pub fewer : length now ≤ length old
  pub owed : AreOwed streams_now now
  pub items : List Item
  pub confirmed : AreConfirmed streams_old streams_now (frames_out taken) items
  pub logs : Logs log_old log_now items
  pub room : HasRoom log_now (frame_count now)

-- of the room for an item of each frame that is out a packet needs its own part
pub packet_room : (log : Option (Items)) (now new : Packets) (number : ℕ) (packet : SentPacket SentFrame) → packet_at now number ≡ Some packet → new ≡ without number now
    → HasRoom log (frame_count now) → HasRoom log (length packet.frames.items + frame_count new)
packet_room log now new number packet there new_is room =
    less_room log (length packet.frames.items + frame_count new) (frame_count now) (omega (arith, taken_frames now number packet there, ap frame_count new_is)) room

pub none_acked_yet : (P : ℕ → SentPacket SentFrame → Type 0) (es : Packets) (streams : PlainStreams) (window : WindowController) (log : Option (Items)) → AreOwed streams es → HasRoom log (frame_count es)
    → AreAckedSoFar P es es streams streams window window log log false
none_acked_yet P es streams window log owed room = record {
  taken = [];
  packets = none_so_far P es;
  frames = none_acked streams;
  window = refl;
  none = λ _. (refl, refl, refl);
  some = λ any. absurd (both_ways false refl any);
  fewer = omega arith;
  owed = owed;
  items = [];
  confirmed = none_confirmed streams;
  logs = nothing_logged log;
  room = room;
}

window_both : (es more : Packets) (window : WindowController) → window_acked (es ++ more) window ≡ window_acked more (window_acked es window)
window_both [] more window = refl
window_both (e ∷ es) more window = window_both es more (acked e.1.size window)

module _ (P : ℕ → SentPacket SentFrame → Type 0) (old now new : Packets) (streams_old streams_now streams_new : PlainStreams) (window_old window_now window_new : WindowController)
    (log_old log_now log_new : Option (Items)) (is_any : Bool) (so_far : AreAckedSoFar P old now streams_old streams_now window_old window_now log_old log_now is_any) where
  -- one more packet
  pub one_more_acked : (number : ℕ) (packet : SentPacket SentFrame) → IsLeast P now number packet → new ≡ without number now → HasInstead now new number None
      → window_new ≡ acked packet.size window_now → AreAcked streams_now streams_new packet.frames.items → KeepsOut streams_now streams_new
      → (more : (items : List Item) × AreConfirmed streams_now streams_new packet.frames.items items × Logs log_now log_new items) → HasRoom log_new (frame_count new)
      → AreAckedSoFar P old new streams_old streams_new window_old window_new log_old log_new true
  one_more_acked number packet least new_is left window frames keeps more room =
      let fewer = one_fewer now number packet least.is_out in
      let count = ap (λ (l : Packets). length l) new_is in
      let before = so_far.fewer in
      record {
        taken = so_far.taken ++ (number, packet) ∷ [];
        packets = one_more P old now new so_far.taken number packet so_far.packets least.is_out least.holds left;
        frames = acked_packet streams_old streams_now streams_new so_far.taken number packet so_far.frames frames;
        window = window ∙ ap (acked packet.size) so_far.window ∙ sym (window_both so_far.taken ((number, packet) ∷ []) window_old);
        none = λ none. absurd (both_ways true none refl);
        some = λ _. omega (arith, fewer, count, before);
        fewer = omega (arith, fewer, count, before);
        owed = acked_owed streams_now streams_new packet.frames.items new
            (subst (λ (l : Packets). AreApart streams_now packet.frames.items l) (sym new_is) (taken_apart streams_now now number packet least.is_out so_far.owed)) frames keeps;
        items = so_far.items ++ more.0;
        confirmed = confirmed_packet streams_old streams_now streams_new so_far.taken number packet so_far.items more.0 so_far.confirmed more.1;
        logs = logs_both log_old log_now log_new so_far.items more.0 so_far.logs more.2;
        room = room;
      }

  -- all of another kind
  pub and_more_acked : (Q : ℕ → SentPacket SentFrame → Type 0) (is_more : Bool) → ((k : ℕ) (q : SentPacket SentFrame) → Q k q → P k q) → ((k : ℕ) (q : SentPacket SentFrame) → Q k q ⊎ (Q k q → ⊥))
      → AreAckConfirmed Q now new streams_now streams_new window_now window_new (kept_in log_now) (kept_in log_new) → HasRoom log_new (frame_count new)
      → (is_more ≡ false → (new ≡ now) × (streams_new ≡ streams_now) × (window_new ≡ window_now)) → (is_more ≡ true → length new < length now) → length new ≤ length now → AreOwed streams_new new
      → AreAckedSoFar P old new streams_old streams_new window_old window_new log_old log_new (is_any || is_more)
  and_more_acked Q is_more are_those either confirmed room none some fewer owed =
      let more = confirmed.taken in
      let before = so_far.fewer in
      record {
        taken = so_far.taken ++ more.taken;
        packets = and_more P Q old now new so_far.taken more.taken so_far.packets more.packets are_those either;
        frames = subst (λ (l : List SentFrame). AreAcked streams_old streams_new l) (sym (frames_append so_far.taken more.taken))
            (acked_both streams_old streams_now streams_new (frames_out so_far.taken) (frames_out more.taken) so_far.frames more.frames);
        window = more.window ∙ ap (window_acked more.taken) so_far.window ∙ sym (window_both so_far.taken more.taken window_old);
        none = λ none_of. (
          (none (or_parts is_any is_more none_of).1).0 ∙ (so_far.none (or_parts is_any is_more none_of).0).0,
          (none (or_parts is_any is_more none_of).1).1 ∙ (so_far.none (or_parts is_any is_more none_of).0).1,
          (none (or_parts is_any is_more none_of).1).2 ∙ (so_far.none (or_parts is_any is_more none_of).0).2,
        );
        some = λ any. elim (or_cases is_any is_more any) [
          | inl first ↦ omega (arith, so_far.some first, fewer)
          | inr second ↦ omega (arith, some second, before)
        ];
        fewer = omega (arith, before, fewer);
        owed = owed;
        items = so_far.items ++ confirmed.items;
        confirmed = subst (λ (l : List SentFrame). AreConfirmed streams_old streams_new l (so_far.items ++ confirmed.items)) (sym (frames_append so_far.taken more.taken))
            (confirmed_both streams_old streams_now streams_new (frames_out so_far.taken) (frames_out more.taken) so_far.items confirmed.items so_far.confirmed confirmed.confirmed);
        logs = logs_both log_old log_now log_new so_far.items confirmed.items so_far.logs confirmed.log_is;
        room = room;
      }

pub acked_at_end : (P : ℕ → SentPacket SentFrame → Type 0) (old now : Packets) (streams_old streams_now : PlainStreams) (window_old window_now : WindowController) (log_old log_now : Option (Items)) (is_any : Bool)
    → AreAckedSoFar P old now streams_old streams_now window_old window_now log_old log_now is_any → NoneIs P now
    → AreAckConfirmed P old now streams_old streams_now window_old window_now (kept_in log_old) (kept_in log_now)
acked_at_end P old now streams_old streams_now window_old window_now log_old log_now is_any so_far none = record {
  taken = record {
    taken = so_far.taken;
    packets = all_taken P old now so_far.taken so_far.packets none;
    frames = so_far.frames;
    window = so_far.window;
  };
  items = so_far.items;
  confirmed = so_far.confirmed;
  log_is = so_far.logs;
}

pub within_or_not : (least greatest k : ℕ) (q : SentPacket SentFrame) → IsWithin least greatest k q ⊎ (IsWithin least greatest k q → ⊥)
within_or_not least greatest k q = elim (cases_lt k least) [
  | inl under ↦ inr (λ within. omega (arith, under, within.0))
  | inr above ↦ elim (cases_lt greatest k) [
    | inl past ↦ inr (λ within. omega (arith, past, within.1))
    | inr below ↦ inl (above, below)
  ]
]
