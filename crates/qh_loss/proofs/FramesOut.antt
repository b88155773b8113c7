-- The frames in packets that are out, and what is done with them one after another.
use Rattle.std.proofs.Common.{◌≡◌, ℕ, List, [], ◌∷◌, ◌++◌, Some, refl, sym, ap, ◌∙◌, inl, inr, append_assoc, subst}
use Rattle.std.proofs.lemmas.List.{append-nil}
use Rattle.qh_spec.specs.Lists.{In}
use Rattle.qh_spec.proofs.Members.{in_left, in_right, in_split}
use Rattle.qh_recovery.specs.SentPackets.{packet_at, without}
use Rattle.qh_recovery.specs.declared.sent_packets.SentPacket.{SentPacket}
use Rattle.qh_recovery.proofs.SentFrames.{parted}
use Rattle.qh_streams.specs.Items.{confirmed_items, AreConfirmed}
use Rattle.qh_streams.specs.Items.AreConfirmed.{none as none_confirmed, more as more_confirmed}
use Rattle.qh_streams.specs.Streams.{PlainStreams, KeepsOut, AreAllOut, AreAcked, AreLost, IsWrittenBy}
use Rattle.qh_streams.specs.Streams.AreAcked.{none as none_acked, more as more_acked}
use Rattle.qh_streams.specs.Streams.AreLost.{none as none_lost, more as more_lost}
use Rattle.qh_streams.specs.Tracked.{AreTracked, IsFresh}
use Rattle.qh_streams.specs.declared.frames.SentFrame.{SentFrame}
use Rattle.qh_streams.specs.declared.items.Item.{Item}
use Rattle.qh_streams.proofs.StreamsTracked.{any_order}
use Rattle.qh_streams.proofs.StreamsTrackedCalls.{fresh_tracked}
use Rattle.qh_streams.proofs.StreamsTrackedLists.{acked_all, lost_all, written_by}
use Rattle.qh_loss.specs.Owed.{AreOwed, frames_out}

abbrev pub Packets : Type 0
Packets = List (ℕ × SentPacket SentFrame)

pub frames_append : (es more : Packets) → frames_out (es ++ more) ≡ frames_out es ++ frames_out more
frames_append [] more = refl
frames_append (e ∷ es) more = ap (λ (l : List SentFrame). e.1.frames.items ++ l) (frames_append es more) ∙ sym (append_assoc e.1.frames.items (frames_out es) (frames_out more))

-- one more packet
pub frames_more : (es : Packets) (number : ℕ) (packet : SentPacket SentFrame) → frames_out (es ++ (number, packet) ∷ []) ≡ frames_out es ++ packet.frames.items
frames_more es number packet = frames_append es ((number, packet) ∷ []) ∙ ap (λ (l : List SentFrame). frames_out es ++ l) (append-nil packet.frames.items)

-- ---- one after another

pub acked_both : (old mid new : PlainStreams) (fs gs : List SentFrame) → AreAcked old mid fs → AreAcked mid new gs → AreAcked old new (fs ++ gs)
acked_both old mid new fs gs first (none_acked _) = rw (append-nil fs) first
acked_both old mid new fs gs first (more_acked _ last _ front f before acked) =
    subst (λ (l : List SentFrame). AreAcked old new l) (append_assoc fs front (f ∷ [])) (more_acked old last new (fs ++ front) f (acked_both old mid last fs front first before) acked)

pub confirmed_both : (old mid new : PlainStreams) (fs gs : List SentFrame) (is js : List Item) → AreConfirmed old mid fs is → AreConfirmed mid new gs js → AreConfirmed old new (fs ++ gs) (is ++ js)
confirmed_both old mid new fs gs is js first (none_confirmed _) = rw (append-nil fs, append-nil is) first
confirmed_both old mid new fs gs is js first (more_confirmed _ last _ front items f before acked) =
    subst (λ (l : List SentFrame). AreConfirmed old new l (is ++ (items ++ confirmed_items last new f))) (append_assoc fs front (f ∷ []))
    (subst (λ (l : List Item). AreConfirmed old new ((fs ++ front) ++ f ∷ []) l) (append_assoc is items (confirmed_items last new f))
    (more_confirmed old last new (fs ++ front) (is ++ items) f (confirmed_both old mid last fs front is items first before) acked))

pub lost_both : (old mid new : PlainStreams) (fs gs : List SentFrame) → AreLost old mid fs → AreLost mid new gs → AreLost old new (fs ++ gs)
lost_both old mid new fs gs first (none_lost _) = rw (append-nil fs) first
lost_both old mid new fs gs first (more_lost _ last _ front f before lost) =
    subst (λ (l : List SentFrame). AreLost old new l) (append_assoc fs front (f ∷ [])) (more_lost old last new (fs ++ front) f (lost_both old mid last fs front first before) lost)

pub acked_packet : (old mid new : PlainStreams) (es : Packets) (number : ℕ) (packet : SentPacket SentFrame) → AreAcked old mid (frames_out es) → AreAcked mid new packet.frames.items
    → AreAcked old new (frames_out (es ++ (number, packet) ∷ []))
acked_packet old mid new es number packet first second = rw (frames_more es number packet) (acked_both old mid new (frames_out es) packet.frames.items first second)

pub confirmed_packet : (old mid new : PlainStreams) (es : Packets) (number : ℕ) (packet : SentPacket SentFrame) (is js : List Item) → AreConfirmed old mid (frames_out es) is
    → AreConfirmed mid new packet.frames.items js → AreConfirmed old new (frames_out (es ++ (number, packet) ∷ [])) (is ++ js)
confirmed_packet old mid new es number packet is js first second = rw (frames_more es number packet) (confirmed_both old mid new (frames_out es) packet.frames.items is js first second)

pub lost_packet : (old mid new : PlainStreams) (es : Packets) (number : ℕ) (packet : SentPacket SentFrame) → AreLost old mid (frames_out es) → AreLost mid new packet.frames.items
    → AreLost old new (frames_out (es ++ (number, packet) ∷ []))
lost_packet old mid new es number packet first second = rw (frames_more es number packet) (lost_both old mid new (frames_out es) packet.frames.items first second)

-- ---- frames that are out

pub all_out_both : (s : PlainStreams) (fs gs : List SentFrame) → AreAllOut s fs → AreAllOut s gs → AreAllOut s (fs ++ gs)
all_out_both s [] gs first second = second
all_out_both s (f ∷ fs) gs first second = (first.0, all_out_both s fs gs first.1 second)

pub all_out_first : (s : PlainStreams) (fs gs : List SentFrame) → AreAllOut s (fs ++ gs) → AreAllOut s fs
all_out_first s [] gs out = tt
all_out_first s (f ∷ fs) gs out = (out.0, all_out_first s fs gs out.1)

pub all_out_rest : (s : PlainStreams) (fs gs : List SentFrame) → AreAllOut s (fs ++ gs) → AreAllOut s gs
all_out_rest s [] gs out = out
all_out_rest s (f ∷ fs) gs out = all_out_rest s fs gs out.1

pub all_out_kept : (old new : PlainStreams) (fs : List SentFrame) → KeepsOut old new → AreAllOut old fs → AreAllOut new fs
all_out_kept old new [] keeps out = tt
all_out_kept old new (f ∷ fs) keeps out = (keeps f out.0, all_out_kept old new fs keeps out.1)

-- ---- a packet that is taken out

-- what is owed is queued, or stands in these frames or in the packets that are left
pub record AreApart (s : PlainStreams) (fs : List SentFrame) (left : Packets) : Type 0 where
  pub tracked : AreTracked s (fs ++ frames_out left)
  pub own : AreAllOut s fs
  pub out : AreAllOut s (frames_out left)

to_front : (before after : Packets) (number : ℕ) (packet : SentPacket SentFrame) (f : SentFrame) → In f (frames_out before ++ (packet.frames.items ++ frames_out after))
    → In f (packet.frames.items ++ (frames_out before ++ frames_out after))
to_front before after number packet f there = elim (in_split f (frames_out before) (packet.frames.items ++ frames_out after) there) [
  | inl front ↦ in_right f packet.frames.items (frames_out before ++ frames_out after) (in_left f (frames_out before) (frames_out after) front)
  | inr behind ↦ elim (in_split f packet.frames.items (frames_out after) behind) [
    | inl own ↦ in_left f packet.frames.items (frames_out before ++ frames_out after) own
    | inr last ↦ in_right f packet.frames.items (frames_out before ++ frames_out after) (in_right f (frames_out before) (frames_out after) last)
  ]
]

parted_apart : (s : PlainStreams) (before after : Packets) (number : ℕ) (packet : SentPacket SentFrame) → AreOwed s (before ++ (number, packet) ∷ after) → AreApart s packet.frames.items (before ++ after)
parted_apart s before after number packet owed =
    let tracked : AreTracked s (frames_out before ++ (packet.frames.items ++ frames_out after)) = subst (λ (l : List SentFrame). AreTracked s l) (frames_append before ((number, packet) ∷ after)) owed.tracked in
    let out : AreAllOut s (frames_out before ++ (packet.frames.items ++ frames_out after)) = subst (λ (l : List SentFrame). AreAllOut s l) (frames_append before ((number, packet) ∷ after)) owed.out in
    let behind = all_out_rest s (frames_out before) (packet.frames.items ++ frames_out after) out in
    record {
      tracked = rw (frames_append before after) (any_order (to_front before after number packet) tracked);
      own = all_out_first s packet.frames.items (frames_out after) behind;
      out = rw (frames_append before after) (all_out_both s (frames_out before) (frames_out after)
          (all_out_first s (frames_out before) (packet.frames.items ++ frames_out after) out)
          (all_out_rest s packet.frames.items (frames_out after) behind));
    }

pub taken_apart : (s : PlainStreams) (es : Packets) (number : ℕ) (packet : SentPacket SentFrame) → packet_at es number ≡ Some packet → AreOwed s es → AreApart s packet.frames.items (without number es)
taken_apart s es number packet there owed =
    let parts = parted es number packet there in
    rw parts.rest (parted_apart s parts.before parts.after number packet (subst (λ (l : Packets). AreOwed s l) parts.whole owed))

pub acked_owed : (old new : PlainStreams) (fs : List SentFrame) (left : Packets) → AreApart old fs left → AreAcked old new fs → KeepsOut old new → AreOwed new left
acked_owed old new fs left apart acked keeps = record {
  tracked = acked_all old new fs (frames_out left) acked apart.tracked;
  out = all_out_kept old new (frames_out left) keeps apart.out;
}

pub lost_owed : (old new : PlainStreams) (fs : List SentFrame) (left : Packets) → AreApart old fs left → AreLost old new fs → KeepsOut old new → AreOwed new left
lost_owed old new fs left apart lost keeps = record {
  tracked = lost_all old new fs (frames_out left) lost apart.tracked;
  out = all_out_kept old new (frames_out left) keeps apart.out;
}

-- ---- a packet that goes out

pub fresh_owed : (s : PlainStreams) → IsFresh s → AreOwed s []
fresh_owed s fresh = record { tracked = fresh_tracked s fresh; out = tt }

pub sent_owed : (room : ℕ) (old new : PlainStreams) (bytes_old bytes_new : List ℕ) (number : ℕ) (packet : SentPacket SentFrame) (es : Packets)
    → IsWrittenBy room old new bytes_old bytes_new [] packet.frames.items → AreAllOut new packet.frames.items → KeepsOut old new
    → AreOwed old es → AreOwed new (es ++ (number, packet) ∷ [])
sent_owed room old new bytes_old bytes_new number packet es written out keeps owed =
    let behind : IsWrittenBy room old new bytes_old bytes_new (frames_out es) (frames_out es ++ packet.frames.items) = record {
      frames = written.frames;
      bytes = written.bytes;
      written = written.written;
      out_is = written.out_is;
      sent_is = ap (λ (l : List SentFrame). frames_out es ++ l) written.sent_is;
      shared = written.shared;
      in_order = written.in_order;
    } in
    record {
      tracked = rw (frames_more es number packet) (written_by room old new bytes_old bytes_new (frames_out es) (frames_out es ++ packet.frames.items) behind owed.tracked);
      out = rw (frames_more es number packet) (all_out_both new (frames_out es) packet.frames.items (all_out_kept old new (frames_out es) keeps owed.out) out);
    }
