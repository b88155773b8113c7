-- Frames that are queued again one after another.
use Rattle.std.proofs.Common.{◌≡◌, ℕ, zero, suc, ◌+◌, ◌<◌, Bool, true, false, cond, ◌||◌, List, [], ◌∷◌, ◌++◌, length, take, get_or, refl, sym, ap, ◌∙◌, arith, subst, append_assoc, length-append}
use Rattle.std.proofs.lemmas.List.{append-nil, take_more}
use Rattle.std.proofs.lemmas.List.Elements.{filter-append}
use Rattle.qh_recovery.specs.declared.sent_packets.SentPacket.{SentPacket}
use Rattle.qh_streams.specs.Streams.{PlainStreams, IsOut, KeepsOut, AreAllOut, IsLostFrame, IsSettledFrame}
use Rattle.qh_streams.specs.Tracked.{AreTracked}
use Rattle.qh_streams.specs.declared.frames.SentFrame.{SentFrame}
use Rattle.qh_streams.proofs.StreamsTracked.{drops_again}
use Rattle.qh_streams.proofs.StreamsTrackedSettled.{lost_drops}
use Rattle.qh_loss.specs.Owed.{AreOwed, frames_out}
use Rattle.qh_loss.specs.Settled.{AreQueuedAgain, chosen}
use Rattle.qh_loss.specs.Settled.AreQueuedAgain.{none as none_queued, owed as owed_queued, settled as settled_queued}
use Rattle.qh_loss.proofs.FramesOut.{Packets, frames_more, all_out_kept}

-- what was done so far
pub record AreQueuedSoFar (kind : SentFrame → Bool) (old now : PlainStreams) (fs : List SentFrame) (any : Bool) : Type 0 where
  pub queued : AreQueuedAgain old now (chosen kind fs) any
  pub keeps_out : KeepsOut old now

pub none_queued_yet : (kind : SentFrame → Bool) (s : PlainStreams) → AreQueuedSoFar kind s s [] false
none_queued_yet kind s = record { queued = none_queued s; keeps_out = λ f out. out }

or_true : (b : Bool) → (b || true) ≡ true
or_true true = refl
or_true false = refl

or_false : (b : Bool) → (b || false) ≡ b
or_false true = refl
or_false false = refl

module _ (kind : SentFrame → Bool) (fs : List SentFrame) (f : SentFrame) where
  chosen_more : kind f ≡ true → chosen kind (fs ++ f ∷ []) ≡ chosen kind fs ++ f ∷ []
  chosen_more is = filter-append kind fs (f ∷ []) ∙ ap (λ (b : Bool). chosen kind fs ++ cond b (f ∷ []) []) is

  chosen_less : kind f ≡ false → chosen kind (fs ++ f ∷ []) ≡ chosen kind fs
  chosen_less is = filter-append kind fs (f ∷ []) ∙ (ap (λ (b : Bool). chosen kind fs ++ cond b (f ∷ []) []) is ∙ append-nil (chosen kind fs))

queued_one : (old now new : PlainStreams) (fs : List SentFrame) (f : SentFrame) (any owes : Bool) → AreQueuedAgain old now fs any → IsLostFrame now new f
    → (owes ≡ true → IsSettledFrame now f → ⊥) → (owes ≡ false → IsSettledFrame now f) → AreQueuedAgain old new (fs ++ f ∷ []) (any || owes)
queued_one old now new fs f any true so_far lost some none = rw (or_true any) (owed_queued old now new fs any f so_far lost (some refl))
queued_one old now new fs f any false so_far lost some none = rw (or_false any) (settled_queued old now new fs any f so_far lost (none refl))

pub one_more_queued : (kind : SentFrame → Bool) (old now new : PlainStreams) (fs : List SentFrame) (f : SentFrame) (any owes : Bool) → AreQueuedSoFar kind old now fs any
    → kind f ≡ true → IsLostFrame now new f → (owes ≡ true → IsSettledFrame now f → ⊥) → (owes ≡ false → IsSettledFrame now f) → KeepsOut now new
    → AreQueuedSoFar kind old new (fs ++ f ∷ []) (any || owes)
one_more_queued kind old now new fs f any owes so_far is lost some none keeps = record {
  queued = rw (chosen_more kind fs f is) (queued_one old now new (chosen kind fs) f any owes so_far.queued lost some none);
  keeps_out = λ g out. keeps g (so_far.keeps_out g out);
}

pub one_skipped : (kind : SentFrame → Bool) (old now : PlainStreams) (fs : List SentFrame) (f : SentFrame) (any : Bool) → AreQueuedSoFar kind old now fs any
    → kind f ≡ false → AreQueuedSoFar kind old now (fs ++ f ∷ []) any
one_skipped kind old now fs f any so_far is = record { queued = rw (chosen_less kind fs f is) so_far.queued; keeps_out = so_far.keeps_out }

-- ---- the frames of packets

pub queued_both : (old mid new : PlainStreams) (fs gs : List SentFrame) (any : Bool) → AreQueuedAgain old mid fs false → AreQueuedAgain mid new gs any → AreQueuedAgain old new (fs ++ gs) any
queued_both old mid new fs gs any first (none_queued _) = rw (append-nil fs) first
queued_both old mid new fs gs any first (owed_queued _ last _ front was f before lost owes) =
    subst (λ (l : List SentFrame). AreQueuedAgain old new l true) (append_assoc fs front (f ∷ [])) (owed_queued old last new (fs ++ front) was f (queued_both old mid last fs front was first before) lost owes)
queued_both old mid new fs gs any first (settled_queued _ last _ front was f before lost settled) =
    subst (λ (l : List SentFrame). AreQueuedAgain old new l was) (append_assoc fs front (f ∷ [])) (settled_queued old last new (fs ++ front) was f (queued_both old mid last fs front was first before) lost settled)

pub queued_packet : (kind : SentFrame → Bool) (old mid new : PlainStreams) (es : Packets) (number : ℕ) (packet : SentPacket SentFrame) (any : Bool)
    → AreQueuedAgain old mid (chosen kind (frames_out es)) false → AreQueuedAgain mid new (chosen kind packet.frames.items) any
    → AreQueuedAgain old new (chosen kind (frames_out (es ++ (number, packet) ∷ []))) any
queued_packet kind old mid new es number packet any first second =
    rw (frames_more es number packet, filter-append kind (frames_out es) packet.frames.items) (queued_both old mid new (chosen kind (frames_out es)) (chosen kind packet.frames.items) any first second)

some_more : (fs : List SentFrame) (f : SentFrame) → fs ++ f ∷ [] ≡ [] → ⊥
some_more fs f none = let sum = sym (length-append fs (f ∷ [])) ∙ ap (λ (l : List SentFrame). length l) none in omega (arith, sum)

-- if no frame is queued, all is as it was
pub none_changed : (old new : PlainStreams) (fs : List SentFrame) (any : Bool) → AreQueuedAgain old new fs any → fs ≡ [] → new ≡ old
none_changed old new fs any (none_queued _) none = refl
none_changed old new fs any (owed_queued _ mid _ front was f before lost owes) none = absurd (some_more front f none)
none_changed old new fs any (settled_queued _ mid _ front was f before lost settled) none = absurd (some_more front f none)

again_tracked : (old new : PlainStreams) (fs out : List SentFrame) (any : Bool) → AreQueuedAgain old new fs any → AreTracked old out → AreTracked new out
again_tracked old new fs out any (none_queued _) t = t
again_tracked old new fs out any (owed_queued _ mid _ front was f before lost owes) t = drops_again (lost_drops mid new f lost) (again_tracked old mid front out was before t)
again_tracked old new fs out any (settled_queued _ mid _ front was f before lost settled) t = drops_again (lost_drops mid new f lost) (again_tracked old mid front out was before t)

-- what is owed still is
pub again_owed : (old new : PlainStreams) (fs : List SentFrame) (any : Bool) (es : Packets) → AreQueuedAgain old new fs any → KeepsOut old new → AreOwed old es → AreOwed new es
again_owed old new fs any es queued keeps owed = record {
  tracked = again_tracked old new fs (frames_out es) any queued owed.tracked;
  out = all_out_kept old new (frames_out es) keeps owed.out;
}

-- a frame of those that are all out is out
pub out_at : (s : PlainStreams) (fs : List SentFrame) (i : ℕ) (f : SentFrame) → AreAllOut s fs → i < length fs → f ≡ get_or fs i f → IsOut s f
out_at s [] i f out less is = absurd (omega (arith, less))
out_at s (g ∷ fs) zero f out less is = subst (λ (h : SentFrame). IsOut s h) (sym is) out.0
out_at s (g ∷ fs) (suc i) f out less is = out_at s fs i f out.1 (omega (arith, less)) is

-- the frames up to the next
pub taken_more : (fs : List SentFrame) (i : ℕ) (f : SentFrame) → i < length fs → f ≡ get_or fs i f → take (i + 1) fs ≡ take i fs ++ f ∷ []
taken_more fs i f less is = take_more fs i f less ∙ ap (λ (g : SentFrame). take i fs ++ g ∷ []) (sym is)
