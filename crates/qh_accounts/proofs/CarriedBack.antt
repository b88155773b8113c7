-- Of the bytes that aren't queued, what was handed over and taken back by a call leaves nothing: those that count after it did so before.
use Rattle.std.proofs.Common.{◌≡◌, ◌⊎◌, ℕ, ◌<◌, Bool, true, false, not, List, [], ◌∷◌, ◌++◌, Option, Some, None, reverse, refl, sym, ap, ◌∙◌, inl, inr, subst}
use Rattle.std.proofs.lemmas.Bool.{false≢true, lt-ltb}
use Rattle.std.proofs.lemmas.List.{reverse-append}
use Rattle.qh_buffers.specs.SendBuffer.{is_acked_mark, is_queued, mark_at, requeued, taken_to, waits}
use Rattle.qh_buffers.specs.declared.send_buffer.Mark.{Mark}
use Rattle.qh_buffers.specs.declared.send_buffer.Mark.TheVariants.{Sent, Queued, Acked}
use Rattle.qh_buffers.proofs.Pieces.{between_true}
use Rattle.qh_half.specs.Send.{PlainSend, is_reset}
use Rattle.qh_half.specs.declared.send.Outgoing.{Outgoing}
use Rattle.qh_halves.specs.SendHalves.{GivesPiece, send_at}
use Rattle.qh_streams.specs.Streams.{PlainStreams, AreHanded, AreLost, AreTakenBack, IsHandedOver, is_two_way}
use Rattle.qh_streams.specs.Streams.AreHanded.{none as none_handed, more as more_handed}
use Rattle.qh_streams.specs.Streams.AreLost.{none as none_lost, more as more_lost}
use Rattle.qh_streams.specs.Streams.IsHandedOver.{stream as stream_handed, reset as reset_handed, stop as stop_handed, max_stream_data as max_stream_data_handed, max_data as max_data_handed, max_streams as max_streams_handed}
use Rattle.qh_streams.specs.Tracked.{HasByte, OneIs}
use Rattle.qh_streams.specs.declared.frames.SentFrame.{SentFrame}
use Rattle.qh_streams.proofs.StreamsSettled.{counts_alone}
use Rattle.qh_streams.proofs.StreamsTracked.{Has, IsSent, Owed, byte, sender, step_goes}
use Rattle.qh_streams.proofs.StreamsTrackedSteps.{written_adds}
use Rattle.qh_streams.proofs.StreamsTrackedSettled.{lost_drops}
use Rattle.qh_accounts.specs.Carried.{AreCarried}
use Rattle.qh_accounts.proofs.CarriedOf.{AreBy, CountsAt, GainsNothing, IsTest, NoMore, goes_no_more}
use Rattle.qh_accounts.proofs.CarriedFrames.{inside, outside, at_range, given_reset_gains, lost_all_no_more, same_no_more, sent_state}

-- a byte was sent and isn't queued
abbrev pub is_unqueued : Option Mark → Bool
is_unqueued m = not (waits m true)

flipped : (b : Bool) → b ≡ false → not b ≡ true
flipped false e = refl
flipped true e = absurd (false≢true (sym e))

back_again : (b : Bool) → not b ≡ true → b ≡ false
back_again false e = refl
back_again true e = absurd (false≢true e)

pub unqueued_is_test : IsTest is_unqueued
unqueued_is_test = record { settled = λ m e. flipped (waits m true) e; none = refl; again = again } where
  again : (m : Option Mark) → is_unqueued (requeued m) ≡ true → is_unqueued m ≡ true
  again None e = e
  again (Some Sent) e = refl
  again (Some Queued) e = e
  again (Some Acked) e = refl

pub by_unqueued : {s : PlainStreams} {fs : List SentFrame} → AreCarried s fs → AreBy is_unqueued s.send fs
by_unqueued a = record { sent = λ id n w. a.sent id n w.half w.is w.sent.0 (back_again (waits (mark_at w.half.buffer n) true) w.sent.1); front = a.front }

pub from_unqueued : {s : PlainStreams} {fs : List SentFrame} → AreBy is_unqueued s.send fs → AreCarried s fs
from_unqueued a = record { sent = λ id n h is live quiet. a.sent id n (record { half = h; is = is; sent = (live, flipped (waits (mark_at h.buffer n) true) quiet) }); front = a.front }

pub sent_stands : (s : PlainStreams) (fs : List SentFrame) (id n : ℕ) (h : PlainSend) → AreCarried s fs → send_at s.send id ≡ Some h → is_reset h.state ≡ false → n < taken_to h.buffer → is_queued h.buffer n ≡ false
    → OneIs (HasByte id n) fs
sent_stands s fs id n h a is live taken quiet = a.sent id n h is live (rw (lt-ltb n (taken_to h.buffer) taken) at quiet)

-- ---- a mark that says sent was there before, or its frame was handed over; and its frame isn't lost

one_sides : (P : SentFrame → Type 0) (fs gs : List SentFrame) → OneIs P (fs ++ gs) → OneIs P fs ⊎ OneIs P gs
one_sides P [] gs one = inr one
one_sides P (f ∷ fs) gs (inl p) = inl (inl p)
one_sides P (f ∷ fs) gs (inr one) = elim (one_sides P fs gs one) [
  | inl before ↦ inl (inr before)
  | inr behind ↦ inr behind
]

one_left : (P : SentFrame → Type 0) (fs gs : List SentFrame) → OneIs P fs → OneIs P (fs ++ gs)
one_left P [] gs one = absurd one
one_left P (f ∷ fs) gs (inl p) = inl p
one_left P (f ∷ fs) gs (inr one) = inr (one_left P fs gs one)

one_right : (P : SentFrame → Type 0) (fs gs : List SentFrame) → OneIs P gs → OneIs P (fs ++ gs)
one_right P [] gs one = one
one_right P (f ∷ fs) gs one = inr (one_right P fs gs one)

one_turned : (P : SentFrame → Type 0) (fs : List SentFrame) → OneIs P fs → OneIs P (reverse fs)
one_turned P [] one = absurd one
one_turned P (f ∷ fs) one = subst (λ (l : List SentFrame). OneIs P l) (sym (reverse-append (f ∷ []) fs)) (elim one [
  | inl p ↦ one_right P (reverse fs) (f ∷ []) (inl p)
  | inr behind ↦ one_left P (reverse fs) (f ∷ []) (one_turned P fs behind)
])

all_adds : (old new : PlainStreams) (fs : List SentFrame) (o : Owed) → AreHanded old new fs → IsSent new o → IsSent old o ⊎ OneIs (Has o) fs
all_adds old new fs o (none_handed _) w = inl w
all_adds old new fs o (more_handed room _ mid _ f rest handed behind) w = elim (all_adds mid new rest o behind w) [
  | inl then ↦ elim (written_adds old mid room f handed o then) [
    | inl before ↦ inl before
    | inr has ↦ inr (inl has)
  ]
  | inr one ↦ inr (inr one)
]

all_drops : (old new : PlainStreams) (fs : List SentFrame) (o : Owed) → AreLost old new fs → IsSent new o → IsSent old o × (OneIs (Has o) fs → ⊥)
all_drops old new fs o (none_lost _) w = (w, λ one. one)
all_drops old new fs o (more_lost _ mid _ front f before lost) w =
    let last = lost_drops mid new f lost o w in
    let first = all_drops old mid front o before last.0 in (
      first.0,
      λ one. elim (one_sides (Has o) front (f ∷ []) one) [
        | inl there ↦ first.1 there
        | inr end ↦ elim end [
          | inl has ↦ last.1 has
          | inr none ↦ none
        ]
      ],
    )

sent_before : (old new : PlainStreams) (o : Owed) → AreTakenBack old new → IsSent new o → IsSent old o
sent_before old new o back w =
    let was = all_drops back.mid new (reverse back.frames) o back.lost w in
    elim (all_adds old back.mid back.frames o back.handed was.0) [
      | inl before ↦ before
      | inr one ↦ absurd (was.1 (one_turned (Has o) back.frames one))
    ]

-- ---- a mark that says acknowledged was there before

gives_acked : (room : ℕ) (piece : Outgoing) (h next : PlainSend) → GivesPiece room piece h next → GainsNothing is_acked_mark h next
gives_acked room piece h next (inl p) n c = elim (at_range piece.offsets.start piece.offsets.end n) [
  | inside above within ↦ absurd (false≢true (ap is_acked_mark (sym (rw (between_true piece.offsets.start piece.offsets.end n above within) at (p.bytes_are.marks n))) ∙ c.1))
  | outside away ↦ (p.not_reset, ap is_acked_mark (sym (rw away at (p.bytes_are.marks n))) ∙ c.1)
]
gives_acked room piece h next (inr p) n c = let was = rw p.new_is at c in (sym (sent_state true h.state) ∙ was.0, was.1)

handed_acked : (old new : PlainStreams) (room : ℕ) (f : SentFrame) → IsHandedOver old new room f → NoMore is_acked_mark old.send new.send
handed_acked old new room f (stream_handed id piece next e) = goes_no_more is_acked_mark old.send new.send (step_goes next.step) (gives_acked _ piece)
handed_acked old new room f (reset_handed id frame next e) = goes_no_more is_acked_mark old.send new.send (step_goes next.step) (given_reset_gains is_acked_mark frame)
handed_acked old new room f (stop_handed id code step e) = same_no_more is_acked_mark old.send new.send (ap (λ (s : PlainStreams). s.send) e)
handed_acked old new room f (max_stream_data_handed id limit step e) = same_no_more is_acked_mark old.send new.send (ap (λ (s : PlainStreams). s.send) e)
handed_acked old new room f (max_data_handed limit is due e) = same_no_more is_acked_mark old.send new.send (ap (λ (s : PlainStreams). s.send) e)
handed_acked old new room f (max_streams_handed dir n is due e) = same_no_more is_acked_mark old.send new.send (ap (λ (s : PlainStreams). s.send) e ∙ (counts_alone old (is_two_way dir) _).send_is)

all_handed_acked : (old new : PlainStreams) (fs : List SentFrame) → AreHanded old new fs → NoMore is_acked_mark old.send new.send
all_handed_acked old new fs (none_handed _) = λ id n w. w
all_handed_acked old new fs (more_handed room _ mid _ f rest handed behind) = λ id n w. handed_acked old mid room f handed id n (all_handed_acked mid new rest behind id n w)

acked_again : (m : Option Mark) → is_acked_mark (requeued m) ≡ true → is_acked_mark m ≡ true
acked_again None e = e
acked_again (Some Sent) e = e
acked_again (Some Queued) e = e
acked_again (Some Acked) e = e

acked_before : (old new : PlainStreams) → AreTakenBack old new → NoMore is_acked_mark old.send new.send
acked_before old new back id n w = all_handed_acked old back.mid back.frames back.handed id n (lost_all_no_more is_acked_mark acked_again back.mid new (reverse back.frames) back.lost id n w)

-- ---- both

by_mark : (m : Option Mark) (X : Type 0) → is_unqueued m ≡ true → (m ≡ Some Sent → X) → (is_acked_mark m ≡ true → X) → X
by_mark None X e sent acked = absurd (false≢true e)
by_mark (Some Sent) X e sent acked = sent refl
by_mark (Some Queued) X e sent acked = absurd (false≢true e)
by_mark (Some Acked) X e sent acked = acked refl

unqueued_acked : (m : Option Mark) → is_acked_mark m ≡ true → is_unqueued m ≡ true
unqueued_acked None e = e
unqueued_acked (Some Sent) e = refl
unqueued_acked (Some Queued) e = e
unqueued_acked (Some Acked) e = refl

pub taken_back_no_more : (old new : PlainStreams) → AreTakenBack old new → NoMore is_unqueued old.send new.send
taken_back_no_more old new back id n w = by_mark (mark_at w.half.buffer n) (CountsAt is_unqueued old.send id n) w.sent.1
    (λ mark. let was = sent_before old new (sender id (byte n)) back (record { half = w.half; is = w.is; sent = (w.sent.0, mark) }) in
    record { half = was.half; is = was.is; sent = (was.sent.0, ap is_unqueued was.sent.1) })
    (λ mark. let was = acked_before old new back id n (record { half = w.half; is = w.is; sent = (w.sent.0, mark) }) in
    record { half = was.half; is = was.is; sent = (was.sent.0, unqueued_acked (mark_at was.half.buffer n) was.sent.1) })
