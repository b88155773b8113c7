-- How far frames carry bytes of a stream, and frames that are acknowledged one after another.
use Rattle.std.proofs.Common.{◌≡◌, ℕ, ◌-◌, ◌<◌, ◌≤◌, ◌==◌, nat_lt, max, Bool, true, false, ◌&&◌, List, [], ◌∷◌, Option, refl, sym, ◌∙◌, arith, inl, inr, subst}
use Rattle.std.proofs.lemmas.Bool.{false≢true, lt-ltb, le-ltb, cases_lt, cases_Bool, eq-eqb, eqb-true, and_from}
use Rattle.qh_spec.specs.Lists.{In}
use Rattle.qh_buffers.specs.declared.send_buffer.Mark.{Mark}
use Rattle.qh_base.specs.declared.stream_id.StreamId.{StreamId}
use Rattle.qh_half.specs.declared.send.Outgoing.{Outgoing}
use Rattle.qh_streams.specs.Streams.{PlainStreams, AreAcked}
use Rattle.qh_streams.specs.Streams.AreAcked.{none as none_acked, more as more_acked}
use Rattle.qh_streams.specs.Tracked.{AreAmong, HasByte, OneIs}
use Rattle.qh_streams.specs.declared.frames.SentFrame.{SentFrame}
use Rattle.qh_streams.specs.declared.frames.SentFrame.TheVariants as sent
use Rattle.qh_accounts.specs.Carried.{carried_to, end_of}
use Rattle.qh_accounts.proofs.CarriedOf.{AreBy, at_end, in_behind, one_in}
use Rattle.qh_accounts.proofs.CarriedFrames.{acked_by}

-- ---- how far frames carry bytes

-- a frame that carries bytes of a stream: those up to there
record IsCarrying (id : ℕ) (f : SentFrame) : Type 0 where
  last : 0 < end_of id f → HasByte id (end_of id f - 1) f
  below : (n : ℕ) → HasByte id n f → n < end_of id f

stream_carries : (id : ℕ) (s : StreamId) (piece : Outgoing) → IsCarrying id (sent.Stream s piece)
stream_carries id s piece = elim (cases_Bool (s.0 == id && nat_lt piece.offsets.start piece.offsets.end)) [
  | inl carried ↦
      let parts = and_parts carried in
      record {
        last = λ some. rw carried (eqb-true s.0 id parts.0, below_of parts.1, omega (arith, rw carried at some));
        below = λ n has. rw carried has.2;
      }
  | inr none ↦ record {
    last = λ some. absurd (omega (arith, rw none at some));
    below = λ n has. absurd (false≢true (sym none ∙ and_from (s.0 == id) (nat_lt piece.offsets.start piece.offsets.end) (eq-eqb s.0 id has.0) (lt-ltb piece.offsets.start piece.offsets.end (omega (arith, has.1, has.2)))));
  }
] where
  and_parts : {a b : Bool} → (a && b) ≡ true → (a ≡ true) × (b ≡ true)
  and_parts {a = true} {b = b} e = (refl, e)
  and_parts {a = false} {b = b} e = absurd (false≢true e)

  below_of : nat_lt piece.offsets.start piece.offsets.end ≡ true → piece.offsets.start ≤ piece.offsets.end - 1
  below_of e = elim (cases_lt piece.offsets.start piece.offsets.end) [
    | inl low ↦ omega (arith, low)
    | inr high ↦ absurd (false≢true (sym (le-ltb piece.offsets.start piece.offsets.end high) ∙ e))
  ]

carries : (id : ℕ) (f : SentFrame) → IsCarrying id f
carries id (sent.Stream s piece) = stream_carries id s piece
carries id (sent.ResetStream s frame) = record { last = λ some. absurd (omega (arith, some)); below = λ n has. absurd has }
carries id (sent.StopSending s code) = record { last = λ some. absurd (omega (arith, some)); below = λ n has. absurd has }
carries id (sent.MaxData limit) = record { last = λ some. absurd (omega (arith, some)); below = λ n has. absurd has }
carries id (sent.MaxStreamData s limit) = record { last = λ some. absurd (omega (arith, some)); below = λ n has. absurd has }
carries id (sent.MaxStreams dir count) = record { last = λ some. absurd (omega (arith, some)); below = λ n has. absurd has }

last_carried : (id : ℕ) (fs : List SentFrame) → 0 < carried_to id fs → OneIs (HasByte id (carried_to id fs - 1)) fs
last_carried id [] some = absurd (omega (arith, some))
last_carried id (f ∷ fs) some = elim (cases_lt (carried_to id fs) (end_of id f)) [
  | inl here ↦
      let is : max (end_of id f) (carried_to id fs) ≡ end_of id f = omega (arith, here) in
      inl (subst (λ (x : ℕ). HasByte id (x - 1) f) (sym is) ((carries id f).last (omega (arith, here))))
  | inr behind ↦
      let is : max (end_of id f) (carried_to id fs) ≡ carried_to id fs = omega (arith, behind) in
      inr (subst (λ (x : ℕ). OneIs (HasByte id (x - 1)) fs) (sym is) (last_carried id fs (omega (arith, is, some))))
]

below_carried : (id n : ℕ) (fs : List SentFrame) → OneIs (HasByte id n) fs → n < carried_to id fs
below_carried id n [] one = absurd one
below_carried id n (f ∷ fs) (inl has) = let low = (carries id f).below n has in omega (arith, low)
below_carried id n (f ∷ fs) (inr one) = let low = below_carried id n fs one in omega (arith, low)

-- if each byte before one that is carried is carried too
pub carried_before : (fs : List SentFrame) (id n : ℕ) → ((id n k : ℕ) → OneIs (HasByte id n) fs → k ≤ n → OneIs (HasByte id k) fs) → (n < carried_to id fs → OneIs (HasByte id n) fs) × (OneIs (HasByte id n) fs → n < carried_to id fs)
carried_before fs id n front = (
  λ low. front id (carried_to id fs - 1) n (last_carried id fs (omega (arith, low))) (omega (arith, low)),
  below_carried id n fs,
)

-- ---- frames that stand in the list

pub acked_among : (M : Option Mark → Bool) (old new : PlainStreams) (acked fs : List SentFrame) → AreAmong acked fs → AreAcked old new acked → AreBy M old.send fs → AreBy M new.send fs
acked_among M old new acked fs among (none_acked _) a = a
acked_among M old new acked fs among (more_acked _ mid _ front f before last) a =
    let there : In f fs = among f (at_end f f front refl) in
    acked_by M mid new f fs (λ id n h is live has. one_in (HasByte id n) f fs has there) last
    (acked_among M old mid front fs (λ g in_it. among g (in_behind f g front in_it)) before a)
