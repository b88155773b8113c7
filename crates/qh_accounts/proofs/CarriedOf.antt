-- Bytes that were sent stand in frames, and what frames carry of a stream is a prefix of it: told for any test of the marks that count
-- as sent.
use Rattle.std.proofs.Common.{◌≡◌, ℕ, ◌≤◌, Bool, true, false, List, [], ◌∷◌, ◌++◌, Option, None, refl, sym, ap, ◌∙◌, inl, inr}
use Rattle.qh_spec.specs.Lists.{In}
use Rattle.qh_buffers.specs.SendBuffer.{mark_at, requeued, waits}
use Rattle.qh_buffers.specs.declared.send_buffer.Mark.{Mark}
use Rattle.qh_half.specs.Send.{PlainSend, is_reset}
use Rattle.qh_halves.specs.SendHalves.{PlainSendHalves, send_at}
use Rattle.qh_streams.specs.Tracked.{AreAmong, HasByte, OneIs}
use Rattle.qh_streams.specs.declared.frames.SentFrame.{SentFrame}
use Rattle.qh_streams.proofs.StreamsTracked.{Goes, SentBy, at_half}

-- a byte that isn't queued counts; one that was never sent doesn't; no byte comes to count by being queued again
pub record IsTest (M : Option Mark → Bool) : Type 0 where
  pub settled : (m : Option Mark) → waits m true ≡ false → M m ≡ true
  pub none : M None ≡ false
  pub again : (m : Option Mark) → M (requeued m) ≡ true → M m ≡ true

-- the byte of a half counts as sent
abbrev pub Counts : (Option Mark → Bool) → PlainSend → (n : ℕ) → Type 0
Counts M h n = (is_reset h.state ≡ false) × (M (mark_at h.buffer n) ≡ true)

abbrev pub CountsAt : (Option Mark → Bool) → PlainSendHalves → (id n : ℕ) → Type 0
CountsAt M s id n = SentBy (Counts M) (send_at s) id n

pub record AreBy (M : Option Mark → Bool) (s : PlainSendHalves) (frames : List SentFrame) : Type 0 where
  pub sent : (id n : ℕ) → CountsAt M s id n → OneIs (HasByte id n) frames
  pub front : (id n k : ℕ) → OneIs (HasByte id n) frames → k ≤ n → OneIs (HasByte id k) frames

-- ---- steps by which no byte comes to count

abbrev pub NoMore : (Option Mark → Bool) → PlainSendHalves → PlainSendHalves → Type 0
NoMore M old new = (id n : ℕ) → CountsAt M new id n → CountsAt M old id n

abbrev pub GainsNothing : (Option Mark → Bool) → PlainSend → PlainSend → Type 0
GainsNothing M h next = (n : ℕ) → Counts M next n → Counts M h n

pub no_more : (M : Option Mark → Bool) {old new : PlainSendHalves} {fs : List SentFrame} → NoMore M old new → AreBy M old fs → AreBy M new fs
no_more M fewer a = record { sent = λ id n w. a.sent id n (fewer id n w); front = a.front }

pub goes_no_more : (M : Option Mark → Bool) {P : PlainSend → PlainSend → Type 0} (old new : PlainSendHalves) {id : ℕ} → Goes P (send_at old) (send_at new) id
    → ((h next : PlainSend) → P h next → GainsNothing M h next) → NoMore M old new
goes_no_more M old new goes gains k n w =
    at_half (λ k n. CountsAt M old k n) goes (λ h g n is p c. record { half = h; is = is; sent = gains h g p n c }) (λ k n apart c. c) k n w

pub halves_no_more : (M : Option Mark → Bool) (old new : PlainSendHalves) → new.halves ≡ old.halves → NoMore M old new
halves_no_more M old new e id n w = record { half = w.half; is = rw e at w.is; sent = w.sent }

-- if the bytes stay, and the half was reset afterwards exactly if it was before
pub same_gains : (M : Option Mark → Bool) (h next g : PlainSend) → next ≡ g → is_reset g.state ≡ is_reset h.state → ((n : ℕ) → mark_at g.buffer n ≡ mark_at h.buffer n) → GainsNothing M h next
same_gains M h next g e state_is marks n c =
    let live : is_reset next.state ≡ is_reset g.state = ap (λ (x : PlainSend). is_reset x.state) e in
    let mark : M (mark_at next.buffer n) ≡ M (mark_at g.buffer n) = ap (λ (x : PlainSend). M (mark_at x.buffer n)) e in
    (sym state_is ∙ sym live ∙ c.0, ap M (sym (marks n)) ∙ sym mark ∙ c.1)

-- ---- lists of frames

pub one_in : (P : SentFrame → Type 0) (f : SentFrame) (gs : List SentFrame) → P f → In f gs → OneIs P gs
one_in P f [] p there = there
one_in P f (g ∷ gs) p (inl same) = inl (rw same p)
one_in P f (g ∷ gs) p (inr there) = inr (one_in P f gs p there)

pub one_among : (P : SentFrame → Type 0) (fs gs : List SentFrame) → AreAmong fs gs → OneIs P fs → OneIs P gs
one_among P [] gs among one = absurd one
one_among P (f ∷ fs) gs among (inl p) = one_in P f gs p (among f (inl refl))
one_among P (f ∷ fs) gs among (inr one) = one_among P fs gs (λ g there. among g (inr there)) one

pub same_frames : (M : Option Mark → Bool) {s : PlainSendHalves} {fs gs : List SentFrame} → AreAmong fs gs → AreAmong gs fs → AreBy M s fs → AreBy M s gs
same_frames M {fs = fs} {gs = gs} there back a = record {
  sent = λ id n w. one_among (HasByte id n) fs gs there (a.sent id n w);
  front = λ id n k one low. one_among (HasByte id k) fs gs there (a.front id n k (one_among (HasByte id n) gs fs back one) low);
}

pub in_behind : (f g : SentFrame) (fs : List SentFrame) → In g fs → In g (fs ++ f ∷ [])
in_behind f g [] there = absurd there
in_behind f g (h ∷ fs) (inl same) = inl same
in_behind f g (h ∷ fs) (inr there) = inr (in_behind f g fs there)

pub at_end : (f g : SentFrame) (fs : List SentFrame) → f ≡ g → In g (fs ++ f ∷ [])
at_end f g [] same = inl same
at_end f g (h ∷ fs) same = inr (at_end f g fs same)

to_end : (f : SentFrame) (fs : List SentFrame) → AreAmong (f ∷ fs) (fs ++ f ∷ [])
to_end f fs g (inl same) = at_end f g fs same
to_end f fs g (inr there) = in_behind f g fs there

to_front : (f : SentFrame) (fs : List SentFrame) → AreAmong (fs ++ f ∷ []) (f ∷ fs)
to_front f [] g there = there
to_front f (h ∷ fs) g (inl same) = inr (inl same)
to_front f (h ∷ fs) g (inr there) = elim (to_front f fs g there) [
  | inl same ↦ inl same
  | inr behind ↦ inr (inr behind)
]

pub one_behind : (M : Option Mark → Bool) {s : PlainSendHalves} {f : SentFrame} {fs : List SentFrame} → AreBy M s (f ∷ fs) → AreBy M s (fs ++ f ∷ [])
one_behind M {f = f} {fs = fs} a = same_frames M (to_end f fs) (to_front f fs) a
