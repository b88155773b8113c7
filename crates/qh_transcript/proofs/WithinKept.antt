-- How an end keeps within the peer's limits where these and the counts stay, and what a step of a half leaves.
use Rattle.std.proofs.Common.{◌≡◌, ◌⊎◌, ℕ, ◌+◌, ◌≤◌, Bool, true, false, List, [], ◌∷◌, ◌++◌, length, Some, refl, sym, ap, subst, ◌∙◌, arith, inl, inr}
use Rattle.std.proofs.lemmas.Bool.{eq-eqb}
use Rattle.std.proofs.lemmas.Bool.Decides.{eqb_tells}
use Rattle.qh_buffers.specs.SendBuffer.{taken_to}
use Rattle.qh_spec.specs.Transcript.{Act, HandedIn, HandedOut, Wrote, Finished, Reset, Stopped, ReadBytes, ReadEnd, ReadReset, written, written_of}
use Rattle.qh_half.specs.Send.{PlainSend}
use Rattle.qh_halves.specs.declared.counts.StreamCounts.{StreamCounts}
use Rattle.qh_halves.specs.SendHalves.{PlainSendHalves, send_at, IsStep, IsAbsent, IsLast, IsSettledBy}
use Rattle.qh_halves.specs.SendHalves.IsSettledBy.{absent, on, done}
use Rattle.qh_streams.specs.declared.frames.StreamFrame.{StreamFrame}
use Rattle.qh_streams.specs.Streams.{PlainStreams, counts_of, with_counts, first_limit}
use Rattle.qh_streams.proofs.StreamsTracked.{IsBefore, Goes}
use Rattle.qh_transcript.specs.Sending.{WriteNothing}
use Rattle.qh_transcript.specs.Within.{KeepsWithin, greatest, stream_given, count_given, first_count, written_length, written_in_all}
use Rattle.qh_transcript.proofs.SendingFrames.{side_set}
use Rattle.qh_transcript.proofs.SendingLists.{nothing_written}

-- ---- what was written, in all

pub all_behind : (t u : List Act) → written_in_all (t ++ u) ≡ written_in_all t + written_in_all u
all_behind [] u = omega arith
all_behind (a ∷ t) u = let rest = all_behind t u in omega (arith, rest)

none_left : (xs ys : List ℕ) → xs ++ ys ≡ [] → xs ≡ []
none_left [] ys e = refl
none_left (x ∷ xs) ys e = absurd (cc)

none_right : (xs ys : List ℕ) → xs ++ ys ≡ [] → ys ≡ []
none_right [] ys e = e
none_right (x ∷ xs) ys e = absurd (cc)

none_of : (a : Act) → ((id : ℕ) → written_of id a ≡ []) → written_length a ≡ 0
none_of (HandedIn d) e = refl
none_of (HandedOut d) e = refl
none_of (Wrote s bytes) e = ap length (rw (eq-eqb s s refl) at (e s))
none_of (Finished s) e = refl
none_of (Reset s code) e = refl
none_of (Stopped s code) e = refl
none_of (ReadBytes s offset bytes) e = refl
none_of (ReadEnd s) e = refl
none_of (ReadReset s code) e = refl

pub none_in_all : (u : List Act) → ((id : ℕ) → written u id ≡ []) → written_in_all u ≡ 0
none_in_all [] e = refl
none_in_all (a ∷ u) e =
    let first = none_of a (λ id. none_left (written_of id a) (written u id) (e id)) in
    let rest = none_in_all u (λ id. none_right (written_of id a) (written u id) (e id)) in
    omega (arith, first, rest)

pub restated : (s : PlainStreams) (frames : List StreamFrame) (t u : List Act) → ((k : ℕ) → written u k ≡ written t k) → written_in_all u ≡ written_in_all t → KeepsWithin s frames t → KeepsWithin s frames u
restated s frames t u bytes all p = record {
  all_bytes = rw all p.all_bytes;
  stream_bytes = λ k. rw (bytes k) (p.stream_bytes k);
  count = p.count;
  max_data = p.max_data;
  taken = p.taken ∙ sym all;
  credit = p.credit;
  halves = λ k h is. rw (bytes k) (p.halves k h is);
  max_opened = p.max_opened;
}

pub others : (s : PlainStreams) (frames : List StreamFrame) (t u : List Act) → WriteNothing u → KeepsWithin s frames t → KeepsWithin s frames (t ++ u)
others s frames t u none p =
    let empty = none_in_all u none.bytes in
    let all = all_behind t u in
    restated s frames t (t ++ u) (nothing_written t u none) (omega (arith, empty, all)) p

-- ---- limits and counts that stay

-- the half took as many bytes as before, and has the same limit
pub record KeepsTaken (h next : PlainSend) : Type 0 where
  pub taken : taken_to next.buffer ≡ taken_to h.buffer
  pub limit : next.max_data ≡ h.max_data

-- the sides, the peer's first limits and the counts of this end's streams stay
pub record KeepsCounts (old new : PlainStreams) : Type 0 where
  pub side : new.side ≡ old.side
  pub peer : new.peer ≡ old.peer
  pub opened : (b : Bool) → (counts_of new b).opened ≡ (counts_of old b).opened
  pub max_opened : (b : Bool) → (counts_of new b).max_opened ≡ (counts_of old b).max_opened

-- what all halves share stays, but the send window
pub record KeepsShared (old new : PlainSendHalves) : Type 0 where
  pub max_data : new.max_data ≡ old.max_data
  pub data_sent : new.data_sent ≡ old.data_sent

-- the halves and the counts are within the limits that were given, and all else stays
pub within : (old new : PlainStreams) (frames : List StreamFrame) (t : List Act) → new.side ≡ old.side → new.peer ≡ old.peer → KeepsShared old.send new.send
    → ((k : ℕ) (h : PlainSend) → send_at new.send k ≡ Some h → (taken_to h.buffer ≡ length (written t k)) × (h.max_data ≤ greatest (stream_given k) (first_limit old k) frames))
    → ((b : Bool) → (counts_of new b).opened ≤ greatest (count_given b) (first_count old b) frames)
    → ((b : Bool) → (counts_of new b).max_opened ≤ greatest (count_given b) (first_count old b) frames) → KeepsWithin old frames t → KeepsWithin new frames t
within old new frames t side peer s halves opened max_opened p = record {
  all_bytes = rw peer p.all_bytes;
  stream_bytes = λ k. rw (side, peer) (p.stream_bytes k);
  count = λ b. rw peer (opened b);
  max_data = rw (s.max_data, peer) p.max_data;
  taken = s.data_sent ∙ p.taken;
  credit = rw (s.data_sent, s.max_data) p.credit;
  halves = λ k h is. rw (side, peer) (halves k h is);
  max_opened = λ b. rw peer (max_opened b);
}

pub stays : (old new : PlainStreams) (frames : List StreamFrame) (t : List Act) → KeepsCounts old new → KeepsShared old.send new.send
    → ((k : ℕ) (h : PlainSend) → send_at new.send k ≡ Some h → IsBefore KeepsTaken (send_at old.send) k h) → KeepsWithin old frames t → KeepsWithin new frames t
stays old new frames t c s halves p =
    within old new frames t c.side c.peer s (λ k h is. let b = halves k h is in let was = p.halves k b.half b.was in (b.step.taken ∙ was.0, rw b.step.limit was.1))
    (λ b. rw (c.opened b) (p.count b)) (λ b. rw (c.max_opened b) (p.max_opened b)) p

same_half : (h : PlainSend) → KeepsTaken h h
same_half h = record { taken = refl; limit = refl }

pub kept : (old new : PlainStreams) (frames : List StreamFrame) (t : List Act) → KeepsCounts old new → new.send ≡ old.send → KeepsWithin old frames t → KeepsWithin new frames t
kept old new frames t c same p =
    stays old new frames t c (record { max_data = ap (λ (s : PlainSendHalves). s.max_data) same; data_sent = ap (λ (s : PlainSendHalves). s.data_sent) same })
    (λ k h is. record { half = h; was = rw same at is; step = same_half h }) p

before_at : (s : PlainSendHalves) (k id : ℕ) (h : PlainSend) → id ≡ k → IsBefore KeepsTaken (send_at s) id h → IsBefore KeepsTaken (send_at s) k h
before_at s k id h same b = subst (λ (k : ℕ). IsBefore KeepsTaken (send_at s) k h) same b

pub changed : {P : PlainSend → PlainSend → Type 0} {id : ℕ} (old new : PlainStreams) (frames : List StreamFrame) (t : List Act) → Goes P (send_at old.send) (send_at new.send) id
    → KeepsCounts old new → KeepsShared old.send new.send → ((h next : PlainSend) → P h next → KeepsTaken h next) → KeepsWithin old frames t → KeepsWithin new frames t
changed {id = id} old new frames t goes c s keeps p =
    stays old new frames t c s (λ k h is. elim (eqb_tells k id) [
      | inl same ↦ before_at old.send k id h (sym same.1) (let b = goes.here k h same.0 is in record { half = b.half; was = b.was; step = keeps b.half h b.step })
      | inr apart ↦ record { half = h; was = sym (goes.apart k apart.0) ∙ is; step = same_half h }
    ]) p

-- ---- what a step leaves

pub send_alone : (old new : PlainStreams) → new ≡ record old { send = new.send } → KeepsCounts old new
send_alone old new rest = record {
  side = ap (λ (s : PlainStreams). s.side) rest;
  peer = ap (λ (s : PlainStreams). s.peer) rest;
  opened = λ b. ap (λ (s : PlainStreams). (counts_of s b).opened) rest;
  max_opened = λ b. ap (λ (s : PlainStreams). (counts_of s b).max_opened) rest;
}

pub step_shared : {P : PlainSend → PlainSend → Type 0} {old new : PlainSendHalves} {id : ℕ} → IsStep P old new id 0 → KeepsShared old new
step_shared {old = old} s = let e = s.is.rest_is in record {
  max_data = ap (λ (s : PlainSendHalves). s.max_data) e;
  data_sent = let sum = ap (λ (s : PlainSendHalves). s.data_sent) e in omega (arith, sum);
}

pub last_shared : {P : PlainSend → PlainSend → Type 0} {old new : PlainSendHalves} {id : ℕ} → IsLast P old new id → KeepsShared old new
last_shared {old = old} s = let e = s.is.rest_is in record {
  max_data = ap (λ (s : PlainSendHalves). s.max_data) e;
  data_sent = let sum = ap (λ (s : PlainSendHalves). s.data_sent) e in omega (arith, sum);
}

pub or_absent_shared : {P : PlainSend → PlainSend → Type 0} {old new : PlainSendHalves} {id : ℕ} → IsStep P old new id 0 ⊎ IsAbsent old new id → KeepsShared old new
or_absent_shared (inl s) = step_shared s
or_absent_shared (inr a) = record { max_data = ap (λ (s : PlainSendHalves). s.max_data) a.same; data_sent = ap (λ (s : PlainSendHalves). s.data_sent) a.same }

pub settled_shared : {P : PlainSend → PlainSend → Type 0} {old new : PlainSendHalves} {id : ℕ} {gone : Bool} → IsSettledBy P old new id gone → KeepsShared old new
settled_shared (absent a) = record { max_data = ap (λ (s : PlainSendHalves). s.max_data) a.same; data_sent = ap (λ (s : PlainSendHalves). s.data_sent) a.same }
settled_shared (on s) = step_shared s
settled_shared (done l) = last_shared l

pub taken_as : (h next : PlainSend) → next.buffer ≡ h.buffer → next.max_data ≡ h.max_data → KeepsTaken h next
taken_as h next bytes limit = record { taken = ap taken_to bytes; limit = limit }

-- ---- counts

pub at_counts : (P : Bool → StreamCounts → Type 0) (s : PlainStreams) (two_way b : Bool) (c : StreamCounts) → P two_way c → P b (counts_of s b) → P b (counts_of (with_counts s two_way c) b)
at_counts P s true true c here there = here
at_counts P s true false c here there = there
at_counts P s false true c here there = there
at_counts P s false false c here there = here

peer_set : (s : PlainStreams) (two_way : Bool) (c : StreamCounts) → (with_counts s two_way c).peer ≡ s.peer
peer_set s true c = refl
peer_set s false c = refl

pub peer_after : (new s : PlainStreams) (two_way : Bool) (c : StreamCounts) → new ≡ with_counts s two_way c → (new.side ≡ s.side) × (new.peer ≡ s.peer)
peer_after new s two_way c rest = (ap (λ (s : PlainStreams). s.side) rest ∙ side_set s two_way c, ap (λ (s : PlainStreams). s.peer) rest ∙ peer_set s two_way c)
