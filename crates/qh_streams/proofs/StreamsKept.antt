-- What a step leaves of all that the streams of a connection keep, and of the frames that are out.
use Rattle.std.proofs.Common.{◌≡◌, ℕ, ◌+◌, ◌≤◌, ◌==◌, nat_lt, Bool, true, false, ◌&&◌, ◌||◌, not, length, Option, Some, None, is_some, Result, Ok, Err, if◌then◌else◌, refl, sym, ap, ap₂, ◌∙◌, arith, inl, inr}
use Rattle.std.proofs.lemmas.Bool.{false≢true}
use Rattle.std.proofs.lemmas.Bool.Decides.{eqb_tells}
use Rattle.qh_halves.specs.declared.counts.StreamCounts.{StreamCounts}
use Rattle.qh_streams.specs.declared.frames.SentFrame.TheVariants as sent
use Rattle.qh_halves.specs.Counts.{AreCounts, AreNoFewer, is_own, is_bi, index_of}
use Rattle.qh_half.specs.Send.{PlainSend}
use Rattle.qh_halves.specs.SendHalves.{PlainSendHalves, send_at, IsStep, IsLast, IsSettledBy, absent, on, done, KeepsSpans}
use Rattle.qh_buffers.specs.declared.assembler.Chunk.{Chunk}
use Rattle.qh_half.specs.declared.fault.ReadFault.{ReadFault}
use Rattle.qh_half.specs.Recv.{PlainRecv}
use Rattle.qh_halves.specs.RecvHalves.{PlainRecvHalves, half_readable_fault, readable_fault_at, recv_at, unless_done, IsBegunRead, IsRecvStep}
use Rattle.qh_streams.specs.Streams.{PlainStreams, AreStreams, KeepsOut, counts_of, with_counts, counted_closed, is_live, was_opened}

-- what holds if a call went well, and if it didn't
pub by_result : {T E X : Type 0} (r : Result T E) → ((v : T) → r ≡ Ok v → X) → ((e : E) → r ≡ Err e → X) → X
by_result (Ok v) ok err = ok v refl
by_result (Err e) ok err = err e refl

-- ---- halves: none is there that wasn't

pub record AreSendKept (old new : PlainSendHalves) : Type 0 where
  pub among : (k : ℕ) → is_some (send_at new k) ≡ true → is_some (send_at old k) ≡ true
  pub count : length new.halves ≤ length old.halves

pub record AreRecvKept (old new : PlainRecvHalves) : Type 0 where
  pub among : (k : ℕ) → is_some (recv_at new k) ≡ true → is_some (recv_at old k) ≡ true

-- one half was there, and all others are as they were
one_there : {X : Type 0} (here : Bool) (at before after : Option X) → (here ≡ true → is_some before ≡ true) → after ≡ (if here then at else before) → is_some after ≡ true → is_some before ≡ true
one_there true at before after was after_is there = was refl
one_there false at before after was after_is there = rw after_is at there

was_there : {X : Type 0} (f : ℕ → Option X) (id k : ℕ) (half : X) → f id ≡ Some half → (k == id) ≡ true → is_some (f k) ≡ true
was_there f id k half was e = elim (eqb_tells k id) [
  | inl same ↦ rw (same.1, was) refl
  | inr apart ↦ absurd (false≢true (sym apart.0 ∙ e))
]

pub send_same : {old new : PlainSendHalves} → new ≡ old → AreSendKept old new
send_same {old = old} e = rw e (record { among = λ k there. there; count = omega arith })

pub send_halves_same : {old new : PlainSendHalves} → new.halves ≡ old.halves → AreSendKept old new
send_halves_same {old = old} {new = new} e = record {
  among = λ k there. rw e at there;
  count = rw e (omega arith);
}

pub send_step : {P : PlainSend → PlainSend → Type 0} {old new : PlainSendHalves} {id taken : ℕ} → IsStep P old new id taken → AreSendKept old new
send_step {old = old} {new = new} {id = id} s = record {
  among = λ k. one_there (k == id) (Some s.next) (send_at old k) (send_at new k) (was_there (send_at old) id k s.half s.was) (s.is.halves_are k);
  count = omega (arith, s.count);
}

pub send_last : {P : PlainSend → PlainSend → Type 0} {old new : PlainSendHalves} {id : ℕ} → IsLast P old new id → AreSendKept old new
send_last {old = old} {new = new} {id = id} s = record {
  among = λ k. one_there (k == id) None (send_at old k) (send_at new k) (was_there (send_at old) id k s.half s.was) (s.is.halves_are k);
  count = omega (arith, s.count);
}

pub send_settled : {P : PlainSend → PlainSend → Type 0} {old new : PlainSendHalves} {id : ℕ} {gone : Bool} → IsSettledBy P old new id gone → AreSendKept old new
send_settled (absent a) = send_same a.same
send_settled (on s) = send_step s
send_settled (done s) = send_last s

pub recv_same : {old new : PlainRecvHalves} → new ≡ old → AreRecvKept old new
recv_same e = record { among = λ k there. rw e at there }

pub recv_step : {P : PlainRecv → PlainRecv → Type 0} {old new : PlainRecvHalves} {id fresh : ℕ} → IsRecvStep P old new id fresh → AreRecvKept old new
recv_step {old = old} {new = new} {id = id} s = record {
  among = λ k. one_there (k == id) (unless_done s.next) (recv_at old k) (recv_at new k) (was_there (recv_at old) id k s.half s.was) (s.halves_are k);
}

-- a read that begins and gives
pub recv_read : {old new : PlainRecvHalves} {id max : ℕ} {order : Bool} {answer : Result (Option Chunk) ReadFault} → IsBegunRead max order answer old new id → AreRecvKept old new
recv_read read = record { among = λ k there. (recv_step read.begun).among k ((recv_step read.reads).among k there) }

-- ---- streams that were opened stay so

pub record AreLater (old new : PlainStreams) : Type 0 where
  pub side_is : new.side ≡ old.side
  pub counts : (two_way : Bool) → AreNoFewer (counts_of old two_way) (counts_of new two_way)

pub counts_same : (c : StreamCounts) → AreNoFewer c c
counts_same c = record { opened = omega arith; arrived = omega arith }

pub later_same : (old new : PlainStreams) → new.side ≡ old.side → new.bi ≡ old.bi → new.uni ≡ old.uni → AreLater old new
later_same old new side_is bi_is uni_is = record {
  side_is = side_is;
  counts = λ two_way. rw (bi_is, uni_is) (counts_same (counts_of old two_way));
}

-- new counts of one direction
pub later_counts : (s : PlainStreams) (two_way : Bool) (c : StreamCounts) → AreNoFewer (counts_of s two_way) c → AreLater s (with_counts s two_way c)
later_counts s true c more = record { side_is = refl; counts = counts_at } where
  counts_at : (b : Bool) → AreNoFewer (counts_of s b) (counts_of (with_counts s true c) b)
  counts_at true = more
  counts_at false = counts_same s.uni
later_counts s false c more = record { side_is = refl; counts = counts_at } where
  counts_at : (b : Bool) → AreNoFewer (counts_of s b) (counts_of (with_counts s false c) b)
  counts_at true = counts_same s.bi
  counts_at false = more

still_less : (i a b : ℕ) → a ≤ b → nat_lt i a ≡ true → nat_lt i b ≡ true
still_less i a b more less = grind (arith, more, less)

more_of : (own : Bool) (old new : StreamCounts) → AreNoFewer old new → (if own then old.opened else old.arrived) ≤ (if own then new.opened else new.arrived)
more_of true old new more = more.opened
more_of false old new more = more.arrived

pub still_opened : {old new : PlainStreams} → AreLater old new → (k : ℕ) → was_opened old k ≡ true → was_opened new k ≡ true
still_opened {old = old} {new = new} later k was =
    let own_is : is_own new.side k ≡ is_own old.side k = rw later.side_is refl in
    rw own_is
    (still_less (index_of k) _ _ (more_of (is_own old.side k) (counts_of old (is_bi k)) (counts_of new (is_bi k)) (later.counts (is_bi k))) was)

-- ---- all that the streams keep

pub kept : {old new : PlainStreams} {before after : ℕ} → AreStreams old before → AreLater old new → AreSendKept old.send new.send → AreRecvKept old.recv new.recv → AreCounts new.bi → AreCounts new.uni
    → length new.events + length new.send.halves ≤ after → AreStreams new after
kept {old = old} {new = new} ok later send recv bi uni room = record {
  send_live = λ k there. let live = ok.send_live k (send.among k there) in (still_opened later k live.0, rw later.side_is live.1);
  recv_live = λ k there. let live = ok.recv_live k (recv.among k there) in (still_opened later k live.0, rw later.side_is live.1);
  bi = bi;
  uni = uni;
  room = room;
}

-- steps of the halves, and events in the room that there is
pub halves_kept : {old new : PlainStreams} {before after : ℕ} → AreStreams old before → AreSendKept old.send new.send → AreRecvKept old.recv new.recv → new.side ≡ old.side → new.bi ≡ old.bi → new.uni ≡ old.uni
    → length new.events + length new.send.halves ≤ after → AreStreams new after
halves_kept ok send recv side_is bi_is uni_is room = kept ok (later_same _ _ side_is bi_is uni_is) send recv (rw bi_is ok.bi) (rw uni_is ok.uni) room

-- a step of the sending halves alone
pub send_kept : {old new : PlainStreams} {capacity : ℕ} → AreStreams old capacity → AreSendKept old.send new.send → new ≡ record old { send = new.send } → AreStreams new capacity
send_kept {old = old} {new = new} ok send e =
    let told = ap (λ (s : PlainStreams). length s.events) e in
    halves_kept ok send (rw e (recv_same refl)) (ap (λ (s : PlainStreams). s.side) e) (ap (λ (s : PlainStreams). s.bi) e) (ap (λ (s : PlainStreams). s.uni) e) (omega (arith, ok.room, send.count, told))

-- a step of the receiving halves alone
pub recv_kept : {old new : PlainStreams} {capacity : ℕ} → AreStreams old capacity → AreRecvKept old.recv new.recv → new ≡ record old { recv = new.recv } → AreStreams new capacity
recv_kept {old = old} {new = new} ok recv e =
    let room : length new.events + length new.send.halves ≤ _ = rw (ap (λ (s : PlainStreams). length s.events + length s.send.halves) e) ok.room in
    halves_kept ok (send_same (ap (λ (s : PlainStreams). s.send) e)) recv (ap (λ (s : PlainStreams). s.side) e) (ap (λ (s : PlainStreams). s.bi) e) (ap (λ (s : PlainStreams). s.uni) e) room

-- new counts of one direction
pub counts_kept : {s : PlainStreams} {capacity : ℕ} (two_way : Bool) (c : StreamCounts) → AreStreams s capacity → AreNoFewer (counts_of s two_way) c → AreCounts c → AreStreams (with_counts s two_way c) capacity
counts_kept {s = s} true c ok more are = kept ok (later_counts s true c more) (send_same refl) (recv_same refl) are ok.uni ok.room
counts_kept {s = s} false c ok more are = kept ok (later_counts s false c more) (send_same refl) (recv_same refl) ok.bi are ok.room

-- both are set, the one as it was
abbrev pub both_set : PlainStreams → (two_way : Bool) → StreamCounts → PlainStreams
both_set s two_way c = record s { bi = (if two_way then c else s.bi); uni = (if two_way then s.uni else c) }

pub both_are : (s : PlainStreams) (two_way : Bool) (c : StreamCounts) → both_set s two_way c ≡ with_counts s two_way c
both_are s true c = refl
both_are s false c = refl

pub both_kept : {s : PlainStreams} {capacity : ℕ} (two_way : Bool) (c : StreamCounts) → AreStreams s capacity → AreNoFewer (counts_of s two_way) c → AreCounts c → AreStreams (both_set s two_way c) capacity
both_kept {s = s} two_way c ok more are = rw (both_are s two_way c) (counts_kept two_way c ok more are)

-- the counts of a direction are in order
pub are_counts : {s : PlainStreams} {capacity : ℕ} → AreStreams s capacity → (two_way : Bool) → AreCounts (counts_of s two_way)
are_counts ok true = ok.bi
are_counts ok false = ok.uni

-- ---- frames that are out

pub out_kept : {old new : PlainStreams} → AreLater old new → KeepsSpans old.send new.send → KeepsOut old new
out_kept later spans (sent.Stream id piece) out = (still_opened later id.0 out.0, spans id.0 piece out.1)
out_kept later spans (sent.ResetStream id reset) out = tt
out_kept later spans (sent.StopSending id code) out = tt
out_kept later spans (sent.MaxData limit) out = tt
out_kept later spans (sent.MaxStreamData id limit) out = tt
out_kept later spans (sent.MaxStreams dir count) out = tt

pub send_out : (old new : PlainStreams) → KeepsSpans old.send new.send → new ≡ record old { send = new.send } → KeepsOut old new
send_out old new spans e = out_kept (later_same old new (ap (λ (s : PlainStreams). s.side) e) (ap (λ (s : PlainStreams). s.bi) e) (ap (λ (s : PlainStreams). s.uni) e)) spans

pub recv_out : (old new : PlainStreams) → new ≡ record old { recv = new.recv } → KeepsOut old new
recv_out old new e =
    out_kept (later_same old new (ap (λ (s : PlainStreams). s.side) e) (ap (λ (s : PlainStreams). s.bi) e) (ap (λ (s : PlainStreams). s.uni) e))
    (λ id piece out. rw (ap (λ (s : PlainStreams). s.send) e) out)

-- the same, if the invariant names what was before
pub send_stays_out : {s : PlainStreams} {capacity : ℕ} → AreStreams s capacity → (send : PlainSendHalves) → KeepsSpans s.send send → KeepsOut s (record s { send = send })
send_stays_out {s = s} ok send spans = out_kept (later_same s (record s { send = send }) refl refl refl) spans

pub recv_stays_out : {s : PlainStreams} {capacity : ℕ} → AreStreams s capacity → (recv : PlainRecvHalves) → KeepsOut s (record s { recv = recv })
recv_stays_out {s = s} ok recv = out_kept (later_same s (record s { recv = recv }) refl refl refl) (λ _ _ out. out)

pub counts_out : (s : PlainStreams) (two_way : Bool) (c : StreamCounts) → AreNoFewer (counts_of s two_way) c → KeepsOut s (with_counts s two_way c)
counts_out s true c more = out_kept (later_counts s true c more) (λ _ _ out. out)
counts_out s false c more = out_kept (later_counts s false c more) (λ _ _ out. out)

pub both_out : {s : PlainStreams} {capacity : ℕ} (two_way : Bool) (c : StreamCounts) → AreStreams s capacity → AreNoFewer (counts_of s two_way) c → KeepsOut s (both_set s two_way c)
both_out {s = s} two_way c ok more = rw (both_are s two_way c) (counts_out s two_way c more)

-- a step of the receiving halves, and the last half that went by it
pub recv_closed : {s new : PlainStreams} {capacity : ℕ} → AreStreams s capacity → (recv : PlainRecvHalves) (id : ℕ) (live was_live : Bool)
    → new ≡ counted_closed (record s { recv = recv }) id live → new.recv ≡ recv → live ≡ was_live → new ≡ counted_closed (record s { recv = new.recv }) id was_live
recv_closed {s = s} ok recv id live was_live e recv_is live_is = e ∙ ap₂ (λ (r : PlainRecvHalves) (b : Bool). counted_closed (record s { recv = r }) id b) (sym recv_is) live_is

never : (own live : Bool) → (not own && (live && not live)) ≡ false
never true true = refl
never true false = refl
never false true = refl
never false false = refl

-- a stream whose half may be read is live
half_live : (sending : Bool) (o : Option PlainRecv) (ordered : Bool) → half_readable_fault o ordered ≡ None → true ≡ (sending || is_some o)
half_live true o ordered e = refl
half_live false None ordered e = absurd (cc)
half_live false (Some r) ordered e = refl

pub readable_live : (s : PlainStreams) (id : ℕ) (ordered : Bool) → readable_fault_at s.recv id ordered ≡ None → true ≡ is_live s id
readable_live s id ordered e = half_live (is_some (send_at s.send id)) (recv_at s.recv id) ordered e

-- if the receiving halves are as they were, no half went
pub recv_unread : {s new : PlainStreams} (recv : PlainRecvHalves) (id : ℕ) (live : Bool) → new ≡ counted_closed (record s { recv = recv }) id live → recv ≡ s.recv → live ≡ is_live s id → new ≡ s
recv_unread {s = s} recv id live e recv_is live_is =
    let none : counted_closed s id (is_live s id) ≡ s = rw (never (is_own s.side id) (is_live s id)) refl in
    e ∙ ap₂ (λ (r : PlainRecvHalves) (b : Bool). counted_closed (record s { recv = r }) id b) recv_is live_is ∙ none
