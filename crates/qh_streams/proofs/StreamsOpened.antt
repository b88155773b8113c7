-- Streams get their halves: what all streams keep then, and which frames are out.
use Rattle.std.proofs.Common.{◌≡◌, ℕ, ◌+◌, ◌-◌, ◌<◌, ◌≤◌, ◌==◌, ◌^◌, nat_lt, min, Bool, true, false, ◌&&◌, ◌||◌, not, List, length, Option, Some, None, is_some, if◌then◌else◌, refl, sym, ap, ◌∙◌, arith, inl, inr}
use Rattle.std.proofs.lemmas.Bool.{false≢true, cases_Bool}
use Rattle.std.proofs.lemmas.Bool.Decides.{eqb_tells}
use Rattle.qh_spec.specs.declared.sides.Side.{Side}
use Rattle.qh_spec.specs.declared.sides.Side.TheVariants.{Client, Server}
use Rattle.qh_spec.specs.declared.sides.Dir.{Dir}
use Rattle.qh_spec.specs.declared.sides.Dir.TheVariants.{Bi, Uni}
use Rattle.qh_spec.specs.StreamId.{stream_id}
use Rattle.qh_streams.specs.declared.frames.SentFrame.TheVariants as sent
use Rattle.qh_streams.specs.declared.frames.StreamEvent.{StreamEvent}
use Rattle.qh_half.specs.declared.send.Outgoing.{Outgoing}
use Rattle.qh_halves.specs.declared.counts.StreamCounts.{StreamCounts}
use Rattle.qh_halves.specs.Counts.{AreCounts, AreNoFewer, is_own, is_bi, index_of, has_send, has_recv}
use Rattle.qh_half.specs.Send.{PlainSend, new_send}
use Rattle.qh_halves.specs.SendHalves.{PlainSendHalves, send_at, half_is_span, unacked, IsHalf}
use Rattle.qh_half.specs.Recv.{PlainRecv, new_recv}
use Rattle.qh_halves.specs.RecvHalves.{PlainRecvHalves, recv_at, IsRecvHalf}
use Rattle.qh_streams.specs.Streams.{PlainStreams, AreStreams, AreOpened, KeepsOut, counts_of, was_opened, is_two_way, first_limit, new_send_half, new_recv_half}
use Rattle.qh_streams.proofs.StreamsKept.{AreLater, still_opened, both_set}

-- ---- the id of a stream

pub own_id : (side : Side) (dir : Dir) (n : ℕ) → is_own side (stream_id side dir n) ≡ true
own_id Client Bi n = grind arith
own_id Client Uni n = grind arith
own_id Server Bi n = grind arith
own_id Server Uni n = grind arith

pub bi_id : (side : Side) (dir : Dir) (n : ℕ) → is_bi (stream_id side dir n) ≡ is_two_way dir
bi_id Client Bi n = grind arith
bi_id Client Uni n = grind arith
bi_id Server Bi n = grind arith
bi_id Server Uni n = grind arith

pub index_id : (side : Side) (dir : Dir) (n : ℕ) → index_of (stream_id side dir n) ≡ n
index_id Client Bi n = grind arith
index_id Client Uni n = grind arith
index_id Server Bi n = grind arith
index_id Server Uni n = grind arith

-- ---- which streams were opened

pub opened_is : (s : PlainStreams) (k : ℕ) (own two_way : Bool) → is_own s.side k ≡ own → is_bi k ≡ two_way
    → was_opened s k ≡ nat_lt (index_of k) (if own then (counts_of s two_way).opened else (counts_of s two_way).arrived)
opened_is s k own two_way own_is bi_is =
    ap (λ (b : Bool). nat_lt (index_of k) (if b then (counts_of s (is_bi k)).opened else (counts_of s (is_bi k)).arrived)) own_is
    ∙ ap (λ (b : Bool). nat_lt (index_of k) (if own then (counts_of s b).opened else (counts_of s b).arrived)) bi_is

none_of : {X : Type 0} (o : Option X) → (is_some o ≡ true → ⊥) → o ≡ None
none_of None not_some = refl
none_of (Some x) not_some = absurd (not_some refl)

-- a stream that wasn't opened has no halves
pub no_send_half : {s : PlainStreams} {capacity : ℕ} → AreStreams s capacity → (k : ℕ) → was_opened s k ≡ false → send_at s.send k ≡ None
no_send_half {s = s} ok k closed = none_of (send_at s.send k) (λ there. false≢true (sym closed ∙ (ok.send_live k there).0))

pub no_recv_half : {s : PlainStreams} {capacity : ℕ} → AreStreams s capacity → (k : ℕ) → was_opened s k ≡ false → recv_at s.recv k ≡ None
no_recv_half {s = s} ok k closed = none_of (recv_at s.recv k) (λ there. false≢true (sym closed ∙ (ok.recv_live k there).0))

-- ---- new counts of one direction, with new halves

some_if : {X : Type 0} (b : Bool) (x : X) → is_some (if b then Some x else None) ≡ true → b ≡ true
some_if true x there = refl
some_if false x there = there

pub set_here : (s : PlainStreams) (two_way : Bool) (c : StreamCounts) → counts_of (both_set s two_way c) two_way ≡ c
set_here s true c = refl
set_here s false c = refl

counts_after : (s x : PlainStreams) (a b : Bool) (c : StreamCounts) → x.bi ≡ s.bi → x.uni ≡ s.uni → AreNoFewer (counts_of s a) c → AreNoFewer (counts_of s b) (counts_of (both_set x a c) b)
counts_after s x true true c bi_is uni_is more = more
counts_after s x false false c bi_is uni_is more = more
counts_after s x true false c bi_is uni_is more = rw uni_is (record { opened = omega arith; arrived = omega arith })
counts_after s x false true c bi_is uni_is more = rw bi_is (record { opened = omega arith; arrived = omega arith })

pub one_are : {old new : StreamCounts} (b : Bool) → AreCounts old → AreCounts new → AreCounts (if b then new else old)
one_are true old new = new
one_are false old new = old

pub other_are : {old new : StreamCounts} (b : Bool) → AreCounts old → AreCounts new → AreCounts (if b then old else new)
other_are true old new = old
other_are false old new = new

module _ (s : PlainStreams) (send : PlainSendHalves) (recv : PlainRecvHalves) (events : List StreamEvent) (two_way : Bool) (c : StreamCounts) (more : AreNoFewer (counts_of s two_way) c) where
  abbrev after : PlainStreams
  after = both_set (record s { send = send; recv = recv; events = events }) two_way c

  pub later_after : AreLater s after
  later_after = record { side_is = refl; counts = λ b. counts_after s (record s { send = send; recv = recv; events = events }) two_way b c refl refl more }

  module _ (are_new : ℕ → Bool) (opened : AreOpened s after are_new) where
    send_there : (k : ℕ) (b : Bool) → (b ≡ true → was_opened after k ≡ true) → send_at send k ≡ (if b then new_send_half s k else send_at s.send k)
        → (is_some (send_at s.send k) ≡ true → (was_opened s k ≡ true) × (has_send s.side k ≡ true)) → is_some (send_at send k) ≡ true → (was_opened after k ≡ true) × (has_send s.side k ≡ true)
    send_there k true named is live there = (named refl, some_if (has_send s.side k) (new_send (first_limit s k)) (rw is at there))
    send_there k false named is live there = let was = live (rw is at there) in (still_opened later_after k was.0, was.1)

    recv_there : (k : ℕ) (b : Bool) → (b ≡ true → was_opened after k ≡ true) → recv_at recv k ≡ (if b then new_recv_half s k else recv_at s.recv k)
        → (is_some (recv_at s.recv k) ≡ true → (was_opened s k ≡ true) × (has_recv s.side k ≡ true)) → is_some (recv_at recv k) ≡ true → (was_opened after k ≡ true) × (has_recv s.side k ≡ true)
    recv_there k true named is live there = (named refl, some_if (has_recv s.side k) (new_recv (min s.recv.stream_window (2 ^ 62 - 1))) (rw is at there))
    recv_there k false named is live there = let was = live (rw is at there) in (still_opened later_after k was.0, was.1)

    pub kept_after : {before capacity : ℕ} → AreStreams s before → ((k : ℕ) → are_new k ≡ true → was_opened after k ≡ true) → AreCounts c → length events + length send.halves ≤ capacity → AreStreams after capacity
    kept_after ok named are room = record {
      send_live = λ k. send_there k (are_new k) (named k) (opened.send_is k) (ok.send_live k);
      recv_live = λ k. recv_there k (are_new k) (named k) (opened.recv_is k) (ok.recv_live k);
      bi = one_are two_way ok.bi are;
      uni = other_are two_way ok.uni are;
      room = room;
    }

    span_there : (k : ℕ) (piece : Outgoing) (b : Bool) → (b ≡ true → was_opened s k ≡ false) → send_at send k ≡ (if b then new_send_half s k else send_at s.send k)
        → was_opened s k ≡ true → half_is_span (send_at s.send k) piece → half_is_span (send_at send k) piece
    span_there k piece true fresh is was span = absurd (false≢true (sym (fresh refl) ∙ was))
    span_there k piece false fresh is was span = rw is span

    pub out_after : ((k : ℕ) → are_new k ≡ true → was_opened s k ≡ false) → KeepsOut s after
    out_after fresh (sent.Stream id piece) out = (still_opened later_after id.0 out.0, span_there id.0 piece (are_new id.0) (fresh id.0) (opened.send_is id.0) out.0 out.1)
    out_after fresh (sent.ResetStream id reset) out = tt
    out_after fresh (sent.StopSending id code) out = tt
    out_after fresh (sent.MaxData limit) out = tt
    out_after fresh (sent.MaxStreamData id limit) out = tt
    out_after fresh (sent.MaxStreams dir count) out = tt

-- ---- this end opens a stream

module _ (s t : PlainStreams) (id limit : ℕ) (own : is_own s.side id ≡ true) (limit_is : limit ≡ first_limit s id) (no_send : send_at s.send id ≡ None) (none : recv_at s.recv id ≡ None) where
  sends : new_send_half s id ≡ Some (new_send limit)
  sends = ap (λ (b : Bool). if b || is_bi id then Some (new_send (first_limit s id)) else None) own ∙ ap (λ (n : ℕ). Some (new_send n)) (sym limit_is)

  reads : (b : Bool) → is_bi id ≡ b → new_recv_half s id ≡ (if b then Some (new_recv (min s.recv.stream_window (2 ^ 62 - 1))) else None)
  reads true two_way = rw (own, two_way) refl
  reads false two_way = rw (own, two_way) refl

  at_id : {X : Type 0} (f g : ℕ → Option X) (x : Option X) (k : ℕ) → f id ≡ x → (if k == id then x else g k) ≡ (if k == id then f k else g k)
  at_id f g x k is = elim (eqb_tells k id) [
    | inl same ↦ rw (same.0, same.1, is) refl
    | inr apart ↦ rw apart.0 refl
  ]

  none_at : (k : ℕ) → recv_at s.recv k ≡ (if k == id then None else recv_at s.recv k)
  none_at k = elim (eqb_tells k id) [
    | inl same ↦ rw (same.0, same.1, none) refl
    | inr apart ↦ rw apart.0 refl
  ]

  -- the new half holds no bytes
  held_same : IsHalf s.send t.send id (Some (new_send limit)) 0 → unacked t.send.halves ≡ unacked s.send.halves
  held_same send = let held = rw no_send at send.held_is in omega (arith, held)

  pub are_opened : (two_way : Bool) → is_bi id ≡ two_way → IsHalf s.send t.send id (Some (new_send limit)) 0 → (two_way ≡ true → IsRecvHalf s.recv t.recv id (Some (new_recv (min s.recv.stream_window (2 ^ 62 - 1)))))
      → (two_way ≡ false → t.recv ≡ s.recv) → AreOpened s t (λ k. k == id)
  are_opened true is send recv same = let read = recv refl in record {
    send_is = λ k. send.halves_are k ∙ at_id (new_send_half s) (send_at s.send) (Some (new_send limit)) k sends;
    recv_is = λ k. read.halves_are k ∙ at_id (new_recv_half s) (recv_at s.recv) (Some (new_recv (min s.recv.stream_window (2 ^ 62 - 1)))) k (reads true is);
    send_rest = send.rest_is ∙ ap (λ (n : ℕ). record s.send { halves = t.send.halves; data_sent = n }) (omega arith);
    recv_rest = read.rest_is;
    held_is = held_same send;
  }
  are_opened false is send recv same = record {
    send_is = λ k. send.halves_are k ∙ at_id (new_send_half s) (send_at s.send) (Some (new_send limit)) k sends;
    recv_is = λ k. ap (λ (r : PlainRecvHalves). recv_at r k) (same refl) ∙ none_at k ∙ at_id (new_recv_half s) (recv_at s.recv) None k (reads false is);
    send_rest = send.rest_is ∙ ap (λ (n : ℕ). record s.send { halves = t.send.halves; data_sent = n }) (omega arith);
    recv_rest = same refl ∙ ap (λ (r : PlainRecvHalves). record s.recv { halves = r.halves }) (sym (same refl));
    held_is = held_same send;
  }
