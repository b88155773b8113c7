-- What the streams know came in frames as before, where none comes.
use Rattle.std.proofs.Common.{◌≡◌, ◌⊎◌, ℕ, ◌<◌, Bool, true, false, ◌&&◌, not, List, [], ◌++◌, ◌∷◌, Option, Some, None, Result, refl, sym, ap, subst, ◌∙◌, arith, inl, inr}
use Rattle.std.proofs.lemmas.Bool.{cases_Bool}
use Rattle.std.proofs.lemmas.Bool.Decides.{eqb_tells}
use Rattle.qh_buffers.specs.declared.assembler.Chunk.{Chunk}
use Rattle.qh_conduct.proofs.ReachLists.{any_more}
use Rattle.qh_conduct.specs.Reached.{AreReached, HasNothingYet, IsAny, IsUntouched, NamesPast}
use Rattle.qh_half.specs.Recv.{PlainRecv, final_size}
use Rattle.qh_half.specs.Recv.IsReadAnswer.{bytes as bytes_given, nothing as nothing_given, end as end_given, reset as reset_given, blocked as blocked_read, memory as memory_read}
use Rattle.qh_half.specs.declared.fault.ReadFault.{ReadFault}
use Rattle.qh_halves.specs.Counts.{is_bi, is_own}
use Rattle.qh_halves.specs.RecvHalves.{PlainRecvHalves, recv_at, recv_half_in, Begins, IsRecvAbsent, IsRecvStep, Reads, Stops, TakesReset}
use Rattle.qh_halves.specs.declared.counts.StreamCounts.{StreamCounts}
use Rattle.qh_spec.specs.declared.sides.Side.{Side}
use Rattle.qh_streams.proofs.StreamsSettled.{counts_alone}
use Rattle.qh_streams.proofs.StreamsTracked.{Goes, IsBefore, recv_or_absent}
use Rattle.qh_streams.specs.Streams.{PlainStreams, counts_of, counted_closed, finished_events, is_live, is_two_way, was_opened, with_counts, IsAckedFrame, IsHandedOver, IsLostFrame}
use Rattle.qh_streams.specs.Streams.IsAckedFrame.{stream as stream_acked, reset as reset_acked, stop as stop_acked, max_stream_data as max_stream_data_acked, max_data as max_data_acked, max_streams as max_streams_acked}
use Rattle.qh_streams.specs.Streams.IsHandedOver.{stream as stream_handed, reset as reset_handed, stop as stop_handed, max_stream_data as max_stream_data_handed, max_data as max_data_handed, max_streams as max_streams_handed}
use Rattle.qh_streams.specs.Streams.IsLostFrame.{stream as stream_lost, reset as reset_lost, stop as stop_lost, max_stream_data as max_stream_data_lost, max_data as max_data_lost, max_streams as max_streams_lost}
use Rattle.qh_streams.specs.declared.frames.SentFrame.{SentFrame}
use Rattle.qh_streams.specs.declared.frames.StreamFrame.{StreamFrame}
use Rattle.qh_transcript.proofs.ReceivingLists.{none_some}
use Rattle.qh_transcript.proofs.ReceivingSteps.{counts_opened}

-- ---- at first

no_half : {X : Type 0} (s : PlainStreams) (k : ℕ) (h : PlainRecv) → s.recv.halves ≡ [] → recv_at s.recv k ≡ Some h → X
no_half s k h none is = none_some _ (recv_at s.recv k) h (ap (λ (hs : List (ℕ × PlainRecv)). recv_half_in hs k) none) is

none_below : {X : Type 0} (i n : ℕ) → n ≡ 0 → i < n → X
none_below i n none below = absurd (omega (arith, none, below))

pub nothing_reached : (side : Side) (s : PlainStreams) → HasNothingYet side s → AreReached side s []
nothing_reached side s n = record {
  side_is = n.side_is;
  ends = [];
  apart = tt;
  came = λ k to none. absurd none;
  total = n.received;
  halves = λ k h is. no_half s k h n.no_half is;
  unopened = λ k none. refl;
  sizes = λ k size h is known. no_half s k h n.no_half is;
  arrived = λ b i below. none_below i _ (n.arrived b) below;
}

-- ---- one frame more takes nothing away

pub more_reached : (side : Side) (s : PlainStreams) (f : StreamFrame) (frames : List StreamFrame) → AreReached side s frames → AreReached side s (f ∷ frames)
more_reached side s f frames p = record {
  side_is = p.side_is;
  ends = p.ends;
  apart = p.apart;
  came = λ k n is. any_more f frames (p.came k n is);
  total = p.total;
  halves = p.halves;
  unopened = p.unopened;
  sizes = λ k n h is known. any_more f frames (p.sizes k n h is known);
  arrived = λ b i below. any_more f frames (p.arrived b i below);
}

-- ---- halves that stay as far as they reach, and halves that are new

-- the half reaches as far, and has the same final size, or none
pub record IsSameReach (r next : PlainRecv) : Type 0 where
  pub end : next.end ≡ r.end
  pub state : next.state ≡ r.state

pub record IsNewHalf (h : PlainRecv) : Type 0 where
  pub end : h.end ≡ 0
  pub size : final_size h.state ≡ None

-- Each half was there, and is the same in that, or its stream wasn't opened, and it is new. Nothing was received.
pub record Continues (old new : PlainStreams) : Type 0 where
  pub halves : (k : ℕ) (next : PlainRecv) → recv_at new.recv k ≡ Some next → IsBefore IsSameReach (recv_at old.recv) k next ⊎ ((was_opened old k ≡ false) × IsNewHalf next)
  pub received : new.recv.received ≡ old.recv.received
  pub opened : (k : ℕ) → was_opened new k ≡ false → was_opened old k ≡ false
  pub side : new.side ≡ old.side

no_size : {X : Type 0} (o : Option ℕ) (n : ℕ) → o ≡ None → o ≡ Some n → X
no_size o n none some = absurd (cc)

pub continued : (side : Side) (old new : PlainStreams) (frames : List StreamFrame) → Continues old new → ((b : Bool) (i : ℕ) → i < (counts_of new b).arrived → IsAny (NamesPast side b i) frames)
    → AreReached side old frames → AreReached side new frames
continued side old new frames c arrived p = record {
  side_is = c.side ∙ p.side_is;
  ends = p.ends;
  apart = p.apart;
  came = p.came;
  total = c.received ∙ p.total;
  halves = λ k next is. elim (c.halves k next is) [
    | inl b ↦ b.step.end ∙ p.halves k b.half b.was
    | inr fresh ↦ fresh.1.end ∙ sym (p.unopened k fresh.0)
  ];
  unopened = λ k none. p.unopened k (c.opened k none);
  sizes = λ k n next is known. elim (c.halves k next is) [
    | inl b ↦ p.sizes k n b.half b.was (ap final_size (sym b.step.state) ∙ known)
    | inr fresh ↦ no_size (final_size next.state) n fresh.1.size known
  ];
  arrived = arrived;
}

-- where no stream arrived
pub quiet : (side : Side) (old new : PlainStreams) (frames : List StreamFrame) → Continues old new → ((b : Bool) → (counts_of new b).arrived ≡ (counts_of old b).arrived) → AreReached side old frames → AreReached side new frames
quiet side old new frames c same p = continued side old new frames c (λ b i below. p.arrived b i (subst (λ (n : ℕ). i < n) (same b) below)) p

-- ---- no half changed

untouched_continues : (old new : PlainStreams) → IsUntouched old new → Continues old new
untouched_continues old new u = record {
  halves = λ k next is. inl (record { half = next; was = ap (λ (hs : List (ℕ × PlainRecv)). recv_half_in hs k) (sym u.halves) ∙ is; step = record { end = refl; state = refl } });
  received = u.received;
  opened = λ k none. sym (u.opened k) ∙ none;
  side = u.side;
}

pub untouched : (side : Side) (old new : PlainStreams) (frames : List StreamFrame) → IsUntouched old new → AreReached side old frames → AreReached side new frames
untouched side old new frames u = quiet side old new frames (untouched_continues old new u) u.arrived

-- all but these parts is as it was
pub untouched_by : (old new s : PlainStreams) → new ≡ s → IsUntouched old s → IsUntouched old new
untouched_by old new s e = subst (λ (n : PlainStreams). IsUntouched old n) (sym e)

counts_side : (s : PlainStreams) (two_way : Bool) (c : StreamCounts) → (with_counts s two_way c).side ≡ s.side
counts_side s true c = refl
counts_side s false c = refl

counts_arrived : (s : PlainStreams) (two_way : Bool) (c : StreamCounts) → c.arrived ≡ (counts_of s two_way).arrived → (b : Bool) → (counts_of (with_counts s two_way c) b).arrived ≡ (counts_of s b).arrived
counts_arrived s true c e true = e
counts_arrived s true c e false = refl
counts_arrived s false c e true = refl
counts_arrived s false c e false = e

-- new counts of a direction, in which as many were opened and arrived
pub counts_untouched : (s : PlainStreams) (two_way : Bool) (c : StreamCounts) → c.opened ≡ (counts_of s two_way).opened → c.arrived ≡ (counts_of s two_way).arrived → IsUntouched s (with_counts s two_way c)
counts_untouched s two_way c opened arrived =
    let alone = (counts_alone s two_way c).recv_is in
    record {
      halves = ap (λ (r : PlainRecvHalves). r.halves) alone;
      received = ap (λ (r : PlainRecvHalves). r.received) alone;
      opened = counts_opened s two_way c opened arrived;
      side = counts_side s two_way c;
      arrived = counts_arrived s two_way c arrived;
    }

pub closed_untouched : (s : PlainStreams) (id : ℕ) (was_live : Bool) → IsUntouched s (counted_closed s id was_live)
closed_untouched s id was_live = elim (cases_Bool (not (is_own s.side id) && (was_live && not (is_live s id)))) [
  | inl e ↦ rw e (counts_untouched s (is_bi id) _ refl refl)
  | inr e ↦ rw e (record { halves = refl; received = refl; opened = λ k. refl; side = refl; arrived = λ b. refl })
]

-- where no half, no count and neither what was received nor the side is among what changed
pub parts_untouched : (old new s : PlainStreams) → new ≡ s → s.recv.halves ≡ old.recv.halves → s.recv.received ≡ old.recv.received → s.side ≡ old.side → s.bi ≡ old.bi → s.uni ≡ old.uni → IsUntouched old new
parts_untouched old new s e halves received side bi uni = untouched_by old new s e (record {
  halves = halves;
  received = received;
  opened = λ k. rw (side, bi, uni) refl;
  side = side;
  arrived = λ b. rw (bi, uni) refl;
})

-- ---- one half goes on

-- a half goes on and reaches as far as before
pub half_continues : {P : PlainRecv → PlainRecv → Type 0} {id : ℕ} (old new : PlainStreams) → IsRecvStep P old.recv new.recv id 0 ⊎ IsRecvAbsent old.recv new.recv id
    → ((r next : PlainRecv) → P r next → IsSameReach r next) → new ≡ record old { recv = new.recv } → Continues old new
half_continues {P = P} {id = id} old new step same e = record {
  halves = λ k next is. elim (eqb_tells k id) [
    | inl here ↦ inl (rw here.1 (let b = goes.here k next here.0 is in record { half = b.half; was = b.was; step = same b.half next b.step }))
    | inr apart ↦ inl (record { half = next; was = sym (goes.apart k apart.0) ∙ is; step = record { end = refl; state = refl } })
  ];
  received = as_much step;
  opened = λ k none. sym (ap (λ (s : PlainStreams). was_opened s k) e) ∙ none;
  side = ap (λ (s : PlainStreams). s.side) e;
} where
  goes : Goes P (recv_at old.recv) (recv_at new.recv) id
  goes = recv_or_absent step

  as_much : IsRecvStep P old.recv new.recv id 0 ⊎ IsRecvAbsent old.recv new.recv id → new.recv.received ≡ old.recv.received
  as_much (inl s) = let more = ap (λ (r : PlainRecvHalves). r.received) s.rest_is in omega (arith, more)
  as_much (inr a) = ap (λ (r : PlainRecvHalves). r.received) a.same

module _ (side : Side) (frames : List StreamFrame) where
  half_reached : {P : PlainRecv → PlainRecv → Type 0} {id : ℕ} (old new : PlainStreams) → IsRecvStep P old.recv new.recv id 0 ⊎ IsRecvAbsent old.recv new.recv id
      → ((r next : PlainRecv) → P r next → IsSameReach r next) → new ≡ record old { recv = new.recv } → AreReached side old frames → AreReached side new frames
  half_reached old new step same e = quiet side old new frames (half_continues old new step same e) (λ b. ap (λ (s : PlainStreams). (counts_of s b).arrived) e)

  -- ---- frames that are handed over, lost or acknowledged

  counts_reached : (old new : PlainStreams) (two_way : Bool) (c : StreamCounts) → new ≡ with_counts old two_way c → c.opened ≡ (counts_of old two_way).opened → c.arrived ≡ (counts_of old two_way).arrived
      → AreReached side old frames → AreReached side new frames
  counts_reached old new two_way c e opened arrived = untouched side old new frames (untouched_by old new (with_counts old two_way c) e (counts_untouched old two_way c opened arrived))

  parts_reached : (old new s : PlainStreams) → new ≡ s → s.recv.halves ≡ old.recv.halves → s.recv.received ≡ old.recv.received → s.side ≡ old.side → s.bi ≡ old.bi → s.uni ≡ old.uni
      → AreReached side old frames → AreReached side new frames
  parts_reached old new s e halves received same bi uni = untouched side old new frames (parts_untouched old new s e halves received same bi uni)

  closed_reached : (old new s : PlainStreams) (id : ℕ) (was_live : Bool) → new ≡ counted_closed s id was_live → AreReached side s frames → AreReached side new frames
  closed_reached old new s id was_live e = untouched side s new frames (untouched_by s new (counted_closed s id was_live) e (closed_untouched s id was_live))

  pub handed : (old new : PlainStreams) (room : ℕ) (f : SentFrame) → IsHandedOver old new room f → AreReached side old frames → AreReached side new frames
  handed old new room f (stream_handed id piece next e) = parts_reached old new _ e refl refl refl refl refl
  handed old new room f (reset_handed id frame next e) = parts_reached old new _ e refl refl refl refl refl
  handed old new room f (stop_handed id code step e) = half_reached old new (inl step) (λ r next p. rw p.2 (record { end = refl; state = refl })) e
  handed old new room f (max_stream_data_handed id limit step e) = half_reached old new (inl step) (λ r next p. rw p.2 (record { end = refl; state = refl })) e
  handed old new room f (max_data_handed limit is due e) = parts_reached old new _ e refl refl refl refl refl
  handed old new room f (max_streams_handed dir n is due e) = counts_reached old new (is_two_way dir) _ e refl refl

  pub lost : (old new : PlainStreams) (f : SentFrame) → IsLostFrame old new f → AreReached side old frames → AreReached side new frames
  lost old new f (stream_lost id piece step e) = parts_reached old new _ e refl refl refl refl refl
  lost old new f (reset_lost id frame step e) = parts_reached old new _ e refl refl refl refl refl
  lost old new f (stop_lost id code step e) = half_reached old new step (λ r next p. rw p (record { end = refl; state = refl })) e
  lost old new f (max_data_lost limit e) = parts_reached old new _ e refl refl refl refl refl
  lost old new f (max_stream_data_lost id limit step e) = half_reached old new step (λ r next p. rw p (record { end = refl; state = refl })) e
  lost old new f (max_streams_lost dir n e) = counts_reached old new (is_two_way dir) _ e refl refl

  pub acked : (old new : PlainStreams) (f : SentFrame) → IsAckedFrame old new f → AreReached side old frames → AreReached side new frames
  acked old new f (stream_acked id piece finished settled e) p =
      let s : PlainStreams = record old { send = new.send; events = old.events ++ finished_events finished id } in
      closed_reached old new s id.0 (is_live old id.0) e (parts_reached old s s refl refl refl refl refl refl p)
  acked old new f (reset_acked id frame gone settled e) p =
      let s : PlainStreams = record old { send = new.send } in
      closed_reached old new s id.0 (is_live old id.0) e (parts_reached old s s refl refl refl refl refl refl p)
  acked old new f (stop_acked id code step e) p = half_reached old new step (λ r next q. rw q (record { end = refl; state = refl })) e p
  acked old new f (max_data_acked limit e) p = parts_reached old new _ e refl refl refl refl refl p
  acked old new f (max_stream_data_acked id limit step e) p = half_reached old new step (λ r next q. rw q (record { end = refl; state = refl })) e p
  acked old new f (max_streams_acked dir n e) p = counts_reached old new (is_two_way dir) _ e refl refl p

  -- ---- calls of a reader's

  pub begun : (old new : PlainStreams) (id : ℕ) (ordered : Bool) → IsRecvStep (Begins ordered) old.recv new.recv id 0 → new ≡ record old { recv = new.recv } → AreReached side old frames → AreReached side new frames
  begun old new id ordered step e = half_reached old new (inl step) (λ r next p. rw p (record { end = refl; state = refl })) e

  of_parts : (r next : PlainRecv) → next.end ≡ r.end → next.state ≡ r.state → IsSameReach r next
  of_parts r next end state = record { end = end; state = state }

  read_same : (max : ℕ) (answer : Result (Option Chunk) ReadFault) (r next : PlainRecv) → Reads max answer r next → IsSameReach r next
  read_same max answer r next (bytes_given c some g) = of_parts r next (ap (λ (r : PlainRecv). r.end) g.rest_is) (ap (λ (r : PlainRecv). r.state) g.rest_is)
  read_same max answer r next (nothing_given none e c empty) = rw e (of_parts r r refl refl)
  read_same max answer r next (end_given some waits at_end e) = rw e (of_parts r _ refl refl)
  read_same max answer r next (reset_given code some is e) = rw e (of_parts r _ refl refl)
  read_same max answer r next (blocked_read some waits at_end is e) = rw e (of_parts r r refl refl)
  read_same max answer r next (memory_read wants e) = rw e (of_parts r r refl refl)

  -- a half goes on, and where it is done the stream may be closed
  then_closed : {P : PlainRecv → PlainRecv → Type 0} (old new : PlainStreams) (id : ℕ) → IsRecvStep P old.recv new.recv id 0 → ((r next : PlainRecv) → P r next → IsSameReach r next)
      → new ≡ counted_closed (record old { recv = new.recv }) id (is_live old id) → AreReached side old frames → AreReached side new frames
  then_closed old new id step same e p =
      let s : PlainStreams = record old { recv = new.recv } in
      closed_reached old new s id (is_live old id) e (half_reached old s (inl step) same refl p)

  pub read : (old new : PlainStreams) (id max : ℕ) (answer : Result (Option Chunk) ReadFault) → IsRecvStep (Reads max answer) old.recv new.recv id 0
      → new ≡ counted_closed (record old { recv = new.recv }) id (is_live old id) → AreReached side old frames → AreReached side new frames
  read old new id max answer step e = then_closed old new id step (read_same max answer) e

  pub stopped : (old new : PlainStreams) (id code : ℕ) → IsRecvStep (Stops code) old.recv new.recv id 0
      → new ≡ counted_closed (record old { recv = new.recv }) id (is_live old id) → AreReached side old frames → AreReached side new frames
  stopped old new id code step e = then_closed old new id step (λ r next p. of_parts r next (ap (λ (r : PlainRecv). r.end) p.rest_is) (ap (λ (r : PlainRecv). r.state) p.rest_is)) e

  pub told_reset : (old new : PlainStreams) (id : ℕ) (code : Option ℕ) → IsRecvStep (TakesReset code) old.recv new.recv id 0
      → new ≡ counted_closed (record old { recv = new.recv }) id (is_live old id) → AreReached side old frames → AreReached side new frames
  told_reset old new id code step e = then_closed old new id step (λ r next p. rw p.2 (of_parts r _ refl refl)) e
