-- Frames that come, are written, lost or acknowledged: what the receiving halves keep of what readers got.
use Rattle.std.proofs.Common.{◌≡◌, ◌⊎◌, ℕ, List, ◌++◌, None, refl, sym, ap, ◌∙◌, inl, inr, true, Bool, ◌||◌}
use Rattle.qh_half.specs.Recv.{PlainRecv, is_closed}
use Rattle.qh_halves.specs.declared.counts.StreamCounts.{StreamCounts}
use Rattle.qh_halves.specs.Counts.{has_send, has_recv}
use Rattle.qh_halves.specs.RecvHalves.{PlainRecvHalves, recv_at, IsRecvAbsent, IsPieceTaken, IsResetTaken}
use Rattle.qh_spec.specs.Lists.{In}
use Rattle.qh_spec.specs.QuicFrame.{StreamFrame as Run}
use Rattle.qh_spec.specs.Transcript.{Act}
use Rattle.qh_streams.specs.declared.frames.StreamFrame.{StreamFrame}
use Rattle.qh_streams.specs.Streams.{PlainStreams, counts_of, with_counts, is_two_way, is_live, was_opened, refusal_of, readable_events, available_events, IsReceived}
use Rattle.qh_streams.specs.Streams.IsReceived.{stream as stream_received, reset as reset_received, stop as stop_received, stopped_before, max_data as max_data_received, max_stream_data as max_stream_data_received, max_streams as max_streams_received}
use Rattle.qh_streams.proofs.StreamsSettled.{counts_alone}
use Rattle.qh_streams.proofs.StreamsTracked.{recv_goes}
use Rattle.qh_transcript.specs.Receiving.{StandsIn, IsCarried}
use Rattle.qh_transcript.proofs.ReceivingKept.{IsSameHalf, KeepsHalves}
use Rattle.qh_transcript.proofs.ReceivingLists.{none_some}
use Rattle.qh_transcript.proofs.ReceivingSteps.{like_reader, like_same, like_stand, none_is, same_stand, ingested_like, reset_like, counts_opened, closed_opened}
use Rattle.qh_transcript.proofs.ReceivingOpened.{arrived_stand, not_own, first_refusal}

-- ---- a step of one half, where there is one

absent_stand : (old new : PlainStreams) (came : List Run) (t : List Act) (id : ℕ) → IsRecvAbsent old.recv new.recv id → ((k : ℕ) → was_opened new k ≡ was_opened old k) → StandsIn old came t → StandsIn new came t
absent_stand old new came t id none = same_stand old new came t (ap (λ (r : PlainRecvHalves). r.halves) none.same)

piece_stand : (old new : PlainStreams) (came : List Run) (t : List Act) (run : Run) → In run came → IsPieceTaken old.recv new.recv run.id (record { offset = run.offset; bytes = run.payload }) run.fin ⊎ IsRecvAbsent old.recv new.recv run.id
    → ((k : ℕ) → was_opened new k ≡ was_opened old k) → StandsIn old came t → StandsIn new came t
piece_stand old new came t run there (inl taken) = like_stand old new came t (recv_goes taken.step) (λ r next p. ingested_like came run taken.fresh r next there p)
piece_stand old new came t run there (inr none) = absent_stand old new came t run.id none

reset_stand : (old new : PlainStreams) (came : List Run) (t : List Act) (id code size : ℕ) → IsResetTaken old.recv new.recv id code size ⊎ IsRecvAbsent old.recv new.recv id
    → ((k : ℕ) → was_opened new k ≡ was_opened old k) → StandsIn old came t → StandsIn new came t
reset_stand old new came t id code size (inl taken) = like_stand old new came t (recv_goes taken.step) (λ r next p. reset_like came id code size taken.fresh r next p)
reset_stand old new came t id code size (inr none) = absent_stand old new came t id none

-- new counts of one direction, where none was opened
counts_stand : (old mid new : PlainStreams) (came : List Run) (t : List Act) (two_way : Bool) (c : StreamCounts) → new ≡ with_counts mid two_way c → mid.recv ≡ old.recv → ((k : ℕ) → was_opened mid k ≡ was_opened old k)
    → c.opened ≡ (counts_of mid two_way).opened → c.arrived ≡ (counts_of mid two_way).arrived → StandsIn old came t → StandsIn new came t
counts_stand old mid new came t two_way c e recv_is opened_is opened arrived = same_stand old new came t
    (ap (λ (s : PlainStreams). s.recv.halves) e ∙ ap (λ (r : PlainRecvHalves). r.halves) (counts_alone mid two_way c).recv_is ∙ ap (λ (r : PlainRecvHalves). r.halves) recv_is)
    (λ k. ap (λ (s : PlainStreams). was_opened s k) e ∙ counts_opened mid two_way c opened arrived k ∙ opened_is k)

-- ---- frames that come

pub received_stand : (old new : PlainStreams) (came : List Run) (t : List Act) (f : StreamFrame) → refusal_of old f ≡ None → IsCarried came f → IsReceived old new f → StandsIn old came t → StandsIn new came t
received_stand old new came t f ok carried (stream_received id offset payload fin p) s =
    piece_stand p.mid new came t (record { id = id.0; offset = offset; payload = payload; fin = fin }) carried p.taken
    (λ k. ap (λ (s : PlainStreams). was_opened s k) p.rest_is ∙ closed_opened (record p.mid { recv = new.recv; events = p.mid.events ++ readable_events old id }) id.0 (is_live p.mid id.0) k)
    (arrived_stand old p.mid came t id.0 (not_own old id.0 (has_recv old.side id.0) 8 (first_refusal _ _ ok)) p.arrived s)
received_stand old new came t f ok carried (reset_received id code size p) s =
    reset_stand p.mid new came t id.0 code size p.taken
    (λ k. ap (λ (s : PlainStreams). was_opened s k) p.rest_is ∙ closed_opened (record p.mid { recv = new.recv; events = p.mid.events ++ readable_events old id }) id.0 (is_live p.mid id.0) k)
    (arrived_stand old p.mid came t id.0 (not_own old id.0 (has_recv old.side id.0) 4 (first_refusal _ _ ok)) p.arrived s)
received_stand old new came t f ok carried (stop_received mid id code arrived step e) s =
    same_stand mid new came t (ap (λ (s : PlainStreams). s.recv.halves) e) (λ k. ap (λ (s : PlainStreams). was_opened s k) e)
    (arrived_stand old mid came t id.0 (not_own old id.0 (has_send old.side id.0) 5 ok) arrived s)
received_stand old new came t f ok carried (stopped_before id code arrived was) s =
    arrived_stand old new came t id.0 (not_own old id.0 (has_send old.side id.0) 5 ok) arrived s
received_stand old new came t f ok carried (max_data_received limit e) s =
    same_stand old new came t (ap (λ (s : PlainStreams). s.recv.halves) e) (λ k. ap (λ (s : PlainStreams). was_opened s k) e) s
received_stand old new came t f ok carried (max_stream_data_received mid id limit arrived step unblocked e) s =
    same_stand mid new came t (ap (λ (s : PlainStreams). s.recv.halves) e) (λ k. ap (λ (s : PlainStreams). was_opened s k) e)
    (arrived_stand old mid came t id.0 (not_own old id.0 (has_send old.side id.0) 17 ok) arrived s)
received_stand old new came t f ok carried (max_streams_received dir n e) s =
    counts_stand old (record old { events = old.events ++ available_events (counts_of old (is_two_way dir)) n dir }) new came t (is_two_way dir) _ e refl (λ k. refl) refl refl s

-- ---- frames that are handed over, lost or acknowledged

closed_as : (r next : PlainRecv) → IsSameHalf r next → is_closed r ≡ true → is_closed next ≡ true
closed_as r next s closed = ap (λ (b : Bool). b || next.is_given) s.stopped ∙ ap (λ (b : Bool). r.is_stopped || b) s.given ∙ closed

pub kept_stand : (old new : PlainStreams) (came : List Run) (t : List Act) → KeepsHalves old new → StandsIn old came t → StandsIn new came t
kept_stand old new came t kept s = record {
  halves = λ k next is.
      let b = kept.halves k next is in
      like_reader came k t b.half next (like_same came k b.half next b.step.bytes b.step.state b.step.order (closed_as b.half next b.step)) (s.halves k b.half b.was);
  pieces = s.pieces;
  end = s.end;
  unopened = λ k closed.
      let none = s.unopened k (sym (kept.opened k) ∙ closed) in
      (none_is (recv_at new.recv k) (λ next is. let b = kept.halves k next is in none_some ⊥ (recv_at old.recv k) b.half none.0 b.was), none.1, none.2);
}
