-- Calls of writers, and a stream that this end opens.
use Rattle.std.proofs.Common.{◌≡◌, ℕ, ℤ, ◌<◌, ◌≤◌, min, true, false, List, [], ◌∷◌, ◌++◌, length, take, Some, None, Result, Ok, Err, IfOk, IfErr, IfSome, OnOk, OnErr, arith, refl, sym, ap, ◌∙◌, inl, inr}
use Rattle.std.proofs.lemmas.Bool.{le-ltb}
use Rattle.std.proofs.lemmas.List.{length-take-le}
use Rattle.std.specs.List.{concat}
use Rattle.qh_core.specs.Follows.{write_acts, write_chunks_acts, finish_acts, reset_by_acts}
use Rattle.qh_core.specs.Inner.{HasNoHalf}
use Rattle.qh_core.proofs.Handed.{HandNothing}
use Rattle.qh_core.proofs.QuietCalls.{same_call, blocked_call}
use Rattle.qh_core.proofs.StreamsGo.{StreamsGo, IsCall, behind}
use Rattle.qh_half.specs.Send.{PlainSend, credit}
use Rattle.qh_half.specs.declared.fault.ClosedStream.{ClosedStream}
use Rattle.qh_half.specs.declared.fault.FinishFault.{FinishFault}
use Rattle.qh_half.specs.declared.fault.WriteFault.{WriteFault}
use Rattle.qh_half.specs.declared.send.Written.{Written}
use Rattle.qh_halves.specs.Counts.{is_own, is_bi, index_of}
use Rattle.qh_halves.specs.SendHalves.{send_at, write_limit, write_fault_at, finish_fault_at, is_reset_refused_at, IsStep, Takes, Finishes, IsResetWith, HasPriority}
use Rattle.qh_space.proofs.StreamsStepped.{same_recv, same_counts}
use Rattle.qh_spec.specs.QuicFrame.{StreamFrame as Run}
use Rattle.qh_spec.specs.StreamId.{stream_id}
use Rattle.qh_spec.specs.Transcript.{Act, Wrote, Finished, Reset}
use Rattle.qh_spec.specs.declared.sides.Dir.{Dir}
use Rattle.qh_streams.proofs.StreamsOpened.{own_id, bi_id, index_id, opened_is}
use Rattle.qh_streams.proofs.StreamsTracked.{keeps_tracked}
use Rattle.qh_streams.proofs.StreamsTrackedCalls.{sending_keeps, opened_keeps}
use Rattle.qh_streams.specs.Streams.{PlainStreams, IsOpened, KeepsOut, counts_of, is_two_way, was_opened, IsWriteRefusal, with_opened}
use Rattle.qh_streams.specs.Tracked.{IsSendingStep}
use Rattle.qh_streams.specs.Tracked.IsSendingStep.{takes, finishes, resets, priority as priority_set}
use Rattle.qh_streams.specs.declared.frames.StreamFrame.{StreamFrame}
use Rattle.qh_transcript.proofs.ReceivingLists.{others_stand}
use Rattle.qh_transcript.proofs.ReceivingOpened.{opened_stand}
use Rattle.qh_transcript.proofs.ReceivingSteps.{same_stand}
use Rattle.qh_transcript.proofs.SendingArrivals.{opened}
use Rattle.qh_transcript.proofs.SendingSteps as sending
use Rattle.qh_transcript.proofs.WithinArrivals as arriving
use Rattle.qh_transcript.proofs.WithinKept.{peer_after}
use Rattle.qh_transcript.proofs.WithinSteps as within
use Rattle.qh_transcript.specs.Receiving.{StandsIn, ReadNothing}
use Rattle.qh_transcript.specs.Sending.{StandsOut}
use Rattle.qh_transcript.specs.Within.{KeepsWithin}

-- ---- a step of one sending half

no_sender : {X : Type 0} {P : PlainSend → PlainSend → Type 0} {n : ℕ} (old new : PlainStreams) (id : ℕ) → IsStep P old.send new.send id n → HasNoHalf old → X
no_sender old new id step none = let was = step.was in let missing = rw none.send at was in absurd (cc)

writing : (old new : PlainStreams) (id : ℕ) (u : List Act) → IsSendingStep old.send new.send id → new ≡ record old { send = new.send } → KeepsOut old new → HandNothing u → ReadNothing u
    → ((sent : List Run) (t : List Act) → StandsOut old sent t → StandsOut new sent (t ++ u)) → ((given : List StreamFrame) (t : List Act) → KeepsWithin old given t → KeepsWithin new given (t ++ u))
    → StreamsGo old new u
writing old new id u step rest keeps handed unread out limits = record {
  side = ap (λ (s : PlainStreams). s.side) rest;
  peer = ap (λ (s : PlainStreams). s.peer) rest;
  tracked = λ frames. keeps_tracked (sending_keeps old new id step (same_recv old new rest) (same_counts old new rest));
  keeps = keeps;
  out = out;
  into = λ came t p. others_stand new came t u unread (same_stand old new came t (ap (λ (s : PlainStreams). s.recv.halves) rest) (sending.same_opened old new rest) p);
  within = λ sent given t _ p. limits given t p;
  handed = handed;
}

abbrev IsSendAlone : PlainStreams → PlainStreams → Type 0
IsSendAlone old new = new ≡ record old { send = new.send }

-- ---- writes

below_both : (n a b : ℕ) → n ≡ min a b → (n ≤ a) × (n ≤ b)
below_both n a b e = (omega (arith, e), omega (arith, e))

wrote : (old new : PlainStreams) (id n : ℕ) (bytes : List ℕ) → IfSome (send_at old.send id) (λ h. n ≡ min (length bytes) (credit h (write_limit old.send)))
    → IsStep (Takes (take n bytes)) old.send new.send id n → IsSendAlone old new → write_fault_at old.send id ≡ None → KeepsOut old new → IsCall old new (Wrote id (take n bytes) ∷ [])
wrote old new id n bytes count step rest can keeps =
    let fits = below_both n (length bytes) (credit step.half (write_limit old.send)) (rw step.was at count) in
    record {
      go = writing old new id (Wrote id (take n bytes) ∷ []) (takes n (take n bytes) step) rest keeps (record { into = refl; out = refl }) (record { pieces = λ k. refl; ends = λ k. refl })
          (λ sent t p. sending.wrote old new sent t id n (take n bytes) can step rest p)
          (λ given t p. within.wrote old new given t id n (take n bytes) step.half step.was (sym (length-take-le n bytes fits.0)) fits.1 step rest p);
      still = no_sender old new id step;
    }

refused : (old new : PlainStreams) (id : ℕ) (e : WriteFault) → IsWriteRefusal old new id e → KeepsOut old new → IsCall old new []
refused old new id e (inl wanting) keeps = same_call old new wanting.2 keeps
refused old new id e (inr fault) keeps = blocked_call old new id e fault.1 keeps

pub write_call : (old new : PlainStreams) (id : ℕ) (bytes : List ℕ) (r : Result ℕ WriteFault)
    → IfOk r (λ n. IfSome (send_at old.send id) (λ h. n ≡ min (length bytes) (credit h (write_limit old.send))))
    → IfOk r (λ n. IsStep (Takes (take n bytes)) old.send new.send id n × IsSendAlone old new) → OnOk r (write_fault_at old.send id ≡ None)
    → IfErr r (IsWriteRefusal old new id)
    → KeepsOut old new → IsCall old new (write_acts id bytes r)
write_call old new id bytes (Ok n) count ok can fault keeps = wrote old new id n bytes count ok.0 ok.1 can keeps
write_call old new id bytes (Err e) count ok can fault keeps = refused old new id e fault keeps

pub write_chunks_call : (old new : PlainStreams) (id : ℕ) (chunks : List (List ℕ)) (r : Result Written WriteFault)
    → IfOk r (λ w. IfSome (send_at old.send id) (λ h. w.bytes ≡ min (length (concat chunks)) (credit h (write_limit old.send))))
    → IfOk r (λ w. IsStep (Takes (take w.bytes (concat chunks))) old.send new.send id w.bytes × IsSendAlone old new) → OnOk r (write_fault_at old.send id ≡ None)
    → IfErr r (IsWriteRefusal old new id)
    → KeepsOut old new → IsCall old new (write_chunks_acts id chunks r)
write_chunks_call old new id chunks (Ok w) count ok can fault keeps = wrote old new id w.bytes (concat chunks) count ok.0 ok.1 can keeps
write_chunks_call old new id chunks (Err e) count ok can fault keeps = refused old new id e fault keeps

-- ---- other calls of a writer

pub finish_call : (old new : PlainStreams) (id : ℕ) (r : Result Unit FinishFault) → OnOk r (IsStep Finishes old.send new.send id 0 × IsSendAlone old new)
    → IfErr r (λ e. (finish_fault_at old.send id ≡ Some e) × (new ≡ old)) → KeepsOut old new → IsCall old new (finish_acts id r)
finish_call old new id (Ok _) ok fault keeps = record {
  go = writing old new id (Finished id ∷ []) (finishes ok.0) ok.1 keeps (record { into = refl; out = refl }) (record { pieces = λ k. refl; ends = λ k. refl })
      (λ sent t p. sending.finish old new sent t id ok.0 ok.1 p) (λ given t p. within.finish old new given t id ok.0 ok.1 p);
  still = no_sender old new id ok.0;
}
finish_call old new id (Err e) ok fault keeps = same_call old new fault.1 keeps

pub reset_call : (old new : PlainStreams) (id code : ℕ) (r : Result Unit ClosedStream) → OnOk r (IsStep (IsResetWith code) old.send new.send id 0 × IsSendAlone old new)
    → OnErr r ((is_reset_refused_at old.send id ≡ true) × (new ≡ old)) → KeepsOut old new → IsCall old new (reset_by_acts id code r)
reset_call old new id code (Ok _) ok fault keeps = record {
  go = writing old new id (Reset id code ∷ []) (resets code ok.0) ok.1 keeps (record { into = refl; out = refl }) (record { pieces = λ k. refl; ends = λ k. refl })
      (λ sent t p. sending.reset old new sent t id code ok.0 ok.1 p) (λ given t p. within.reset old new given t id code ok.0 ok.1 p);
  still = no_sender old new id ok.0;
}
reset_call old new id code (Err e) ok fault keeps = same_call old new fault.1 keeps

pub priority_call : (old new : PlainStreams) (id : ℕ) (priority : ℤ) (r : Result Unit ClosedStream) → OnOk r (IsStep (HasPriority priority) old.send new.send id 0 × IsSendAlone old new)
    → OnErr r ((send_at old.send id ≡ None) × (new ≡ old)) → KeepsOut old new → IsCall old new []
priority_call old new id priority (Ok _) ok fault keeps = record {
  go = writing old new id [] (priority_set priority ok.0) ok.1 keeps (record { into = refl; out = refl }) (record { pieces = λ k. refl; ends = λ k. refl })
      (λ sent t p. behind (λ t. StandsOut new sent t) t (sending.prioritized old new sent t id priority ok.0 ok.1 p))
      (λ given t p. behind (λ t. KeepsWithin new given t) t (within.prioritized old new given t id priority ok.0 ok.1 p));
  still = no_sender old new id ok.0;
}
priority_call old new id priority (Err e) ok fault keeps = same_call old new fault.1 keeps

-- ---- a stream that this end opens

pub is_new : (s : PlainStreams) (dir : Dir) (id : ℕ) → id ≡ stream_id s.side dir (counts_of s (is_two_way dir)).opened → was_opened s id ≡ false
is_new s dir id id_is =
    let n = (counts_of s (is_two_way dir)).opened in
    let own : is_own s.side id ≡ true = ap (is_own s.side) id_is ∙ own_id s.side dir n in
    let bi : is_bi id ≡ is_two_way dir = ap is_bi id_is ∙ bi_id s.side dir n in
    let index : index_of id ≡ n = ap index_of id_is ∙ index_id s.side dir n in
    opened_is s id true (is_two_way dir) own bi ∙ le-ltb (index_of id) n (omega (arith, index))

pub opened_go : (old new : PlainStreams) (dir : Dir) (id : ℕ) → id ≡ stream_id old.side dir (counts_of old (is_two_way dir)).opened
    → (counts_of old (is_two_way dir)).opened < (counts_of old (is_two_way dir)).max_opened → IsOpened old new id → KeepsOut old new → StreamsGo old new []
opened_go old new dir id id_is room o keeps =
    let same = peer_after new (record old { send = new.send; recv = new.recv }) (is_bi id) (with_opened (counts_of old (is_bi id))) o.rest_is in
    record {
      side = same.0;
      peer = same.1;
      tracked = λ frames. keeps_tracked (opened_keeps old new id o);
      keeps = keeps;
      out = λ sent t p. behind (λ t. StandsOut new sent t) t (opened old new sent t id dir id_is o p);
      into = λ came t p. behind (λ t. StandsIn new came t) t (opened_stand old new came t id dir id_is o p);
      within = λ sent given t stands p. behind (λ t. KeepsWithin new given t) t
          (arriving.opened old new given t id dir id_is room (stands.unopened id (is_new old dir id id_is)).1 o p);
      handed = record { into = refl; out = refl };
    }
