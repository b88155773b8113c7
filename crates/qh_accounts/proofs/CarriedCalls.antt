-- By a call or a frame that comes no byte comes to count as sent.
use Rattle.std.proofs.Common.{◌≡◌, ℕ, ℤ, max, Bool, true, false, List, ◌++◌, Option, Some, None, if◌then◌else◌, refl, sym, ap, ◌∙◌, arith, inl, inr}
use Rattle.std.proofs.lemmas.Bool.{false≢true, le-ltb, cases_Bool}
use Rattle.qh_buffers.specs.SendBuffer.{mark_at}
use Rattle.qh_buffers.specs.declared.send_buffer.Mark.{Mark}
use Rattle.qh_buffers.specs.declared.send_buffer.Mark.TheVariants.{Queued}
use Rattle.qh_half.specs.Send.{PlainSend, is_reset, new_send, stopped_or_closed, with_bytes}
use Rattle.qh_half.specs.declared.send.SendState.{SendState}
use Rattle.qh_half.specs.declared.send.SendState.TheVariants.{Ready, DataSent, ResetSent}
use Rattle.qh_halves.specs.Counts.{has_send, with_max_opened}
use Rattle.qh_halves.specs.SendHalves.{PlainSendHalves, Finishes, HasLimit, HasPriority, IsResetWith, IsStoppedWith, Takes}
use Rattle.qh_streams.specs.Streams.{PlainStreams, AreOpened, HasArrived, IsReceived, available_events, counts_of, first_limit, is_two_way, was_opened}
use Rattle.qh_streams.specs.Streams.IsReceived.{stream as stream_received, reset as reset_received, stop as stop_received, stopped_before, max_data as max_data_received, max_stream_data as max_stream_data_received, max_streams as max_streams_received}
use Rattle.qh_streams.specs.Tracked.{IsSendingStep}
use Rattle.qh_streams.specs.Tracked.IsSendingStep.{takes, finishes, resets, priority as priority_set, stopped, limit as limit_raised}
use Rattle.qh_streams.specs.declared.frames.StreamFrame.{StreamFrame}
use Rattle.qh_streams.proofs.StreamsSettled.{closed_alone, counts_alone}
use Rattle.qh_streams.proofs.StreamsTracked.{step_goes, step_or_absent}
use Rattle.qh_accounts.proofs.CarriedOf.{Counts, GainsNothing, IsTest, NoMore, goes_no_more, halves_no_more, same_gains}

-- ---- a step of one half

takes_gains : (M : Option Mark → Bool) (bytes : List ℕ) (h next : PlainSend) → Takes bytes h next → GainsNothing M h next
takes_gains M bytes h next e = same_gains M h next (with_bytes h bytes) e refl (λ n. refl)

priority_gains : (M : Option Mark → Bool) (priority : ℤ) (h next : PlainSend) → HasPriority priority h next → GainsNothing M h next
priority_gains M priority h next e = same_gains M h next (record h { priority = priority }) e refl (λ n. refl)

stopped_gains : (M : Option Mark → Bool) (code : ℕ) (h next : PlainSend) → IsStoppedWith code h next → GainsNothing M h next
stopped_gains M code h next p = same_gains M h next (record h { stop_reason = Some code }) p.1 refl (λ n. refl)

limit_gains : (M : Option Mark → Bool) (limit : ℕ) (h next : PlainSend) → HasLimit limit h next → GainsNothing M h next
limit_gains M limit h next e = same_gains M h next (record h { max_data = max h.max_data limit }) e refl (λ n. refl)

not_closed : (stop : Option ℕ) (s : SendState) → stopped_or_closed stop s ≡ None → is_reset s ≡ false
not_closed (Some code) s e = absurd (cc)
not_closed None Ready e = refl
not_closed None (DataSent mark) e = refl
not_closed None (ResetSent code mark) e = absurd (cc)

finish_gains : (M : Option Mark → Bool) (h next : PlainSend) → Finishes h next → GainsNothing M h next
finish_gains M h next p = same_gains M h next (record h { state = DataSent Queued }) p.1 (sym (not_closed h.stop_reason h.state p.0)) (λ n. refl)

reset_gains : (M : Option Mark → Bool) (code : ℕ) (h next : PlainSend) → IsResetWith code h next → GainsNothing M h next
reset_gains M code h next p n c = absurd (false≢true (sym c.0 ∙ ap (λ (x : PlainSend). is_reset x.state) p.1))

pub sending_no_more : (M : Option Mark → Bool) (old new : PlainSendHalves) (id : ℕ) → IsSendingStep old new id → NoMore M old new
sending_no_more M old new id (takes taken bytes step) = goes_no_more M old new (step_goes step) (takes_gains M bytes)
sending_no_more M old new id (finishes step) = goes_no_more M old new (step_goes step) (finish_gains M)
sending_no_more M old new id (resets code step) = goes_no_more M old new (step_goes step) (reset_gains M code)
sending_no_more M old new id (priority_set p step) = goes_no_more M old new (step_goes step) (priority_gains M p)
sending_no_more M old new id (stopped code step) = goes_no_more M old new (step_goes step) (stopped_gains M code)
sending_no_more M old new id (limit_raised max step) = goes_no_more M old new (step_goes step) (limit_gains M max)

-- ---- streams that are new

some_is : {H : Type 0} (a b : H) → Some a ≡ Some b → a ≡ b
some_is a b e = cc

new_counts_nothing : (M : Option Mark → Bool) → IsTest M → (b : Bool) (limit : ℕ) (h : PlainSend) (n : ℕ) → (if b then Some (new_send limit) else None) ≡ Some h → Counts M h n → ⊥
new_counts_nothing M test false limit h n e c = cc
new_counts_nothing M test true limit h n e c =
    let is = some_is (new_send limit) h e in
    let never : mark_at (new_send limit).buffer n ≡ None = rw (le-ltb n 0 (omega arith)) refl in
    let mark : M (mark_at (new_send limit).buffer n) ≡ true = ap (λ (x : PlainSend). M (mark_at x.buffer n)) is ∙ c.1 in
    false≢true (sym test.none ∙ ap M (sym never) ∙ mark)

pub opened_no_more : (M : Option Mark → Bool) → IsTest M → (old new : PlainStreams) (are_new : ℕ → Bool) → AreOpened old new are_new → NoMore M old.send new.send
opened_no_more M test old new are_new p id n w = elim (cases_Bool (are_new id)) [
  | inl among ↦ absurd (new_counts_nothing M test (has_send old.side id) (first_limit old id) w.half n (sym (rw among at (p.send_is id)) ∙ w.is) w.sent)
  | inr apart ↦ record { half = w.half; is = sym (rw apart at (p.send_is id)) ∙ w.is; sent = w.sent }
]

pub arrived_no_more : (M : Option Mark → Bool) → IsTest M → (old new : PlainStreams) (id : ℕ) → HasArrived old new id → NoMore M old.send new.send
arrived_no_more M test old new id p = elim (cases_Bool (was_opened old id)) [
  | inl known ↦ rw (p.known known) (λ id n w. w)
  | inr fresh ↦ opened_no_more M test old new _ (p.halves fresh)
]

-- ---- frames that come

same_no_more : (M : Option Mark → Bool) (old new : PlainSendHalves) → new ≡ old → NoMore M old new
same_no_more M old new e = halves_no_more M old new (ap (λ (s : PlainSendHalves). s.halves) e)

pub received_no_more : (M : Option Mark → Bool) → IsTest M → (old new : PlainStreams) (f : StreamFrame) → IsReceived old new f → NoMore M old.send new.send
received_no_more M test old new f (stream_received id offset payload fin p) k n w =
    let same = ap (λ (s : PlainStreams). s.send) p.rest_is ∙ (closed_alone _ id.0 _).send_is in
    arrived_no_more M test old p.mid id.0 p.arrived k n (same_no_more M p.mid.send new.send same k n w)
received_no_more M test old new f (reset_received id code size p) k n w =
    let same = ap (λ (s : PlainStreams). s.send) p.rest_is ∙ (closed_alone _ id.0 _).send_is in
    arrived_no_more M test old p.mid id.0 p.arrived k n (same_no_more M p.mid.send new.send same k n w)
received_no_more M test old new f (stop_received mid id code arrived step e) k n w =
    arrived_no_more M test old mid id.0 arrived k n (goes_no_more M mid.send new.send (step_goes step) (stopped_gains M code) k n w)
received_no_more M test old new f (stopped_before id code arrived was) k n w = arrived_no_more M test old new id.0 arrived k n w
received_no_more M test old new f (max_data_received limit e) k n w = halves_no_more M old.send new.send (ap (λ (s : PlainStreams). s.send.halves) e) k n w
received_no_more M test old new f (max_stream_data_received mid id limit arrived step unblocked e) k n w =
    arrived_no_more M test old mid id.0 arrived k n (goes_no_more M mid.send new.send (step_or_absent step) (limit_gains M limit) k n w)
received_no_more M test old new f (max_streams_received dir count e) k n w =
    let s : PlainStreams = record old { events = old.events ++ available_events (counts_of old (is_two_way dir)) count dir } in
    same_no_more M old.send new.send (ap (λ (s : PlainStreams). s.send) e ∙ (counts_alone s (is_two_way dir) (with_max_opened count (counts_of old (is_two_way dir)))).send_is) k n w
