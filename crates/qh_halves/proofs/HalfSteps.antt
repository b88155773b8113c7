-- What each step of a sending half leaves of it, for what the halves share.
use Rattle.std.proofs.Common.{◌≡◌, ℕ, ℤ, ◌+◌, ◌≤◌, Bool, true, false, List, ◌++◌, length, length-append, take, Option, Some, None, if◌then◌else◌, refl, sym, ap, ◌∙◌, arith, inl, inr}
use Rattle.std.proofs.lemmas.Bool.{cases_Bool, false≢true, or_parts}
use Rattle.std.proofs.lemmas.List.{length-take-le}
use Rattle.qh_buffers.specs.SendBuffer.{PlainSendBuffer, is_queued, is_between, IsSpan, KeepsCuts, IsAcknowledged}
use Rattle.qh_buffers.specs.declared.send_buffer.Mark.TheVariants.{Sent, Queued, Acked}
use Rattle.qh_half.specs.declared.send.Outgoing.{Outgoing}
use Rattle.qh_half.specs.declared.send.SendState.{SendState}
use Rattle.qh_half.specs.declared.send.SendState.TheVariants.{Ready, DataSent, ResetSent}
use Rattle.qh_half.specs.Send.{PlainSend, is_done, is_done_in, is_reset, is_ready, finish_fault, stopped_or_closed, is_reset_refused, is_reset_queued, is_end_queued, write_fault, with_bytes, with_reset_mark, with_reset_lost, with_end_lost, with_end_acked, IsPieceQueued, IsPieceAcked, held, Waits}
use Rattle.qh_halves.specs.SendHalves.{half_is_span}
use Rattle.qh_halves.proofs.HalvesStepped.{GoesOn}

ready_holds : (state : SendState) (n : ℕ) → is_ready state ≡ true → (if is_reset state then 0 else n) ≡ n
ready_holds Ready n e = refl
ready_holds (DataSent mark) n e = absurd (false≢true e)
ready_holds (ResetSent code mark) n e = absurd (false≢true e)

finish_ready : (stop : Option ℕ) (state : SendState) → stopped_or_closed stop state ≡ None → is_ready state ≡ true
finish_ready None Ready e = refl
finish_ready None (DataSent mark) e = absurd (cc)
finish_ready None (ResetSent code mark) e = absurd (cc)
finish_ready (Some code) state e = absurd (cc)

pub finish_goes : (h next : PlainSend) → next ≡ record h { state = DataSent Queued } → GoesOn h next
finish_goes h next is = rw is (record { priority_is = refl; undone = refl })

pub finish_holds : (h next : PlainSend) → finish_fault h ≡ None → next ≡ record h { state = DataSent Queued } → held next ≡ held h
finish_holds h next none is = rw is (sym (ready_holds h.state (length h.buffer.bytes) (finish_ready h.stop_reason h.state none)))

pub reset_goes : (h next : PlainSend) (code : ℕ) → next ≡ record h { state = ResetSent code Queued } → GoesOn h next
reset_goes h next code is = rw is (record { priority_is = refl; undone = refl })

pub reset_holds : (h next : PlainSend) (code : ℕ) → is_reset_refused h ≡ false → next ≡ record h { state = ResetSent code Queued }
    → (held next ≡ 0) × (length next.buffer.bytes ≡ held h)
reset_holds h next code can is = rw (is, (or_parts (is_reset h.state) (is_done h) can).0) (refl, refl)

-- ---- bytes are taken

write_ready : (h : PlainSend) (limit : ℕ) → write_fault h limit ≡ None → is_ready h.state ≡ true
write_ready h limit none = elim (cases_Bool (is_ready h.state)) [
  | inl ready ↦ ready
  | inr not_ready ↦ let fault = rw not_ready at none in absurd (cc)
]

ready_undone : (state : SendState) (n : ℕ) → is_ready state ≡ true → is_done_in state n ≡ false
ready_undone Ready n e = refl
ready_undone (DataSent mark) n e = absurd (false≢true e)
ready_undone (ResetSent code mark) n e = absurd (false≢true e)

pub write_goes : (h next : PlainSend) (bytes : List ℕ) (limit : ℕ) → write_fault h limit ≡ None → next ≡ with_bytes h bytes → GoesOn h next
write_goes h next bytes limit none is = rw is (record { priority_is = refl; undone = ready_undone h.state (length (h.buffer.bytes ++ bytes)) (write_ready h limit none) })

pub write_holds : (h next : PlainSend) (bytes : List ℕ) (limit n : ℕ) → write_fault h limit ≡ None → n ≤ length bytes → next ≡ with_bytes h (take n bytes) → held next ≡ held h + n
write_holds h next bytes limit n none fits is =
    let ready = write_ready h limit none in
    let before = ready_holds h.state (length h.buffer.bytes) ready in
    let after = ready_holds h.state (length (h.buffer.bytes ++ take n bytes)) ready in
    rw is (omega (arith, before, after, length-append h.buffer.bytes (take n bytes), length-take-le n bytes fits))

pub write_spans : (h next : PlainSend) (bytes : List ℕ) → next ≡ with_bytes h bytes → (frame : Outgoing) → half_is_span (Some h) frame → half_is_span (Some next) frame
write_spans h next bytes is frame span = rw is (λ ready. let before = span ready in record { order = before.order; is_cut_from = before.is_cut_from; is_cut_to = before.is_cut_to })

-- ---- what bounds the half changes

pub bounds_go : (h next : PlainSend) (max_data : ℕ) (stop : Option ℕ) → is_done h ≡ false → next ≡ record h { max_data = max_data; stop_reason = stop }
    → GoesOn h next × (held next ≡ held h) × (Waits next → Waits h)
bounds_go h next max_data stop undone is = rw is (record { priority_is = refl; undone = undone }, refl, λ w. w)

-- the priority changes
pub ranked_is : (h next : PlainSend) (priority : ℤ) → is_done h ≡ false → next ≡ record h { priority = priority } → (next.priority ≡ priority) × (is_done next ≡ false) × (held next ≡ held h)
ranked_is h next priority undone is = rw is (refl, undone, refl)

-- the peer's first wish to stop is kept
pub stop_is : (h next : PlainSend) (code : ℕ) (first : Bool) → (first ≡ true → (h.stop_reason ≡ None) × (next ≡ record h { stop_reason = Some code })) → (first ≡ false → next ≡ h)
    → next ≡ record h { stop_reason = next.stop_reason }
stop_is h next code true now again = rw (now refl).1 refl
stop_is h next code false now again = rw (again refl) refl

-- ---- the reset is lost

lost_reset_done : (state : SendState) (n : ℕ) → is_done_in (with_reset_lost state) n ≡ is_done_in state n
lost_reset_done Ready n = refl
lost_reset_done (DataSent mark) n = refl
lost_reset_done (ResetSent code Sent) n = refl
lost_reset_done (ResetSent code Queued) n = refl
lost_reset_done (ResetSent code Acked) n = refl

lost_reset_still : (state : SendState) → is_reset (with_reset_lost state) ≡ is_reset state
lost_reset_still Ready = refl
lost_reset_still (DataSent mark) = refl
lost_reset_still (ResetSent code mark) = refl

pub lost_reset_goes : (h next : PlainSend) → is_done h ≡ false → next ≡ record h { state = with_reset_lost h.state } → GoesOn h next
lost_reset_goes h next undone is = rw is (record { priority_is = refl; undone = lost_reset_done h.state (length h.buffer.bytes) ∙ undone })

pub lost_reset_holds : (h next : PlainSend) → next ≡ record h { state = with_reset_lost h.state } → held next ≡ held h
lost_reset_holds h next is = rw (is, lost_reset_still h.state) refl

-- ---- a frame is lost

span_kept : (old new : PlainSendBuffer) (from to : ℕ) → KeepsCuts old new → IsSpan old from to → IsSpan new from to
span_kept old new from to cuts span = record { order = span.order; is_cut_from = cuts from span.is_cut_from; is_cut_to = cuts to span.is_cut_to }

lost_end_done : (state : SendState) (fin : Bool) (n : ℕ) → is_done_in (if fin then with_end_lost state else state) n ≡ is_done_in state n
lost_end_done state false n = refl
lost_end_done Ready true n = refl
lost_end_done (DataSent Sent) true n = refl
lost_end_done (DataSent Queued) true n = refl
lost_end_done (DataSent Acked) true n = refl
lost_end_done (ResetSent code mark) true n = refl

lost_end_still : (state : SendState) (fin : Bool) → is_reset (if fin then with_end_lost state else state) ≡ is_reset state
lost_end_still state false = refl
lost_end_still Ready true = refl
lost_end_still (DataSent Sent) true = refl
lost_end_still (DataSent Queued) true = refl
lost_end_still (DataSent Acked) true = refl
lost_end_still (ResetSent code mark) true = refl

module _ (h next : PlainSend) (from to : ℕ) (fin : Bool) (lost : IsPieceQueued h next from to fin) where
  same_bytes : next.buffer.bytes ≡ h.buffer.bytes
  same_bytes = elim (cases_Bool (is_reset h.state)) [
    | inl reset ↦ ap (λ (s : PlainSend). s.buffer.bytes) (lost.kept reset)
    | inr not_reset ↦ (lost.bytes_are not_reset).bytes_are
  ]

  pub lost_goes : is_done h ≡ false → GoesOn h next
  lost_goes undone = record {
    priority_is = ap (λ (s : PlainSend). s.priority) lost.rest_is;
    undone = rw (lost.state_is, same_bytes) (lost_end_done h.state fin (length h.buffer.bytes) ∙ undone);
  }

  pub lost_holds : held next ≡ held h
  lost_holds = rw (lost.state_is, same_bytes, lost_end_still h.state fin) refl

  pub lost_spans : (frame : Outgoing) → half_is_span (Some h) frame → half_is_span (Some next) frame
  lost_spans frame span not_reset =
      let not_before : is_reset h.state ≡ false = sym (lost_end_still h.state fin) ∙ sym (ap is_reset lost.state_is) ∙ not_reset in
      span_kept h.buffer next.buffer frame.offsets.start frame.offsets.end (lost.bytes_are not_before).cuts (span not_before)

-- ---- a frame is acknowledged

acked_end_still : (state : SendState) (fin : Bool) → is_reset (if fin then with_end_acked state else state) ≡ is_reset state
acked_end_still state false = refl
acked_end_still Ready true = refl
acked_end_still (DataSent mark) true = refl
acked_end_still (ResetSent code mark) true = refl

end_was_queued : (state : SendState) (fin : Bool) → is_end_queued (if fin then with_end_acked state else state) ≡ true → is_end_queued state ≡ true
end_was_queued state false e = e
end_was_queued Ready true e = e
end_was_queued (DataSent mark) true e = absurd (false≢true e)
end_was_queued (ResetSent code mark) true e = e

reset_was_queued : (state : SendState) (fin : Bool) → is_reset_queued (if fin then with_end_acked state else state) ≡ true → is_reset_queued state ≡ true
reset_was_queued state false e = e
reset_was_queued Ready true e = e
reset_was_queued (DataSent mark) true e = e
reset_was_queued (ResetSent code mark) true e = e

-- no byte waits that didn't
none_queued : (old new : PlainSendBuffer) (from to : ℕ) → IsAcknowledged old new from to → ((k : ℕ) → is_queued old k ≡ false) → (k : ℕ) → is_queued new k ≡ false
none_queued old new from to acked none k = elim (cases_Bool (is_between from to k)) [
  | inl now ↦ let mark = rw now at (acked.marks k) in rw mark refl
  | inr not_now ↦ let mark = rw not_now at (acked.marks k) in rw (mark, acked.taken_is) (none k)
]

module _ (h next : PlainSend) (from to : ℕ) (fin : Bool) (acked : IsPieceAcked h next from to fin) where
  reset_still : is_reset next.state ≡ is_reset h.state
  reset_still = ap is_reset acked.state_is ∙ acked_end_still h.state fin

  pub acked_holds : held next ≤ held h
  acked_holds = elim (cases_Bool (is_reset h.state)) [
    | inl reset ↦ rw (acked.kept reset) (omega arith)
    | inr not_reset ↦
        let bytes = acked.bytes_are not_reset in
        rw (reset_still, not_reset) (omega (arith, bytes.rises, bytes.taken_is))
  ]

  pub acked_goes : is_done next ≡ false → GoesOn h next
  acked_goes undone = record { priority_is = ap (λ (s : PlainSend). s.priority) acked.rest_is; undone = undone }

  pub acked_waits : Waits next → Waits h
  acked_waits w = elim (cases_Bool (is_reset h.state)) [
    | inl reset ↦ rw (acked.kept reset) at w
    | inr not_reset ↦ elim w [
      | inl pending ↦ inl (not_reset, λ none. end_was_queued h.state fin (sym (ap is_end_queued acked.state_is) ∙ pending.1 (none_queued h.buffer next.buffer from to (acked.bytes_are not_reset) none)))
      | inr reset ↦ inr (reset_was_queued h.state fin (sym (ap is_reset_queued acked.state_is) ∙ reset))
    ]
  ]

  pub acked_spans : (frame : Outgoing) → half_is_span (Some h) frame → half_is_span (Some next) frame
  acked_spans frame span not_reset =
      let not_before : is_reset h.state ≡ false = sym reset_still ∙ not_reset in
      span_kept h.buffer next.buffer frame.offsets.start frame.offsets.end (acked.bytes_are not_before).cuts (span not_before)

-- ---- the reset is acknowledged

acked_reset_still : (state : SendState) → is_reset (with_reset_mark Acked state) ≡ is_reset state
acked_reset_still Ready = refl
acked_reset_still (DataSent mark) = refl
acked_reset_still (ResetSent code mark) = refl

acked_reset_same : (state : SendState) (n : ℕ) → is_done_in (with_reset_mark Acked state) n ≡ false → with_reset_mark Acked state ≡ state
acked_reset_same Ready n undone = refl
acked_reset_same (DataSent mark) n undone = refl
acked_reset_same (ResetSent code mark) n undone = absurd (false≢true (sym undone))

pub acked_reset_holds : (h next : PlainSend) → next ≡ record h { state = with_reset_mark Acked h.state } → held next ≡ held h
acked_reset_holds h next is = rw (is, acked_reset_still h.state) refl

-- a half that isn't done by it is left as it was
pub acked_reset_is : (h next : PlainSend) → next ≡ record h { state = with_reset_mark Acked h.state } → is_done next ≡ false → next ≡ h
acked_reset_is h next is undone =
    let undone_then = rw is at undone in
    is ∙ ap (λ (state : SendState). record h { state = state }) (acked_reset_same h.state (length h.buffer.bytes) undone_then)
