-- Calls on sending halves are steps of the book.
use Rattle.std.proofs.Common.{◌≡◌, ℕ, ℤ, zero, suc, ◌+◌, ◌-◌, ◌<◌, ◌≤◌, ◌==◌, min, Bool, true, false, ◌||◌, List, [], ◌++◌, length, take, Option, Some, None, IfSome, if◌then◌else◌, refl, sym, ap, ◌∙◌, arith, inr, subst, length-append}
use Rattle.std.proofs.lemmas.Bool.{eqb-false, false≢true}
use Rattle.std.proofs.lemmas.List.{length-take-le}
use Rattle.std.proofs.lemmas.Option.{none-some}
use Rattle.qh_base.specs.declared.stream_id.StreamId.{StreamId}
use Rattle.qh_book.proofs.ShownSends.{held_stepped, live_there, open_there, shown_half, step_page}
use Rattle.qh_book.specs.Book.{Book, room, with_send, with_stream_reset}
use Rattle.qh_book.specs.Pages.{SendPage, Finished, is_writing, is_reset as is_page_reset, with_reset}
use Rattle.qh_book.specs.Sending.{with_written}
use Rattle.qh_book.specs.Shown.{IsStreamStep, Note, ShowsStreams, send_page, state_of}
use Rattle.qh_book.specs.declared.call.Call.TheVariants as call
use Rattle.qh_book.specs.declared.reply.Reply.TheVariants as reply
use Rattle.qh_buffers.specs.declared.send_buffer.Mark.TheVariants.{Queued}
use Rattle.qh_half.specs.Send.{PlainSend, credit, held, is_done, is_ready, is_reset, stopped_or_blocked, stopped_or_closed, with_bytes, write_fault}
use Rattle.qh_half.specs.declared.fault.WriteFault.{WriteFault}
use Rattle.qh_half.specs.declared.fault.FinishFault.{FinishFault}
use Rattle.qh_half.specs.declared.send.SendState.{SendState as HalfState}
use Rattle.qh_half.specs.declared.send.SendState.TheVariants.{Ready, DataSent, ResetSent}
use Rattle.qh_halves.proofs.HalfSteps.{finish_holds, reset_holds, write_holds}
use Rattle.qh_halves.specs.SendHalves.{Finishes, HasPriority, IsResetWith, IsStep, Takes, half_write_fault, send_at, unacked, write_fault_at, write_limit}
use Rattle.qh_streams.specs.Streams.{PlainStreams}

-- ---- what it means that nothing refuses a call

record CanWrite (h : PlainSend) (limit : ℕ) : Type 0 where
  ready : is_ready h.state ≡ true
  free : h.stop_reason ≡ None
  some : 0 < credit h limit

can_write : (h : PlainSend) (limit : ℕ) → write_fault h limit ≡ None → CanWrite h limit
can_write h limit none = record { ready = ready; free = unstopped h.stop_reason (credit h limit) rest; some = above h.stop_reason (credit h limit) rest }
  where
    is_ready_now : (r : Bool) (o : Option WriteFault) (e : WriteFault) → (if r then o else Some e) ≡ None → (r ≡ true) × (o ≡ None)
    is_ready_now true o e n = (refl, n)
    is_ready_now false o e n = absurd (none-some e (sym n))

    unstopped : (stop : Option ℕ) (room : ℕ) → stopped_or_blocked stop room ≡ None → stop ≡ None
    unstopped None room n = refl
    unstopped (Some code) room n = absurd (none-some _ (sym n))

    not_blocked : (empty : Bool) (e : WriteFault) → (if empty then Some e else None) ≡ None → empty ≡ false
    not_blocked false e n = refl
    not_blocked true e n = absurd (none-some e (sym n))

    positive : (n : ℕ) → (n == 0) ≡ false → 0 < n
    positive zero h = absurd (eqb-false 0 0 h refl)
    positive (suc n) h = omega arith

    above : (stop : Option ℕ) (room : ℕ) → stopped_or_blocked stop room ≡ None → 0 < room
    above None room n = positive room (not_blocked (room == 0) _ n)
    above (Some code) room n = absurd (none-some _ (sym n))

    ready : is_ready h.state ≡ true
    ready = (is_ready_now (is_ready h.state) _ _ none).0

    rest : stopped_or_blocked h.stop_reason (credit h limit) ≡ None
    rest = (is_ready_now (is_ready h.state) _ _ none).1

-- ---- bytes are written

pub room_is : {notes : ℕ → Note} (old : PlainStreams) (b : Book) (p : SendPage) (h : PlainSend) → ShowsStreams old notes b → p ≡ send_page h → room b p ≡ credit h (write_limit old.send)
room_is old b p h shown page = rw (page, shown.credit_to, shown.taken, shown.send_window, shown.unconfirmed) (omega arith)

unconfirmed_is : (state : HalfState) (bs bytes : List ℕ) → is_ready state ≡ true → (if is_reset state then [] else bs) ++ bytes ≡ (if is_reset state then [] else bs ++ bytes)
unconfirmed_is Ready bs bytes ready = refl
unconfirmed_is (DataSent mark) bs bytes ready = absurd (false≢true ready)
unconfirmed_is (ResetSent code mark) bs bytes ready = absurd (false≢true ready)

page_written : (p : SendPage) (h next : PlainSend) (bytes : List ℕ) → p ≡ send_page h → is_ready h.state ≡ true → next ≡ with_bytes h bytes
    → record p { taken = p.taken + length bytes; unconfirmed = p.unconfirmed ++ bytes } ≡ send_page next
page_written p h next bytes page ready is =
    ap (λ (q : SendPage). record q { taken = q.taken + length bytes; unconfirmed = q.unconfirmed ++ bytes }) page
    ∙ ((λ i. record (send_page h) { taken = longer i; unconfirmed = unconfirmed_is h.state h.buffer.bytes bytes ready i }) ∙ sym (ap send_page is))
  where
    longer : h.buffer.start + length h.buffer.bytes + length bytes ≡ h.buffer.start + length (h.buffer.bytes ++ bytes)
    longer = let all = length-append h.buffer.bytes bytes in omega (arith, all)

-- ---- a stream is finished, reset

can_finish : (stop : Option ℕ) (state : HalfState) → stopped_or_closed stop state ≡ None → (stop ≡ None) × (is_ready state ≡ true)
can_finish (Some code) state n = absurd (none-some _ (sym n))
can_finish None state n = (refl, ready (is_ready state) _ n)
  where
    ready : (r : Bool) (e : FinishFault) → (if r then None else Some e) ≡ None → r ≡ true
    ready true e n = refl
    ready false e n = absurd (none-some e (sym n))

finished_at : (state : HalfState) (h : PlainSend) → is_ready state ≡ true → record (send_page (record h { state = state })) { state = Finished } ≡ send_page (record h { state = DataSent Queued })
finished_at Ready h ready = refl
finished_at (DataSent mark) h ready = absurd (false≢true ready)
finished_at (ResetSent code mark) h ready = absurd (false≢true ready)

page_finished : (p : SendPage) (h next : PlainSend) → p ≡ send_page h → is_ready h.state ≡ true → next ≡ record h { state = DataSent Queued } → record p { state = Finished } ≡ send_page next
page_finished p h next page ready is = ap (λ (q : SendPage). record q { state = Finished }) page ∙ (finished_at h.state h ready ∙ sym (ap send_page is))

pub writing_as : (state : HalfState) → is_writing (state_of state) ≡ is_ready state
writing_as Ready = refl
writing_as (DataSent mark) = refl
writing_as (ResetSent code mark) = refl

pub reset_as : (state : HalfState) → is_page_reset (state_of state) ≡ is_reset state
reset_as Ready = refl
reset_as (DataSent mark) = refl
reset_as (ResetSent code mark) = refl

unreset : (r d : Bool) → (r || d) ≡ false → r ≡ false
unreset true d h = h
unreset false d h = refl

pub held_as : (r : Bool) (bytes : List ℕ) → length (if r then [] else bytes) ≡ (if r then 0 else length bytes)
held_as true bytes = refl
held_as false bytes = refl

module _ {T : Type 0} {notes : ℕ → Note} (old new : PlainStreams) (b : Book) (id : StreamId) (shown : ShowsStreams old notes b) (rest : new ≡ record old { send = new.send }) where
  pub write_stepped : (payload : List ℕ) (n : ℕ) → b.error ≡ None → write_fault_at old.send id.0 ≡ None → IfSome (send_at old.send id.0) (λ h. n ≡ min (length payload) (credit h (write_limit old.send)))
      → IsStep (Takes (take n payload)) old.send new.send id.0 n → IsStreamStep {T = T} b (call.Write id payload) (reply.Count n) new notes
  write_stepped payload n open_still can count s =
      let p = step_page old new.send b id.0 n shown s in
      let none : half_write_fault (Some s.half) (write_limit old.send) ≡ None = subst (λ (o : Option PlainSend). half_write_fault o (write_limit old.send) ≡ None) s.was can in
      let may = can_write s.half (write_limit old.send) none in
      let n_is : n ≡ min (length payload) (credit s.half (write_limit old.send)) = subst (λ (o : Option PlainSend). IfSome o (λ h. n ≡ min (length payload) (credit h (write_limit old.send)))) s.was count in
      let space = room_is old b p.0 s.half shown p.3 in
      let fits : n ≤ length payload = omega (arith, n_is) in
      let long : length (take n payload) ≡ n = length-take-le n payload fits in
      let holds = write_holds s.half s.next payload (write_limit old.send) n none fits s.step in
      let sum = held_stepped old.send new.send id.0 n s in
      let taken_is : b.taken + length (take n payload) ≡ old.send.data_sent + n = omega (arith, long, shown.taken) in
      let held_is : b.unconfirmed + length (take n payload) ≡ unacked new.send.halves = omega (arith, long, holds, sum, shown.unconfirmed) in
      record {
        after = with_written b id.0 (take n payload) p.0;
        allows = (p.0, open_still, open_there (b.sends id.0) p.0 s.half p.1 p.3 may.ready, ap (λ (q : SendPage). q.stop_code) p.3 ∙ may.free, rw space may.some, rw space n_is, refl);
        shows = shown_half old new b id.0 n (Some s.next) _ _ _ shown s.is rest (λ gone. absurd (none-some s.half (sym gone ∙ s.was))) (s.is_on, page_written p.0 s.half s.next (take n payload) p.3 may.ready s.step) taken_is held_is;
        rest = refl;
      }

  -- ---- a stream is finished, reset or given a priority

  pub finish_stepped : IsStep Finishes old.send new.send id.0 0 → IsStreamStep {T = T} b (call.Finish id) reply.Done new notes
  finish_stepped s =
      let p = step_page old new.send b id.0 0 shown s in
      let may = can_finish s.half.stop_reason s.half.state s.step.0 in
      let holds = finish_holds s.half s.next s.step.0 s.step.1 in
      let sum = held_stepped old.send new.send id.0 0 s in
      let taken_is : b.taken ≡ old.send.data_sent + 0 = omega (arith, shown.taken) in
      let held_is : b.unconfirmed ≡ unacked new.send.halves = omega (arith, holds, sum, shown.unconfirmed) in
      record {
        after = with_send b id.0 (record p.0 { state = Finished });
        allows = (p.0, live_there (b.sends id.0) p.0 s.half p.1 p.3 p.2, inr (ap (λ (q : SendPage). q.stop_code) p.3 ∙ may.0, ap (λ (q : SendPage). is_writing q.state) p.3 ∙ (writing_as s.half.state ∙ may.1), refl));
        shows = shown_half old new b id.0 0 (Some s.next) (record p.0 { state = Finished }) b.taken b.unconfirmed shown s.is rest (λ gone. absurd (none-some s.half (sym gone ∙ s.was))) (s.is_on, page_finished p.0 s.half s.next p.3 may.1 s.step.1) taken_is held_is;
        rest = refl;
      }

  pub reset_stepped : (code : ℕ) → IsStep (IsResetWith code) old.send new.send id.0 0 → IsStreamStep {T = T} b (call.Reset id code) reply.Done new notes
  reset_stepped code s =
      let p = step_page old new.send b id.0 0 shown s in
      let may = unreset (is_reset s.half.state) (is_done s.half) s.step.0 in
      let holds = reset_holds s.half s.next code s.step.0 s.step.1 in
      let sum = held_stepped old.send new.send id.0 0 s in
      let page_holds : length p.0.unconfirmed ≡ held s.half = ap (λ (q : SendPage). length q.unconfirmed) p.3 ∙ held_as (is_reset s.half.state) s.half.buffer.bytes in
      let taken_is : b.taken ≡ old.send.data_sent + 0 = omega (arith, shown.taken) in
      let held_is : b.unconfirmed - length p.0.unconfirmed ≡ unacked new.send.halves = omega (arith, holds.0, page_holds, sum, shown.unconfirmed) in
      record {
        after = with_stream_reset b id.0 code p.0;
        allows = (p.0, live_there (b.sends id.0) p.0 s.half p.1 p.3 p.2, ap (λ (q : SendPage). is_page_reset q.state) p.3 ∙ (reset_as s.half.state ∙ may), refl);
        shows = shown_half old new b id.0 0 (Some s.next) (with_reset code p.0) b.taken (b.unconfirmed - length p.0.unconfirmed) shown s.is rest (λ gone. absurd (none-some s.half (sym gone ∙ s.was))) (s.is_on, ap (with_reset code) p.3 ∙ sym (ap send_page s.step.1)) taken_is held_is;
        rest = refl;
      }

  pub priority_stepped : (priority : ℤ) → IsStep (HasPriority priority) old.send new.send id.0 0 → IsStreamStep {T = T} b (call.SetPriority id priority) reply.Done new notes
  priority_stepped priority s =
      let p = step_page old new.send b id.0 0 shown s in
      let holds : held s.next ≡ held s.half = ap held s.step in
      let sum = held_stepped old.send new.send id.0 0 s in
      let taken_is : b.taken ≡ old.send.data_sent + 0 = omega (arith, shown.taken) in
      let held_is : b.unconfirmed ≡ unacked new.send.halves = omega (arith, holds, sum, shown.unconfirmed) in
      record {
        after = with_send b id.0 (record p.0 { priority = priority });
        allows = (p.0, live_there (b.sends id.0) p.0 s.half p.1 p.3 p.2, refl);
        shows = shown_half old new b id.0 0 (Some s.next) (record p.0 { priority = priority }) b.taken b.unconfirmed shown s.is rest (λ gone. absurd (none-some s.half (sym gone ∙ s.was)))
            (s.is_on, ap (λ (q : SendPage). record q { priority = priority }) p.3 ∙ sym (ap send_page s.step)) taken_is held_is;
        rest = refl;
      }
