-- What closes do to the connection, and the ends of handles.
use Rattle.std.proofs.Common.{◌≡◌, ℕ, ◌-◌, ◌==◌, ◌<◌, ◌≤◌, nat_lt, nat_cmp, Less, Equal, Greater, max, cond, ◌&&◌, Bool, true, false, not, List, [], ◌∷◌, Option, Some, None, is_some, if◌then◌else◌, refl, sym, ap, ◌∙◌, inl, inr, subst, arith}
use Rattle.std.proofs.lemmas.Bool.{false≢true, ltb-false, ltb-true}
use Rattle.std.proofs.lemmas.Option.{none-some}
use Rattle.std.specs.Ordering.{is_lt, ord_max}
use Rattle.std.specs.Prelude.{MatchBool}
use Rattle.qh_base.specs.declared.connection_error.ConnectionError.{ConnectionError}
use Rattle.qh_base.specs.declared.stream_id.StreamId.{StreamId}
use Rattle.qh_base.specs.declared.time.Moment.{Moment}
use Rattle.qh_book.specs.Book.{Book}
use Rattle.qh_book.specs.Pages.{SendPage, is_reset, is_writing, live_send}
use Rattle.qh_book.specs.Sending.{Finishes, IsFinished, Resets, is_finish_refused, is_reset_refused}
use Rattle.qh_book.specs.declared.call.Call.TheVariants as call
use Rattle.qh_book.specs.declared.reply.Reply.{Reply}
use Rattle.qh_book.specs.declared.reply.Reply.TheVariants as reply
use Rattle.qh_conn.specs.Whole.{CarriesOn}
use Rattle.qh_conn.specs.declared.connection.Connection.{Connection}
use Rattle.qh_quinn.proofs.CallParts.{and_no_more, carries_as}
use Rattle.qh_quinn.proofs.HalfEnds.{HasStopCode}
use Rattle.qh_quinn.specs.Acting.{IsAnswered, IsChanged, KeepsTurns}
use Rattle.qh_quinn.specs.Calls.{ClosesWith, EndsHalfOf, EndsHandleOf, IsCallOf, WakesIfChanged, call_acts, finish_acts, finished_by, send_end_acts, send_ended_by, send_handle_acts}
use Rattle.qh_quinn.specs.States.{Shows}
use Rattle.qh_quinn.specs.Streaming.{EndsSending, FinishesOne, ResetsOne}
use Rattle.qh_quinn.specs.declared.inner.StateInner.{StateInner}
use Rattle.qh_spec.specs.Transcript.{Finished, Reset}

-- the later of two moments
pub later : (now last r : Moment) → r ≡ ord_max (λ (x y : Moment). nat_cmp x.0 y.0) now last → r.0 ≡ max now.0 last.0
later now last r is = ap (λ (m : Moment). m.0) is ∙ at (nat_lt last.0 now.0) (last.0 == now.0) refl
  where
    at : (less same : Bool) → nat_lt last.0 now.0 ≡ less → (cond (is_lt (cond less Less (cond same Equal Greater))) now last).0 ≡ max now.0 last.0
    at true same less = let z : last.0 < now.0 = ltb-true last.0 now.0 less in omega (arith, z)
    at false true more = let z : now.0 ≤ last.0 = ltb-false last.0 now.0 more in omega (arith, z)
    at false false more = let z : now.0 ≤ last.0 = ltb-false last.0 now.0 more in omega (arith, z)

-- ---- the handle of a sending half

if_so : {A : Type 0} (x : Bool) (a b : A) → x ≡ true → (if x then a else b) ≡ a
if_so true a b is = refl
if_so false a b is = absurd (false≢true is)

if_not : {A : Type 0} (x : Bool) (a b : A) → x ≡ false → (if x then a else b) ≡ b
if_not false a b is = refl
if_not true a b is = absurd (false≢true (sym is))

-- while no error is kept it is what is done of the live page
unlost_acts : (b : Book) (id : ℕ) → b.error ≡ None → send_handle_acts b id ≡ send_end_acts id (live_send (b.sends id))
unlost_acts b id none = ap (λ (e : Option ConnectionError). if is_some e then [] else send_end_acts id (live_send (b.sends id))) none

ends_as : (id : ℕ) (o : Option SendPage) (p : SendPage) (stop : Option ℕ) → o ≡ Some p → p.stop_code ≡ stop → send_end_acts id o ≡ send_ended_by id p stop
ends_as id o p stop live code = ap (λ (x : Option SendPage). send_end_acts id x) live ∙ ap (λ (x : Option ℕ). send_ended_by id p x) code

finishes_as : (id : ℕ) (o : Option SendPage) (p : SendPage) (stop : Option ℕ) → o ≡ Some p → p.stop_code ≡ stop → finish_acts id o ≡ finished_by id stop
finishes_as id o p stop live code = ap (λ (x : Option SendPage). finish_acts id x) live ∙ ap (λ (x : Option ℕ). finished_by id x) code

-- one that is finished was written still
written_still : (b c : Book) (id : ℕ) (p : SendPage) → p.stop_code ≡ None → IsFinished b id p c → is_writing p.state ≡ true
written_still b c id p none (inl s) = absurd (false≢true (sym (ap (λ (x : Option ℕ). is_some x) none) ∙ s.0))
written_still b c id p none (inr s) = s.1

unwritten_by : (stop : Option ℕ) (writing : Bool) → stop ≡ None → (not (is_some stop) && not writing) ≡ true → writing ≡ false
unwritten_by None false none is = refl
unwritten_by None true none is = absurd (false≢true is)
unwritten_by (Some code) writing none is = absurd (none-some code (sym none))

-- one that isn't finished stays as it is, if the peer didn't ask to stop it
unfinished_acts : (id : ℕ) (o : Option SendPage) → ((p : SendPage) → o ≡ Some p → p.stop_code ≡ None) → is_finish_refused o ≡ true → send_end_acts id o ≡ []
unfinished_acts id None told is = refl
unfinished_acts id (Some p) told is =
    ends_as id (Some p) p None refl (told p refl) ∙ if_not (is_writing p.state) (Finished id ∷ []) [] (unwritten_by p.stop_code (is_writing p.state) (told p refl) is)

-- nor is one reset again
unreset_acts : (id code : ℕ) (o : Option SendPage) → ((p : SendPage) → o ≡ Some p → p.stop_code ≡ Some code) → is_reset_refused o ≡ true → send_end_acts id o ≡ []
unreset_acts id code None told is = refl
unreset_acts id code (Some p) told is = ends_as id (Some p) p (Some code) refl (told p refl) ∙ if_so (is_reset p.state) [] (Reset id code ∷ []) is

-- it is finished
finish_ends : {T : Type 0} (b after : Book) (id : StreamId) (r : Reply T) → HasStopCode b id.0 None → Finishes b id r after → call_acts b (call.Finish id) r ≡ send_end_acts id.0 (live_send (b.sends id.0))
finish_ends b after id reply.Done told h =
    let none = told h.0 h.1 in
    finishes_as id.0 (live_send (b.sends id.0)) h.0 None h.1 none
    ∙ sym (if_so (is_writing h.0.state) (Finished id.0 ∷ []) [] (written_still b after id.0 h.0 none h.2))
    ∙ sym (ends_as id.0 (live_send (b.sends id.0)) h.0 None h.1 none)
finish_ends b after id reply.ClosedStream told h = sym (unfinished_acts id.0 (live_send (b.sends id.0)) told h.0)
finish_ends b after id r told h = absurd h

-- or reset with the peer's code
reset_ends : {T : Type 0} (b after : Book) (id : StreamId) (code : ℕ) (r : Reply T) → HasStopCode b id.0 (Some code) → Resets b id code r after → call_acts b (call.Reset id code) r ≡ send_end_acts id.0 (live_send (b.sends id.0))
reset_ends b after id code reply.Done told h =
    sym (if_not (is_reset h.0.state) [] (Reset id.0 code ∷ []) h.2) ∙ sym (ends_as id.0 (live_send (b.sends id.0)) h.0 (Some code) h.1 (told h.0 h.1))
reset_ends b after id code reply.ClosedStream told h = sym (unreset_acts id.0 code (live_send (b.sends id.0)) told h.0)
reset_ends b after id code r told h = absurd h

lost_acts : (b : Book) (id : ℕ) (error : Option ConnectionError) → b.error ≡ error → is_some error ≡ true → send_handle_acts b id ≡ []
lost_acts b id error is lost = if_so (is_some b.error) [] (send_end_acts id (live_send (b.sends id))) (ap (λ (x : Option ConnectionError). is_some x) is ∙ lost)

module _ {S T : Type 0} where
  pub finish_carries : (old new : StateInner S) (id : StreamId) (r : Reply T) → old.error ≡ None → ((b : Book) → Shows old b → HasStopCode b id.0 None) → IsAnswered (call.Finish id) r old new → IsCallOf (call.Finish id) r old new
      → (b : Book) → Shows old b → CarriesOn old.connection new.connection (send_handle_acts b id.0)
  finish_carries old new id r none told answered h b shown =
      let a = answered.each b shown in
      carries_as old.connection new.connection (send_handle_acts b id.0) (call_acts b (call.Finish id) r)
      (unlost_acts b id.0 (shown.shows.error ∙ none) ∙ sym (finish_ends b a.after id r (told b shown) a.allows)) (h.carries b shown)

  pub reset_carries : (old new : StateInner S) (id : StreamId) (code : ℕ) (r : Reply T) → old.error ≡ None → ((b : Book) → Shows old b → HasStopCode b id.0 (Some code)) → IsAnswered (call.Reset id code) r old new → IsCallOf (call.Reset id code) r old new
      → (b : Book) → Shows old b → CarriesOn old.connection new.connection (send_handle_acts b id.0)
  reset_carries old new id code r none told answered h b shown =
      let a = answered.each b shown in
      carries_as old.connection new.connection (send_handle_acts b id.0) (call_acts b (call.Reset id code) r)
      (unlost_acts b id.0 (shown.shows.error ∙ none) ∙ sym (reset_ends b a.after id code r (told b shown) a.allows)) (h.carries b shown)

module _ {S : Type 0} where
  -- what is replied to a call that ends the half says what it did
  pub half_finished : {T : Type 0} (id : ℕ) (r : Reply T) (old new : Connection S) → FinishesOne id r old new → EndsSending id old new
  half_finished id reply.Done old new (inl change) = EndsSending.finished change
  half_finished id reply.Done old new (inr needless) = EndsSending.kept needless.same
  half_finished id other old new same = EndsSending.kept same

  pub half_reset : {T : Type 0} (id code : ℕ) (r : Reply T) (old new : Connection S) → ResetsOne id code r old new → EndsSending id old new
  half_reset id code reply.Done old new change = EndsSending.reset code change
  half_reset id code other old new same = EndsSending.kept same

  pub lost_carries : (s : StateInner S) (id : StreamId) → is_some s.error ≡ true → (b : Book) → Shows s b → CarriesOn s.connection s.connection [] → CarriesOn s.connection s.connection (send_handle_acts b id.0)
  lost_carries s id lost b shown none = carries_as s.connection s.connection (send_handle_acts b id.0) [] (lost_acts b id.0 s.error shown.shows.error lost) none

  -- ---- a handle ends

  -- the last one closes
  pub last_ends : (handles counted code : ℕ) (reason : List ℕ) (error : Option ConnectionError) (last_turn : Moment) (old new : Connection S) → counted ≡ handles - 1 → (counted == 0 && not (is_some error)) ≡ true → code ≡ 0 → reason ≡ []
      → ClosesWith last_turn last_turn code reason old new → EndsHandleOf handles error last_turn old new
  last_ends handles counted code reason error last_turn old new count last none empty closes =
      subst (λ (x : Bool). MatchBool x (ClosesWith last_turn last_turn 0 [] old new) (new ≡ old)) (sym (ap (λ (n : ℕ). n == 0 && not (is_some error)) (sym count) ∙ last))
      (subst (λ (n : ℕ). ClosesWith last_turn last_turn n [] old new) none (subst (λ (text : List ℕ). ClosesWith last_turn last_turn code text old new) empty closes))

  pub more_left : (handles counted : ℕ) (error : Option ConnectionError) (last_turn : Moment) (old new : Connection S) → counted ≡ handles - 1 → (counted == 0 && not (is_some error)) ≡ false → new ≡ old → EndsHandleOf handles error last_turn old new
  more_left handles counted error last_turn old new count more same =
      subst (λ (x : Bool). MatchBool x (ClosesWith last_turn last_turn 0 [] old new) (new ≡ old)) (sym (ap (λ (n : ℕ). n == 0 && not (is_some error)) (sym count) ∙ more)) same

  -- ---- the handle of a half ends

  -- with the counts that there were before the half ended
  ends_counted : (old mid : StateInner S) (new : Connection S) → mid.handles ≡ old.handles → mid.error ≡ old.error → mid.last_turn ≡ old.last_turn → EndsHandleOf mid.handles mid.error mid.last_turn mid.connection new
      → EndsHandleOf old.handles old.error old.last_turn mid.connection new
  ends_counted old mid new handles error last_turn h =
      subst (λ (n : ℕ). EndsHandleOf n old.error old.last_turn mid.connection new) handles
      (subst (λ (e : Option ConnectionError). EndsHandleOf mid.handles e old.last_turn mid.connection new) error (subst (λ (t : Moment). EndsHandleOf mid.handles mid.error t mid.connection new) last_turn h))

  pub ends_half : (Half : Connection S → Connection S → Type 0) (old mid new : StateInner S) → Half old.connection mid.connection → (is_some old.error ≡ true → mid.connection ≡ old.connection) → (mid.handles ≡ old.handles) × (mid.error ≡ old.error) → KeepsTurns old mid → EndsHandleOf mid.handles mid.error mid.last_turn mid.connection new.connection
      → EndsHalfOf Half old.handles old.error old.last_turn old.connection new.connection
  ends_half Half old mid new half lost counts turns ends = record {
    mid = mid.connection;
    half = half;
    lost = lost;
    ends = ends_counted old mid new.connection counts.0 counts.1 (ap (λ (s : StateInner S). s.last_turn) turns) ends;
  }

  -- the driver stays woken
  pub wakes_either : (old mid new : StateInner S) → (mid.driver ≡ None → new.driver ≡ None) → WakesIfChanged old mid → WakesIfChanged mid new → WakesIfChanged old new
  wakes_either old mid new stays one (inr two) = inr two
  wakes_either old mid new stays (inl one) (inl two) = inl (two ∙ one)
  wakes_either old mid new stays (inr one) (inl two) = inr (stays one)

  pub send_ended : (id : StreamId) (old mid new : StateInner S) (f : Book → Book) → IsChanged f old mid → ((b : Book) → Shows old b → CarriesOn old.connection mid.connection (send_handle_acts b id.0)) → EndsSending id.0 old.connection mid.connection
      → (is_some old.error ≡ true → mid.connection ≡ old.connection) → (mid.handles ≡ old.handles) × (mid.error ≡ old.error) → KeepsTurns old mid → WakesIfChanged old mid → (mid.driver ≡ None → new.driver ≡ None) → IsCallOf {T = Unit {0}} call.EndHandle reply.Done mid new
      → IsCallOf {T = Unit {0}} (call.EndSend id) reply.Done old new
  send_ended id old mid new f changed carries half lost counts turns wakes stays h = record {
    carries = λ b shown. and_no_more old.connection mid.connection new.connection (send_handle_acts b id.0) (carries b shown) (h.carries (f b) (changed.each b shown));
    called = ends_half (EndsSending id.0) old mid new half lost counts turns h.called;
    wakes = λ sends. wakes_either old mid new stays wakes (h.wakes tt);
  }
