-- What the handle of a stream's sending half does when it ends.
use Rattle.std.proofs.Common.{◌≡◌, ◌⊎◌, ℕ, ◌&&◌, Bool, true, false, not, Option, None, Some, is_some, if◌then◌else◌, refl, sym, ap, subst, ◌∙◌, inl, inr}
use Rattle.std.proofs.lemmas.Option.{none-some, same_Some}
use Rattle.qh_base.specs.declared.connection_error.ConnectionError.{ConnectionError}
use Rattle.qh_base.specs.declared.stream_id.StreamId.{StreamId}
use Rattle.qh_book.specs.Book.{Book}
use Rattle.qh_book.specs.Interests.{stop_waits}
use Rattle.qh_book.specs.Pages.{SendPage, live_send}
use Rattle.qh_book.specs.Sending.{Finishes, Resets, TellsStop, is_finish_refused, is_reset_refused, send_ended, with_send_ended}
use Rattle.qh_book.specs.declared.call.Call.TheVariants as call
use Rattle.qh_book.specs.declared.reply.Reply.{Reply}
use Rattle.qh_book.specs.declared.reply.Reply.TheVariants as reply
use Rattle.qh_quinn.specs.Acting.{IsAnswered, IsChanged}
use Rattle.qh_quinn.specs.States.{IsState, Shows}
use Rattle.qh_quinn.specs.declared.inner.StateInner.{StateInner}

-- ---- laws of a book

abbrev pub FinishLaw : (T : Type 0) → Type 0
FinishLaw T = (b c : Book) (id : StreamId) → b.error ≡ None → Finishes {T = T} b id reply.Done c → (p : SendPage) → live_send (b.sends id.0) ≡ Some p → p.stop_code ≡ None → c ≡ with_send_ended b id.0

abbrev pub ResetLaw : (T : Type 0) → Type 0
ResetLaw T = (b c : Book) (id : StreamId) (code : ℕ) → b.error ≡ None → Resets {T = T} b id code reply.Done c → (p : SendPage) → live_send (b.sends id.0) ≡ Some p → p.stop_code ≡ Some code → c ≡ with_send_ended b id.0

abbrev pub NothingLaw : Type 0
NothingLaw = (b : Book) (id : ℕ) → b.error ≡ None → (is_reset_refused (live_send (b.sends id)) ≡ true) ⊎ (is_finish_refused (live_send (b.sends id)) ≡ true) → b ≡ with_send_ended b id

-- ---- the code with which the peer asked to stop

-- this is the code of each half that lives
abbrev pub HasStopCode : Book → (id : ℕ) → Option ℕ → Type 0
HasStopCode b id code = (p : SendPage) → live_send (b.sends id) ≡ Some p → p.stop_code ≡ code

other_page : {A : Type 0} (o : Option A) (p : A) → o ≡ Some p → o ≡ None → ⊥
other_page o p some none = none-some p (sym none ∙ some)

no_code : (code : Option ℕ) → not (is_some code) ≡ true → code ≡ None
no_code None is = refl
no_code (Some code) is = let z : false ≡ true = is in cc

both_of : (a b : Bool) → (a && b) ≡ true → b ≡ true
both_of true b is = is
both_of false b is = let z : false ≡ true = is in cc

same_code : (o : Option SendPage) (p q : SendPage) (code : Option ℕ) → o ≡ Some p → o ≡ Some q → q.stop_code ≡ code → p.stop_code ≡ code
same_code o p q code one other is = ap (λ (x : SendPage). x.stop_code) (same_Some p q (sym one ∙ other)) ∙ is

told_code : (T : Type 0) (b c : Book) (id : StreamId) (code : Option ℕ) → TellsStop {T = T} b id (reply.Code code) c → HasStopCode b id.0 code
told_code T b c id None h = λ p live. absurd (other_page (live_send (b.sends id.0)) p live h.0)
told_code T b c id (Some code) h = λ p live. same_code (live_send (b.sends id.0)) p h.0 (Some code) live h.1 h.2

untold_code : {T : Type 0} (b c : Book) (id : StreamId) (r : Reply T) → b.error ≡ None → ((code : Option ℕ) → r ≡ reply.Code code → ⊥) → TellsStop b id r c → HasStopCode b id.0 None
untold_code b c id (reply.Code code) unlost none h = absurd (none code refl)
untold_code b c id (reply.ConnectionLost e) unlost none h = absurd (none-some e (sym unlost ∙ h.1))
untold_code b c id reply.Pending unlost none h =
    λ p live. no_code p.stop_code (subst (λ (z : Option SendPage). stop_waits z ≡ true) live (both_of (not (is_some b.error)) (stop_waits (live_send (b.sends id.0))) h.0))
untold_code b c id r unlost none h = absurd h

-- ---- the half ends by it

reset_ends : {T : Type 0} → ResetLaw T → NothingLaw → (b after : Book) (id : StreamId) (code : ℕ) (r : Reply T) → b.error ≡ None → HasStopCode b id.0 (Some code) → Resets b id code r after → after ≡ with_send_ended b id.0
reset_ends law nothing b after id code reply.Done unlost told h = law b after id code unlost h h.0 h.1 (told h.0 h.1)
reset_ends law nothing b after id code reply.ClosedStream unlost told h = h.1 ∙ nothing b id.0 unlost (inl h.0)
reset_ends law nothing b after id code r unlost told h = absurd h

finish_ends : {T : Type 0} → FinishLaw T → NothingLaw → (b after : Book) (id : StreamId) (r : Reply T) → b.error ≡ None → HasStopCode b id.0 None → Finishes b id r after → after ≡ with_send_ended b id.0
finish_ends law nothing b after id reply.Done unlost told h = law b after id unlost h h.0 h.1 (told h.0 h.1)
finish_ends law nothing b after id reply.ClosedStream unlost told h = h.1 ∙ nothing b id.0 unlost (inr h.0)
finish_ends law nothing b after id r unlost told h = absurd h

if_true : {A : Type 0} (x : Bool) (a b : A) → x ≡ true → (if x then a else b) ≡ a
if_true true a b is = refl
if_true false a b is = let z : false ≡ true = is in cc

ended_lost : (b : Book) (id : ℕ) (e : Option ConnectionError) → b.error ≡ e → is_some e ≡ true → b ≡ with_send_ended b id
ended_lost b id None is lost = let z : false ≡ true = lost in cc
ended_lost b id (Some e) is lost = sym (if_true (is_some b.error) b (send_ended (live_send (b.sends id)) b id) (ap (λ (z : Option ConnectionError). is_some z) is))

module _ {S T : Type 0} where
  pub stop_told : (s : StateInner S) (id : StreamId) (r : Reply T) (code : Option ℕ) → r ≡ reply.Code code → IsAnswered (call.Stopped id) r s s → (b : Book) → Shows s b → HasStopCode b id.0 code
  stop_told s id r code is h b shown = let a = h.each b shown in told_code T b a.after id code (subst (λ (x : Reply T). TellsStop b id x a.after) is a.allows)

  pub stop_untold : (s : StateInner S) (id : StreamId) (r : Reply T) → s.error ≡ None → ((code : Option ℕ) → r ≡ reply.Code code → ⊥) → IsAnswered (call.Stopped id) r s s → (b : Book) → Shows s b → HasStopCode b id.0 None
  stop_untold s id r unlost none h b shown = let a = h.each b shown in untold_code b a.after id r (shown.shows.error ∙ unlost) none a.allows

  pub ends_by_reset : ResetLaw T → NothingLaw → (old new : StateInner S) (id : StreamId) (code : ℕ) (r : Reply T) → old.error ≡ None → ((b : Book) → Shows old b → HasStopCode b id.0 (Some code)) → IsAnswered (call.Reset id code) r old new
      → IsChanged (λ b. with_send_ended b id.0) old new
  ends_by_reset law nothing old new id code r unlost told h = record {
    each = λ b shown. let a = h.each b shown in
        subst (λ (z : Book). Shows new z) (reset_ends law nothing b a.after id code r (shown.shows.error ∙ unlost) (told b shown) a.allows) a.shows;
    state = h.state;
  }

  pub ends_by_finish : FinishLaw T → NothingLaw → (old new : StateInner S) (id : StreamId) (r : Reply T) → old.error ≡ None → ((b : Book) → Shows old b → HasStopCode b id.0 None) → IsAnswered (call.Finish id) r old new
      → IsChanged (λ b. with_send_ended b id.0) old new
  ends_by_finish law nothing old new id r unlost told h = record {
    each = λ b shown. let a = h.each b shown in
        subst (λ (z : Book). Shows new z) (finish_ends law nothing b a.after id r (shown.shows.error ∙ unlost) (told b shown) a.allows) a.shows;
    state = h.state;
  }

module _ {S : Type 0} where
  -- one change after another
  pub in_turn : (f k : Book → Book) (old mid new : StateInner S) → IsChanged f old mid → IsChanged k mid new → IsChanged (λ b. k (f b)) old new
  in_turn f k old mid new h i = record { each = λ b shown. i.each (f b) (h.each b shown); state = i.state }

  -- an error is kept: nothing of the half changes
  pub lost_ends : (s : StateInner S) (id : StreamId) → is_some s.error ≡ true → IsState s → IsChanged (λ b. with_send_ended b id.0) s s
  lost_ends s id lost h = record { each = λ b shown. subst (λ (z : Book). Shows s z) (ended_lost b id.0 s.error shown.shows.error lost) shown; state = h }
