-- An acknowledgement of a frame brings what it confirms.
use Rattle.std.proofs.Common.{◌≡◌, ℕ, ◌+◌, ◌-◌, ◌==◌, ◌^◌, min, Bool, true, false, ◌&&◌, ◌||◌, not, List, [], ◌∷◌, length, map, Option, Some, None, is_some, if◌then◌else◌, refl, sym, ap, ◌∙◌, arith, inl, inr, subst, eq-eqb}
use Rattle.std.proofs.lemmas.Bool.{cases_Bool, false≢true}
use Rattle.std.proofs.lemmas.Option.{none-some}
use Rattle.qh_base.specs.declared.stream_id.StreamId.{StreamId}
use Rattle.qh_book.proofs.ShownAcked.{acked_page, done_page, fewer, held_page}
use Rattle.qh_book.proofs.ShownRecvs.{recv_closed}
use Rattle.qh_book.proofs.ShownSends.{held_stepped, live_there, page_there, shown_half, step_page}
use Rattle.qh_book.proofs.ShownStops.{shown_same}
use Rattle.qh_book.proofs.ShownTaken.{put_same, shown_told}
use Rattle.qh_book.proofs.ShownWrites.{reset_as}
use Rattle.qh_book.specs.Book.{Book, with_send}
use Rattle.qh_book.specs.Items.{bring_all, brought_send, confirmed, item_of, on_send, with_reset_confirmed}
use Rattle.qh_book.specs.Pages.{SendPage, is_done_in as is_page_done_in, is_empty, is_reset as is_page_reset, is_send_done, live_send, with_confirmed}
use Rattle.qh_book.specs.Shown.{Note, ShowsSend, ShowsStreams, is_mark_acked, send_page, state_of}
use Rattle.qh_buffers.specs.SendBuffer.{taken_to}
use Rattle.qh_buffers.specs.declared.send_buffer.Mark.TheVariants.{Acked}
use Rattle.qh_half.specs.Send.{PlainSend, held, is_done, is_end_acked, is_reset, with_reset_mark}
use Rattle.qh_half.specs.declared.send.Outgoing.{Outgoing}
use Rattle.qh_half.specs.declared.send.SendState.{SendState as HalfState}
use Rattle.qh_half.specs.declared.send.SendState.TheVariants.{Ready, DataSent, ResetSent}
use Rattle.qh_halves.proofs.HalfSteps.{acked_reset_is}
use Rattle.qh_halves.specs.Counts.{is_bi, is_own}
use Rattle.qh_halves.specs.RecvHalves.{PlainRecvHalves, recv_at}
use Rattle.qh_halves.specs.SendHalves.{IsAcked, IsLast, IsResetAcked, IsSettledBy, IsStep, PlainSendHalves, held_of, send_at, unacked}
use Rattle.qh_halves.specs.SendHalves.IsSettledBy.{absent, on, done}
use Rattle.qh_streams.specs.Items.{confirmed_of}
use Rattle.qh_streams.specs.Streams.{PlainStreams, counted_closed, counts_of, is_live, with_counts}
use Rattle.qh_streams.specs.declared.frames.StreamEvent.{StreamEvent}
use Rattle.qh_streams.specs.declared.items.Item.TheVariants as logged

same_id : (k : ℕ) → (k == k) ≡ true
same_id k = eq-eqb k k refl

-- how many streams are closed is in no book
closed_recv : (s : PlainStreams) (id : ℕ) (live : Bool) → (counted_closed s id live).recv ≡ s.recv
closed_recv s id live = cases (not (is_own s.side id) && (live && not (is_live s id))) (is_bi id)
  where
    cases : (more two_way : Bool) → (if more then with_counts s two_way (record (counts_of s two_way) { closed = min (2 ^ 64 - 1) ((counts_of s two_way).closed + 1) }) else s).recv ≡ s.recv
    cases true true = refl
    cases true false = refl
    cases false two_way = refl

pub closed_shown : {notes : ℕ → Note} (s : PlainStreams) (b : Book) (id : ℕ) (live : Bool) → ShowsStreams s notes b → ShowsStreams (counted_closed s id live) notes b
closed_shown s b id live shown = shown_same s (counted_closed s id live) b shown (recv_closed s (counted_closed s id live) s.recv id live refl) (λ k. ap (λ (r : PlainRecvHalves). recv_at r k) (closed_recv s id live))

-- ---- what a page confirms

confirmed_reset : (to : ℕ) (has_end : Bool) (id : ℕ) (b : Book) (p : SendPage) → live_send (b.sends id) ≡ Some p → is_page_reset p.state ≡ true → confirmed to has_end (live_send (b.sends id)) id b ≡ b
confirmed_reset to has_end id b p is up = rw is (rw up refl)

confirmed_live : (to : ℕ) (has_end : Bool) (id : ℕ) (b : Book) (p : SendPage) → live_send (b.sends id) ≡ Some p → is_page_reset p.state ≡ false
    → confirmed to has_end (live_send (b.sends id)) id b ≡ record (with_send b id (with_confirmed to has_end p)) { unconfirmed = b.unconfirmed - (length p.unconfirmed - length (with_confirmed to has_end p).unconfirmed) }
confirmed_live to has_end id b p is off = ap (λ (o : Option SendPage). confirmed to has_end o id b) is ∙ ap (λ (r : Bool). if r then b
    else record (with_send b id (with_confirmed to has_end p)) { unconfirmed = b.unconfirmed - (length p.unconfirmed - length (with_confirmed to has_end p).unconfirmed) }) off

module _ {notes : ℕ → Note} (old new : PlainStreams) (b : Book) (id : StreamId) (shown : ShowsStreams old notes b) (rest : new ≡ record old { send = new.send }) where
  no_step : (s : PlainSendHalves) → s ≡ old.send → new.send ≡ s → ShowsStreams new notes b
  no_step s is same = subst (λ (t : PlainStreams). ShowsStreams t notes b) (sym (rest ∙ ap (λ (h : PlainSendHalves). record old { send = h }) (same ∙ is))) shown

  taken_same : b.taken ≡ old.send.data_sent + 0
  taken_same = let t = shown.taken in omega (arith, t)

  -- a step that leaves the half as it was
  step_same : {P : PlainSend → PlainSend → Type 0} (s : IsStep P old.send new.send id.0 0) → s.next ≡ s.half → ShowsStreams new notes b
  step_same s same =
      let p = step_page old new.send b id.0 0 shown s in
      let sum = held_stepped old.send new.send id.0 0 s in
      let holds : held s.next ≡ held s.half = ap held same in
      let held_is : b.unconfirmed ≡ unacked new.send.halves = omega (arith, holds, sum, shown.unconfirmed) in
      subst (λ (x : Book). ShowsStreams new notes x) (put_same b id.0 p.0 p.1)
      (shown_half old new b id.0 0 (Some s.next) p.0 b.taken b.unconfirmed shown s.is rest (λ gone. absurd (none-some s.half (sym gone ∙ s.was))) (s.is_on, p.3 ∙ ap send_page (sym same)) taken_same held_is)

  acked_on : (piece : Outgoing) (s : IsStep (IsAcked piece) old.send new.send id.0 0) → ShowsStreams new notes (confirmed s.next.buffer.start (is_end_acked s.next.state) (live_send (b.sends id.0)) id.0 b)
  acked_on piece s = elim (cases_Bool (is_reset s.half.state)) [ inl up ↦ reset up | inr off ↦ kept off ]
    where
      p : (q : SendPage) × (b.sends id.0 ≡ Some q) × (is_done s.half ≡ false) × (q ≡ send_page s.half)
      p = step_page old new.send b id.0 0 shown s

      live : live_send (b.sends id.0) ≡ Some (step_page old new.send b id.0 0 shown s).0
      live = let q = step_page old new.send b id.0 0 shown s in live_there (b.sends id.0) q.0 s.half q.1 q.3 q.2

      page_reset : is_page_reset (step_page old new.send b id.0 0 shown s).0.state ≡ is_reset s.half.state
      page_reset = ap (λ (q : SendPage). is_page_reset q.state) (step_page old new.send b id.0 0 shown s).3 ∙ reset_as s.half.state

      reset : is_reset s.half.state ≡ true → ShowsStreams new notes (confirmed s.next.buffer.start (is_end_acked s.next.state) (live_send (b.sends id.0)) id.0 b)
      reset up = subst (λ (x : Book). ShowsStreams new notes x) (sym (confirmed_reset _ _ id.0 b (step_page old new.send b id.0 0 shown s).0 live (page_reset ∙ up))) (step_same s (s.step.kept up))

      kept : is_reset s.half.state ≡ false → ShowsStreams new notes (confirmed s.next.buffer.start (is_end_acked s.next.state) (live_send (b.sends id.0)) id.0 b)
      kept off =
          let q = step_page old new.send b id.0 0 shown s in
          let sum = held_stepped old.send new.send id.0 0 s in
          let holds = held_page s.half s.next _ _ _ s.step off q.0 q.3 in
          let few = fewer s.half s.next _ _ _ s.step off in
          let held_is : b.unconfirmed - (length q.0.unconfirmed - length (with_confirmed s.next.buffer.start (is_end_acked s.next.state) q.0).unconfirmed) ≡ unacked new.send.halves = omega (arith, holds.0, holds.1, few, sum, shown.unconfirmed) in
          subst (λ (x : Book). ShowsStreams new notes x) (sym (confirmed_live _ _ id.0 b q.0 live (page_reset ∙ off)))
          (shown_half old new b id.0 0 (Some s.next) (with_confirmed s.next.buffer.start (is_end_acked s.next.state) q.0) b.taken _ shown s.is rest (λ gone. absurd (none-some s.half (sym gone ∙ s.was)))
          (s.is_on, acked_page s.half s.next _ _ _ s.step off q.0 q.3) taken_same held_is)

  -- the page of a half that goes
  last_page : {P : PlainSend → PlainSend → Type 0} (s : IsLast P old.send new.send id.0) → (p : SendPage) × (b.sends id.0 ≡ Some p) × (is_done s.half ≡ false) × (p ≡ send_page s.half)
  last_page s = page_there (b.sends id.0) s.half (subst (λ (o : Option PlainSend). ShowsSend o (b.sends id.0)) s.was (shown.sends id.0))

  last_held : {P : PlainSend → PlainSend → Type 0} (s : IsLast P old.send new.send id.0) → unacked new.send.halves + held s.half ≡ unacked old.send.halves + 0
  last_held s = subst (λ (o : Option PlainSend). unacked new.send.halves + held_of o ≡ unacked old.send.halves + 0) s.was s.is.held_is

  not_done : {P : PlainSend → PlainSend → Type 0} (s : IsLast P old.send new.send id.0) → s.next ≡ s.half → ⊥
  not_done s same = false≢true (sym (last_page s).2 ∙ (ap is_done (sym same) ∙ s.is_done))

  acked_done : (piece : Outgoing) (s : IsLast (IsAcked piece) old.send new.send id.0) → ShowsStreams new notes (confirmed (taken_to s.half.buffer) true (live_send (b.sends id.0)) id.0 b)
  acked_done piece s = elim (cases_Bool (is_reset s.half.state)) [ inl up ↦ absurd (not_done s (s.step.kept up)) | inr off ↦ gone off ]
    where
      gone : is_reset s.half.state ≡ false → ShowsStreams new notes (confirmed (taken_to s.half.buffer) true (live_send (b.sends id.0)) id.0 b)
      gone off =
          let q = last_page s in
          let live = live_there (b.sends id.0) q.0 s.half q.1 q.3 q.2 in
          let sum = last_held s in
          let holds = (held_page s.half s.next _ _ _ s.step off q.0 q.3).0 in
          let page = done_page s.half s.next _ _ _ s.step off q.0 q.3 s.is_done in
          let none = page.1 in
          let held_is : b.unconfirmed - (length q.0.unconfirmed - length (with_confirmed (taken_to s.half.buffer) true q.0).unconfirmed) ≡ unacked new.send.halves = omega (arith, holds, none, sum, shown.unconfirmed) in
          subst (λ (x : Book). ShowsStreams new notes x) (sym (confirmed_live _ _ id.0 b q.0 live (ap (λ (x : SendPage). is_page_reset x.state) q.3 ∙ (reset_as s.half.state ∙ off))))
          (shown_half old new b id.0 0 None (with_confirmed (taken_to s.half.buffer) true q.0) b.taken _ shown s.is rest (λ none. refl) page.0 taken_same held_is)

  now_there : {P : PlainSend → PlainSend → Type 0} (s : IsStep P old.send new.send id.0 0) → send_at new.send id.0 ≡ Some s.next
  now_there s = s.is.halves_are id.0 ∙ ap (λ (here : Bool). if here then Some s.next else send_at old.send id.0) (same_id id.0)

  now_gone : {P : PlainSend → PlainSend → Type 0} (s : IsLast P old.send new.send id.0) → send_at new.send id.0 ≡ None
  now_gone s = s.is.halves_are id.0 ∙ ap (λ (here : Bool). if here then None else send_at old.send id.0) (same_id id.0)

  items_are : (o n : Option PlainSend) → send_at old.send id.0 ≡ o → send_at new.send id.0 ≡ n → ShowsStreams new notes (bring_all (map item_of (confirmed_of id o n)) b) → ShowsStreams new notes (bring_all (map item_of (confirmed_of id (send_at old.send id.0) (send_at new.send id.0))) b)
  items_are o n before now h = rw (before, now) h

  pub stream_confirmed : (piece : Outgoing) (finished : Bool) → IsSettledBy (IsAcked piece) old.send new.send id.0 finished → ShowsStreams new notes (bring_all (map item_of (confirmed_of id (send_at old.send id.0) (send_at new.send id.0))) b)
  stream_confirmed piece _ (absent a) = items_are None (send_at new.send id.0) a.none refl (no_step old.send refl a.same)
  stream_confirmed piece _ (on s) = items_are (Some s.half) (Some s.next) s.was (now_there s) (acked_on piece s)
  stream_confirmed piece _ (done s) = items_are (Some s.half) None s.was (now_gone s) (acked_done piece s)

  -- ---- a reset

  reset_done : (s : IsLast IsResetAcked old.send new.send id.0) → ShowsStreams new notes (brought_send with_reset_confirmed id.0 b)
  reset_done s =
      let q = last_page s in
      let live = live_there (b.sends id.0) q.0 s.half q.1 q.3 q.2 in
      let sum = last_held s in
      let was : is_reset s.half.state ≡ true = was_reset s.half.state (λ same. not_done s (s.step ∙ (λ i. record s.half { state = same i }))) in
      let holds : held s.half ≡ 0 = ap (λ (r : Bool). if r then 0 else length s.half.buffer.bytes) was in
      let held_is : b.unconfirmed ≡ unacked new.send.halves = omega (arith, holds, sum, shown.unconfirmed) in
      let page : is_send_done (with_reset_confirmed q.0) ≡ true = ap (λ (x : SendPage). is_send_done (with_reset_confirmed x)) q.3 ∙ confirmed_done s.half.state (is_mark_acked s.half.state) (is_empty (if is_reset s.half.state then [] else s.half.buffer.bytes)) was in
      subst (λ (x : Book). ShowsStreams new notes x) (sym (ap (λ (o : Option SendPage). on_send with_reset_confirmed o id.0 b) live))
      (shown_half old new b id.0 0 None (with_reset_confirmed q.0) b.taken b.unconfirmed shown s.is rest (λ none. refl) page taken_same held_is)
    where
      was_reset : (state : HalfState) → (with_reset_mark Acked state ≡ state → ⊥) → is_reset state ≡ true
      was_reset Ready other = absurd (other refl)
      was_reset (DataSent mark) other = absurd (other refl)
      was_reset (ResetSent code mark) other = refl

      or_true : (x : Bool) → (x || true) ≡ true
      or_true true = refl
      or_true false = refl

      confirmed_done : (state : HalfState) (known none : Bool) → is_reset state ≡ true → is_page_done_in (state_of state) (known || is_page_reset (state_of state)) none ≡ true
      confirmed_done Ready known none was = absurd (false≢true was)
      confirmed_done (DataSent mark) known none was = absurd (false≢true was)
      confirmed_done (ResetSent code mark) known none was = or_true known

  reset_items_are : (o n : Option PlainSend) → send_at old.send id.0 ≡ o → send_at new.send id.0 ≡ n → ShowsStreams new notes (bring_all (map item_of (if is_some o && not (is_some n) then logged.ResetConfirmed id ∷ [] else [])) b)
      → ShowsStreams new notes (bring_all (map item_of (if is_some (send_at old.send id.0) && not (is_some (send_at new.send id.0)) then logged.ResetConfirmed id ∷ [] else [])) b)
  reset_items_are o n before now h = rw (before, now) h

  pub reset_confirmed : (gone : Bool) → IsSettledBy IsResetAcked old.send new.send id.0 gone → ShowsStreams new notes (bring_all (map item_of (if is_some (send_at old.send id.0) && not (is_some (send_at new.send id.0)) then logged.ResetConfirmed id ∷ [] else [])) b)
  reset_confirmed _ (absent a) = reset_items_are None (send_at new.send id.0) a.none refl (no_step old.send refl a.same)
  reset_confirmed _ (on s) = reset_items_are (Some s.half) (Some s.next) s.was (now_there s) (step_same s (acked_reset_is s.half s.next s.step s.is_on))
  reset_confirmed _ (done s) = reset_items_are (Some s.half) None s.was (now_gone s) (reset_done s)

-- ---- frames

pub stream_acked : {notes : ℕ → Note} (old new : PlainStreams) (b : Book) (id : StreamId) (piece : Outgoing) (finished live : Bool) (events : List StreamEvent) → ShowsStreams old notes b → IsSettledBy (IsAcked piece) old.send new.send id.0 finished
    → new ≡ counted_closed (record old { send = new.send; events = events }) id.0 live → ShowsStreams new notes (bring_all (map item_of (confirmed_of id (send_at old.send id.0) (send_at new.send id.0))) b)
stream_acked {notes = notes} old new b id piece finished live events shown s is =
    subst (λ (t : PlainStreams). ShowsStreams t notes (bring_all (map item_of (confirmed_of id (send_at old.send id.0) (send_at new.send id.0))) b)) (sym is)
    (closed_shown (record old { send = new.send; events = events }) _ id.0 live
    (stream_confirmed (record old { events = events }) (record old { send = new.send; events = events }) b id (shown_told old b events old.blocked shown) refl piece finished s))

pub reset_acked : {notes : ℕ → Note} (old new : PlainStreams) (b : Book) (id : StreamId) (gone live : Bool) → ShowsStreams old notes b → IsSettledBy IsResetAcked old.send new.send id.0 gone → new ≡ counted_closed (record old { send = new.send }) id.0 live
    → ShowsStreams new notes (bring_all (map item_of (if is_some (send_at old.send id.0) && not (is_some (send_at new.send id.0)) then logged.ResetConfirmed id ∷ [] else [])) b)
reset_acked {notes = notes} old new b id gone live shown s is =
    subst (λ (t : PlainStreams). ShowsStreams t notes (bring_all (map item_of (if is_some (send_at old.send id.0) && not (is_some (send_at new.send id.0)) then logged.ResetConfirmed id ∷ [] else [])) b)) (sym is)
    (closed_shown (record old { send = new.send }) _ id.0 live (reset_confirmed old (record old { send = new.send }) b id shown refl gone s))
