-- Each frame that is taken brings the items that the log of the streams has for it.
use Rattle.std.proofs.Common.{◌≡◌, ◌⊎◌, ℕ, ◌+◌, ◌==◌, Bool, true, false, ◌||◌, List, [], ◌∷◌, ◌++◌, length, map, Option, Some, None, is_some, if◌then◌else◌, refl, sym, ap, ◌∙◌, inl, inr, subst, eq-eqb}
use Rattle.std.proofs.lemmas.Bool.{cases_Bool, eqb-true, false≢true}
use Rattle.std.proofs.lemmas.Option.{none-some, same_Some}
use Rattle.qh_base.specs.declared.stream_id.StreamId.{StreamId}
use Rattle.qh_book.proofs.ShownArrivals.{arrived_shown}
use Rattle.qh_book.proofs.ShownRecvs.{RecvAlone, gone_page, reading_there, shown_page, stopped_there}
use Rattle.qh_book.proofs.ShownRuns.{page_with, shown_reset, shown_run}
use Rattle.qh_book.proofs.ShownStops.{shown_same}
use Rattle.qh_book.specs.Book.{Book, with_recv}
use Rattle.qh_book.specs.Items.{bring, bring_all, brought_recv, item_of, on_recv}
use Rattle.qh_book.specs.Pages.{RecvPage, is_open, open_recv, with_end, with_reset_by_peer, with_run}
use Rattle.qh_book.specs.Shown.{IsNoted, IsShut, Note, ShowsHalf, ShowsReading, ShowsRecv, ShowsSend, ShowsStreams}
use Rattle.qh_book.specs.declared.item.Item.TheVariants as item
use Rattle.qh_buffers.specs.declared.assembler.Chunk.{Chunk}
use Rattle.qh_half.specs.Recv.{PlainRecv, is_done}
use Rattle.qh_halves.specs.Counts.{has_recv, has_send, is_own}
use Rattle.qh_halves.specs.RecvHalves.{IsPieceTaken, IsRecvAbsent, IsRecvStep, IsResetTaken, PlainRecvHalves, recv_at, unless_done}
use Rattle.qh_halves.specs.SendHalves.{PlainSendHalves, send_at, unacked}
use Rattle.qh_spec.specs.declared.sides.Side.{Side}
use Rattle.qh_streams.specs.declared.frames.PeerLimits.{PeerLimits}
use Rattle.qh_streams.specs.Items.{arrival, end_items}
use Rattle.qh_streams.specs.Streams.{HasArrived, PlainStreams, was_opened}
use Rattle.qh_streams.specs.declared.items.Item.{Item as StreamItem}
use Rattle.qh_streams.specs.declared.items.Item.TheVariants as logged

-- ---- items one after another

pub brought_both : (xs ys : List StreamItem) (b : Book) → bring_all (map item_of (xs ++ ys)) b ≡ bring_all (map item_of ys) (bring_all (map item_of xs) b)
brought_both [] ys b = refl
brought_both (x ∷ xs) ys b = brought_both xs ys (bring (item_of x) b)

-- ---- a stream that a frame names

IsOurs : PlainStreams → ℕ → Type 0
IsOurs s id = is_own s.side id ≡ true → was_opened s id ≡ true

pub arrival_shown : {notes : ℕ → Note} (old mid : PlainStreams) (b : Book) (id : StreamId) → ShowsStreams old notes b → (is_own old.side id.0 ≡ true → was_opened old id.0 ≡ true) → HasArrived old mid id.0 → ShowsStreams mid notes (bring_all (map item_of (arrival old id)) b)
arrival_shown {notes = notes} old mid b id shown ours h = elim (cases_Bool (was_opened old id.0)) [
  | inl known ↦ rw known (subst (λ (s : PlainStreams). ShowsStreams s notes b) (sym (h.known known)) shown)
  | inr closed ↦ rw closed (arrived_shown old mid b id.0 shown (theirs (is_own old.side id.0) closed ours) closed h)
]
  where
    theirs : (own : Bool) → was_opened old id.0 ≡ false → (own ≡ true → was_opened old id.0 ≡ true) → own ≡ false
    theirs true closed ours = absurd (false≢true (sym closed ∙ ours refl))
    theirs false closed ours = refl

-- ---- what comes to a receiving half

same_id : (k : ℕ) → (k == k) ≡ true
same_id k = eq-eqb k k refl

-- the page stays
kept_one : (note : Note) (here : Bool) (n next o : Option PlainRecv) (page : Option RecvPage) → n ≡ (if here then next else o) → ShowsRecv note o page → (here ≡ true → ShowsRecv note next page) → ShowsRecv note n page
kept_one note true n next o page is before after = subst (λ (x : Option PlainRecv). ShowsRecv note x page) (sym is) (after refl)
kept_one note false n next o page is before after = subst (λ (x : Option PlainRecv). ShowsRecv note x page) (sym is) before

no_recv : (here : Bool) (n next o : Option PlainRecv) → n ≡ (if here then next else o) → o ≡ None → (here ≡ true → next ≡ None) → n ≡ None
no_recv true n next o is before after = is ∙ after refl
no_recv false n next o is before after = is ∙ before

pub shown_kept : {notes : ℕ → Note} (old new : PlainStreams) (b : Book) (id : ℕ) (next : Option PlainRecv) → ShowsStreams old notes b → RecvAlone old new → ((k : ℕ) → recv_at new.recv k ≡ (if k == id then next else recv_at old.recv k))
    → (recv_at old.recv id ≡ None → next ≡ None) → ShowsRecv (notes id) next (b.recvs id) → ShowsStreams new notes b
shown_kept {notes = notes} old new b id next shown alone are absent after = record {
  side = shown.side ∙ sym alone.side;
  sends = λ k. subst (λ (s : PlainSendHalves). ShowsSend (send_at s k) (b.sends k)) (sym alone.send) (shown.sends k);
  recvs = λ k. kept_one (notes k) (k == id) (recv_at new.recv k) next (recv_at old.recv k) (b.recvs k) (are k) (shown.recvs k) (λ here. subst (λ (n : ℕ). ShowsRecv (notes n) next (b.recvs n)) (sym (eqb-true k id here)) after);
  unsent_sides = λ k none. ap (λ (s : PlainSendHalves). send_at s k) alone.send ∙ shown.unsent_sides k (sym (ap (λ (s : Side). has_send s k) alone.side) ∙ none);
  unread_sides = λ k none. let before = shown.unread_sides k (sym (ap (λ (s : Side). has_recv s k) alone.side) ∙ none) in
      no_recv (k == id) (recv_at new.recv k) next (recv_at old.recv k) (are k) before (λ here. absent (subst (λ (n : ℕ). recv_at old.recv n ≡ None) (eqb-true k id here) before));
  pages = shown.pages;
  bi = shown.bi ∙ sym alone.bi;
  uni = shown.uni ∙ sym alone.uni;
  first_bi = shown.first_bi ∙ sym (ap (λ (l : PeerLimits). l.bidi_remote) alone.peer);
  first_uni = shown.first_uni ∙ sym (ap (λ (l : PeerLimits). l.uni) alone.peer);
  credit_to = shown.credit_to ∙ sym (ap (λ (s : PlainSendHalves). s.max_data) alone.send);
  taken = shown.taken ∙ sym (ap (λ (s : PlainSendHalves). s.data_sent) alone.send);
  send_window = shown.send_window ∙ sym (ap (λ (s : PlainSendHalves). s.send_window) alone.send);
  unconfirmed = shown.unconfirmed ∙ sym (ap (λ (s : PlainSendHalves). unacked s.halves) alone.send);
}

-- a half that was stopped stays so, or goes
still_stopped : (note : Note) (next : PlainRecv) (o : Option RecvPage) (r : PlainRecv) → ShowsRecv note (Some r) o → r.is_stopped ≡ true → next.is_stopped ≡ true → ShowsRecv note (unless_done next) o
still_stopped note next None r s up now = absurd s
still_stopped note next (Some p) r s up now = cases (is_done next) refl
  where
    stopped : IsShut note p
    stopped = subst (λ (x : Bool). ShowsHalf x note r p) up s.1

    cases : (done : Bool) → is_done next ≡ done → ShowsRecv note (if done then None else Some next) (Some p)
    cases true is = stopped
    cases false is = (is, subst (λ (x : Bool). ShowsHalf x note next p) (sym now) stopped)

-- a half that is read is read still
still_read : {note : Note} (next : PlainRecv) (p : RecvPage) → next.is_given ≡ false → next.is_stopped ≡ false → ShowsReading next p → IsNoted note p → ShowsRecv note (unless_done next) (Some p)
still_read {note = note} next p given off reading is_noted =
    let on : is_done next ≡ false = rw (given, off) refl in
    subst (λ (o : Option PlainRecv). ShowsRecv note o (Some p)) (sym (ap (λ (done : Bool). if done then None else Some next) on)) (on, subst (λ (stopped : Bool). ShowsHalf stopped note next p) (sym off) (reading, is_noted))

not_given : (given more : Bool) → (given || more) ≡ false → given ≡ false
not_given true more h = absurd (false≢true (sym h))
not_given false more h = refl

-- what is brought to a page that is read, and to none
brought_open : (f : RecvPage → RecvPage) (id : ℕ) (b : Book) (p : RecvPage) → open_recv (b.recvs id) ≡ Some p → brought_recv f id b ≡ with_recv b id (f p)
brought_open f id b p is = ap (λ (o : Option RecvPage). on_recv f o id b) is

brought_shut : (f : RecvPage → RecvPage) (id : ℕ) (b : Book) → open_recv (b.recvs id) ≡ None → brought_recv f id b ≡ b
brought_shut f id b is = ap (λ (o : Option RecvPage). on_recv f o id b) is

open_put : (b : Book) (id : ℕ) (q : RecvPage) → is_open q.state ≡ true → open_recv ((with_recv b id q).recvs id) ≡ Some q
open_put b id q on = rw (same_id id) (rw on refl)

put_twice : (b : Book) (id : ℕ) (q s : RecvPage) → with_recv (with_recv b id q) id s ≡ with_recv b id s
put_twice b id q s = λ i. record b { recvs = λ k. each (k == id) (b.recvs k) i }
  where
    each : (here : Bool) (o : Option RecvPage) → (if here then Some s else (if here then Some q else o)) ≡ (if here then Some s else o)
    each true o = refl
    each false o = refl

run_state : (c : Chunk) (p : RecvPage) → (with_run c p).state ≡ p.state
run_state c p = elim (cases_Bool (is_some p.reset_code)) [ inl has ↦ rw has refl | inr none ↦ rw none refl ]

-- what comes gives no error
run_errors : (c : Chunk) (p : RecvPage) → (with_run c p).gave_error ≡ p.gave_error
run_errors c p = elim (cases_Bool (is_some p.reset_code)) [ inl has ↦ rw has refl | inr none ↦ rw none refl ]

end_errors : (size : ℕ) (p : RecvPage) → (with_end size p).gave_error ≡ p.gave_error
end_errors size p = elim (cases_Bool (is_some p.reset_code)) [ inl has ↦ rw has refl | inr none ↦ rw none refl ]

page_errors : (fin : Bool) (c : Chunk) (p : RecvPage) → (page_with fin c p).gave_error ≡ p.gave_error
page_errors true c p = end_errors (c.offset + length c.bytes) (with_run c p) ∙ run_errors c p
page_errors false c p = run_errors c p

reset_errors : (code size : ℕ) (p : RecvPage) → (with_reset_by_peer code size p).gave_error ≡ p.gave_error
reset_errors code size p = elim (cases_Bool (is_some p.reset_code)) [ inl has ↦ rw has refl | inr none ↦ rw none refl ]

-- the bytes of a frame and its end
run_brought : (b : Book) (id : StreamId) (offset : ℕ) (payload : List ℕ) (fin : Bool) (p : RecvPage) → open_recv (b.recvs id.0) ≡ Some p → is_open p.state ≡ true
    → bring_all (map item_of (logged.Run id offset payload ∷ end_items fin id (offset + length payload))) b ≡ with_recv b id.0 (page_with fin (record { offset = offset; bytes = payload }) p)
run_brought b id offset payload false p is on = brought_open _ id.0 b p is
run_brought b id offset payload true p is on =
    let c : Chunk = record { offset = offset; bytes = payload } in
    ap (brought_recv (with_end (offset + length payload)) id.0) (brought_open (with_run (record { offset = offset; bytes = payload })) id.0 b p is)
    ∙ (brought_open (with_end (offset + length payload)) id.0 (with_recv b id.0 (with_run (record { offset = offset; bytes = payload }) p)) (with_run (record { offset = offset; bytes = payload }) p)
    (open_put b id.0 (with_run (record { offset = offset; bytes = payload }) p) (ap is_open (run_state (record { offset = offset; bytes = payload }) p) ∙ on))
    ∙ put_twice b id.0 _ _)

run_dropped : (b : Book) (id : StreamId) (offset : ℕ) (payload : List ℕ) (fin : Bool) → open_recv (b.recvs id.0) ≡ None
    → bring_all (map item_of (logged.Run id offset payload ∷ end_items fin id (offset + length payload))) b ≡ b
run_dropped b id offset payload false is = brought_shut _ id.0 b is
run_dropped b id offset payload true is = ap (brought_recv (with_end (offset + length payload)) id.0) (brought_shut _ id.0 b is) ∙ brought_shut _ id.0 b is

open_of : (o : Option RecvPage) (p : RecvPage) → open_recv o ≡ Some p → is_open p.state ≡ true
open_of None p is = absurd (none-some p is)
open_of (Some q) p is = cases (is_open q.state) refl is
  where
    cases : (on : Bool) → is_open q.state ≡ on → (if on then Some q else None) ≡ Some p → is_open p.state ≡ true
    cases true up same = ap (λ (x : RecvPage). is_open x.state) (sym (same_Some q p same)) ∙ up
    cases false up none = absurd (none-some p none)

module _ {notes : ℕ → Note} (mid new : PlainStreams) (b : Book) (id : StreamId) (shown : ShowsStreams mid notes b) (alone : RecvAlone mid new) where
  absent_shown : IsRecvAbsent mid.recv new.recv id.0 → ShowsStreams new notes b × (open_recv (b.recvs id.0) ≡ None)
  absent_shown a = (shown_same mid new b shown alone (λ k. ap (λ (r : PlainRecvHalves). recv_at r k) a.same), gone_page (notes id.0) (b.recvs id.0) (subst (λ (o : Option PlainRecv). ShowsRecv (notes id.0) o (b.recvs id.0)) a.none (shown.recvs id.0)))

  -- a step of the half at this id, and what it brings to the page
  step_shown : {P : PlainRecv → PlainRecv → Type 0} (fresh : ℕ) (f : RecvPage → RecvPage) (s : IsRecvStep P mid.recv new.recv id.0 fresh) → s.next.is_stopped ≡ s.half.is_stopped → s.next.is_given ≡ s.half.is_given
      → ((p : RecvPage) → (f p).gave_error ≡ p.gave_error) → ((p : RecvPage) → s.half.is_stopped ≡ false → ShowsReading s.half p → ShowsReading s.next (f p)) → (c : Book) → ((p : RecvPage) → open_recv (b.recvs id.0) ≡ Some p → c ≡ with_recv b id.0 (f p)) → (open_recv (b.recvs id.0) ≡ None → c ≡ b)
      → ShowsStreams new notes c
  step_shown fresh f s stopped given keeps goes c brings drops = cases s.half.is_stopped refl
    where
      before : ShowsRecv (notes id.0) (Some s.half) (b.recvs id.0)
      before = subst (λ (o : Option PlainRecv). ShowsRecv (notes id.0) o (b.recvs id.0)) s.was (shown.recvs id.0)

      gone : recv_at mid.recv id.0 ≡ None → unless_done s.next ≡ None
      gone none = absurd (none-some s.half (sym none ∙ s.was))

      cases : (up : Bool) → s.half.is_stopped ≡ up → ShowsStreams new notes c
      cases true up = subst (λ (x : Book). ShowsStreams new notes x) (sym (drops (stopped_there (notes id.0) (b.recvs id.0) s.half before up)))
          (shown_kept mid new b id.0 (unless_done s.next) shown alone s.halves_are gone (still_stopped (notes id.0) s.next (b.recvs id.0) s.half before up (stopped ∙ up)))
      cases false off =
          let p = reading_there (notes id.0) (b.recvs id.0) s.half before off in
          subst (λ (x : Book). ShowsStreams new notes x) (sym (brings p.0 p.1))
          (shown_page mid new b id.0 (unless_done s.next) (f p.0) shown alone s.halves_are (ap is_some s.was)
          (still_read s.next (f p.0) (given ∙ not_given s.half.is_given _ p.2) (stopped ∙ off) (goes p.0 off p.3) (record { none = p.4.none; untold = p.4.untold; gave_error = keeps p.0 ∙ p.4.gave_error })))

  pub piece_shown : (offset : ℕ) (payload : List ℕ) (fin : Bool) → IsPieceTaken mid.recv new.recv id.0 (record { offset = offset; bytes = payload }) fin ⊎ IsRecvAbsent mid.recv new.recv id.0
      → ShowsStreams new notes (bring_all (map item_of (logged.Run id offset payload ∷ end_items fin id (offset + length payload))) b)
  piece_shown offset payload fin (inr a) = let h = absent_shown a in subst (λ (x : Book). ShowsStreams new notes x) (sym (run_dropped b id offset payload fin h.1)) h.0
  piece_shown offset payload fin (inl t) =
      step_shown t.fresh (page_with fin (record { offset = offset; bytes = payload })) t.step (ap (λ (x : PlainRecv). x.is_stopped) t.step.step.rest_is) (ap (λ (x : PlainRecv). x.is_given) t.step.step.rest_is)
      (page_errors fin (record { offset = offset; bytes = payload })) (λ p off reading. shown_run t.step.half t.step.next p (record { offset = offset; bytes = payload }) fin t.fresh off reading t.step.step) _
      (λ p is. run_brought b id offset payload fin p is (open_of (b.recvs id.0) p is)) (run_dropped b id offset payload fin)

  pub reset_brought : (code size : ℕ) → IsResetTaken mid.recv new.recv id.0 code size ⊎ IsRecvAbsent mid.recv new.recv id.0 → ShowsStreams new notes (bring (item.Reset id code size) b)
  reset_brought code size (inr a) = let h = absent_shown a in subst (λ (x : Book). ShowsStreams new notes x) (sym (brought_shut _ id.0 b h.1)) h.0
  reset_brought code size (inl t) =
      step_shown t.fresh (with_reset_by_peer code size) t.step (ap (λ (x : PlainRecv). x.is_stopped) t.step.step.rest_is) (ap (λ (x : PlainRecv). x.is_given) t.step.step.rest_is)
      (reset_errors code size) (λ p off reading. shown_reset t.step.half t.step.next p code size t.fresh reading t.step.step) _ (brought_open _ id.0 b) (brought_shut _ id.0 b)
