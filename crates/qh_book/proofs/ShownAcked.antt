-- What the peer acknowledges.
use Rattle.std.proofs.Common.{◌≡◌, ℕ, zero, suc, ◌+◌, ◌-◌, ◌≤◌, Bool, true, false, ◌&&◌, ◌||◌, List, [], ◌∷◌, length, drop, slice_get, if◌then◌else◌, refl, sym, ap, ◌∙◌, arith, subst, length-drop}
use Rattle.std.proofs.lemmas.Bool.{false≢true, le-ltb}
use Rattle.std.proofs.lemmas.Option.{none-some, same_Some}
use Rattle.qh_book.proofs.ShownWrites.{held_as}
use Rattle.qh_book.specs.Pages.{SendPage, is_done_in as is_page_done_in, is_empty, is_send_done, with_confirmed}
use Rattle.qh_book.specs.Shown.{is_mark_acked, send_page, state_of}
use Rattle.qh_buffers.specs.SendBuffer.{IsAcknowledged, PlainSendBuffer, byte_at, taken_to}
use Rattle.qh_buffers.specs.declared.send_buffer.Mark.TheVariants.{Sent, Queued, Acked}
use Rattle.qh_half.specs.Send.{IsPieceAcked, PlainSend, held, is_done, is_done_in, is_end_acked, is_reset, with_end_acked}
use Rattle.qh_half.specs.declared.send.SendState.{SendState as HalfState}
use Rattle.qh_half.specs.declared.send.SendState.TheVariants.{Ready, DataSent, ResetSent}

-- ---- the bytes that are held

same_lists : (xs ys : List ℕ) → ((k : ℕ) → slice_get xs k ≡ slice_get ys k) → xs ≡ ys
same_lists [] [] h = refl
same_lists [] (y ∷ ys) h = absurd (none-some y (h 0))
same_lists (x ∷ xs) [] h = absurd (none-some x (sym (h 0)))
same_lists (x ∷ xs) (y ∷ ys) h = (λ i. same_Some x y (h 0) i ∷ same_lists xs ys (λ k. h (suc k)) i)

get_dropped : (n : ℕ) (xs : List ℕ) (k : ℕ) → slice_get (drop n xs) k ≡ slice_get xs (n + k)
get_dropped zero xs k = let e : k ≡ 0 + k = omega arith in ap (slice_get xs) e
get_dropped (suc n) [] k = refl
get_dropped (suc n) (x ∷ xs) k = let e : suc n + k ≡ suc (n + k) = omega arith in get_dropped n xs k ∙ ap (slice_get (x ∷ xs)) (sym e)

byte_is : (v : PlainSendBuffer) (k : ℕ) → byte_at v (v.start + k) ≡ slice_get v.bytes k
byte_is v k = let e : v.start + k - v.start ≡ k = omega arith in rw (le-ltb (v.start + k) v.start (omega arith)) (ap (slice_get v.bytes) e)

-- what is acknowledged in front is let go
bytes_left : (old new : PlainSendBuffer) (from to : ℕ) → IsAcknowledged old new from to → new.bytes ≡ drop (new.start - old.start) old.bytes
bytes_left old new from to a = same_lists new.bytes (drop (new.start - old.start) old.bytes) each
  where
    each : (k : ℕ) → slice_get new.bytes k ≡ slice_get (drop (new.start - old.start) old.bytes) k
    each k =
        let rises = a.rises in
        let e : new.start + k ≡ old.start + (new.start - old.start + k) = omega (arith, rises) in
        sym (byte_is new k) ∙ (a.bytes_are (new.start + k) (omega arith) ∙ (ap (byte_at old) e ∙ (byte_is old (new.start - old.start + k) ∙ sym (get_dropped (new.start - old.start) old.bytes k))))

none_left : (n : ℕ) (xs : List ℕ) → length xs ≤ n → drop n xs ≡ []
none_left zero [] h = refl
none_left zero (x ∷ xs) h = absurd (omega (arith, h))
none_left (suc n) [] h = refl
none_left (suc n) (x ∷ xs) h = none_left n xs (omega (arith, h))

-- ---- the state

record AckedState (before after : HalfState) : Type 0 where
  state : state_of after ≡ state_of before
  mark : (is_mark_acked before || is_end_acked after) ≡ is_mark_acked after
  on : is_reset after ≡ false

acked_state : (fin : Bool) (state : HalfState) → is_reset state ≡ false → AckedState state (if fin then with_end_acked state else state)
acked_state true Ready off = record { state = refl; mark = refl; on = refl }
acked_state false Ready off = record { state = refl; mark = refl; on = refl }
acked_state true (DataSent Acked) off = record { state = refl; mark = refl; on = refl }
acked_state true (DataSent Sent) off = record { state = refl; mark = refl; on = refl }
acked_state true (DataSent Queued) off = record { state = refl; mark = refl; on = refl }
acked_state false (DataSent Acked) off = record { state = refl; mark = refl; on = refl }
acked_state false (DataSent Sent) off = record { state = refl; mark = refl; on = refl }
acked_state false (DataSent Queued) off = record { state = refl; mark = refl; on = refl }
acked_state fin (ResetSent code mark) off = absurd (false≢true (sym off))

-- ---- the page of a half that stays

module _ (h next : PlainSend) (from to : ℕ) (fin : Bool) (a : IsPieceAcked h next from to fin) (off : is_reset h.state ≡ false) where
  after : AckedState h.state next.state
  after = subst (λ (s : HalfState). AckedState h.state s) (sym a.state_is) (acked_state fin h.state off)

  held_left : (if is_reset h.state then [] else h.buffer.bytes) ≡ h.buffer.bytes
  held_left = ap (λ (r : Bool). if r then [] else h.buffer.bytes) off

  next_left : (if is_reset next.state then [] else next.buffer.bytes) ≡ next.buffer.bytes
  next_left = ap (λ (r : Bool). if r then [] else next.buffer.bytes) after.on

  unconfirmed : drop (next.buffer.start - (taken_to h.buffer - length (if is_reset h.state then [] else h.buffer.bytes))) (if is_reset h.state then [] else h.buffer.bytes) ≡ (if is_reset next.state then [] else next.buffer.bytes)
  unconfirmed =
      let start : h.buffer.start + length h.buffer.bytes - length h.buffer.bytes ≡ h.buffer.start = omega arith in
      ap (λ (l : List ℕ). drop (next.buffer.start - (taken_to h.buffer - length l)) l) held_left
      ∙ (ap (λ (n : ℕ). drop (next.buffer.start - n) h.buffer.bytes) start ∙ (sym (bytes_left h.buffer next.buffer from to (a.bytes_are off)) ∙ sym next_left))

  pub acked_page : (p : SendPage) → p ≡ send_page h → with_confirmed next.buffer.start (is_end_acked next.state) p ≡ send_page next
  acked_page p page =
      ap (with_confirmed next.buffer.start (is_end_acked next.state)) page
      ∙ ((λ i. record (send_page h) { taken = sym (a.bytes_are off).taken_is i; unconfirmed = unconfirmed i; state = sym after.state i; is_confirmed = after.mark i }) ∙ sym (ap send_page a.rest_is))

  pub held_page : (p : SendPage) → p ≡ send_page h → (length p.unconfirmed ≡ held h) × (length (with_confirmed next.buffer.start (is_end_acked next.state) p).unconfirmed ≡ held next)
  held_page p page = (ap (λ (q : SendPage). length q.unconfirmed) page ∙ held_as (is_reset h.state) h.buffer.bytes, ap (λ (q : SendPage). length q.unconfirmed) (acked_page p page) ∙ held_as (is_reset next.state) next.buffer.bytes)

  pub fewer : held next ≤ held h
  fewer =
      let left = ap length (bytes_left h.buffer next.buffer from to (a.bytes_are off)) in
      let few = length-drop (next.buffer.start - h.buffer.start) h.buffer.bytes in
      let now : held next ≡ length next.buffer.bytes = sym (held_as (is_reset next.state) next.buffer.bytes) ∙ ap length next_left in
      let was : held h ≡ length h.buffer.bytes = sym (held_as (is_reset h.state) h.buffer.bytes) ∙ ap length held_left in
      omega (arith, left, few, now, was)

  -- a half that is done by it was finished
  done_state : is_done next ≡ true → (c : Bool) → is_page_done_in (state_of h.state) (c || true) true ≡ true
  done_state done c = cases fin h.state off (subst (λ (s : HalfState). is_done_in s (length next.buffer.bytes) ≡ true) a.state_is done)
    where
      or_true : (x : Bool) → ((x || true) && true) ≡ true
      or_true true = refl
      or_true false = refl

      cases : (f : Bool) (state : HalfState) → is_reset state ≡ false → is_done_in (if f then with_end_acked state else state) (length next.buffer.bytes) ≡ true → is_page_done_in (state_of state) (c || true) true ≡ true
      cases true Ready o d = absurd (false≢true d)
      cases false Ready o d = absurd (false≢true d)
      cases f (DataSent mark) o d = or_true c
      cases f (ResetSent code mark) o d = absurd (false≢true (sym o))

  pub done_page : (p : SendPage) → p ≡ send_page h → is_done next ≡ true → (is_send_done (with_confirmed (taken_to h.buffer) true p) ≡ true) × (length (with_confirmed (taken_to h.buffer) true p).unconfirmed ≡ 0)
  done_page p page done =
      let all : length h.buffer.bytes ≤ taken_to h.buffer - (taken_to h.buffer - length h.buffer.bytes) = omega arith in
      let none : drop (taken_to h.buffer - (taken_to h.buffer - length (if is_reset h.state then [] else h.buffer.bytes))) (if is_reset h.state then [] else h.buffer.bytes) ≡ [] =
      ap (λ (l : List ℕ). drop (taken_to h.buffer - (taken_to h.buffer - length l)) l) held_left ∙ none_left _ h.buffer.bytes all in (
        ap (λ (q : SendPage). is_send_done (with_confirmed (taken_to h.buffer) true q)) page ∙ (ap (λ (l : List ℕ). is_page_done_in (state_of h.state) (is_mark_acked h.state || true) (is_empty l)) none ∙ done_state done (is_mark_acked h.state)),
        ap (λ (q : SendPage). length (with_confirmed (taken_to h.buffer) true q).unconfirmed) page ∙ ap length none,
      )
