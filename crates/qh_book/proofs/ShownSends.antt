-- The book shows the sending halves once one of them is another one.
use Rattle.std.proofs.Common.{◌≡◌, ℕ, suc, ◌+◌, ◌==◌, Bool, true, false, List, [], ◌∷◌, length, Option, Some, None, if◌then◌else◌, refl, sym, ap, ◌∙◌, arith, subst}
use Rattle.std.proofs.lemmas.Bool.{eqb-true, false≢true, ne_eqb}
use Rattle.qh_book.specs.Book.{Book, with_send}
use Rattle.qh_book.specs.Pages.{SendPage, SendState, Writing, Finished, WasReset, is_empty, is_send_done, is_writing, is_done_in as is_page_done_in, live_send, open_send, put_at}
use Rattle.qh_book.specs.Shown.{Note, ShowsRecv, ShowsSend, ShowsStreams, is_mark_acked, send_page, state_of, tally_of}
use Rattle.qh_buffers.specs.declared.send_buffer.Mark.TheVariants.{Sent, Queued, Acked}
use Rattle.qh_half.specs.Send.{PlainSend, held, is_done, is_done_in, is_ready, is_reset}
use Rattle.qh_half.specs.declared.send.SendState.{SendState as HalfState}
use Rattle.qh_half.specs.declared.send.SendState.TheVariants.{Ready, DataSent, ResetSent}
use Rattle.qh_halves.specs.SendHalves.{IsHalf, IsStep, PlainSendHalves, held_of, send_at, unacked}
use Rattle.qh_halves.specs.Counts.{has_recv, has_send}
use Rattle.qh_halves.specs.RecvHalves.{PlainRecvHalves, recv_at}
use Rattle.qh_streams.specs.Streams.{PlainStreams}

-- ---- pages

pub page_there : (o : Option SendPage) (h : PlainSend) → ShowsSend (Some h) o → (p : SendPage) × (o ≡ Some p) × (is_done h ≡ false) × (p ≡ send_page h)
page_there None h s = absurd s
page_there (Some p) h s = (p, refl, s.0, s.1)

none_left : (bytes : List ℕ) → is_empty bytes ≡ (length bytes == 0)
none_left [] = refl
none_left (x ∷ xs) = sym (ne_eqb (suc (length xs)) 0 (λ e. omega (arith, e)))

done_in : (state : HalfState) (bytes : List ℕ) → is_page_done_in (state_of state) (is_mark_acked state) (is_empty (if is_reset state then [] else bytes)) ≡ is_done_in state (length bytes)
done_in Ready bytes = refl
done_in (DataSent Acked) bytes = none_left bytes
done_in (DataSent Sent) bytes = refl
done_in (DataSent Queued) bytes = refl
done_in (ResetSent code Acked) bytes = refl
done_in (ResetSent code Sent) bytes = refl
done_in (ResetSent code Queued) bytes = refl

pub done_is : (h : PlainSend) → is_send_done (send_page h) ≡ is_done h
done_is h = done_in h.state h.buffer.bytes

pub live_there : (o : Option SendPage) (p : SendPage) (h : PlainSend) → o ≡ Some p → p ≡ send_page h → is_done h ≡ false → live_send o ≡ Some p
live_there o p h is page on = let not_done : is_send_done p ≡ false = ap is_send_done page ∙ (done_is h ∙ on) in rw is (rw not_done refl)

writing_is : (state : HalfState) → is_writing (state_of state) ≡ is_ready state
writing_is Ready = refl
writing_is (DataSent mark) = refl
writing_is (ResetSent code mark) = refl

pub open_there : (o : Option SendPage) (p : SendPage) (h : PlainSend) → o ≡ Some p → p ≡ send_page h → is_ready h.state ≡ true → open_send o ≡ Some p
open_there o p h is page ready = let writing : is_writing p.state ≡ true = ap (λ (q : SendPage). is_writing q.state) page ∙ (writing_is h.state ∙ ready) in rw is (rw writing refl)

-- ---- one half is another now, or gone

put_one : (here : Bool) (n o next : Option PlainSend) (page : Option SendPage) (p : SendPage) → n ≡ (if here then next else o) → ShowsSend o page → ShowsSend next (Some p) → ShowsSend n (if here then Some p else page)
put_one true n o next page p is before after = rw is after
put_one false n o next page p is before after = rw is before

pub no_half : (here : Bool) (n o next : Option PlainSend) → n ≡ (if here then next else o) → o ≡ None → (here ≡ true → next ≡ None) → n ≡ None
no_half true n o next is before after = is ∙ after refl
no_half false n o next is before after = is ∙ before

pub sends_put : (old new : PlainSendHalves) (pages : ℕ → Option SendPage) (id : ℕ) (next : Option PlainSend) (p : SendPage) → ((k : ℕ) → send_at new k ≡ (if k == id then next else send_at old k))
    → ((k : ℕ) → ShowsSend (send_at old k) (pages k)) → ShowsSend next (Some p) → (k : ℕ) → ShowsSend (send_at new k) (put_at pages id p k)
sends_put old new pages id next p are before after k = put_one (k == id) (send_at new k) (send_at old k) next (pages k) p (are k) (before k) after

-- the page of the half that a step changes
pub step_page : {notes : ℕ → Note} {P : PlainSend → PlainSend → Type 0} (old : PlainStreams) (new : PlainSendHalves) (b : Book) (id taken : ℕ) → ShowsStreams old notes b → (s : IsStep P old.send new id taken)
    → (p : SendPage) × (b.sends id ≡ Some p) × (is_done s.half ≡ false) × (p ≡ send_page s.half)
step_page old new b id taken shown s = page_there (b.sends id) s.half (subst (λ (o : Option PlainSend). ShowsSend o (b.sends id)) s.was (shown.sends id))

-- the book once a sending half is another one
pub shown_half : {notes : ℕ → Note} (old new : PlainStreams) (b : Book) (id taken : ℕ) (next : Option PlainSend) (p : SendPage) (more held_now : ℕ) → ShowsStreams old notes b → IsHalf old.send new.send id next taken → new ≡ record old { send = new.send }
    → (send_at old.send id ≡ None → next ≡ None) → ShowsSend next (Some p) → more ≡ old.send.data_sent + taken → held_now ≡ unacked new.send.halves → ShowsStreams new notes (record (with_send b id p) { taken = more; unconfirmed = held_now })
shown_half {notes = notes} old new b id taken next p more held_now shown h rest absent after more_is held_is = record {
  side = shown.side ∙ sym (ap (λ (s : PlainStreams). s.side) rest);
  sends = sends_put old.send new.send b.sends id next p h.halves_are shown.sends after;
  recvs = λ k. subst (λ (r : PlainRecvHalves). ShowsRecv (notes k) (recv_at r k) (b.recvs k)) (sym (ap (λ (s : PlainStreams). s.recv) rest)) (shown.recvs k);
  unsent_sides = λ k none. let before = shown.unsent_sides k (sym (ap (λ (s : PlainStreams). has_send s.side k) rest) ∙ none) in
      no_half (k == id) (send_at new.send k) (send_at old.send k) next (h.halves_are k) before (λ here. absent (subst (λ (n : ℕ). send_at old.send n ≡ None) (eqb-true k id here) before));
  unread_sides = λ k none. ap (λ (s : PlainStreams). recv_at s.recv k) rest ∙ shown.unread_sides k (sym (ap (λ (s : PlainStreams). has_recv s.side k) rest) ∙ none);
  pages = shown.pages;
  bi = shown.bi ∙ sym (ap (λ (s : PlainStreams). tally_of s.bi) rest);
  uni = shown.uni ∙ sym (ap (λ (s : PlainStreams). tally_of s.uni) rest);
  first_bi = shown.first_bi ∙ sym (ap (λ (s : PlainStreams). s.peer.bidi_remote) rest);
  first_uni = shown.first_uni ∙ sym (ap (λ (s : PlainStreams). s.peer.uni) rest);
  credit_to = shown.credit_to ∙ sym (ap (λ (s : PlainSendHalves). s.max_data) h.rest_is);
  taken = more_is ∙ sym (ap (λ (s : PlainSendHalves). s.data_sent) h.rest_is);
  send_window = shown.send_window ∙ sym (ap (λ (s : PlainSendHalves). s.send_window) h.rest_is);
  unconfirmed = held_is;
}

-- what all halves hold, by what one holds more or fewer
pub held_stepped : {P : PlainSend → PlainSend → Type 0} (old new : PlainSendHalves) (id taken : ℕ) (s : IsStep P old new id taken) → unacked new.halves + held s.half ≡ unacked old.halves + held s.next
held_stepped old new id taken s = subst (λ (o : Option PlainSend). unacked new.halves + held_of o ≡ unacked old.halves + held s.next) s.was s.is.held_is

-- ---- a half that isn't there

done_not_writing : (p : SendPage) → is_send_done p ≡ true → is_writing p.state ≡ false
done_not_writing p done = cases p.state (is_empty p.unconfirmed) done
  where
    cases : (state : SendState) (none : Bool) → is_page_done_in state p.is_confirmed none ≡ true → is_writing state ≡ false
    cases Writing none d = absurd (false≢true d)
    cases Finished none d = refl
    cases (WasReset code) none d = refl

pub gone_page : (o : Option SendPage) → ShowsSend None o → (live_send o ≡ None) × (open_send o ≡ None)
gone_page None s = (refl, refl)
gone_page (Some p) s = let off = done_not_writing p s in (rw s refl, rw off refl)
