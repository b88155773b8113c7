-- A handle of a stream ends: what its connection does is what the book says.
use Rattle.std.proofs.Common.{◌≡◌, ◌⊎◌, ℕ, Bool, true, false, ◌&&◌, not, Option, Some, None, is_some, if◌then◌else◌, refl, sym, ap, ◌∙◌, inl, inr}
use Rattle.std.proofs.lemmas.Bool.{and_parts, false≢true, not-true}
use Rattle.std.proofs.lemmas.Option.{same_Some}
use Rattle.qh_base.specs.declared.stream_id.StreamId.{StreamId}
use Rattle.qh_book.specs.Book.{Book, with_recv, with_send, with_stream_reset}
use Rattle.qh_book.specs.Pages.{RecvPage, SendPage, SendState, Writing, Finished, WasReset, is_reset, is_writing, live_send, open_recv}
use Rattle.qh_book.specs.Receiving.{Stops, recv_ended, with_recv_ended, with_stopped}
use Rattle.qh_book.specs.Sending.{Finishes, IsFinished, Resets, is_finish_refused, is_reset_refused, send_ended, send_ended_by, with_send_ended}
use Rattle.qh_book.specs.declared.reply.Reply.TheVariants as reply

open_still : (b : Book) (id : ℕ) → b.error ≡ None → with_send_ended b id ≡ send_ended (live_send (b.sends id)) b id
open_still b id none = ap (λ (o : Bool). if o then b else send_ended (live_send (b.sends id)) b id) (ap is_some none)

-- it was finished, as nothing forbade
pub ends_by_finish : (T : Type 0) (b c : Book) (id : StreamId) → b.error ≡ None → Finishes {T = T} b id reply.Done c → (p : SendPage) → live_send (b.sends id.0) ≡ Some p → p.stop_code ≡ None → c ≡ with_send_ended b id.0
ends_by_finish T b c id none f p is free = by_case f.2
  where
    same : f.0 ≡ p
    same = same_Some f.0 p (sym f.1 ∙ is)

    by_case : IsFinished b id.0 f.0 c → c ≡ with_send_ended b id.0
    by_case (inl stopped) = absurd (false≢true (sym (ap is_some (ap (λ (q : SendPage). q.stop_code) same ∙ free)) ∙ stopped.0))
    by_case (inr done) =
        let writing : is_writing p.state ≡ true = ap (λ (q : SendPage). is_writing q.state) (sym same) ∙ done.1 in
        done.2 ∙ (ap (λ (q : SendPage). with_send b id.0 (record q { state = Finished })) same ∙ sym (open_still b id.0 none ∙ (rw is (rw free (rw writing refl)))))

-- it was reset with the peer's code
pub ends_by_reset : (T : Type 0) (b c : Book) (id : StreamId) (code : ℕ) → b.error ≡ None → Resets {T = T} b id code reply.Done c → (p : SendPage) → live_send (b.sends id.0) ≡ Some p → p.stop_code ≡ Some code → c ≡ with_send_ended b id.0
ends_by_reset T b c id code none r p is stop =
    let same : r.0 ≡ p = same_Some r.0 p (sym r.1 ∙ is) in
    let first : is_reset p.state ≡ false = ap (λ (q : SendPage). is_reset q.state) (sym same) ∙ r.2 in
    r.3 ∙ (ap (with_stream_reset b id.0 code) same ∙ sym (open_still b id.0 none ∙ (rw is (rw stop (rw first refl)))))

-- nothing was left to be done: it was reset, or finished, or is done
reset_not_writing : (state : SendState) → is_reset state ≡ true → is_writing state ≡ false
reset_not_writing Writing h = absurd (false≢true h)
reset_not_writing Finished h = refl
reset_not_writing (WasReset code) h = refl

by_stop : (b : Book) (id : ℕ) (p : SendPage) (stop : Option ℕ) → (is_reset p.state ≡ true) ⊎ ((not (is_some stop) && not (is_writing p.state)) ≡ true) → send_ended_by stop b id p ≡ b
by_stop b id p (Some code) (inl up) = rw up refl
by_stop b id p (Some code) (inr h) = absurd (false≢true h)
by_stop b id p None (inl up) = let off = reset_not_writing p.state up in rw off refl
by_stop b id p None (inr h) = let off = not-true (is_writing p.state) (and_parts true (not (is_writing p.state)) h).1 in rw off refl

nothing_left : (b : Book) (id : ℕ) (o : Option SendPage) → (is_reset_refused o ≡ true) ⊎ (is_finish_refused o ≡ true) → send_ended o b id ≡ b
nothing_left b id None h = refl
nothing_left b id (Some p) h = by_stop b id p p.stop_code h

pub ends_by_nothing : (b : Book) (id : ℕ) → b.error ≡ None → (is_reset_refused (live_send (b.sends id)) ≡ true) ⊎ (is_finish_refused (live_send (b.sends id)) ≡ true) → b ≡ with_send_ended b id
ends_by_nothing b id none h = sym (open_still b id none ∙ nothing_left b id (live_send (b.sends id)) h)

pub ends_lost : (b : Book) (id : ℕ) → is_some b.error ≡ true → (b ≡ with_send_ended b id) × (b ≡ with_recv_ended b id)
ends_lost b id lost = (rw lost refl, rw lost refl)

-- ---- a receiving half

recv_still : (b : Book) (id : ℕ) → b.error ≡ None → with_recv_ended b id ≡ recv_ended (open_recv (b.recvs id)) b id
recv_still b id none = ap (λ (o : Bool). if o then b else recv_ended (open_recv (b.recvs id)) b id) (ap is_some none)

-- it was stopped, or left as it was
pub ends_by_stop : (T : Type 0) (b c : Book) (id : StreamId) → b.error ≡ None → Stops {T = T} b id reply.Done c → (p : RecvPage) → open_recv (b.recvs id.0) ≡ Some p → p.gave_error ≡ false → c ≡ with_recv_ended b id.0
ends_by_stop T b c id none s p is good =
    let same : s.0 ≡ p = same_Some s.0 p (sym s.1 ∙ is) in
    s.2 ∙ (ap (λ (q : RecvPage). with_recv b id.0 (with_stopped q)) same ∙ sym (recv_still b id.0 none ∙ (rw is (rw good refl))))

pub ends_unstopped : (b : Book) (id : ℕ) → b.error ≡ None → (open_recv (b.recvs id) ≡ None) ⊎ ((p : RecvPage) × (open_recv (b.recvs id) ≡ Some p) × (p.gave_error ≡ true)) → b ≡ with_recv_ended b id
ends_unstopped b id none (inl closed) = sym (recv_still b id none ∙ (rw closed refl))
ends_unstopped b id none (inr bad) = sym (recv_still b id none ∙ (rw bad.1 (rw bad.2 refl)))
