-- What the peer asked of a sending half, and its priority, are told as the book says.
use Rattle.std.proofs.Common.{◌≡◌, ℕ, ℤ, Bool, true, false, ◌&&◌, Some, None, is_some, refl, sym, ap, ◌∙◌, inl}
use Rattle.qh_base.specs.declared.connection_error.ConnectionError.{ConnectionError}
use Rattle.qh_base.specs.declared.stream_id.StreamId.{StreamId}
use Rattle.qh_book.proofs.ShownRefusals.{half_page, no_half}
use Rattle.qh_book.specs.Book.{Book}
use Rattle.qh_book.specs.Interests.{waits}
use Rattle.qh_book.specs.Sending.{SetsPriority, TellsPriority, TellsStop}
use Rattle.qh_book.specs.Shown.{Note, ShowsStreams}
use Rattle.qh_book.specs.declared.interest.Interest.TheVariants as waiting
use Rattle.qh_book.specs.declared.reply.Reply.TheVariants as reply
use Rattle.qh_half.specs.Send.{PlainSend}
use Rattle.qh_halves.specs.SendHalves.{send_at}
use Rattle.qh_streams.specs.Streams.{PlainStreams}

module _ {notes : ℕ → Note} (T : Type 0) (s : PlainStreams) (b : Book) (id : StreamId) (shown : ShowsStreams s notes b) where
  pub stop_gone : b.is_emptied ≡ false → send_at s.send id.0 ≡ None → TellsStop {T = T} b id (reply.Code None) b
  stop_gone kept gone = (no_half s b id shown gone, ap (λ (x : Bool). x && is_some b.error) kept, refl)

  pub priority_gone : send_at s.send id.0 ≡ None → TellsPriority {T = T} b id reply.ClosedStream b
  priority_gone gone = (no_half s b id shown gone, refl)

  pub set_priority_gone : (priority : ℤ) → send_at s.send id.0 ≡ None → SetsPriority {T = T} b id priority reply.ClosedStream b
  set_priority_gone priority gone = (no_half s b id shown gone, refl)

  module _ (h : PlainSend) (there : send_at s.send id.0 ≡ Some h) where
    pub stop_told : (code : ℕ) → h.stop_reason ≡ Some code → TellsStop {T = T} b id (reply.Code (Some code)) b
    stop_told code stop = let p = half_page s b id shown h there in (p.0, p.1, p.2 ∙ stop, refl)

    pub stop_waits : h.stop_reason ≡ None → b.error ≡ None → TellsStop {T = T} b id reply.Pending b
    stop_waits free open_still =
        let p = half_page s b id shown h there in
        let none : p.0.stop_code ≡ None = p.2 ∙ free in
        let waits_now : waits b (waiting.Stopped id) ≡ true = rw open_still (rw p.1 (rw none refl)) in (waits_now, refl)

    pub stop_lost : (e : ConnectionError) → h.stop_reason ≡ None → b.error ≡ Some e → TellsStop {T = T} b id (reply.ConnectionLost e) b
    stop_lost e free lost = let p = half_page s b id shown h there in (inl (p.0, p.1, p.2 ∙ free), lost, refl)

    pub priority_told : TellsPriority {T = T} b id (reply.Priority h.priority) b
    priority_told = let p = half_page s b id shown h there in (p.0, p.1, sym p.3, refl)
