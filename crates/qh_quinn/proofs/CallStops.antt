-- What stops of receiving halves, and calls that wait for the peer's reset of them, do to the connection.
use Rattle.std.proofs.Common.{◌≡◌, ℕ, Bool, true, false, [], ◌∷◌, Option, Some, refl, sym, ap, ◌∙◌}
use Rattle.std.specs.Prelude.{OnErr, Result, Ok, Err}
use Rattle.qh_base.specs.declared.stream_id.StreamId.{StreamId}
use Rattle.qh_book.specs.Book.{Book}
use Rattle.qh_book.specs.Pages.{RecvPage}
use Rattle.qh_book.specs.Shown.{Note}
use Rattle.qh_book.specs.declared.call.Call.TheVariants as call
use Rattle.qh_book.specs.declared.reply.Reply.TheVariants as reply
use Rattle.qh_core.specs.Follows.{stop_acts as made_acts}
use Rattle.qh_half.specs.Recv.{PlainRecv, reset_code}
use Rattle.qh_halves.specs.RecvHalves.{recv_at}
use Rattle.qh_quinn.proofs.CallReads.{held_code, held_page, shut_page}
use Rattle.qh_quinn.proofs.ReadCalls.{known_shut}
use Rattle.qh_quinn.proofs.Recvs.{holder}
use Rattle.qh_quinn.specs.Calls.{call_acts, reset_told_acts, stop_acts, stopped_by}
use Rattle.qh_quinn.specs.Readers.{code_of, reader_in}
use Rattle.qh_quinn.specs.States.{IsState, Shows}
use Rattle.qh_quinn.specs.declared.inner.StateInner.{StateInner}
use Rattle.qh_quinn.specs.declared.readers.Reader.{Reader}
use Rattle.qh_shown.specs.Connections.{is_wanting}
use Rattle.qh_spec.specs.Transcript.{ReadReset, Stopped}

-- the connection's stop was made
pub made_stop : {E B : Type 0} (id code : ℕ) (result : Result Unit E) → OnErr result B → (B → ⊥) → made_acts id code result ≡ Stopped id code ∷ []
made_stop id code (Ok x) err never = refl
made_stop id code (Err y) err never = absurd (never err)

module _ {S : Type 0} (T : Type 0) (id : StreamId) (code : ℕ) (s : StateInner S) (reader : Reader) (there : reader_in s.readers id.0 ≡ Some reader) where
  -- a half of which want of memory left nothing
  pub stop_wanting : reader.is_open ≡ true → is_wanting s.connection ≡ true → (b : Book) → Shows s b → call_acts {T = T} b (call.Stop id code) reply.Done ≡ []
  stop_wanting opened wanting b shown =
      let page = held_page s id.0 reader there opened b shown in
      ap (λ (o : Option RecvPage). stop_acts b.is_emptied id.0 code o) page.1 ∙ ap (λ (w : Bool). stop_acts w id.0 code (Some page.0)) (shown.shows.connection.emptied wanting).emptied

  -- one that is read, by the code of its reset
  pub stop_read : reader.is_open ≡ true → is_wanting s.connection ≡ false → (half : PlainRecv) (reset : Option ℕ) → recv_at s.connection.core.space.streams.recv id.0 ≡ Some half → reset ≡ reset_code half.state → (b : Book) → Shows s b
      → call_acts {T = T} b (call.Stop id code) reply.Done ≡ stopped_by id.0 code reset
  stop_read opened calm half reset is known b shown =
      let page = held_code s id.0 reader there calm opened half is b shown in
      ap (λ (o : Option RecvPage). stop_acts b.is_emptied id.0 code o) page.1 ∙ ap (λ (w : Bool). stop_acts w id.0 code (Some page.0)) (shown.shows.connection.live calm).kept
      ∙ ap (λ (c : Option ℕ). stopped_by id.0 code c) (page.2 ∙ sym known)

  -- the reset of one that is read is told to its reader
  pub reset_told : reader.is_open ≡ true → (b : Book) → Shows s b → call_acts {T = T} b (call.ReceivedReset id) (reply.Code (Some code)) ≡ ReadReset id.0 code ∷ []
  reset_told opened b shown = ap (λ (o : Option RecvPage). reset_told_acts id.0 code o) (held_page s id.0 reader there opened b shown).1

  -- one whose code is known isn't read any more
  pub told_again : IsState s → code_of (is_wanting s.connection) reader ≡ Some code → (b : Book) → Shows s b → call_acts {T = T} b (call.ReceivedReset id) (reply.Code (Some code)) ≡ []
  told_again state known b shown =
      let h = holder shown.notes s b id.0 reader shown.shows there in
      let off = known_shut s id.0 reader state there shown.notes b h.p code shown.shows h.page_is (ap (λ (n : Note). n.code) h.note_is ∙ known) in
      ap (λ (o : Option RecvPage). reset_told_acts id.0 code o) (shut_page (b.recvs id.0) h.p h.page_is off)
