-- Stops and resets of receiving halves, as the state makes them.
use Rattle.std.proofs.Common.{◌≡◌, ℕ, ◌==◌, Bool, true, false, Option, Some, None, is_some, if◌then◌else◌, refl, sym, ap, ◌∙◌, subst}
use Rattle.std.specs.Prelude.{OnErr, OnOk, Result, Ok, Err}
use Rattle.qh_base.specs.declared.connection_error.ConnectionError.{ConnectionError}
use Rattle.qh_base.specs.declared.stream_id.StreamId.{StreamId}
use Rattle.qh_book.specs.Book.{Book, with_recv}
use Rattle.qh_book.specs.Pages.{RecvPage, ResetGiven}
use Rattle.qh_book.specs.Shown.{IsStreamStep, Note, ShowsStreams, noted}
use Rattle.qh_book.specs.Step.{Allows}
use Rattle.qh_book.specs.declared.call.Call.TheVariants as call
use Rattle.qh_book.specs.declared.reply.Reply.{Reply}
use Rattle.qh_book.specs.declared.reply.Reply.TheVariants as reply
use Rattle.qh_conn.specs.Whole.{IsWhole}
use Rattle.qh_conn.specs.declared.connection.Connection.{Connection}
use Rattle.qh_core.specs.Inner.{with_streams}
use Rattle.qh_half.specs.Recv.{reset_code}
use Rattle.qh_halves.specs.RecvHalves.{IsRecvStep, Stops as HalfStops, TakesReset, is_closed_at}
use Rattle.qh_quinn.proofs.Holding.{IsHeld}
use Rattle.qh_quinn.proofs.LostReads.{lost_told}
use Rattle.qh_quinn.proofs.Moving.{IsOnward}
use Rattle.qh_quinn.proofs.ReadCalls.{known_shut}
use Rattle.qh_quinn.proofs.Recvs.{IsHeldStep, holder, read_at, shut_at, takes_at, takes_lost}
use Rattle.qh_quinn.proofs.Sends.{sends_at}
use Rattle.qh_quinn.proofs.ShutReads.{closed_by}
use Rattle.qh_quinn.proofs.StopSteps.{stop_made, tell_again, tell_lost, tell_waits, untold_code, untold_shows}
use Rattle.qh_quinn.specs.Acting.{IsAnswered, lost_or_pending}
use Rattle.qh_quinn.specs.Readers.{code_of, reader_in, with_reader}
use Rattle.qh_quinn.specs.States.{IsState, ShowsWith}
use Rattle.qh_quinn.specs.declared.readers.Reader.{Reader}
use Rattle.qh_quinn.specs.declared.inner.StateInner.{StateInner}
use Rattle.qh_shown.specs.Connections.{is_wanting}
use Rattle.qh_streams.specs.Streams.{PlainStreams}

pub ran : {X Y A B : Type 0} (result : Result X Y) → OnOk result A → OnErr result B → (B → ⊥) → A
ran (Ok x) ok err never = ok
ran (Err y) ok err never = absurd (never err)

module _ {S : Type 0} where
  pub onward_both : (old mid new : Connection S) → IsOnward old mid → IsOnward mid new → IsOnward old new
  onward_both old mid new p q = q ∙ ap (λ (c : Connection S). record c { core = with_streams c.core new.core.space.streams }) p

  -- the code of a reset is told again, or for the first time of one that was stopped
  pub tells_code : {T : Type 0} (id : StreamId) (code : ℕ) (s new : StateInner S) (reader : Reader) → IsState s → reader_in s.readers id.0 ≡ Some reader → code_of (is_wanting s.connection) reader ≡ Some code → new ≡ record s { readers = new.readers }
      → ((k : ℕ) → reader_in new.readers k ≡ (if k == id.0 then with_reader (record reader { is_told = true }) (reader_in s.readers k) else reader_in s.readers k))
      → ((notes : ℕ → Note) (b : Book) → ShowsStreams s.connection.core.space.streams notes b → b.readers id.0 ≡ true → is_closed_at s.connection.core.space.streams.recv id.0 ≡ true → (notes id.0).code ≡ Some code
      → IsStreamStep {T = T} b (call.ReceivedReset id) (reply.Code (Some code)) s.connection.core.space.streams (noted notes id.0 (record (notes id.0) { is_told = true })))
      → ((b : Book) (p : RecvPage) → b.readers id.0 ≡ true → b.recvs id.0 ≡ Some p → p.reset_code ≡ Some code → Allows {T = T} b (call.ReceivedReset id) (reply.Code (Some code)) (with_recv b id.0 (record p { state = ResetGiven })))
      → IsAnswered {T = T} (call.ReceivedReset id) (reply.Code (Some code)) s new
  tells_code {T} id code s new reader state there known is put live_law lost_law = at (is_wanting s.connection) refl
    where
      at : (w : Bool) → is_wanting s.connection ≡ w → IsAnswered {T = T} (call.ReceivedReset id) (reply.Code (Some code)) s new
      at true wanting =
          let code_is : code_of true reader ≡ Some code = ap (λ (w : Bool). code_of w reader) (sym wanting) ∙ known in
          takes_lost (call.ReceivedReset id) (reply.Code (Some code)) s new id.0 reader (record reader { is_told = true }) state wanting is there put
          (λ notes b shown e h.
          let noted_code : (notes id.0).code ≡ Some code = ap (λ (n : Note). n.code) h.note_is ∙ code_is in
          let off = known_shut s id.0 reader state there notes b h.p code shown h.page_is noted_code in
          let shut = shut_at notes s b id.0 h.p shown h.page_is off in
          lost_told b id.0 reader notes h e (call.ReceivedReset id) (reply.Code (Some code)) code code_is off shut (lost_law b h.p h.held h.page_is (shut.code ∙ noted_code)))
      at false calm =
          let code_is : code_of false reader ≡ Some code = ap (λ (w : Bool). code_of w reader) (sym calm) ∙ known in
          takes_at (call.ReceivedReset id) (reply.Code (Some code)) s new new s.connection s.driver id.0 reader (record reader { is_told = true }) state calm is refl state.whole there put
          (λ notes b shown streams h.
          let noted_code : (notes id.0).code ≡ Some code = ap (λ (n : Note). n.code) h.note_is ∙ code_is in
          let off = known_shut s id.0 reader state there notes b h.p code shown h.page_is noted_code in
          tell_again b id s.connection.core.space.streams notes reader h code off (live_law notes b streams h.held (closed_by notes s.connection.core.space.streams b id.0 h.p streams h.page_is off) noted_code))

  held_live : (notes : ℕ → Note) (s : StateInner S) (b : Book) (id : ℕ) (reader : Reader) → ShowsWith notes s b → is_wanting s.connection ≡ false → reader_in s.readers id ≡ Some reader → IsHeld false reader (notes id) (b.readers id) (b.recvs id)
  held_live notes s b id reader shown calm there = subst (λ (w : Bool). IsHeld w reader (notes id) (b.readers id) (b.recvs id)) calm (holder notes s b id reader shown there)

  -- no reset came
  pub untold_answers : {T : Type 0} (id : StreamId) (r : Reply T) (s new : StateInner S) (to : Connection S) (reader : Reader) → IsState s → is_wanting s.connection ≡ false → is_some s.connection.handshake.peer ≡ true → reader_in s.readers id.0 ≡ Some reader
      → new ≡ record s { connection = to } → IsOnward s.connection to → IsWhole to → r ≡ lost_or_pending s.error
      → ((notes : ℕ → Note) (b : Book) → ShowsStreams s.connection.core.space.streams notes b → b.readers id.0 ≡ true → b.error ≡ None → IsStreamStep {T = T} b (call.ReceivedReset id) reply.Pending to.core.space.streams notes)
      → ((notes : ℕ → Note) (b : Book) (e : ConnectionError) → ShowsStreams s.connection.core.space.streams notes b → b.readers id.0 ≡ true → b.error ≡ Some e → IsStreamStep {T = T} b (call.ReceivedReset id) (reply.ConnectionLost e) to.core.space.streams notes)
      → IsAnswered (call.ReceivedReset id) r s new
  untold_answers {T} id r s new to reader state calm greeted there is on whole reply_is waits lost = subst (λ (x : Reply T). IsAnswered (call.ReceivedReset id) x s new) (sym reply_is) (at s.error refl)
    where
      at : (error : Option ConnectionError) → s.error ≡ error → IsAnswered {T = T} (call.ReceivedReset id) (lost_or_pending error) s new
      at None none =
          sends_at (call.ReceivedReset id) reply.Pending s new to s.driver state calm greeted is on whole
          (λ notes b shown streams.
          let h = held_live notes s b id.0 reader shown calm there in
          tell_waits b id to.core.space.streams notes reader h (waits notes b streams h.held (shown.error ∙ none)))
      at (Some e) has =
          sends_at (call.ReceivedReset id) (reply.ConnectionLost e) s new to s.driver state calm greeted is on whole
          (λ notes b shown streams.
          let h = held_live notes s b id.0 reader shown calm there in
          tell_lost b id to.core.space.streams notes reader h e (lost notes b e streams h.held (shown.error ∙ has)))

-- it is stopped then
pub stop_untold : {T : Type 0} (b : Book) (id : StreamId) (code : ℕ) (old mid new : PlainStreams) (notes : ℕ → Note) (reader : Reader) (h : IsHeld false reader (notes id.0) (b.readers id.0) (b.recvs id.0)) → reader.is_open ≡ true → ShowsStreams old notes b
    → IsRecvStep (TakesReset None) old.recv mid.recv id.0 0
    → (b.error ≡ None → IsStreamStep {T = T} b (call.ReceivedReset id) reply.Pending mid notes)
    → ((e : ConnectionError) → b.error ≡ Some e → IsStreamStep {T = T} b (call.ReceivedReset id) (reply.ConnectionLost e) mid notes)
    → (stop : IsRecvStep (HalfStops code) mid.recv new.recv id.0 0)
    → (ShowsStreams mid notes b → IsStreamStep {T = T} b (call.Stop id code) reply.Done new (noted notes id.0 (record (notes id.0) { code = reset_code stop.half.state })))
    → IsHeldStep {T = T} b (call.Stop id code) reply.Done id.0 new notes (record reader { is_open = false })
stop_untold {T} b id code old mid new notes reader h opened shown untold waits lost stop law =
    let none : reset_code stop.half.state ≡ None = untold_code old.recv mid.recv new.recv id.0 untold stop in
    let half = read_at notes old b id.0 h.p shown h.page_is (h.opened ∙ opened) in
    let known : reader.code ≡ None = sym (ap (λ (n : Note). n.code) h.note_is) ∙ half.noted.none in
    subst (λ (x : Option ℕ). IsHeldStep {T = T} b (call.Stop id code) reply.Done id.0 new notes (record reader { is_open = false; code = x })) (none ∙ sym known)
    (stop_made b id new notes reader h code (reset_code stop.half.state) opened (law (untold_shows b id mid notes reader h b.error refl waits lost)))
