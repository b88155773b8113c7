-- Calls on halves that no handle holds, or that aren't read any more.
use Rattle.std.proofs.Common.{◌≡◌, ℕ, ◌<◌, ◌==◌, Bool, true, false, not, [], Option, Some, None, if◌then◌else◌, refl, sym, ap, ◌∙◌, subst, arith}
use Rattle.std.proofs.lemmas.Bool.{eqb-false, eqb-true, false≢true}
use Rattle.qh_base.specs.declared.connection_error.ConnectionError.{ConnectionError}
use Rattle.qh_base.specs.declared.stream_id.StreamId.{StreamId}
use Rattle.qh_book.specs.Book.{Book}
use Rattle.qh_book.specs.Pages.{RecvPage, is_open, open_recv}
use Rattle.qh_book.specs.Shown.{Note, ShowsHalf, ShowsRecv, ShowsStreams}
use Rattle.qh_book.specs.Step.{Allows}
use Rattle.qh_book.specs.declared.call.Call.{Call}
use Rattle.qh_book.specs.declared.call.Call.TheVariants as call
use Rattle.qh_book.specs.declared.reply.Reply.{Reply}
use Rattle.qh_book.specs.declared.reply.Reply.TheVariants as reply
use Rattle.qh_half.specs.Recv.{PlainRecv, is_closed}
use Rattle.qh_halves.specs.RecvHalves.{half_is_closed, is_closed_at, recv_at}
use Rattle.qh_quinn.proofs.Holding.{unheld_by}
use Rattle.qh_quinn.proofs.Moving.{never_none}
use Rattle.qh_quinn.proofs.Recvs.{holder, lost_open, open_page, shut_at}
use Rattle.qh_quinn.proofs.Sends.{lost_or_waits, told}
use Rattle.qh_quinn.specs.Acting.{IsAnswered, lost_or_pending}
use Rattle.qh_quinn.specs.Readers.{code_of, reader_in}
use Rattle.qh_quinn.specs.States.{IsState}
use Rattle.qh_quinn.specs.declared.readers.Reader.{Reader}
use Rattle.qh_quinn.specs.declared.inner.StateInner.{StateInner}
use Rattle.qh_shown.specs.Connections.{ShowsLost, is_wanting}
use Rattle.qh_streams.specs.Streams.{PlainStreams}

positive : (n : ℕ) → (n == 0) ≡ false → 0 < n
positive n e = let differs : n ≡ 0 → ⊥ = eqb-false n 0 e in omega arith

-- what isn't is false
pub off : (x : Bool) → not x ≡ true → x ≡ false
off true is = absurd (false≢true is)
off false is = refl

module _ {S : Type 0} where
  pub unheld : {T : Type 0} (c : Call) (r : Reply T) (s : StateInner S) (id : ℕ) → IsState s → reader_in s.readers id ≡ None → ((b : Book) → b.readers id ≡ false → Allows {T = T} b c r b) → IsAnswered c r s s
  unheld c r s id state none allows = told c r s state (λ notes b shown. allows b (unheld_by (is_wanting s.connection) (reader_in s.readers id) (b.readers id) (notes id) (b.recvs id) none (shown.readers id)))

  -- a call on a half that isn't read any more, by its page
  pub shut : {T : Type 0} (c : Call) (r : Reply T) (s : StateInner S) (id : ℕ) (reader : Reader) → IsState s → reader_in s.readers id ≡ Some reader → reader.is_open ≡ false
      → ((b : Book) (p : RecvPage) → b.readers id ≡ true → b.recvs id ≡ Some p → is_open p.state ≡ false → p.reset_code ≡ code_of (is_wanting s.connection) reader → Allows {T = T} b c r b) → IsAnswered c r s s
  shut c r s id reader state there off allows =
      told c r s state
      (λ notes b shown.
      let h = holder notes s b id reader shown there in
      let s = shut_at notes s b id h.p shown h.page_is (h.opened ∙ off) in
      allows b h.p h.held h.page_is (h.opened ∙ off) (s.code ∙ ap (λ (n : Note). n.code) h.note_is))

  pub read_shut : {T : Type 0} (id : StreamId) (max_length : ℕ) (is_ordered : Bool) (r : Reply T) (s : StateInner S) (reader : Reader) → IsState s → reader_in s.readers id.0 ≡ Some reader → reader.is_open ≡ false
      → ((b : Book) (p : RecvPage) → b.readers id.0 ≡ true → b.recvs id.0 ≡ Some p → is_open p.state ≡ false → 0 < max_length → Allows {T = T} b (call.Read id max_length is_ordered) reply.Ended b)
      → ((b : Book) (p : RecvPage) → b.readers id.0 ≡ true → b.recvs id.0 ≡ Some p → is_open p.state ≡ false → Allows {T = T} b (call.Read id 0 is_ordered) (reply.Bytes 0 []) b)
      → r ≡ (if max_length == 0 then reply.Bytes 0 [] else reply.Ended) → IsAnswered (call.Read id max_length is_ordered) r s s
  read_shut {T} id max_length is_ordered r s reader state there off ended nothing is = subst (λ (x : Reply T). IsAnswered (call.Read id max_length is_ordered) x s s) (sym is) (at (max_length == 0) refl)
    where
      at : (none : Bool) → (max_length == 0) ≡ none → IsAnswered {T = T} (call.Read id max_length is_ordered) (if none then reply.Bytes 0 [] else reply.Ended) s s
      at true e =
          subst (λ (n : ℕ). IsAnswered {T = T} (call.Read id n is_ordered) (reply.Bytes 0 []) s s) (sym (eqb-true max_length 0 e))
          (shut (call.Read id 0 is_ordered) (reply.Bytes 0 []) s id.0 reader state there off (λ b p held page shut code. nothing b p held page shut))
      at false e = shut (call.Read id max_length is_ordered) reply.Ended s id.0 reader state there off (λ b p held page shut code. ended b p held page shut (positive max_length e))

-- ---- the code of a reset is told

closed_in : (note : Note) (o : Option PlainRecv) (p : RecvPage) → is_open p.state ≡ false → ShowsRecv note o (Some p) → half_is_closed o ≡ true
closed_in note None p shut s = refl
closed_in note (Some h) p shut s = at h.is_stopped refl s.1
  where
    at : (stopped : Bool) → h.is_stopped ≡ stopped → ShowsHalf stopped note h p → is_closed h ≡ true
    at true e half = rw e refl
    at false e half = absurd (false≢true (sym shut ∙ ap is_open half.0.state))

pub closed_by : (notes : ℕ → Note) (s : PlainStreams) (b : Book) (k : ℕ) (p : RecvPage) → ShowsStreams s notes b → b.recvs k ≡ Some p → is_open p.state ≡ false → is_closed_at s.recv k ≡ true
closed_by notes s b k p shown is shut = closed_in (notes k) (recv_at s.recv k) p shut (subst (λ (o : Option RecvPage). ShowsRecv (notes k) (recv_at s.recv k) o) is (shown.recvs k))

-- ---- want of memory ended the connection, and no reset comes of a half that was read

module _ {S : Type 0} where
  pub reset_lost : {T : Type 0} (id : StreamId) (r : Reply T) (s : StateInner S) (reader : Reader) → IsState s → is_wanting s.connection ≡ true → reader_in s.readers id.0 ≡ Some reader → reader.is_open ≡ true → r ≡ lost_or_pending s.error
      → ((b : Book) (p : RecvPage) (e : ConnectionError) → b.readers id.0 ≡ true → open_recv (b.recvs id.0) ≡ Some p → p.reset_code ≡ None → b.error ≡ Some e → Allows {T = T} b (call.ReceivedReset id) (reply.ConnectionLost e) b) → IsAnswered (call.ReceivedReset id) r s s
  reset_lost {T} id r s reader state wanting there opened is law =
      lost_or_waits (call.ReceivedReset id) r s state is
      (λ notes b e shown has error.
      let h = holder notes s b id.0 reader shown there in
      let page = lost_open (notes id.0) h.p (h.opened ∙ opened) (subst (λ (o : Option RecvPage). ShowsLost (notes id.0) o) h.page_is ((shown.connection.emptied wanting).recvs id.0)) in
      law b h.p e h.held (open_page (b.recvs id.0) h.p h.page_is (h.opened ∙ opened)) page.0.reset_code error)
      (λ notes b shown none error. absurd (never_none s notes b state shown wanting none))
