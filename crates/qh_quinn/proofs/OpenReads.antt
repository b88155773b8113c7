-- Reads of a half that is open, of which the connection gives none.
use Rattle.std.proofs.Common.{◌≡◌, ◌⊎◌, ℕ, ◌<◌, ◌==◌, Bool, true, false, [], Option, Some, None, is_some, if◌then◌else◌, refl, sym, ◌∙◌, inl, inr, subst}
use Rattle.std.proofs.lemmas.Bool.{eqb-false, eqb-true, false≢true}
use Rattle.qh_base.specs.declared.connection_error.ConnectionError.{ConnectionError}
use Rattle.qh_base.specs.declared.stream_id.StreamId.{StreamId}
use Rattle.qh_book.specs.Book.{Book}
use Rattle.qh_book.specs.Shown.{IsStreamStep, Note, ShowsStreams, noted}
use Rattle.qh_book.specs.declared.call.Call.TheVariants as call
use Rattle.qh_book.specs.declared.reply.Reply.{Reply}
use Rattle.qh_book.specs.declared.reply.Reply.TheVariants as reply
use Rattle.qh_conn.specs.Whole.{IsWhole}
use Rattle.qh_conn.specs.declared.connection.Connection.{Connection}
use Rattle.qh_core.specs.Streams.{IsReadFault}
use Rattle.qh_core.specs.declared.fault.TakeFault.{TakeFault}
use Rattle.qh_core.specs.declared.fault.TakeFault.TheVariants.{Readable}
use Rattle.qh_half.specs.declared.fault.ReadableFault.TheVariants as readable
use Rattle.qh_quinn.proofs.Moving.{IsOnward}
use Rattle.qh_quinn.proofs.ReadCalls.{above}
use Rattle.qh_quinn.proofs.ReadSteps.{begun, read_bytes, read_illegal, read_lost, read_waits}
use Rattle.qh_quinn.proofs.Recvs.{takes_at}
use Rattle.qh_quinn.specs.Acting.{IsAnswered, lost_or_pending}
use Rattle.qh_quinn.specs.Readers.{reader_in, with_reader}
use Rattle.qh_quinn.specs.States.{IsState}
use Rattle.qh_quinn.specs.declared.readers.Reader.{Reader}
use Rattle.qh_quinn.specs.declared.inner.StateInner.{StateInner}
use Rattle.qh_shown.specs.Connections.{is_wanting}
use Rattle.qh_streams.specs.Streams.{PlainStreams}

module _ {S : Type 0} (max_length : ℕ) (is_ordered : Bool) (id : ℕ) (old new : Connection S) where
  -- why nothing is read of a connection that was greeted
  pub fault_is : (e f : TakeFault) → e ≡ f → is_some old.handshake.peer ≡ true
      → ((is_some old.handshake.peer ≡ false) × (e ≡ Readable readable.ClosedStream) × (new ≡ old)) ⊎ ((is_some old.handshake.peer ≡ true) × IsReadFault max_length is_ordered id e old.core.space.streams new.core.space.streams)
      → IsReadFault max_length is_ordered id f old.core.space.streams new.core.space.streams
  fault_is e f is greeted (inl u) = absurd (false≢true (sym u.0 ∙ greeted))
  fault_is e f is greeted (inr u) = subst (λ (x : TakeFault). IsReadFault max_length is_ordered id x old.core.space.streams new.core.space.streams) is u.1

module _ {S T : Type 0} (id : StreamId) (max_length : ℕ) (is_ordered : Bool) (r : Reply T) (s new : StateInner S) (to : Connection S) (reader : Reader) (state : IsState s) (calm : is_wanting s.connection ≡ false) (there : reader_in s.readers id.0 ≡ Some reader) (opened : reader.is_open ≡ true)
    (is : new ≡ record s { connection = to; readers = new.readers }) (on : IsOnward s.connection to) (whole : IsWhole to) where
  -- an ordered read after an unordered one
  pub illegal_answers : to.core.space.streams ≡ s.connection.core.space.streams
      → ((k : ℕ) → reader_in new.readers k ≡ (if k == id.0 then with_reader (if max_length == 0 then begun reader is_ordered else record reader { gave_error = true }) (reader_in s.readers k) else reader_in s.readers k))
      → r ≡ (if max_length == 0 then reply.Bytes 0 [] else reply.IllegalOrderedRead)
      → ((notes : ℕ → Note) (b : Book) → ShowsStreams s.connection.core.space.streams notes b → b.readers id.0 ≡ true → IsStreamStep {T = T} b (call.Read id 0 is_ordered) (reply.Bytes 0 []) s.connection.core.space.streams notes)
      → ((notes : ℕ → Note) (b : Book) → ShowsStreams s.connection.core.space.streams notes b → b.readers id.0 ≡ true → 0 < max_length
      → IsStreamStep {T = T} b (call.Read id max_length is_ordered) reply.IllegalOrderedRead s.connection.core.space.streams (noted notes id.0 (record (notes id.0) { gave_error = true })))
      → IsAnswered (call.Read id max_length is_ordered) r s new
  illegal_answers same put reply_is nothing illegal = subst (λ (x : Reply T). IsAnswered (call.Read id max_length is_ordered) x s new) (sym reply_is) (at (max_length == 0) refl put)
    where
      at : (none : Bool) → (max_length == 0) ≡ none
          → ((k : ℕ) → reader_in new.readers k ≡ (if k == id.0 then with_reader (if none then begun reader is_ordered else record reader { gave_error = true }) (reader_in s.readers k) else reader_in s.readers k))
          → IsAnswered {T = T} (call.Read id max_length is_ordered) (if none then reply.Bytes 0 [] else reply.IllegalOrderedRead) s new
      at true e put =
          subst (λ (n : ℕ). IsAnswered {T = T} (call.Read id n is_ordered) (reply.Bytes 0 []) s new) (sym (eqb-true max_length 0 e))
          (takes_at (call.Read id 0 is_ordered) (reply.Bytes 0 []) s new new to s.driver id.0 reader (begun reader is_ordered) state calm is on whole there put
          (λ notes b shown streams h.
          read_bytes b id 0 is_ordered reader notes to.core.space.streams h opened 0 []
          (subst (λ (x : PlainStreams). IsStreamStep {T = T} b (call.Read id 0 is_ordered) (reply.Bytes 0 []) x notes) (sym same) (nothing notes b streams h.held))))
      at false e put =
          takes_at (call.Read id max_length is_ordered) reply.IllegalOrderedRead s new new to s.driver id.0 reader (record reader { gave_error = true }) state calm is on whole there put
          (λ notes b shown streams h.
          read_illegal b id max_length is_ordered reader notes to.core.space.streams h opened
          (subst (λ (x : PlainStreams). IsStreamStep {T = T} b (call.Read id max_length is_ordered) reply.IllegalOrderedRead x (noted notes id.0 (record (notes id.0) { gave_error = true }))) (sym same)
          (illegal notes b streams h.held (above max_length (eqb-false max_length 0 e)))))

  -- one that finds nothing
  pub blocked_answers : ((k : ℕ) → reader_in new.readers k ≡ (if k == id.0 then with_reader (if is_some s.error then record (begun reader is_ordered) { gave_error = true } else begun reader is_ordered) (reader_in s.readers k) else reader_in s.readers k))
      → r ≡ lost_or_pending s.error
      → ((notes : ℕ → Note) (b : Book) → ShowsStreams s.connection.core.space.streams notes b → b.readers id.0 ≡ true → b.error ≡ None → IsStreamStep {T = T} b (call.Read id max_length is_ordered) reply.Pending to.core.space.streams notes)
      → ((notes : ℕ → Note) (b : Book) (e : ConnectionError) → ShowsStreams s.connection.core.space.streams notes b → b.readers id.0 ≡ true → b.error ≡ Some e
      → IsStreamStep {T = T} b (call.Read id max_length is_ordered) (reply.ConnectionLost e) to.core.space.streams (noted notes id.0 (record (notes id.0) { gave_error = true })))
      → IsAnswered (call.Read id max_length is_ordered) r s new
  blocked_answers put reply_is waits lost = subst (λ (x : Reply T). IsAnswered (call.Read id max_length is_ordered) x s new) (sym reply_is) (at s.error refl put)
    where
      at : (error : Option ConnectionError) → s.error ≡ error
          → ((k : ℕ) → reader_in new.readers k ≡ (if k == id.0 then with_reader (if is_some error then record (begun reader is_ordered) { gave_error = true } else begun reader is_ordered) (reader_in s.readers k) else reader_in s.readers k))
          → IsAnswered {T = T} (call.Read id max_length is_ordered) (lost_or_pending error) s new
      at None none put =
          takes_at (call.Read id max_length is_ordered) reply.Pending s new new to s.driver id.0 reader (begun reader is_ordered) state calm is on whole there put
          (λ notes b shown streams h. read_waits b id max_length is_ordered reader notes to.core.space.streams h opened (waits notes b streams h.held (shown.error ∙ none)))
      at (Some e) has put =
          takes_at (call.Read id max_length is_ordered) (reply.ConnectionLost e) s new new to s.driver id.0 reader (record (begun reader is_ordered) { gave_error = true }) state calm is on whole there put
          (λ notes b shown streams h. read_lost b id max_length is_ordered reader notes to.core.space.streams h opened e (lost notes b e streams h.held (shown.error ∙ has)))
