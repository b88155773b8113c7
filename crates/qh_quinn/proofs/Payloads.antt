-- How many bytes the reply of a call has.
use Rattle.std.proofs.Common.{◌≡◌, ℕ, ◌≤◌, Bool, true, false, List, [], length, Option, Some, None, Ok, if◌then◌else◌, refl, sym, ap, ◌∙◌, subst, inl, inr, arith}
use Rattle.std.proofs.lemmas.Bool.{eq-eqb}
use Rattle.std.proofs.lemmas.Option.{none-some, same_Some}
use Rattle.std.specs.Prelude.{IfSome, MatchBool}
use Rattle.qh_base.specs.declared.stream_id.StreamId.{StreamId}
use Rattle.qh_book.specs.declared.call.Call.TheVariants as call
use Rattle.qh_book.specs.declared.reply.Reply.{Reply}
use Rattle.qh_book.specs.declared.reply.Reply.TheVariants as reply
use Rattle.qh_buffers.specs.declared.assembler.Chunk.{Chunk}
use Rattle.qh_conn.specs.declared.connection.Connection.{Connection}
use Rattle.qh_core.specs.Streams.{IsRead as IsStreamRead}
use Rattle.qh_half.specs.Recv.{IsReadAnswer, PlainRecv, ReadsAtMost, is_done, with_order}
use Rattle.qh_half.specs.Recv.IsReadAnswer.{bytes as bytes_read, nothing as nothing_read}
use Rattle.qh_halves.specs.RecvHalves.{recv_at, unless_done}
use Rattle.qh_handles.specs.declared.told.Told.{Told}
use Rattle.qh_quinn.proofs.ReadCalls.{begun_in}
use Rattle.qh_quinn.specs.Acting.{IsMade}
use Rattle.qh_quinn.specs.Recording.{payload_of}
use Rattle.qh_quinn.specs.Streaming.{GivesNone, ReadsIn, is_reading}
use Rattle.qh_quinn.specs.declared.inner.StateInner.{StateInner}
use Rattle.qh_streams.specs.Streams.{PlainStreams}

none_fit : (bytes : List ℕ) (n : ℕ) → bytes ≡ [] → length bytes ≤ n
none_fit bytes n is = rw is (omega arith)

-- ---- reads

still_there : (r half : PlainRecv) → unless_done r ≡ Some half → half ≡ r
still_there r half is = at (is_done r) is
  where
    at : (done : Bool) → (if done then None else Some r) ≡ Some half → half ≡ r
    at true is = absurd (none-some half is)
    at false is = sym (same_Some r half is)

answer_fits : (half next : PlainRecv) (is_ordered : Bool) (max_length n : ℕ) (c : Chunk) → ReadsAtMost half is_ordered max_length n → IsReadAnswer (with_order half is_ordered) next max_length (Ok (Some c)) → length c.bytes ≤ n
answer_fits half next is_ordered max_length n c most (bytes_read _ some read) = most next c read
answer_fits half next is_ordered max_length n c most (nothing_read none same _ is) = rw is (omega arith)

given_fits : (id max_length n : ℕ) (is_ordered : Bool) (c : Chunk) (old new : PlainStreams) → IfSome (recv_at old.recv id) (λ h. ReadsAtMost h is_ordered max_length n) → IsStreamRead max_length is_ordered id (Ok (Some c)) old new → length c.bytes ≤ n
given_fits id max_length n is_ordered c old new most read =
    let begun = begun_in is_ordered old.recv read.mid.recv id read.begun in
    let here : recv_at read.mid.recv id ≡ unless_done begun.next = begun.halves_are id ∙ ap (λ (x : Bool). if x then unless_done begun.next else recv_at old.recv id) (eq-eqb id id refl) in
    let is : read.reads.half ≡ with_order begun.half is_ordered = still_there begun.next read.reads.half (sym here ∙ read.reads.was) ∙ begun.step in
    answer_fits begun.half read.reads.next is_ordered max_length n c (subst (λ (o : Option PlainRecv). IfSome o (λ h. ReadsAtMost h is_ordered max_length n)) begun.was most)
    (subst (λ (h : PlainRecv). IsReadAnswer h read.reads.next max_length (Ok (Some c))) is read.reads.step)

bytes_fit : {S : Type 0} (T : Type 0) (reads : Bool) (id max_length n : ℕ) (is_ordered : Bool) (offset : ℕ) (bytes : List ℕ) (old new : Connection S) → IfSome (recv_at old.core.space.streams.recv id) (λ h. ReadsAtMost h is_ordered max_length n)
    → MatchBool reads (ReadsIn {T = T} id max_length is_ordered (reply.Bytes offset bytes) old new) (GivesNone {T = T} (reply.Bytes offset bytes) × (new ≡ old)) → length bytes ≤ n
bytes_fit T true id max_length n is_ordered offset bytes old new most (inl h) = given_fits id max_length n is_ordered (record { offset = offset; bytes = bytes }) old.core.space.streams new.core.space.streams most h.0
bytes_fit T true id max_length n is_ordered offset bytes old new most (inr h) = none_fit bytes n h.1
bytes_fit T false id max_length n is_ordered offset bytes old new most h = none_fit bytes n h.0

module _ {S D : Type 0} (old new : StateInner S) where
  pub read_fits : (id : StreamId) (max_length n : ℕ) (is_ordered : Bool) (r : Reply (Told D)) → IfSome (recv_at old.connection.core.space.streams.recv id.0) (λ h. ReadsAtMost h is_ordered max_length n)
      → IsMade (call.Read id max_length is_ordered) r old new → length (payload_of r) ≤ n
  read_fits id max_length n is_ordered (reply.Bytes offset bytes) most made =
      bytes_fit (Told D) (is_reading old id.0) id.0 max_length n is_ordered offset bytes old.connection new.connection most made.calls.called
  read_fits id max_length n is_ordered (reply.Datagram bytes) most made = absurd made.fits
  read_fits id max_length n is_ordered r most made = omega arith
