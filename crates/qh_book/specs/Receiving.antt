-- What is replied to calls on the receiving half of a stream (RFC 9000, section 3.2) that a handle holds.
use Rattle.std.specs.Prelude.{◌≡◌, ◌⊎◌, ℕ, ◌+◌, ◌<◌, ◌≤◌, Bool, true, false, ◌||◌, not, [], length, Option, Some, None, is_some, if◌then◌else◌}
use Rattle.qh_base.specs.declared.connection_error.ConnectionError.{ConnectionError}
use Rattle.qh_base.specs.declared.stream_id.StreamId.{StreamId}
use Rattle.qh_book.specs.Book.{Book, held_without, with_recv, without_handle}
use Rattle.qh_book.specs.Interests.{has_next, is_at_end, is_blocked, is_out_of_order, waits}
use Rattle.qh_book.specs.Pages.{RecvPage, Stopped, EndGiven, ResetGiven, open_recv, unread_at, with_read, without_unread}
use Rattle.qh_book.specs.declared.interest.Interest.TheVariants as waiting
use Rattle.qh_book.specs.declared.reply.Reply.{Reply}
use Rattle.qh_book.specs.declared.reply.Reply.TheVariants as reply
use Rattle.qh_buffers.specs.Assembler.{byte_of, is_over}
use Rattle.qh_buffers.specs.declared.assembler.Chunk.{Chunk}

-- ---- bytes are read

-- Bytes that can be read, at most `max_length`: in order all from the next offset on up to the first that can't, otherwise some run of them.
pub record IsPiece (p : RecvPage) (max_length : ℕ) (is_ordered : Bool) (c : Chunk) : Type 0 where
  pub some : 0 < length c.bytes
  pub few : length c.bytes ≤ max_length
  pub unread : (k : ℕ) → is_over c k ≡ true → unread_at p k ≡ byte_of c k
  pub next : is_ordered ≡ true → c.offset ≡ p.next
  pub longest : is_ordered ≡ true → (length c.bytes ≡ max_length) ⊎ (unread_at p (c.offset + length c.bytes) ≡ None)

-- the mode of reads that are permitted
abbrev pub in_mode : (is_ordered : Bool) → RecvPage → RecvPage
in_mode is_ordered p = record p { is_unordered = p.is_unordered || not is_ordered }

abbrev pub with_error : RecvPage → RecvPage
with_error p = record p { gave_error = true }

-- A read of a half that is open, and its page then. One of no bytes gives none, in any order. Otherwise the order is looked at first, then a reset:
-- there are no bytes beside it.
abbrev pub ReadsPage : {T : Type 0} → Option ConnectionError → RecvPage → (max_length : ℕ) → (is_ordered : Bool) → Reply T → RecvPage → Type 0
ReadsPage error p max_length is_ordered (reply.Bytes offset bytes) q = ((max_length ≡ 0) × (bytes ≡ []) × (q ≡ in_mode is_ordered p))
    ⊎ ((is_out_of_order p is_ordered ≡ false) × (0 < max_length) × (p.reset_code ≡ None) × IsPiece p max_length is_ordered (record { offset = offset; bytes = bytes })
    × (q ≡ with_read (record { offset = offset; bytes = bytes }) is_ordered (in_mode is_ordered p)))
ReadsPage error p max_length is_ordered reply.IllegalOrderedRead q = (is_out_of_order p is_ordered ≡ true) × (0 < max_length) × (q ≡ with_error p)
ReadsPage error p max_length is_ordered (reply.Reset code) q = (is_out_of_order p is_ordered ≡ false) × (0 < max_length) × (p.reset_code ≡ Some code)
    × (q ≡ record (with_error (in_mode is_ordered p)) { state = ResetGiven })
ReadsPage error p max_length is_ordered reply.Ended q = (is_out_of_order p is_ordered ≡ false) × (0 < max_length) × (p.reset_code ≡ None) × (has_next p is_ordered ≡ false)
    × (is_at_end p ≡ true) × (q ≡ record (in_mode is_ordered p) { state = EndGiven })
ReadsPage error p max_length is_ordered (reply.ConnectionLost e) q = (is_out_of_order p is_ordered ≡ false) × (0 < max_length) × (is_blocked p is_ordered ≡ true) × (error ≡ Some e)
    × (q ≡ with_error (in_mode is_ordered p))
ReadsPage error p max_length is_ordered reply.Pending q = (is_out_of_order p is_ordered ≡ false) × (0 < max_length) × (is_blocked p is_ordered ≡ true) × (error ≡ None)
    × (q ≡ in_mode is_ordered p)
ReadsPage error p max_length is_ordered r q = ⊥

-- A read of no bytes gives none. Otherwise it gives the end after a given end, a given reset or a stop. A half that was never there is closed, or
-- lost with the connection.
abbrev pub ReadsClosed : {T : Type 0} → Option ConnectionError → Option RecvPage → (max_length : ℕ) → Reply T → Type 0
ReadsClosed error page max_length (reply.Bytes offset bytes) = (max_length ≡ 0) × (bytes ≡ [])
ReadsClosed error page max_length reply.Ended = (0 < max_length) × (is_some page ≡ true)
ReadsClosed error page max_length reply.ClosedStream = (0 < max_length) × (page ≡ None) × (error ≡ None)
ReadsClosed error page max_length (reply.ConnectionLost e) = (0 < max_length) × (page ≡ None) × (error ≡ Some e)
ReadsClosed error page max_length r = ⊥

pub record ReadsOpen {T : Type 0} (b : Book) (id max_length : ℕ) (is_ordered : Bool) (r : Reply T) (c : Book) : Type 0 where
  pub page : RecvPage
  pub is_page : open_recv (b.recvs id) ≡ Some page
  pub left : RecvPage
  pub reads : ReadsPage b.error page max_length is_ordered r left
  pub after : c ≡ with_recv b id left

abbrev pub Reads : {T : Type 0} → Book → StreamId → (max_length : ℕ) → (is_ordered : Bool) → Reply T → Book → Type 0
Reads b id max_length is_ordered r c = ((open_recv (b.recvs id.0) ≡ None) × ReadsClosed b.error (b.recvs id.0) max_length r × (c ≡ b)) ⊎ ReadsOpen b id.0 max_length is_ordered r c

-- ---- a stream is stopped: what wasn't read goes

abbrev pub with_stopped : RecvPage → RecvPage
with_stopped p = record (without_unread p) { state = Stopped }

abbrev pub Stops : {T : Type 0} → Book → StreamId → Reply T → Book → Type 0
Stops b id reply.Done c = (p : RecvPage) × (open_recv (b.recvs id.0) ≡ Some p) × (c ≡ with_recv b id.0 (with_stopped p))
Stops b id reply.ClosedStream c = (open_recv (b.recvs id.0) ≡ None) × (c ≡ b)
Stops b id r c = ⊥

-- ---- the peer resets a stream; a reset that is told is given, also if the half was stopped before

abbrev pub code_of : Option RecvPage → Option ℕ
code_of None = None
code_of (Some p) = p.reset_code

abbrev pub with_reset_told : Book → (id : ℕ) → RecvPage → Book
with_reset_told b id p = with_recv b id (record p { state = ResetGiven })

-- the first that fits: the code of a reset, also if a read gave it; None after a stop or a given end; the kept error
abbrev pub TellsReset : {T : Type 0} → Book → StreamId → Reply T → Book → Type 0
TellsReset b id (reply.Code (Some code)) c = (p : RecvPage) × (b.recvs id.0 ≡ Some p) × (p.reset_code ≡ Some code) × (c ≡ with_reset_told b id.0 p)
TellsReset b id (reply.Code None) c = (code_of (b.recvs id.0) ≡ None) × (open_recv (b.recvs id.0) ≡ None) × (c ≡ b)
TellsReset b id (reply.ConnectionLost e) c = (p : RecvPage) × (open_recv (b.recvs id.0) ≡ Some p) × (p.reset_code ≡ None) × (b.error ≡ Some e) × (c ≡ b)
TellsReset b id reply.Pending c = (waits b (waiting.ReceivedReset id) ≡ true) × (c ≡ b)
TellsReset b id r c = ⊥

-- ---- the handle ends: the stream is stopped, unless a read gave its end or an error, or it was stopped

abbrev pub recv_ended : Option RecvPage → Book → (id : ℕ) → Book
recv_ended None b id = b
recv_ended (Some p) b id = if p.gave_error then b else with_recv b id (with_stopped p)

-- nothing of the stream changes once an error is kept
abbrev pub with_recv_ended : Book → (id : ℕ) → Book
with_recv_ended b id = if is_some b.error then b else recv_ended (open_recv (b.recvs id)) b id

-- no handle holds the receiving half of the stream any more
abbrev pub without_reader : (id : ℕ) → Book → Book
without_reader id b = record b { readers = held_without b.readers id }

abbrev pub EndsRecv : {T : Type 0} → Book → StreamId → Reply T → Book → Type 0
EndsRecv b id reply.Done c = c ≡ without_handle (without_reader id.0 (with_recv_ended b id.0))
EndsRecv b id r c = ⊥
