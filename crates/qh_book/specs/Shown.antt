-- How a book stands to the streams and the datagrams of a connection: it shows them. Of a half that is done the connection has nothing any more,
-- and the book a page that says so.
use Rattle.std.specs.Prelude.{◌≡◌, ℕ, ◌+◌, ◌==◌, nat_lt, Bool, true, false, ◌&&◌, List, [], length, map, Option, Some, None, is_some, if◌then◌else◌}
use Rattle.qh_book.specs.Book.{Book, held_with, is_read, was_opened}
use Rattle.qh_book.specs.Opening.{handles_of, held_by_opener}
use Rattle.qh_book.specs.Pages.{SendPage, SendState, Writing, Finished, WasReset, RecvPage, RecvState, Reading, ResetGiven, Tally, no_streams, is_open, is_send_done, unread_at}
use Rattle.qh_book.specs.Step.{Allows}
use Rattle.qh_book.specs.declared.call.Call.{Call}
use Rattle.qh_book.specs.declared.call.Call.TheVariants as call
use Rattle.qh_book.specs.declared.reply.Reply.{Reply}
use Rattle.qh_book.specs.declared.reply.Reply.TheVariants as reply
use Rattle.qh_buffers.specs.Assembler.{to_give, was_given}
use Rattle.qh_buffers.specs.SendBuffer.{taken_to}
use Rattle.qh_buffers.specs.declared.send_buffer.Mark.TheVariants.{Acked}
use Rattle.qh_datagrams.specs.Datagrams.{PlainDatagrams}
use Rattle.qh_half.specs.Recv.{PlainRecv, bytes_read, final_size, is_done as is_recv_done, reset_code}
use Rattle.qh_half.specs.Send.{PlainSend, is_done, is_reset}
use Rattle.qh_half.specs.declared.fault.FinishFault.{FinishFault}
use Rattle.qh_half.specs.declared.fault.FinishFault.TheVariants as finish
use Rattle.qh_half.specs.declared.fault.WriteFault.{WriteFault}
use Rattle.qh_half.specs.declared.fault.WriteFault.TheVariants as write
use Rattle.qh_half.specs.declared.send.SendState.{SendState as HalfState}
use Rattle.qh_half.specs.declared.send.SendState.TheVariants.{Ready, DataSent, ResetSent}
use Rattle.qh_halves.specs.Counts.{has_recv, has_send}
use Rattle.qh_halves.specs.RecvHalves.{recv_at}
use Rattle.qh_halves.specs.SendHalves.{send_at, unacked}
use Rattle.qh_halves.specs.declared.counts.StreamCounts.{StreamCounts}
use Rattle.qh_streams.specs.Streams.{PlainStreams}

-- ---- sending

abbrev pub state_of : HalfState → SendState
state_of Ready = Writing
state_of (DataSent mark) = Finished
state_of (ResetSent code mark) = WasReset code

-- the end, or after a reset that one, is acknowledged
abbrev pub is_mark_acked : HalfState → Bool
is_mark_acked (DataSent Acked) = true
is_mark_acked (ResetSent code Acked) = true
is_mark_acked other = false

abbrev pub send_page : PlainSend → SendPage
send_page h = record {
  taken = taken_to h.buffer;
  unconfirmed = (if is_reset h.state then [] else h.buffer.bytes);
  state = state_of h.state;
  stop_code = h.stop_reason;
  is_confirmed = is_mark_acked h.state;
  credit_to = h.max_data;
  priority = h.priority;
}

abbrev pub ShowsSend : Option PlainSend → Option SendPage → Type 0
ShowsSend (Some h) (Some p) = (is_done h ≡ false) × (p ≡ send_page h)
ShowsSend (Some h) None = ⊥
ShowsSend None (Some p) = is_send_done p ≡ true
ShowsSend None None = Unit {0}

-- ---- receiving

-- a half that is read
pub record ShowsReading (r : PlainRecv) (p : RecvPage) : Type 0 where
  pub state : p.state ≡ Reading
  pub unread : (k : ℕ) → unread_at p k ≡ to_give r.assembler k
  -- in order the offsets before the next one were read, and no other
  pub next : r.is_unordered ≡ false → (k : ℕ) → p.was_read k ≡ nat_lt k p.next
  pub was_read : (k : ℕ) → p.was_read k ≡ was_given r.assembler k
  pub read : p.read ≡ bytes_read r
  pub end : p.end ≡ final_size r.state
  pub reset_code : p.reset_code ≡ reset_code r.state
  -- what was reset has no bytes
  pub dry : is_some p.reset_code ≡ true → (k : ℕ) → unread_at p k ≡ None
  pub is_unordered : p.is_unordered ≡ r.is_unordered

-- What is noted of a receiving half beside the connection's value: the code of its reset once that was told, or the half was stopped behind it;
-- whether a reply told it; and whether a read gave an error.
pub record Note : Type 0 where
  pub code : Option ℕ
  pub is_told : Bool
  pub gave_error : Bool

abbrev pub no_note : Note
no_note = record { code = None; is_told = false; gave_error = false }

abbrev pub noted : (ℕ → Note) → (id : ℕ) → Note → (ℕ → Note)
noted notes id note = λ k. if k == id then note else notes k

abbrev pub is_reset_given : RecvState → Bool
is_reset_given ResetGiven = true
is_reset_given other = false

-- the page of a half that isn't read any more: of it no reply needs more
pub record IsShut (note : Note) (p : RecvPage) : Type 0 where
  pub shut : is_open p.state ≡ false
  pub code : p.reset_code ≡ note.code
  pub told : is_reset_given p.state ≡ note.is_told

-- the page of one that is read
pub record IsNoted (note : Note) (p : RecvPage) : Type 0 where
  pub none : note.code ≡ None
  pub untold : note.is_told ≡ false
  pub gave_error : p.gave_error ≡ note.gave_error

abbrev pub ShowsHalf : (is_stopped : Bool) → Note → PlainRecv → RecvPage → Type 0
ShowsHalf true note r p = IsShut note p
ShowsHalf false note r p = ShowsReading r p × IsNoted note p

abbrev pub ShowsRecv : Note → Option PlainRecv → Option RecvPage → Type 0
ShowsRecv note (Some r) (Some p) = (is_recv_done r ≡ false) × ShowsHalf r.is_stopped note r p
ShowsRecv note (Some r) None = ⊥
ShowsRecv note None (Some p) = IsShut note p
ShowsRecv note None None = note ≡ no_note

-- ---- all of them

abbrev pub tally_of : StreamCounts → Tally
tally_of c = record { opened = c.opened; permitted = c.max_opened; arrived = c.arrived; accepted = c.accepted }

-- The book shows the streams, with what is noted of receiving halves. A connection that failed for want of memory has no half any more: no book in which
-- one isn't done shows it.
pub record ShowsStreams (s : PlainStreams) (notes : ℕ → Note) (b : Book) : Type 0 where
  pub side : b.side ≡ s.side
  pub sends : (k : ℕ) → ShowsSend (send_at s.send k) (b.sends k)
  pub recvs : (k : ℕ) → ShowsRecv (notes k) (recv_at s.recv k) (b.recvs k)
  -- a half that this end reads has a page exactly if its stream was opened
  pub pages : (k : ℕ) → is_some (b.recvs k) ≡ (is_read b k && was_opened b k)
  -- this end writes to no stream on which the peer alone sends, and reads none on which it alone does
  pub unsent_sides : (k : ℕ) → has_send s.side k ≡ false → send_at s.send k ≡ None
  pub unread_sides : (k : ℕ) → has_recv s.side k ≡ false → recv_at s.recv k ≡ None
  pub bi : b.bi ≡ tally_of s.bi
  pub uni : b.uni ≡ tally_of s.uni
  pub first_bi : b.first_bi ≡ s.peer.bidi_remote
  pub first_uni : b.first_uni ≡ s.peer.uni
  pub credit_to : b.credit_to ≡ s.send.max_data
  pub taken : b.taken ≡ s.send.data_sent
  pub send_window : b.send_window ≡ s.send.send_window
  pub unconfirmed : b.unconfirmed ≡ unacked s.send.halves

-- streams that aren't used yet, and whose peer's limits aren't known
pub record AreFirst (s : PlainStreams) : Type 0 where
  pub sends : (k : ℕ) → send_at s.send k ≡ None
  pub recvs : (k : ℕ) → recv_at s.recv k ≡ None
  pub bi : no_streams ≡ tally_of s.bi
  pub uni : no_streams ≡ tally_of s.uni
  pub first_bi : 0 ≡ s.peer.bidi_remote
  pub first_uni : 0 ≡ s.peer.uni
  pub credit_to : 0 ≡ s.send.max_data
  pub taken : 0 ≡ s.send.data_sent
  pub unconfirmed : 0 ≡ unacked s.send.halves

-- the fields of a book that show streams are the same
pub record SameStreams (b c : Book) : Type 0 where
  pub side : c.side ≡ b.side
  pub sends : c.sends ≡ b.sends
  pub recvs : c.recvs ≡ b.recvs
  pub bi : c.bi ≡ b.bi
  pub uni : c.uni ≡ b.uni
  pub first_bi : c.first_bi ≡ b.first_bi
  pub first_uni : c.first_uni ≡ b.first_uni
  pub credit_to : c.credit_to ≡ b.credit_to
  pub taken : c.taken ≡ b.taken
  pub send_window : c.send_window ≡ b.send_window
  pub unconfirmed : c.unconfirmed ≡ b.unconfirmed

-- nothing but what shows streams changed
abbrev pub IsStreamChange : Book → Book → Type 0
IsStreamChange b c = c ≡ record b {
  sends = c.sends;
  recvs = c.recvs;
  bi = c.bi;
  uni = c.uni;
  first_bi = c.first_bi;
  first_uni = c.first_uni;
  credit_to = c.credit_to;
  taken = c.taken;
  send_window = c.send_window;
  unconfirmed = c.unconfirmed;
}

-- ---- datagrams

-- what bounds a connection's datagrams: how many bytes those that wait to be read may have, None if it takes none; how many bytes those may have that
-- are queued; and the longest that may be sent, None if the peer takes none
pub record DatagramBounds : Type 0 where
  pub receive : Option ℕ
  pub send : ℕ
  pub most : Option ℕ

pub record ShowsDatagrams (d : PlainDatagrams) (l : DatagramBounds) (b : Book) : Type 0 where
  pub datagrams : b.datagrams ≡ d.incoming
  pub queued : b.queued ≡ map (λ (payload : List ℕ). length payload) d.outgoing
  pub receive : b.datagram_receive ≡ l.receive
  pub send : b.datagram_send ≡ l.send
  pub most : b.max_datagram_size ≡ l.most

-- the fields of a book that show datagrams are the same
pub record SameDatagrams (b c : Book) : Type 0 where
  pub datagrams : c.datagrams ≡ b.datagrams
  pub queued : c.queued ≡ b.queued
  pub receive : c.datagram_receive ≡ b.datagram_receive
  pub send : c.datagram_send ≡ b.datagram_send
  pub most : c.max_datagram_size ≡ b.max_datagram_size

-- ---- what is replied when a connection refuses a call

abbrev pub write_reply : {T : Type 0} → WriteFault → Reply T
write_reply write.Blocked = reply.Pending
write_reply (write.Stopped code) = reply.Stopped code
write_reply write.ClosedStream = reply.ClosedStream
write_reply write.Memory = reply.Memory

-- a stream that the peer asked to stop needs no end
abbrev pub finish_reply : {T : Type 0} → FinishFault → Reply T
finish_reply (finish.Stopped code) = reply.Done
finish_reply finish.ClosedStream = reply.ClosedStream

-- ---- a call of a connection is a step of the book

-- the handles then: a stream that is opened or accepted adds some
abbrev pub handles_after : {T : Type 0} → Call → Reply T → Book → ℕ
handles_after (call.Open dir) (reply.Opened id) b = b.handles + handles_of dir
handles_after (call.Accept dir) (reply.Opened id) b = b.handles + handles_of dir
handles_after c r b = b.handles

-- the receiving halves that handles hold then
abbrev pub readers_after : {T : Type 0} → Call → Reply T → Book → (ℕ → Bool)
readers_after (call.Open dir) (reply.Opened id) b = held_by_opener dir id.0 b.readers
readers_after (call.Accept dir) (reply.Opened id) b = held_with b.readers id.0
readers_after c r b = b.readers

-- The book allows the reply, and then shows the streams as they are then, with what is noted then. Nothing else of it changes.
pub record IsStreamStep {T : Type 0} (b : Book) (c : Call) (r : Reply T) (new : PlainStreams) (notes : ℕ → Note) : Type 0 where
  pub after : Book
  pub allows : Allows b c r after
  pub shows : ShowsStreams new notes after
  pub rest : after ≡ record b {
    sends = after.sends;
    recvs = after.recvs;
    readers = readers_after c r b;
    bi = after.bi;
    uni = after.uni;
    taken = after.taken;
    unconfirmed = after.unconfirmed;
    handles = handles_after c r b;
  }

-- the same of its datagrams
pub record IsDatagramStep {T : Type 0} (b : Book) (c : Call) (r : Reply T) (new : PlainDatagrams) (l : DatagramBounds) : Type 0 where
  pub after : Book
  pub allows : Allows b c r after
  pub shows : ShowsDatagrams new l after
  pub rest : after ≡ record b { datagrams = after.datagrams; queued = after.queued }
