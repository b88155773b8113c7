-- What the calls on streams do with them (RFC 9000, sections 2 and 3).
use Rattle.std.specs.Prelude.{◌≡◌, ℕ, ℤ, Bool, List, Option, Result}
use Rattle.qh_buffers.specs.declared.assembler.Chunk.{Chunk}
use Rattle.qh_core.specs.Streams.{IsRead}
use Rattle.qh_half.specs.declared.fault.ReadFault.{ReadFault}
use Rattle.qh_half.specs.declared.fault.WriteFault.{WriteFault}
use Rattle.qh_halves.specs.RecvHalves.{IsRecvStep, Stops, TakesReset}
use Rattle.qh_halves.specs.SendHalves.{Finishes, HasPriority, IsResetWith, IsStep, Takes}
use Rattle.qh_spec.specs.StreamId.{stream_id}
use Rattle.qh_spec.specs.declared.sides.Dir.{Dir}
use Rattle.qh_streams.specs.Streams.{PlainStreams, IsOpened, IsPolled, counted_closed, counts_of, is_live, is_two_way, with_accepted, with_blocked, with_counts}
use Rattle.qh_streams.specs.declared.frames.StreamEvent.{StreamEvent}

-- A call opened a stream, or gave one that the peer opened; it wrote, finished, reset or moved one, or was refused; it read, or
-- stopped one, or gave the peer's reset; it set how many streams may be open, or a window; or it told what happened.
pub data IsCall (old new : PlainStreams) : Type 0 where
  same : new ≡ old → IsCall old new
  opened : (id : ℕ) (dir : Dir) → id ≡ stream_id old.side dir (counts_of old (is_two_way dir)).opened → IsOpened old new id → IsCall old new
  accepted : (dir : Dir) → new ≡ with_counts old (is_two_way dir) (with_accepted (counts_of old (is_two_way dir))) → IsCall old new
  takes : (id count : ℕ) (bytes : List ℕ) → IsStep (Takes bytes) old.send new.send id count → new ≡ record old { send = new.send } → IsCall old new
  finishes : (id : ℕ) → IsStep Finishes old.send new.send id 0 → new ≡ record old { send = new.send } → IsCall old new
  resets : (id code : ℕ) → IsStep (IsResetWith code) old.send new.send id 0 → new ≡ record old { send = new.send } → IsCall old new
  goes_first : (id : ℕ) (priority : ℤ) → IsStep (HasPriority priority) old.send new.send id 0 → new ≡ record old { send = new.send } → IsCall old new
  refused : (id : ℕ) (fault : WriteFault) → new ≡ with_blocked old id fault → IsCall old new
  reads : (max_length : ℕ) (ordered : Bool) (id : ℕ) (answer : Result (Option Chunk) ReadFault) → IsRead max_length ordered id answer old new → IsCall old new
  stops : (id code : ℕ) → IsRecvStep (Stops code) old.recv new.recv id 0 → new ≡ counted_closed (record old { recv = new.recv }) id (is_live old id) → IsCall old new
  takes_reset : (id : ℕ) (code : Option ℕ) → IsRecvStep (TakesReset code) old.recv new.recv id 0 → new ≡ counted_closed (record old { recv = new.recv }) id (is_live old id) → IsCall old new
  concurrent : (dir : Dir) (count : ℕ) → new ≡ with_counts old (is_two_way dir) (record (counts_of old (is_two_way dir)) { max_concurrent = count }) → IsCall old new
  send_window : (bytes : ℕ) → new ≡ record old { send = record old.send { send_window = bytes } } → IsCall old new
  receive_window : (bytes : ℕ) → new ≡ record old { recv = record old.recv { receive_window = bytes } } → IsCall old new
  polls : (e : Option StreamEvent) → IsPolled old new e → IsCall old new

-- the peer permits as many streams of each direction as before, and as many of its own arrived
abbrev pub ToldTheSame : (old new : PlainStreams) → Type 0
ToldTheSame old new = (two_way : Bool) → ((counts_of new two_way).max_opened ≡ (counts_of old two_way).max_opened) × ((counts_of new two_way).arrived ≡ (counts_of old two_way).arrived)
