-- What the calls on streams answer (RFC 9000, sections 2 and 3).
use Rattle.std.specs.Prelude.{◌≡◌, ℕ, ◌||◌, Bool, true, false, Option, Some, None, Result, Err}
use Rattle.qh_buffers.specs.declared.assembler.Chunk.{Chunk}
use Rattle.qh_core.specs.Inner.{is_open, with_streams}
use Rattle.qh_core.specs.declared.fault.TakeFault.{TakeFault}
use Rattle.qh_core.specs.declared.fault.TakeFault.TheVariants.{Readable, Read}
use Rattle.qh_core.specs.declared.inner.Inner.{Inner}
use Rattle.qh_half.specs.declared.fault.ReadFault.{ReadFault}
use Rattle.qh_half.specs.declared.fault.WriteFault.{WriteFault}
use Rattle.qh_half.specs.declared.fault.WriteFault.TheVariants.{Blocked, Memory}
use Rattle.qh_halves.specs.RecvHalves.{IsRecvStep, Reads, Begins, is_wanting, readable_fault_at}
use Rattle.qh_halves.specs.SendHalves.{write_fault_at}
use Rattle.qh_streams.specs.Streams.{PlainStreams, counted_closed, is_live, with_blocked, MayWantMemory}

-- a read that begins, in order or not, and answers so; where memory lacks for the answer none out of order is begun
pub record IsRead (max_length : ℕ) (ordered : Bool) (id : ℕ) (answer : Result (Option Chunk) ReadFault) (old new : PlainStreams) : Type 0 where
  pub mid : PlainStreams
  pub readable : readable_fault_at old.recv id ordered ≡ None
  pub begun : IsRecvStep (Begins (ordered || is_wanting answer)) old.recv mid.recv id 0
  pub mid_is : mid ≡ record old { recv = mid.recv }
  pub reads : IsRecvStep (Reads max_length answer) mid.recv new.recv id 0
  pub new_is : new ≡ counted_closed (record mid { recv = new.recv }) id (is_live mid id)

-- why nothing is read: the stream can't be read, or the read says so
abbrev pub IsReadFault : (max_length : ℕ) → (ordered : Bool) → (id : ℕ) → TakeFault → (old new : PlainStreams) → Type 0
IsReadFault max_length ordered id (Readable fault) old new = (readable_fault_at old.recv id ordered ≡ Some fault) × (new ≡ old)
IsReadFault max_length ordered id (Read fault) old new = IsRead max_length ordered id (Err fault) old new

module _ {S : Type 0} where
  -- why nothing is written: the connection is closed, memory lacks for bytes or to note a writer, or the stream takes nothing
  pub data IsWriteRefused (id : ℕ) (e : WriteFault) (old new : Inner S) : Type 0 where
    closed : is_open old.state ≡ false → e ≡ Blocked → new ≡ old → IsWriteRefused id e old new
    wanting : is_open old.state ≡ true → MayWantMemory old.space.streams id → e ≡ Memory → new ≡ old → IsWriteRefused id e old new
    refused : is_open old.state ≡ true → write_fault_at old.space.streams.send id ≡ Some e → new ≡ with_streams old (with_blocked old.space.streams id e) → IsWriteRefused id e old new
