-- What one step of a write or a read of a message does.
use Rattle.std.specs.Prelude.{◌≡◌, ◌⊎◌, ℕ, ◌<◌, min, false, List, [], ◌++◌, length, take, Option, Some, None, Result, Ok, Err}
use Rattle.qh_base.specs.declared.memory.Memory.{Memory as OutOfMemory}
use Rattle.qh_buffers.specs.declared.assembler.Chunk.{Chunk}
use Rattle.qh_core.specs.Streams.{IsWriteRefused}
use Rattle.qh_core.specs.declared.fault.TakeFault.{TakeFault}
use Rattle.qh_core.specs.declared.fault.TakeFault.TheVariants.{Read}
use Rattle.qh_core.specs.declared.inner.Inner.{Inner}
use Rattle.qh_half.specs.Send.{PlainSend, credit}
use Rattle.qh_half.specs.declared.fault.WriteFault.{WriteFault}
use Rattle.qh_halves.specs.SendHalves.{finish_fault_at, send_at, write_limit}
use Rattle.qh_half.specs.declared.fault.ReadFault.TheVariants as waiting
use Rattle.qh_halves.specs.RecvHalves.{PlainRecvHalves}
use Rattle.qh_roles.specs.Going.{WentFrom}
use Rattle.qh_roles.specs.Streams.{AreOn, GivesNoMore, IsUnread, WaitsToRead}
use Rattle.qh_roles.specs.declared.incoming.ReadState.{ReadState}
use Rattle.qh_roles.specs.declared.incoming.ReadState.TheVariants.{Blocked}
use Rattle.qh_spec.specs.Transcript.{Act, written, finished}

-- the bytes that a write took which answers so
abbrev pub pushed : {E : Type 0} → (bytes : List ℕ) → Result ℕ E → List ℕ
pushed bytes (Ok n) = take n bytes
pushed bytes (Err e) = []

-- how far a read is behind a step that answers so: where the step tells nothing more may wait
abbrev pub so_far : Result (Option ReadState) OutOfMemory → Result ReadState OutOfMemory
so_far (Ok None) = Ok Blocked
so_far (Ok (Some state)) = Ok state
so_far (Err e) = Err e

-- what a read that answers so tells of the receiving half of its stream: bytes are given, and memory wanted for them, only while
-- the half gives more
abbrev pub IsTaken : (stream : ℕ) → Result (Option Chunk) TakeFault → (old new : PlainRecvHalves) → Type 0
IsTaken stream (Ok None) old new = Unit {0}
IsTaken stream (Ok (Some c)) old new = (GivesNoMore old stream → ⊥) × (GivesNoMore new stream → GivesNoMore old stream)
IsTaken stream (Err (Read waiting.Blocked)) old new = WaitsToRead new stream
IsTaken stream (Err (Read waiting.Memory)) old new = GivesNoMore old stream → ⊥
IsTaken stream (Err other) old new = GivesNoMore old stream

module _ {S : Type 0} where
  -- behind this transcript these bytes were written on the stream, which wasn't finished
  pub record Pushes (start : Inner S) (before : List Act) (stream : ℕ) (bytes : List ℕ) (new : Inner S) (t : List Act) : Type 0 where
    pub acts : List Act
    pub on : AreOn stream acts
    pub unread : IsUnread acts stream
    pub written_is : written acts stream ≡ bytes
    pub unfinished : finished acts stream ≡ false
    pub follows : WentFrom start before new (t ++ acts)

  -- so many of the bytes were taken for the stream, as the credit permitted, and it may be finished
  pub record Took (stream : ℕ) (bytes : List ℕ) (n : ℕ) (old new : Inner S) : Type 0 where
    pub half : PlainSend
    pub half_is : send_at old.space.streams.send stream ≡ Some half
    pub count_is : n ≡ min (length bytes) (credit half (write_limit old.space.streams.send))
    pub unfinished : finish_fault_at new.space.streams.send stream ≡ None

  -- how many of the bytes were taken for the stream, or why none was; no bytes change nothing
  abbrev pub IsPushed : (stream : ℕ) → (bytes : List ℕ) → Result ℕ WriteFault → (old new : Inner S) → Type 0
  IsPushed stream bytes (Ok n) old new = ((length bytes ≡ 0) × (n ≡ 0) × (new ≡ old)) ⊎ Took stream bytes n old new
  IsPushed stream bytes (Err e) old new = (0 < length bytes) × IsWriteRefused stream e old new
