-- How the receiving halves of a connection's streams stand to what was done with them (RFC 9000, section 2.2).
use Rattle.std.specs.Prelude.{◌≡◌, ℕ, ◌+◌, ◌-◌, ◌≤◌, nat_lt, true, false, List, [], ◌∷◌, length, slice_get, Option, Some, None, Result, Ok, Err}
use Rattle.qh_buffers.specs.Assembler.{to_give, was_given}
use Rattle.qh_buffers.specs.declared.assembler.Chunk.{Chunk}
use Rattle.qh_half.specs.Recv.{PlainRecv, bytes_read, is_closed}
use Rattle.qh_half.specs.declared.fault.ReadFault.{ReadFault}
use Rattle.qh_half.specs.declared.fault.ReadFault.TheVariants.{Reset}
use Rattle.qh_half.specs.declared.recv.RecvState.TheVariants.{Recv}
use Rattle.qh_halves.specs.RecvHalves.{recv_at}
use Rattle.qh_spec.specs.Lists.{In}
use Rattle.qh_spec.specs.QuicFrame.{StreamFrame}
use Rattle.qh_spec.specs.Transcript.{Act, ReadBytes, ReadEnd, ReadReset, pieces_read, read, ended}
use Rattle.qh_streams.specs.Streams.{PlainStreams, was_opened}
use Rattle.qh_streams.specs.declared.frames.StreamFrame.{StreamFrame as Coming}
use Rattle.qh_streams.specs.declared.frames.StreamFrame.TheVariants as coming

-- one of the runs that came has this byte of the stream at this offset
pub record HasCome (came : List StreamFrame) (stream offset byte : ℕ) : Type 0 where
  pub run : StreamFrame
  pub is : In run came
  pub stream_is : run.id ≡ stream
  pub from : run.offset ≤ offset
  pub byte_is : slice_get run.payload (offset - run.offset) ≡ Some byte

-- one of them has the end of the stream at this offset
pub record HasEndCome (came : List StreamFrame) (stream end : ℕ) : Type 0 where
  pub run : StreamFrame
  pub is : In run came
  pub stream_is : run.id ≡ stream
  pub fin : run.fin ≡ true
  pub end_is : end ≡ run.offset + length run.payload

-- in order: exactly the bytes in front were given, as many as readers got
abbrev pub IsReadInOrder : PlainRecv → (count : ℕ) → Type 0
IsReadInOrder r count = (k : ℕ) → was_given r.assembler k ≡ nat_lt k count

-- The half holds what came of its stream, and gave what readers got. Where its end was given it gives no more.
pub record IsReaderOf (came : List StreamFrame) (stream : ℕ) (t : List Act) (r : PlainRecv) : Type 0 where
  pub waits : (k byte : ℕ) → to_give r.assembler k ≡ Some byte → HasCome came stream k byte
  pub size : (n : ℕ) → r.state ≡ Recv (Some n) → HasEndCome came stream n
  pub count : bytes_read r ≡ length (read t stream)
  pub in_order : r.is_unordered ≡ false → IsReadInOrder r (length (read t stream))
  pub ends : ended t stream ≡ true → is_closed r ≡ true

-- The streams stand so to what was done with them where these runs came: each half holds what came, readers got nothing else,
-- an end that they got came behind as many bytes as they got, and of a stream that wasn't opened they got nothing.
pub record StandsIn (s : PlainStreams) (came : List StreamFrame) (t : List Act) : Type 0 where
  pub halves : (id : ℕ) (r : PlainRecv) → recv_at s.recv id ≡ Some r → IsReaderOf came id t r
  pub pieces : (id : ℕ) (piece : ℕ × List ℕ) → In piece (pieces_read t id) → (k byte : ℕ) → slice_get piece.1 k ≡ Some byte → HasCome came id (piece.0 + k) byte
  pub end : (id : ℕ) → ended t id ≡ true → HasEndCome came id (length (read t id))
  pub unopened : (id : ℕ) → was_opened s id ≡ false → (recv_at s.recv id ≡ None) × (pieces_read t id ≡ []) × (ended t id ≡ false)

-- a piece that a reader got: nothing where it has no byte
abbrev pub piece_acts : (stream offset : ℕ) → (bytes : List ℕ) → List Act
piece_acts stream offset [] = []
piece_acts stream offset bytes = ReadBytes stream offset bytes ∷ []

-- what a read adds that answers so
abbrev pub read_acts : (stream : ℕ) → Result (Option Chunk) ReadFault → List Act
read_acts stream (Ok (Some c)) = piece_acts stream c.offset c.bytes
read_acts stream (Ok None) = ReadEnd stream ∷ []
read_acts stream (Err (Reset code)) = ReadReset stream code ∷ []
read_acts stream (Err other) = []

-- what a call adds that tells of a reset
abbrev pub reset_acts : (stream : ℕ) → Option ℕ → List Act
reset_acts stream (Some code) = ReadReset stream code ∷ []
reset_acts stream None = []

-- acts that give readers nothing
pub record ReadNothing (u : List Act) : Type 0 where
  pub pieces : (id : ℕ) → pieces_read u id ≡ []
  pub ends : (id : ℕ) → ended u id ≡ false

-- what a frame carries of a stream came
abbrev pub IsCarried : (came : List StreamFrame) → Coming → Type 0
IsCarried came (coming.Stream id offset payload fin) = In (record { id = id.0; offset = offset; payload = payload; fin = fin }) came
IsCarried came other = Unit {0}
