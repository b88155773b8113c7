-- Readers of a stream.
use Rattle.std.specs.Prelude.{◌≡◌, ℕ, Option, Some, None, Result, Ok, Err}
use Rattle.qh_buffers.specs.declared.assembler.Chunk.{Chunk}
use Rattle.qh_half.specs.declared.fault.ReadFault.{ReadFault}
use Rattle.qh_half.specs.declared.fault.ReadFault.TheVariants.{Reset as WasReset}
use Rattle.qh_streams.specs.declared.halves.ChunksState.{ChunksState}
use Rattle.qh_streams.specs.declared.halves.ChunksState.TheVariants.{Readable, Finished, Reset}
use Rattle.qh_halves.specs.RecvHalves.{IsRecvStep, Reads}
use Rattle.qh_streams.specs.Streams.{PlainStreams, counted_closed, is_live}

-- what a reader got to by an answer
abbrev pub state_after : Result (Option Chunk) ReadFault → ChunksState
state_after (Ok None) = Finished
state_after (Ok (Some chunk)) = Readable
state_after (Err (WasReset code)) = Reset code
state_after (Err other) = Readable

-- what a reader that got to its end gives again
abbrev pub last_answer : ChunksState → Option (Result (Option Chunk) ReadFault)
last_answer Readable = None
last_answer Finished = Some (Ok None)
last_answer (Reset code) = Some (Err (WasReset code))

-- the answer of a reader: that of the stream, or what was given last, the end or the reset
pub data IsChunk (old new : PlainStreams) (id max_length : ℕ) : (before after : ChunksState) → Result (Option Chunk) ReadFault → Type 0 where
  read : (result : Result (Option Chunk) ReadFault) → IsRecvStep (Reads max_length result) old.recv new.recv id 0
      → new ≡ counted_closed (record old { recv = new.recv }) id (is_live old id) → IsChunk old new id max_length Readable (state_after result) result
  finished : new ≡ old → IsChunk old new id max_length Finished Finished (Ok None)
  was_reset : (code : ℕ) → new ≡ old → IsChunk old new id max_length (Reset code) (Reset code) (Err (WasReset code))
