-- A call that hands no datagram in or out adds acts without one.
use Rattle.std.proofs.Common.{ℕ, List, [], ◌∷◌, Option, Some, None, Result, Ok, Err, refl}
use Rattle.qh_buffers.specs.declared.assembler.Chunk.{Chunk}
use Rattle.qh_converse.proofs.ShakeLaws.{AreQuiet, both_quiet}
use Rattle.qh_core.specs.Follows.{take_acts}
use Rattle.qh_core.specs.Made.{AreMadeLocally, IsLocalCall, IsStreamCall}
use Rattle.qh_core.specs.Made.AreSteps.{none as no_step, more as one_step}
use Rattle.qh_core.specs.Made.IsLocalCall.{timeout, closed, polled, endpoint_polled, on_streams, turned}
use Rattle.qh_core.specs.Made.IsStreamCall.{unchanged, opened, accepted, wrote, unwritten, finished, reset, prioritized, read, stopped, took_reset, concurrent, send_window, receive_window}
use Rattle.qh_core.specs.declared.fault.TakeFault.{TakeFault}
use Rattle.qh_core.specs.declared.fault.TakeFault.TheVariants.{Readable, Read}
use Rattle.qh_core.specs.declared.inner.Inner.{Inner}
use Rattle.qh_half.specs.declared.fault.ReadFault.TheVariants.{Blocked, Reset, Memory}
use Rattle.qh_spec.specs.Transcript.{Act}
use Rattle.qh_transcript.specs.Receiving.{piece_acts, reset_acts}

piece_quiet : (stream offset : ℕ) (bytes : List ℕ) → AreQuiet (piece_acts stream offset bytes)
piece_quiet stream offset [] = tt
piece_quiet stream offset (b ∷ bytes) = (record { into = refl; out = refl }, tt)

take_quiet : (stream : ℕ) (answer : Result (Option Chunk) TakeFault) → AreQuiet (take_acts stream answer)
take_quiet stream (Ok (Some chunk)) = piece_quiet stream chunk.offset chunk.bytes
take_quiet stream (Ok None) = (record { into = refl; out = refl }, tt)
take_quiet stream (Err (Readable fault)) = tt
take_quiet stream (Err (Read Blocked)) = tt
take_quiet stream (Err (Read (Reset code))) = (record { into = refl; out = refl }, tt)
take_quiet stream (Err (Read Memory)) = tt

reset_quiet : (stream : ℕ) (code : Option ℕ) → AreQuiet (reset_acts stream code)
reset_quiet stream None = tt
reset_quiet stream (Some code) = (record { into = refl; out = refl }, tt)

module _ {S : Type 0} where
  stream_quiet : (old new : Inner S) (acts : List Act) → IsStreamCall old new acts → AreQuiet acts
  stream_quiet old new _ (unchanged _) = tt
  stream_quiet old new _ (opened _ _ _ _ _ _ _) = tt
  stream_quiet old new _ (accepted _ _ _) = tt
  stream_quiet old new _ (wrote _ _ _ _ _ _ _) = (record { into = refl; out = refl }, tt)
  stream_quiet old new _ (unwritten _ _ _) = tt
  stream_quiet old new _ (finished _ _ _) = (record { into = refl; out = refl }, tt)
  stream_quiet old new _ (reset _ _ _ _) = (record { into = refl; out = refl }, tt)
  stream_quiet old new _ (prioritized _ _ _ _) = tt
  stream_quiet old new _ (read _ _ id answer _ _ _) = take_quiet id answer
  stream_quiet old new _ (stopped _ _ _ _) = (record { into = refl; out = refl }, tt)
  stream_quiet old new _ (took_reset id code _ _) = reset_quiet id code
  stream_quiet old new _ (concurrent _ _ _) = tt
  stream_quiet old new _ (send_window _ _) = tt
  stream_quiet old new _ (receive_window _ _) = tt

  local_quiet : (old new : Inner S) (acts : List Act) → IsLocalCall old new acts → AreQuiet acts
  local_quiet old new _ (timeout _ _ _) = tt
  local_quiet old new _ (closed _ _ _ _ _) = tt
  local_quiet old new _ (polled _ _) = tt
  local_quiet old new _ (endpoint_polled _ _) = tt
  local_quiet old new _ (on_streams acts call) = stream_quiet old new acts call
  local_quiet old new _ (turned _) = tt

  pub locally_quiet : (old new : Inner S) (acts : List Act) → AreMadeLocally old new acts → AreQuiet acts
  locally_quiet old new _ (no_step) = tt
  locally_quiet old new _ (one_step mid _ front last before step) = both_quiet front last (locally_quiet old mid front before) (local_quiet mid new last step.0)
