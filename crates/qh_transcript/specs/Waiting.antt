-- What came of a connection's streams isn't lost (RFC 9000, section 2.2).
use Rattle.std.specs.Prelude.{◌≡◌, ◌⊎◌, ℕ, true, false, is_some, List, [], ◌∷◌, Some}
use Rattle.qh_buffers.specs.Assembler.{to_give, was_given}
use Rattle.qh_half.specs.Recv.{PlainRecv, is_reset, keeps_bytes}
use Rattle.qh_half.specs.declared.recv.RecvState.TheVariants.{Recv}
use Rattle.qh_halves.specs.RecvHalves.{recv_at}
use Rattle.qh_spec.specs.Lists.{In}
use Rattle.qh_spec.specs.QuicFrame.{StreamFrame}
use Rattle.qh_streams.specs.Streams.{PlainStreams, was_opened}
use Rattle.qh_streams.specs.declared.frames.StreamFrame.{StreamFrame as Coming}
use Rattle.qh_streams.specs.declared.frames.StreamFrame.TheVariants as coming
use Rattle.qh_transcript.specs.Receiving.{HasCome, HasEndCome}

-- a read gave the byte at an offset, or one waits there to be given
abbrev pub IsHeld : PlainRecv → (offset : ℕ) → Type 0
IsHeld r k = (was_given r.assembler k ≡ true) ⊎ (is_some (to_give r.assembler k) ≡ true)

-- The half has what came of its stream: each byte was given or waits, unless the stream was stopped or reset, and the end is
-- known, unless it was reset.
pub record HasWhatCame (came : List StreamFrame) (stream : ℕ) (r : PlainRecv) : Type 0 where
  pub bytes : (k byte : ℕ) → HasCome came stream k byte → keeps_bytes r ≡ true → IsHeld r k
  pub end : (n : ℕ) → HasEndCome came stream n → is_reset r.state ≡ false → r.state ≡ Recv (Some n)

-- Where these runs came nothing of them is lost: each is one of a stream that was opened, and whose half, where it isn't done,
-- has what came. A half is done once its end or its reset was given, or it was stopped and its final size came.
pub record KeepsWhatCame (s : PlainStreams) (came : List StreamFrame) : Type 0 where
  pub halves : (id : ℕ) (r : PlainRecv) → recv_at s.recv id ≡ Some r → HasWhatCame came id r
  pub opened : (run : StreamFrame) → In run came → was_opened s run.id ≡ true

-- the run of a STREAM frame
abbrev pub runs_in : Coming → List StreamFrame
runs_in (coming.Stream id offset payload fin) = record { id = id.0; offset = offset; payload = payload; fin = fin } ∷ []
runs_in other = []
