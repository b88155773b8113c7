-- What is owed is queued or out: whatever a mark says was sent stands in a frame that is out (RFC 9002, section 2).
use Rattle.std.specs.Prelude.{◌≡◌, ◌⊎◌, ℕ, ℤ, ◌<◌, ◌≤◌, Bool, true, false, List, [], ◌∷◌, Option, Some, Result}
use Rattle.qh_buffers.specs.SendBuffer.{mark_at}
use Rattle.qh_buffers.specs.declared.send_buffer.Mark.TheVariants.{Sent}
use Rattle.qh_buffers.specs.declared.assembler.Chunk.{Chunk}
use Rattle.qh_half.specs.declared.fault.ReadFault.{ReadFault}
use Rattle.qh_spec.specs.Lists.{In}
use Rattle.qh_spec.specs.declared.sides.Dir.{Dir}
use Rattle.qh_streams.specs.declared.frames.SentFrame.{SentFrame}
use Rattle.qh_streams.specs.declared.frames.SentFrame.TheVariants as sent
use Rattle.qh_half.specs.declared.send.SendState.TheVariants.{DataSent, ResetSent}
use Rattle.qh_half.specs.Send.{PlainSend, is_reset}
use Rattle.qh_halves.specs.SendHalves.{PlainSendHalves, send_at, IsStep, Takes, Finishes, IsResetWith, HasPriority, IsStoppedWith, HasLimit}
use Rattle.qh_half.specs.Recv.{PlainRecv}
use Rattle.qh_halves.specs.RecvHalves.{PlainRecvHalves, recv_at, IsRecvStep, IsPieceTaken, IsResetTaken, Reads, Begins, Stops, TakesReset}
use Rattle.qh_streams.specs.Streams.{PlainStreams, counts_of, is_two_way}

-- one of the frames is so
abbrev pub OneIs : (SentFrame → Type 0) → List SentFrame → Type 0
OneIs P [] = ⊥
OneIs P (f ∷ fs) = P f ⊎ OneIs P fs

-- the frame has the byte of a stream at an offset
abbrev pub HasByte : (id offset : ℕ) → SentFrame → Type 0
HasByte id n (sent.Stream s piece) = (s.0 ≡ id) × (piece.offsets.start ≤ n) × (n < piece.offsets.end)
HasByte id n other = ⊥

abbrev pub HasEnd : (id : ℕ) → SentFrame → Type 0
HasEnd id (sent.Stream s piece) = (s.0 ≡ id) × (piece.fin ≡ true)
HasEnd id other = ⊥

abbrev pub HasReset : (id : ℕ) → SentFrame → Type 0
HasReset id (sent.ResetStream s reset_frame) = s.0 ≡ id
HasReset id other = ⊥

abbrev pub HasStop : (id : ℕ) → SentFrame → Type 0
HasStop id (sent.StopSending s code) = s.0 ≡ id
HasStop id other = ⊥

abbrev pub HasStreamLimit : (id limit : ℕ) → SentFrame → Type 0
HasStreamLimit id limit (sent.MaxStreamData s value) = (s.0 ≡ id) × (value ≡ limit)
HasStreamLimit id limit other = ⊥

abbrev pub HasDataLimit : (limit : ℕ) → SentFrame → Type 0
HasDataLimit limit (sent.MaxData value) = value ≡ limit
HasDataLimit limit other = ⊥

abbrev pub HasCount : Dir → (count : ℕ) → SentFrame → Type 0
HasCount dir count (sent.MaxStreams d value) = (d ≡ dir) × (value ≡ count)
HasCount dir count other = ⊥

-- Each byte, end, reset, stop and limit that counts as sent stands in one of these frames. What doesn't count as sent is
-- queued, acknowledged, or was never sent; so what is owed is queued or stands in a frame that is out.
pub record AreTracked (s : PlainStreams) (fs : List SentFrame) : Type 0 where
  pub bytes : (id n : ℕ) (h : PlainSend) → send_at s.send id ≡ Some h → is_reset h.state ≡ false → mark_at h.buffer n ≡ Some Sent → OneIs (HasByte id n) fs
  pub ends : (id : ℕ) (h : PlainSend) → send_at s.send id ≡ Some h → h.state ≡ DataSent Sent → OneIs (HasEnd id) fs
  pub resets : (id code : ℕ) (h : PlainSend) → send_at s.send id ≡ Some h → h.state ≡ ResetSent code Sent → OneIs (HasReset id) fs
  pub stops : (id code : ℕ) (r : PlainRecv) → recv_at s.recv id ≡ Some r → r.stop_frame ≡ Some (record { code = code; mark = Sent }) → OneIs (HasStop id) fs
  pub stream_limits : (id : ℕ) (r : PlainRecv) → recv_at s.recv id ≡ Some r → r.limit_mark ≡ Sent → OneIs (HasStreamLimit id r.sent_max_stream_data) fs
  pub data_limit : s.recv.announced.mark ≡ Sent → OneIs (HasDataLimit s.recv.announced.value) fs
  pub counts : (dir : Dir) → (counts_of s (is_two_way dir)).announced.mark ≡ Sent → OneIs (HasCount dir (counts_of s (is_two_way dir)).announced.value) fs

-- each of these frames is one of those
abbrev pub AreAmong : (fs gs : List SentFrame) → Type 0
AreAmong fs gs = (f : SentFrame) → In f fs → In f gs

-- ---- steps by which nothing is newly sent

-- a call of a writer's, a STOP_SENDING or a MAX_STREAM_DATA frame of the peer's
pub data IsSendingStep (old new : PlainSendHalves) (id : ℕ) : Type 0 where
  takes : (taken : ℕ) (bytes : List ℕ) → IsStep (Takes bytes) old new id taken → IsSendingStep old new id
  finishes : IsStep Finishes old new id 0 → IsSendingStep old new id
  resets : (code : ℕ) → IsStep (IsResetWith code) old new id 0 → IsSendingStep old new id
  priority : (priority : ℤ) → IsStep (HasPriority priority) old new id 0 → IsSendingStep old new id
  stopped : (code : ℕ) → IsStep (IsStoppedWith code) old new id 0 → IsSendingStep old new id
  limit : (max : ℕ) → IsStep (HasLimit max) old new id 0 → IsSendingStep old new id

-- a call of a reader's, a STREAM or a RESET_STREAM frame of the peer's
pub data IsReceivingStep (old new : PlainRecvHalves) (id : ℕ) : Type 0 where
  reads : (max_length : ℕ) (answer : Result (Option Chunk) ReadFault) → IsRecvStep (Reads max_length answer) old new id 0 → IsReceivingStep old new id
  begins : (ordered : Bool) → IsRecvStep (Begins ordered) old new id 0 → IsReceivingStep old new id
  stops : (code : ℕ) → IsRecvStep (Stops code) old new id 0 → IsReceivingStep old new id
  takes_reset : (code : Option ℕ) → IsRecvStep (TakesReset code) old new id 0 → IsReceivingStep old new id
  ingested : (piece : Chunk) (fin : Bool) → IsPieceTaken old new id piece fin → IsReceivingStep old new id
  reset : (code size : ℕ) → IsResetTaken old new id code size → IsReceivingStep old new id

-- the counts that were announced, and what was done with them, are the same
abbrev pub SameCounts : PlainStreams → PlainStreams → Type 0
SameCounts old new = (dir : Dir) → (counts_of new (is_two_way dir)).announced ≡ (counts_of old (is_two_way dir)).announced

-- no half yet, and no frame out with a limit or a count
pub record IsFresh (s : PlainStreams) : Type 0 where
  pub no_send : s.send.halves ≡ []
  pub no_recv : s.recv.halves ≡ []
  pub limit : s.recv.announced.mark ≡ Sent → ⊥
  pub counts : (dir : Dir) → (counts_of s (is_two_way dir)).announced.mark ≡ Sent → ⊥
