-- What a connection knows of its streams came in frames of the peer's: how far each of them reaches, where it ends, and that there is
-- such a stream (RFC 9000, sections 2.1, 4.1 and 4.5).
use Rattle.std.specs.Prelude.{◌≡◌, ◌⊎◌, ℕ, ◌+◌, ◌<◌, ◌≤◌, ◌==◌, ◌^◌, Bool, true, false, List, [], ◌∷◌, length, Some, if◌then◌else◌}
use Rattle.qh_base.specs.declared.connection_error.ConnectionError.TheVariants.{Memory}
use Rattle.qh_core.specs.Follows.{HasComing}
use Rattle.qh_core.specs.declared.inner.Inner.{Inner}
use Rattle.qh_core.specs.declared.state.State.TheVariants.{Drained}
use Rattle.qh_half.specs.Recv.{PlainRecv, final_size}
use Rattle.qh_halves.specs.Counts.{is_bi, is_own, index_of}
use Rattle.qh_halves.specs.RecvHalves.{recv_at}
use Rattle.qh_spec.specs.Carried.{HasRun}
use Rattle.qh_spec.specs.Link.{other}
use Rattle.qh_spec.specs.Lists.{In}
use Rattle.qh_spec.specs.Tag.{IsTag}
use Rattle.qh_spec.specs.Transcript.{Act, handed_in}
use Rattle.qh_spec.specs.declared.sides.Side.{Side}
use Rattle.qh_spec.specs.declared.sides.Space.{Space}
use Rattle.qh_streams.specs.Streams.{PlainStreams, counts_of, was_opened}
use Rattle.qh_streams.specs.declared.frames.StreamFrame.{StreamFrame}
use Rattle.qh_streams.specs.declared.frames.StreamFrame.TheVariants as coming

-- ---- frames that came

-- One of the datagrams has a 1-RTT packet of this sender with this frame: with a STREAM frame in whatever form, which has an offset
-- or none, and a length or none (RFC 9000, section 19.8).
abbrev pub CameIn : (id_length : ℕ) → (datagrams : List (List ℕ)) → (sender : Side) → StreamFrame → Type 0
CameIn id_length datagrams sender (coming.Stream id offset payload fin) = HasRun id_length datagrams sender (record { id = id.0; offset = offset; payload = payload; fin = fin })
CameIn id_length datagrams sender f = HasComing id_length datagrams sender f

-- how far the frame reaches on the stream: a STREAM frame to the end of its bytes, a RESET_STREAM to its final size
abbrev pub Reaches : (stream to : ℕ) → StreamFrame → Type 0
Reaches stream to (coming.Stream id offset payload fin) = (id.0 ≡ stream) × (offset + length payload ≡ to)
Reaches stream to (coming.Reset id code size) = (id.0 ≡ stream) × (size ≡ to)
Reaches stream to other = ⊥

-- the frame says that the stream has this final size: a STREAM frame with FIN, a RESET_STREAM
abbrev pub EndsAt : (stream size : ℕ) → StreamFrame → Type 0
EndsAt stream size (coming.Stream id offset payload fin) = (id.0 ≡ stream) × (fin ≡ true) × (offset + length payload ≡ size)
EndsAt stream size (coming.Reset id code known) = (id.0 ≡ stream) × (known ≡ size)
EndsAt stream size other = ⊥

-- the frame names the stream
abbrev pub Names : (stream : ℕ) → StreamFrame → Type 0
Names stream (coming.Stream id offset payload fin) = id.0 ≡ stream
Names stream (coming.Reset id code size) = id.0 ≡ stream
Names stream (coming.Stop id code) = id.0 ≡ stream
Names stream (coming.MaxStreamData id limit) = id.0 ≡ stream
Names stream other = ⊥

-- the frame names a stream of the peer's, of this direction, with this index or a greater one
pub record NamesPast (side : Side) (two_way : Bool) (index : ℕ) (f : StreamFrame) : Type 0 where
  pub stream : ℕ
  pub names : Names stream f
  pub peers : is_own side stream ≡ false
  pub direction : is_bi stream ≡ two_way
  pub past : index ≤ index_of stream

-- it holds of one of the frames
pub record IsAny (P : StreamFrame → Type 0) (frames : List StreamFrame) : Type 0 where
  pub frame : StreamFrame
  pub among : In frame frames
  pub is : P frame

-- ---- how far each stream reaches

-- 0 where the stream isn't among them
abbrev pub end_of : (ends : List (ℕ × ℕ)) → (stream : ℕ) → ℕ
end_of [] stream = 0
end_of (e ∷ es) stream = if e.0 == stream then e.1 else end_of es stream

abbrev pub sum_of : (ends : List (ℕ × ℕ)) → ℕ
sum_of [] = 0
sum_of (e ∷ es) = e.1 + sum_of es

-- no stream stands twice
abbrev pub AreApart : (ends : List (ℕ × ℕ)) → Type 0
AreApart [] = Unit {0}
AreApart (e ∷ es) = ((to : ℕ) → In (e.0, to) es → ⊥) × AreApart es

-- ---- the streams

-- What the streams know came in these frames. So far each stream reaches, by a frame, and all that was received is the sum of that.
-- A half's end is how far its stream reaches; a stream that wasn't opened reaches to 0. A final size that a half knows was said by a
-- frame. The streams of the peer's that arrived were named, or one behind them.
pub record AreReached (side : Side) (s : PlainStreams) (frames : List StreamFrame) : Type 0 where
  pub side_is : s.side ≡ side
  pub ends : List (ℕ × ℕ)
  pub apart : AreApart ends
  pub came : (stream to : ℕ) → In (stream, to) ends → IsAny (Reaches stream to) frames
  pub total : s.recv.received ≡ sum_of ends
  pub halves : (stream : ℕ) (h : PlainRecv) → recv_at s.recv stream ≡ Some h → h.end ≡ end_of ends stream
  pub unopened : (stream : ℕ) → was_opened s stream ≡ false → end_of ends stream ≡ 0
  pub sizes : (stream size : ℕ) (h : PlainRecv) → recv_at s.recv stream ≡ Some h → final_size h.state ≡ Some size → IsAny (EndsAt stream size) frames
  pub arrived : (two_way : Bool) (index : ℕ) → index < (counts_of s two_way).arrived → IsAny (NamesPast side two_way index) frames

-- nothing came yet
pub record HasNothingYet (side : Side) (s : PlainStreams) : Type 0 where
  pub side_is : s.side ≡ side
  pub no_half : s.recv.halves ≡ []
  pub received : s.recv.received ≡ 0
  pub arrived : (two_way : Bool) → (counts_of s two_way).arrived ≡ 0

-- Of what came these streams know what those did: the halves and what was received, and which streams were opened and arrived.
pub record IsUntouched (old new : PlainStreams) : Type 0 where
  pub halves : new.recv.halves ≡ old.recv.halves
  pub received : new.recv.received ≡ old.recv.received
  pub opened : (stream : ℕ) → was_opened new stream ≡ was_opened old stream
  pub side : new.side ≡ old.side
  pub arrived : (two_way : Bool) → (counts_of new two_way).arrived ≡ (counts_of old two_way).arrived

-- a tag that is accepted names its sender, its space and its number
abbrev pub AreNamed : (accepts : Side → Space → ℕ → List ℕ → Bool) → Type 0
AreNamed accepts = (from : Side) (space : Space) (number : ℕ) (tag : List ℕ) → number < 2 ^ 62 → accepts from space number tag ≡ true → IsTag tag from space number

module _ {S : Type 0} where
  -- what a connection knows of its streams came in datagrams
  pub record Reached (c : Inner S) (t : List Act) : Type 0 where
    pub frames : List StreamFrame
    pub came : (f : StreamFrame) → In f frames → CameIn (length c.local_id) (handed_in t) (other c.side) f
    pub are : AreReached c.side c.space.streams frames

  -- want of memory ended the connection: it is drained
  abbrev pub IsLostForMemory : Inner S → Type 0
  IsLostForMemory c = (c.state ≡ Drained) × (c.error ≡ Some Memory)

-- what the connection knows of its streams came by what was done so far, unless want of memory ended it
unfoldable pub HasReached : {S : Type 0} → Inner S → List Act → Type 0
HasReached c t = Reached c t ⊎ IsLostForMemory c
