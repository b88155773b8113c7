-- What is gathered from datagrams, as lists.
use Rattle.std.specs.Prelude.{ℕ, ◌+◌, Bool, true, false, ◌==◌, ◌&&◌, List, [], ◌∷◌, length, Option, Some, None, if◌then◌else◌}
use Rattle.std.specs.List.{flat_map}
use Rattle.qh_spec.specs.declared.sides.Side.{Side}
use Rattle.qh_spec.specs.declared.sides.Side.TheVariants.{Client, Server}
use Rattle.qh_spec.specs.declared.sides.Space.{Space}
use Rattle.qh_spec.specs.declared.sides.Space.TheVariants.{Initial, Data}
use Rattle.qh_spec.specs.Datagram.{Packet}
use Rattle.qh_spec.specs.FrameViews.{stream_of}
use Rattle.qh_spec.specs.QuicFrame.{StreamFrame}
use Rattle.qh_spec.specs.QuicFrames.{QuicFrame}

-- what was found, as a list
abbrev pub listed : {X : Type 0} → Option X → List X
listed None = []
listed (Some x) = x ∷ []

-- a STREAM frame by its parts
abbrev pub run_from : Bool → ℕ → ℕ → List ℕ → StreamFrame
run_from fin id offset payload = record { id = id; offset = offset; payload = payload; fin = fin }

-- the STREAM frame that a frame is
abbrev pub runs_in : QuicFrame → List StreamFrame
runs_in f = listed (stream_of f)

abbrev pub is_data : Space → Bool
is_data Data = true
is_data Initial = false

abbrev pub same_side : Side → Side → Bool
same_side Client Client = true
same_side Server Server = true
same_side _ _ = false

-- a 1-RTT packet of the sender
abbrev pub from_sender : Side → Packet → Bool
from_sender sender p = is_data p.space && same_side p.sender sender

-- the STREAM frames of a packet, if it is a 1-RTT packet of the sender
abbrev pub runs_of : Side → Packet → List StreamFrame
runs_of sender p = if from_sender sender p then flat_map runs_in p.frames else []

-- bytes with their offsets
abbrev pub placed : ℕ → List ℕ → List (ℕ × ℕ)
placed offset [] = []
placed offset (b ∷ bytes) = (offset, b) ∷ placed (offset + 1) bytes

-- the bytes of a run of the stream
abbrev pub bytes_in : ℕ → StreamFrame → List (ℕ × ℕ)
bytes_in stream run = if run.id == stream then placed run.offset run.payload else []

-- the end that a run of the stream has
abbrev pub ends_in : ℕ → StreamFrame → List ℕ
ends_in stream run = if (run.id == stream) && run.fin then (run.offset + length run.payload) ∷ [] else []
