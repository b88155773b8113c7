-- What was done with an end of a connection, one list in the order of time (own).
use Rattle.std.specs.Prelude.{ℕ, ◌==◌, Bool, false, ◌||◌, List, [], ◌∷◌, ◌++◌, if◌then◌else◌}

-- one thing that was done (own)
pub data Act : Type 0 where
  -- a datagram was handed in
  HandedIn : (datagram : List ℕ) → Act
  -- a datagram was handed out
  HandedOut : (datagram : List ℕ) → Act
  -- bytes were taken from a writer on a stream
  Wrote : (stream : ℕ) (bytes : List ℕ) → Act
  -- a writer finished a stream
  Finished : (stream : ℕ) → Act
  -- a writer reset a stream, with this code
  Reset : (stream code : ℕ) → Act
  -- a reader stopped a stream, with this code
  Stopped : (stream code : ℕ) → Act
  -- a reader of a stream was given bytes, which stand at this offset
  ReadBytes : (stream offset : ℕ) (bytes : List ℕ) → Act
  -- a reader of a stream was told its end
  ReadEnd : (stream : ℕ) → Act
  -- a reader of a stream was told that it was reset, with this code
  ReadReset : (stream code : ℕ) → Act

-- x where the streams are one, and else y (own)
abbrev pub if_same_stream : {X : Type 0} → (id stream : ℕ) → X → X → X
if_same_stream id stream x y = if stream == id then x else y

-- the datagrams that an act handed in (own)
abbrev pub in_of : Act → List (List ℕ)
in_of (HandedIn d) = d ∷ []
in_of _ = []

-- the datagrams that an act handed out (own)
abbrev pub out_of : Act → List (List ℕ)
out_of (HandedOut d) = d ∷ []
out_of _ = []

-- the bytes that an act took from a writer on this stream (own)
abbrev pub written_of : ℕ → Act → List ℕ
written_of id (Wrote s bytes) = if_same_stream id s bytes []
written_of id _ = []

-- the act finished this stream (own)
abbrev pub finishes : ℕ → Act → Bool
finishes id (Finished s) = s == id
finishes id _ = false

-- the act reset this stream (own)
abbrev pub resets : ℕ → Act → Bool
resets id (Reset s code) = s == id
resets id _ = false

-- the bytes that an act gave to a reader of this stream, with their offset (own)
abbrev pub pieces_of : ℕ → Act → List (ℕ × List ℕ)
pieces_of id (ReadBytes s offset bytes) = if_same_stream id s ((offset, bytes) ∷ []) []
pieces_of id _ = []

-- the act told a reader of this stream its end (own)
abbrev pub ends : ℕ → Act → Bool
ends id (ReadEnd s) = s == id
ends id _ = false

-- the datagrams handed in, in order (own)
abbrev pub handed_in : List Act → List (List ℕ)
handed_in [] = []
handed_in (a ∷ t) = in_of a ++ handed_in t

-- the datagrams handed out, in order (own)
abbrev pub handed_out : List Act → List (List ℕ)
handed_out [] = []
handed_out (a ∷ t) = out_of a ++ handed_out t

-- the bytes taken from writers on a stream, in order (own)
abbrev pub written : List Act → ℕ → List ℕ
written [] id = []
written (a ∷ t) id = written_of id a ++ written t id

-- a writer finished the stream (own)
abbrev pub finished : List Act → ℕ → Bool
finished [] id = false
finished (a ∷ t) id = finishes id a || finished t id

-- a writer reset the stream (own)
abbrev pub was_reset : List Act → ℕ → Bool
was_reset [] id = false
was_reset (a ∷ t) id = resets id a || was_reset t id

-- the pieces that readers of a stream were given, with their offsets, in the order in which they were given (own)
abbrev pub pieces_read : List Act → ℕ → List (ℕ × List ℕ)
pieces_read [] id = []
pieces_read (a ∷ t) id = pieces_of id a ++ pieces_read t id

-- the bytes of these pieces, in the order in which they were given (own)
abbrev pub joined : List (ℕ × List ℕ) → List ℕ
joined [] = []
joined (p ∷ ps) = p.1 ++ joined ps

-- the bytes that readers of a stream were given, in the order in which they were given (own)
abbrev pub read : List Act → ℕ → List ℕ
read t id = joined (pieces_read t id)

-- a reader was told the stream's end (own)
abbrev pub ended : List Act → ℕ → Bool
ended [] id = false
ended (a ∷ t) id = ends id a || ended t id
