-- Reading a STREAM frame by the bits of its type, as a function on lists.
use Rattle.std.specs.Prelude.{ℕ, ◌+◌, ◌^◌, nat_lt, Bool, List, [], length, Option, Some, None, if◌then◌else◌}
use Rattle.qh_frame.specs.FieldsAt.{◌>>=◌, number_at, counted_at}
use Rattle.qh_frame.specs.WrittenForm.{stream_form}
use Rattle.qh_spec.specs.QuicFrame.{StreamFrame}
use Rattle.qh_spec.specs.QuicFrames.{QuicFrame}

-- a number where it is there, and else 0
abbrev pub optional_at : Bool → List ℕ → Option (ℕ × List ℕ)
optional_at there bytes = if there then number_at bytes else Some (0, bytes)

-- the bytes behind their length, or all that are left
abbrev pub payload_at : Bool → List ℕ → Option (List ℕ × List ℕ)
payload_at with_length bytes = if with_length then counted_at bytes else Some (bytes, [])

unfoldable pub stream_at : (with_offset with_length fin : Bool) → List ℕ → Option (StreamFrame × List ℕ)
stream_at with_offset with_length fin bytes = do
  id ← number_at bytes
  offset ← optional_at with_offset id.1
  payload ← payload_at with_length offset.1
  Some (record { id = id.0; offset = offset.0; payload = payload.0; fin = fin }, payload.1)

-- no byte lies from 2 ^ 62 on (RFC 9000, section 19.8)
unfoldable pub ranged_stream : Option (StreamFrame × List ℕ) → Option (QuicFrame × List ℕ)
ranged_stream found = found >>= λ s. if nat_lt (s.0.offset + length s.0.payload) (2 ^ 62) then Some (stream_form s.0, s.1) else None
