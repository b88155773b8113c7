-- What is replied to calls on the sending half of a stream (RFC 9000, section 3.1).
use Rattle.std.specs.Prelude.{◌≡◌, ◌⊎◌, ℕ, ℤ, ◌+◌, ◌<◌, min, Bool, true, false, ◌&&◌, not, List, ◌++◌, length, take, Option, Some, None, is_some, if◌then◌else◌}
use Rattle.qh_base.specs.declared.stream_id.StreamId.{StreamId}
use Rattle.qh_book.specs.Book.{Book, room, with_send, with_stream_reset, without_handle}
use Rattle.qh_book.specs.Interests.{waits}
use Rattle.qh_book.specs.Pages.{SendPage, Finished, is_reset, is_writing, live_send, open_send}
use Rattle.qh_book.specs.declared.interest.Interest.TheVariants as waiting
use Rattle.qh_book.specs.declared.reply.Reply.{Reply}
use Rattle.qh_book.specs.declared.reply.Reply.TheVariants as reply

-- ---- bytes are written, as many as the limits permit

abbrev pub with_written : Book → (id : ℕ) → List ℕ → SendPage → Book
with_written b id bytes p = record (with_send b id (record p { taken = p.taken + length bytes; unconfirmed = p.unconfirmed ++ bytes })) {
  taken = b.taken + length bytes;
  unconfirmed = b.unconfirmed + length bytes;
}

-- the kept error comes first
abbrev pub Writes : {T : Type 0} → Book → StreamId → List ℕ → Reply T → Book → Type 0
Writes b id payload (reply.ConnectionLost e) c = (b.error ≡ Some e) × (c ≡ b)
Writes b id payload reply.ClosedStream c = (b.error ≡ None) × (open_send (b.sends id.0) ≡ None) × (c ≡ b)
Writes b id payload (reply.Stopped code) c = (p : SendPage) × (b.error ≡ None) × (open_send (b.sends id.0) ≡ Some p) × (p.stop_code ≡ Some code) × (c ≡ b)
Writes b id payload (reply.Count n) c = (p : SendPage) × (b.error ≡ None) × (open_send (b.sends id.0) ≡ Some p) × (p.stop_code ≡ None) × (0 < room b p)
    × (n ≡ min (length payload) (room b p)) × (c ≡ with_written b id.0 (take n payload) p)
Writes b id payload reply.Pending c = (waits b (waiting.Write id) ≡ true) × (c ≡ b)
Writes b id payload r c = ⊥

-- ---- a stream is finished; if the peer asked to stop it, it stays as it is

abbrev pub is_finish_refused : Option SendPage → Bool
is_finish_refused None = true
is_finish_refused (Some p) = not (is_some p.stop_code) && not (is_writing p.state)

abbrev pub IsFinished : Book → (id : ℕ) → SendPage → Book → Type 0
IsFinished b id p c = ((is_some p.stop_code ≡ true) × (c ≡ b)) ⊎ ((p.stop_code ≡ None) × (is_writing p.state ≡ true) × (c ≡ with_send b id (record p { state = Finished })))

abbrev pub Finishes : {T : Type 0} → Book → StreamId → Reply T → Book → Type 0
Finishes b id reply.Done c = (p : SendPage) × (live_send (b.sends id.0) ≡ Some p) × IsFinished b id.0 p c
Finishes b id reply.ClosedStream c = (is_finish_refused (live_send (b.sends id.0)) ≡ true) × (c ≡ b)
Finishes b id r c = ⊥

-- ---- a stream is reset; a finished one can be

abbrev pub is_reset_refused : Option SendPage → Bool
is_reset_refused None = true
is_reset_refused (Some p) = is_reset p.state

abbrev pub Resets : {T : Type 0} → Book → StreamId → (code : ℕ) → Reply T → Book → Type 0
Resets b id code reply.Done c = (p : SendPage) × (live_send (b.sends id.0) ≡ Some p) × (is_reset p.state ≡ false) × (c ≡ with_stream_reset b id.0 code p)
Resets b id code reply.ClosedStream c = (is_reset_refused (live_send (b.sends id.0)) ≡ true) × (c ≡ b)
Resets b id code r c = ⊥

-- ---- the peer stops a stream, or confirms all of it

-- want of memory ended the connection, and took its sending halves
abbrev pub is_gone : Book → Bool
is_gone b = b.is_emptied && is_some b.error

-- as far as is known the peer neither stopped the half nor confirmed all of it: its page is live and has no code, or want of memory took it
abbrev pub IsStopUnknown : Book → (id : ℕ) → Type 0
IsStopUnknown b id = ((p : SendPage) × (live_send (b.sends id) ≡ Some p) × (p.stop_code ≡ None)) ⊎ ((live_send (b.sends id) ≡ None) × (is_gone b ≡ true))

abbrev pub TellsStop : {T : Type 0} → Book → StreamId → Reply T → Book → Type 0
TellsStop b id (reply.Code None) c = (live_send (b.sends id.0) ≡ None) × (is_gone b ≡ false) × (c ≡ b)
TellsStop b id (reply.Code (Some code)) c = (p : SendPage) × (live_send (b.sends id.0) ≡ Some p) × (p.stop_code ≡ Some code) × (c ≡ b)
TellsStop b id (reply.ConnectionLost e) c = IsStopUnknown b id.0 × (b.error ≡ Some e) × (c ≡ b)
TellsStop b id reply.Pending c = (waits b (waiting.Stopped id) ≡ true) × (c ≡ b)
TellsStop b id r c = ⊥

-- ---- priority

abbrev pub SetsPriority : {T : Type 0} → Book → StreamId → ℤ → Reply T → Book → Type 0
SetsPriority b id priority reply.Done c = (p : SendPage) × (live_send (b.sends id.0) ≡ Some p) × (c ≡ with_send b id.0 (record p { priority = priority }))
SetsPriority b id priority reply.ClosedStream c = (live_send (b.sends id.0) ≡ None) × (c ≡ b)
SetsPriority b id priority r c = ⊥

abbrev pub TellsPriority : {T : Type 0} → Book → StreamId → Reply T → Book → Type 0
TellsPriority b id (reply.Priority priority) c = (p : SendPage) × (live_send (b.sends id.0) ≡ Some p) × (priority ≡ p.priority) × (c ≡ b)
TellsPriority b id reply.ClosedStream c = (live_send (b.sends id.0) ≡ None) × (c ≡ b)
TellsPriority b id r c = ⊥

-- ---- the handle ends: the stream is finished, or reset with the peer's code if the peer asked to stop it

abbrev pub send_ended_by : Option ℕ → Book → (id : ℕ) → SendPage → Book
send_ended_by (Some code) b id p = if is_reset p.state then b else with_stream_reset b id code p
send_ended_by None b id p = if is_writing p.state then with_send b id (record p { state = Finished }) else b

abbrev pub send_ended : Option SendPage → Book → (id : ℕ) → Book
send_ended None b id = b
send_ended (Some p) b id = send_ended_by p.stop_code b id p

-- nothing of the stream changes once an error is kept
abbrev pub with_send_ended : Book → (id : ℕ) → Book
with_send_ended b id = if is_some b.error then b else send_ended (live_send (b.sends id)) b id

abbrev pub EndsSend : {T : Type 0} → Book → StreamId → Reply T → Book → Type 0
EndsSend b id reply.Done c = c ≡ without_handle (with_send_ended b id.0)
EndsSend b id r c = ⊥
