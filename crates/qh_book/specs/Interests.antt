-- Calls that wait.
use Rattle.std.specs.Prelude.{ℕ, zero, suc, ◌+◌, ◌==◌, nat_le, Bool, true, false, ◌&&◌, ◌||◌, not, length, sum, Option, Some, None, is_some, if◌then◌else◌}
use Rattle.qh_book.specs.Book.{Book, room, tally}
use Rattle.qh_book.specs.Pages.{SendPage, RecvPage, is_empty, live_send, open_send, open_recv, unread_at}
use Rattle.qh_book.specs.declared.call.Call.{Call}
use Rattle.qh_book.specs.declared.call.Call.TheVariants as call
use Rattle.qh_book.specs.declared.interest.Interest.{Interest}
use Rattle.qh_book.specs.declared.interest.Interest.TheVariants as waiting
use Rattle.qh_book.specs.declared.reply.Reply.{Reply}
use Rattle.qh_book.specs.declared.reply.Reply.TheVariants as reply
use Rattle.qh_spec.specs.declared.sides.Dir.{Dir}
use Rattle.qh_spec.specs.declared.sides.Dir.TheVariants.{Bi, Uni}

-- the call as one that waits; those that never wait have none
abbrev pub interest_of : Call → Option Interest
interest_of call.Connecting = Some waiting.Connecting
interest_of call.HandshakeData = Some waiting.HandshakeData
interest_of (call.Open dir) = Some (waiting.Open dir)
interest_of (call.Accept dir) = Some (waiting.Accept dir)
interest_of (call.Read id max_length is_ordered) = if max_length == 0 then None else Some (waiting.Read id is_ordered)
interest_of (call.Write id payload) = Some (waiting.Write id)
interest_of (call.Stopped id) = Some (waiting.Stopped id)
interest_of (call.ReceivedReset id) = Some (waiting.ReceivedReset id)
interest_of call.ReadDatagram = Some waiting.ReadDatagram
interest_of (call.SendDatagram payload wait) = if wait then Some (waiting.SendDatagram (length payload)) else None
interest_of call.Closed = Some waiting.Closed
interest_of other = None

-- ---- which calls have no other reply than Pending

-- a byte that a read may give: in order the next one, otherwise any
abbrev pub has_unread_below : RecvPage → (end : ℕ) → Bool
has_unread_below p zero = false
has_unread_below p (suc k) = is_some (unread_at p k) || has_unread_below p k

abbrev pub has_next : RecvPage → (is_ordered : Bool) → Bool
has_next p true = is_some (unread_at p p.next)
has_next p false = has_unread_below p p.unread_to

abbrev pub is_size : Option ℕ → (read : ℕ) → Bool
is_size None read = false
is_size (Some size) read = read == size

-- all bytes up to the end were read
abbrev pub is_at_end : RecvPage → Bool
is_at_end p = is_size p.end p.read

-- a read in this order isn't permitted any more
abbrev pub is_out_of_order : RecvPage → (is_ordered : Bool) → Bool
is_out_of_order p is_ordered = is_ordered && p.is_unordered

-- a read that is permitted has no bytes, no end and no reset to give
abbrev pub is_blocked : RecvPage → (is_ordered : Bool) → Bool
is_blocked p is_ordered = not (is_some p.reset_code) && (not (has_next p is_ordered) && not (is_at_end p))

abbrev pub read_waits : (is_ordered : Bool) → Option RecvPage → Bool
read_waits is_ordered None = false
read_waits is_ordered (Some p) = not (is_out_of_order p is_ordered) && is_blocked p is_ordered

abbrev pub reset_waits : Option RecvPage → Bool
reset_waits None = false
reset_waits (Some p) = not (is_some p.reset_code)

abbrev pub write_waits : Book → Option SendPage → Bool
write_waits b None = false
write_waits b (Some p) = not (is_some p.stop_code) && room b p == 0

abbrev pub stop_waits : Option SendPage → Bool
stop_waits None = false
stop_waits (Some p) = not (is_some p.stop_code)

abbrev pub is_within : (size : ℕ) → Option ℕ → Bool
is_within size None = false
is_within size (Some most) = nat_le size most

-- a datagram of this many bytes fits behind those that are queued
abbrev pub has_room_for : Book → (size : ℕ) → Bool
has_room_for b size = nat_le (sum b.queued + size) b.datagram_send

-- a call on a receiving half waits only while a handle holds that half
abbrev pub waits_open : Book → Interest → Bool
waits_open b waiting.Connecting = not b.is_connected
waits_open b waiting.HandshakeData = not b.is_connected
waits_open b (waiting.Open dir) = nat_le (tally b dir).permitted (tally b dir).opened
waits_open b (waiting.Accept dir) = nat_le (tally b dir).arrived (tally b dir).accepted
waits_open b (waiting.Read id is_ordered) = b.readers id.0 && read_waits is_ordered (open_recv (b.recvs id.0))
waits_open b (waiting.Write id) = write_waits b (open_send (b.sends id.0))
waits_open b (waiting.Stopped id) = stop_waits (live_send (b.sends id.0))
waits_open b (waiting.ReceivedReset id) = b.readers id.0 && reset_waits (open_recv (b.recvs id.0))
waits_open b waiting.ReadDatagram = is_empty b.datagrams
waits_open b (waiting.SendDatagram size) = is_some b.datagram_receive && (is_within size b.max_datagram_size && not (has_room_for b size))
waits_open b waiting.Closed = true

-- The call has no other reply than Pending. None waits once an error is kept. That of `HandshakeData` may have a reply before, which the book
-- doesn't have.
abbrev pub waits : Book → Interest → Bool
waits b i = not (is_some b.error) && waits_open b i

-- ---- the interests of a book: a set

abbrev pub is_same_dir : Dir → Dir → Bool
is_same_dir Bi Bi = true
is_same_dir Uni Uni = true
is_same_dir dir other = false

-- an order of reads
abbrev pub is_same_order : Bool → Bool → Bool
is_same_order true other = other
is_same_order false other = not other

-- the two interests are equal
abbrev pub is_same : Interest → Interest → Bool
is_same waiting.Connecting waiting.Connecting = true
is_same waiting.HandshakeData waiting.HandshakeData = true
is_same (waiting.Open dir) (waiting.Open other) = is_same_dir dir other
is_same (waiting.Accept dir) (waiting.Accept other) = is_same_dir dir other
is_same (waiting.Read id is_ordered) (waiting.Read other order) = id.0 == other.0 && is_same_order is_ordered order
is_same (waiting.Write id) (waiting.Write other) = id.0 == other.0
is_same (waiting.Stopped id) (waiting.Stopped other) = id.0 == other.0
is_same (waiting.ReceivedReset id) (waiting.ReceivedReset other) = id.0 == other.0
is_same waiting.ReadDatagram waiting.ReadDatagram = true
is_same (waiting.SendDatagram size) (waiting.SendDatagram other) = size == other
is_same waiting.Closed waiting.Closed = true
is_same i j = false

abbrev pub with_interest : Option Interest → Book → Book
with_interest None b = b
with_interest (Some i) b = record b { interests = λ j. b.interests j || is_same i j }

-- Pending registers the interest
abbrev pub registered : {T : Type 0} → Call → Reply T → Book → Book
registered c reply.Pending b = with_interest (interest_of c) b
registered c other b = b

-- the interests go that have another reply now
abbrev pub settled : Book → Book
settled b = record b { interests = λ i. b.interests i && waits b i }
