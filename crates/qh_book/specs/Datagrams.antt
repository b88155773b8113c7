-- What is replied to calls that read and send datagrams (RFC 9221).
use Rattle.std.specs.Prelude.{◌≡◌, ℕ, ◌+◌, ◌<◌, ◌≤◌, nat_le, Bool, true, false, List, [], ◌∷◌, ◌++◌, length, sum, Some, None, is_some, if◌then◌else◌}
use Rattle.qh_book.specs.Book.{Book}
use Rattle.qh_book.specs.Interests.{has_room_for, waits}
use Rattle.qh_book.specs.declared.interest.Interest.TheVariants as waiting
use Rattle.qh_book.specs.declared.reply.Reply.{Reply}
use Rattle.qh_book.specs.declared.reply.Reply.TheVariants as reply

-- a datagram that waits comes first, then the kept error
abbrev pub ReadsDatagram : {T : Type 0} → Book → Reply T → Book → Type 0
ReadsDatagram b (reply.Datagram payload) c = (b.datagrams ≡ payload ∷ c.datagrams) × (c ≡ record b { datagrams = c.datagrams })
ReadsDatagram b (reply.ConnectionLost e) c = (b.datagrams ≡ []) × (b.error ≡ Some e) × (c ≡ b)
ReadsDatagram b reply.Pending c = (waits b waiting.ReadDatagram ≡ true) × (c ≡ b)
ReadsDatagram b r c = ⊥

-- the queued lengths without as few of the oldest as must go so that this many bytes more have room, or without all of them
abbrev pub made_room : (size datagram_send : ℕ) → List ℕ → List ℕ
made_room size datagram_send [] = []
made_room size datagram_send (n ∷ ns) = if nat_le (sum (n ∷ ns) + size) datagram_send then n ∷ ns else made_room size datagram_send ns

abbrev pub IsQueued : Book → (size : ℕ) → (wait : Bool) → Book → Type 0
IsQueued b size true c = (has_room_for b size ≡ true) × (c ≡ record b { queued = b.queued ++ size ∷ [] })
IsQueued b size false c = c ≡ record b { queued = made_room size b.datagram_send b.queued ++ size ∷ [] }

-- a datagram of this many bytes may be sent, if there is room
pub record IsSendable (b : Book) (size : ℕ) : Type 0 where
  pub open_still : b.error ≡ None
  pub is_on : is_some b.datagram_receive ≡ true
  pub most : ℕ
  pub is_most : b.max_datagram_size ≡ Some most
  pub fits : size ≤ most

-- the first that fits: the kept error, that datagrams are off, that the peer takes none, that it is too long
abbrev pub SendsDatagram : {T : Type 0} → Book → List ℕ → (wait : Bool) → Reply T → Book → Type 0
SendsDatagram b payload wait (reply.ConnectionLost e) c = (b.error ≡ Some e) × (c ≡ b)
SendsDatagram b payload wait reply.Disabled c = (b.error ≡ None) × (b.datagram_receive ≡ None) × (c ≡ b)
SendsDatagram b payload wait reply.UnsupportedByPeer c = (b.error ≡ None) × (is_some b.datagram_receive ≡ true) × (b.max_datagram_size ≡ None) × (c ≡ b)
SendsDatagram b payload wait reply.TooLarge c = (most : ℕ) × (b.error ≡ None) × (is_some b.datagram_receive ≡ true) × (b.max_datagram_size ≡ Some most) × (most < length payload) × (c ≡ b)
SendsDatagram b payload wait reply.Done c = IsSendable b (length payload) × IsQueued b (length payload) wait c
SendsDatagram b payload wait reply.Pending c = (wait ≡ true) × (waits b (waiting.SendDatagram (length payload)) ≡ true) × (c ≡ b)
SendsDatagram b payload wait r c = ⊥
