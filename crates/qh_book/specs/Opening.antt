-- What is replied to calls that wait for the handshake, and that open and accept streams.
use Rattle.std.specs.Prelude.{◌≡◌, ℕ, ◌+◌, ◌<◌, ◌≤◌, Bool, true, false, Option, Some, None}
use Rattle.qh_book.specs.Book.{Book, held_with, tally, with_tally}
use Rattle.qh_book.specs.Interests.{waits}
use Rattle.qh_book.specs.Pages.{RecvPage, new_recv_page, new_send_page, put_at}
use Rattle.qh_book.specs.declared.interest.Interest.TheVariants as waiting
use Rattle.qh_book.specs.declared.reply.Reply.{Reply}
use Rattle.qh_book.specs.declared.reply.Reply.TheVariants as reply
use Rattle.qh_spec.specs.Link.{other}
use Rattle.qh_spec.specs.StreamId.{stream_id}
use Rattle.qh_spec.specs.declared.sides.Dir.{Dir}
use Rattle.qh_spec.specs.declared.sides.Dir.TheVariants.{Bi, Uni}

abbrev pub Connects : {T : Type 0} → Book → Reply T → Book → Type 0
Connects b reply.Done c = (b.is_connected ≡ true) × (c ≡ b)
Connects b (reply.ConnectionLost e) c = (b.is_connected ≡ false) × (b.error ≡ Some e) × (c ≡ b)
Connects b reply.Pending c = (waits b waiting.Connecting ≡ true) × (c ≡ b)
Connects b r c = ⊥

-- The book doesn't have what the handshake tells. So it allows any value, and a call that waits for it.
abbrev pub TellsHandshake : {T : Type 0} → Book → Reply T → Book → Type 0
TellsHandshake b (reply.Told value) c = c ≡ b
TellsHandshake b (reply.ConnectionLost e) c = (b.error ≡ Some e) × (c ≡ b)
TellsHandshake b reply.Pending c = c ≡ b
TellsHandshake b r c = ⊥

-- ---- streams (RFC 9000, sections 2.1 and 4.6)

abbrev pub first_credit : Book → Dir → ℕ
first_credit b Bi = b.first_bi
first_credit b Uni = b.first_uni

-- a handle for each half that this end has
abbrev pub handles_of : Dir → ℕ
handles_of Bi = 2
handles_of Uni = 1

abbrev pub with_reader : Dir → (id : ℕ) → (ℕ → Option RecvPage) → (ℕ → Option RecvPage)
with_reader Bi id pages = put_at pages id new_recv_page
with_reader Uni id pages = pages

-- the receiving halves that handles hold once this stream is opened by this end
abbrev pub held_by_opener : Dir → (id : ℕ) → (readers : ℕ → Bool) → (ℕ → Bool)
held_by_opener Bi id readers = held_with readers id
held_by_opener Uni id readers = readers

-- the new stream has the first credit of its direction
abbrev pub with_opened : Dir → (id : ℕ) → Book → Book
with_opened dir id b = with_tally
    (record b { sends = put_at b.sends id (new_send_page (first_credit b dir)); recvs = with_reader dir id b.recvs; readers = held_by_opener dir id b.readers; handles = b.handles + handles_of dir })
    dir (record (tally b dir) { opened = (tally b dir).opened + 1 })

-- the kept error comes first
abbrev pub Opens : {T : Type 0} → Book → Dir → Reply T → Book → Type 0
Opens b dir (reply.Opened id) c = (b.error ≡ None) × ((tally b dir).opened < (tally b dir).permitted) × (id.0 ≡ stream_id b.side dir (tally b dir).opened) × (c ≡ with_opened dir id.0 b)
Opens b dir (reply.ConnectionLost e) c = (b.error ≡ Some e) × (c ≡ b)
Opens b dir reply.Pending c = (waits b (waiting.Open dir) ≡ true) × (c ≡ b)
Opens b dir r c = ⊥

-- a handle holds the receiving half of the accepted stream
abbrev pub with_accepted : Dir → Book → Book
with_accepted dir b = with_tally
    (record b { readers = held_with b.readers (stream_id (other b.side) dir (tally b dir).accepted); handles = b.handles + handles_of dir })
    dir (record (tally b dir) { accepted = (tally b dir).accepted + 1 })

-- a stream that waits comes first, then the kept error
abbrev pub Accepts : {T : Type 0} → Book → Dir → Reply T → Book → Type 0
Accepts b dir (reply.Opened id) c = ((tally b dir).accepted < (tally b dir).arrived) × (id.0 ≡ stream_id (other b.side) dir (tally b dir).accepted) × (c ≡ with_accepted dir b)
Accepts b dir (reply.ConnectionLost e) c = ((tally b dir).arrived ≤ (tally b dir).accepted) × (b.error ≡ Some e) × (c ≡ b)
Accepts b dir reply.Pending c = (waits b (waiting.Accept dir) ≡ true) × (c ≡ b)
Accepts b dir r c = ⊥
