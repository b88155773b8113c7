-- The book of a connection: plain data by which it is said what calls may reply. It has no packets, acknowledgements, timers or wakers.
use Rattle.std.specs.Prelude.{ℕ, ◌-◌, ◌/◌, ◌%◌, ◌==◌, nat_lt, min, Bool, false, ◌&&◌, ◌||◌, not, List, [], length, sum, Option, Some, None, is_some, if◌then◌else◌}
use Rattle.qh_base.specs.declared.connection_error.ConnectionError.{ConnectionError}
use Rattle.qh_base.specs.declared.connection_error.ConnectionError.TheVariants.{LocallyClosed}
use Rattle.qh_base.specs.declared.path.FourTuple.{FourTuple}
use Rattle.qh_book.specs.Pages.{SendPage, RecvPage, Tally, no_streams, put_at, with_reset}
use Rattle.qh_book.specs.declared.interest.Interest.{Interest}
use Rattle.qh_spec.specs.StreamId.{side_bit}
use Rattle.qh_spec.specs.declared.sides.Dir.{Dir}
use Rattle.qh_spec.specs.declared.sides.Dir.TheVariants.{Bi, Uni}
use Rattle.qh_spec.specs.declared.sides.Side.{Side}

pub record Book : Type 0 where
  pub side : Side
  pub addresses : FourTuple
  pub stable_id : ℕ
  pub is_connected : Bool
  -- why the connection is lost, if it is
  pub error : Option ConnectionError
  -- the halves of streams by their ids; a half that was never there has no page
  pub sends : ℕ → Option SendPage
  pub recvs : ℕ → Option RecvPage
  -- the streams whose receiving half a handle holds, by their ids
  pub readers : ℕ → Bool
  -- want of memory ended the connection: of its sending halves nothing is known any more
  pub is_emptied : Bool
  pub bi : Tally
  pub uni : Tally
  -- the peer's first limits on the bytes of a two-way and of a one-way stream that this end opens
  pub first_bi : ℕ
  pub first_uni : ℕ
  -- the peer's limit on the bytes of all streams, and how many were written
  pub credit_to : ℕ
  pub taken : ℕ
  -- how many bytes may be unconfirmed, and how many are
  pub send_window : ℕ
  pub unconfirmed : ℕ
  -- the datagrams that wait to be read, the oldest first
  pub datagrams : List (List ℕ)
  -- how many bytes they may have; None if datagrams are off
  pub datagram_receive : Option ℕ
  -- the lengths of the datagrams that are queued to be sent, the oldest first, and how many bytes these may have
  pub queued : List ℕ
  pub datagram_send : ℕ
  -- the longest datagram that may be sent, if it is known
  pub max_datagram_size : Option ℕ
  -- how many handles there are
  pub handles : ℕ
  -- the calls that wait: each stands once, however often it answered Pending
  pub interests : Interest → Bool

-- before the first call: one handle
abbrev pub first_book : Side → FourTuple → (stable_id send_window : ℕ) → (datagram_receive : Option ℕ) → (datagram_send : ℕ) → Book
first_book side addresses stable_id send_window datagram_receive datagram_send = record {
  side = side;
  addresses = addresses;
  stable_id = stable_id;
  is_connected = false;
  error = None;
  sends = λ k. None;
  recvs = λ k. None;
  readers = λ k. false;
  is_emptied = false;
  bi = no_streams;
  uni = no_streams;
  first_bi = 0;
  first_uni = 0;
  credit_to = 0;
  taken = 0;
  send_window = send_window;
  unconfirmed = 0;
  datagrams = [];
  datagram_receive = datagram_receive;
  queued = [];
  datagram_send = datagram_send;
  max_datagram_size = None;
  handles = 1;
  interests = λ i. false;
}

-- ---- streams (RFC 9000, section 2.1)

-- this end opens the stream of an id
abbrev pub is_own : Side → (id : ℕ) → Bool
is_own side id = side_bit side == id % 2

-- both ends send on it
abbrev pub is_two_way : (id : ℕ) → Bool
is_two_way id = id / 2 % 2 == 0

-- how many of its kind come before it
abbrev pub index_of : (id : ℕ) → ℕ
index_of id = id / 4

abbrev pub dir_of : (id : ℕ) → Dir
dir_of id = if is_two_way id then Bi else Uni

-- this end reads it
abbrev pub is_read : Book → (id : ℕ) → Bool
is_read b id = not (is_own b.side id) || is_two_way id

-- the stream was opened, by this end or by the peer
abbrev pub was_opened : Book → (id : ℕ) → Bool
was_opened b id = nat_lt (index_of id) (if is_own b.side id then (if is_two_way id then b.bi.opened else b.uni.opened) else (if is_two_way id then b.bi.arrived else b.uni.arrived))

abbrev pub tally : Book → Dir → Tally
tally b Bi = b.bi
tally b Uni = b.uni

abbrev pub with_tally : Book → Dir → Tally → Book
with_tally b Bi t = record b { bi = t }
with_tally b Uni t = record b { uni = t }

abbrev pub with_send : Book → (id : ℕ) → SendPage → Book
with_send b id p = record b { sends = put_at b.sends id p }

abbrev pub with_recv : Book → (id : ℕ) → RecvPage → Book
with_recv b id p = record b { recvs = put_at b.recvs id p }

-- a handle holds the receiving half of this stream too
abbrev pub held_with : (readers : ℕ → Bool) → (id : ℕ) → (ℕ → Bool)
held_with readers id = λ k. k == id || readers k

-- no handle holds that of this one any more
abbrev pub held_without : (readers : ℕ → Bool) → (id : ℕ) → (ℕ → Bool)
held_without readers id = λ k. not (k == id) && readers k

-- the half is reset, and its bytes no longer count as unconfirmed
abbrev pub with_stream_reset : Book → (id code : ℕ) → SendPage → Book
with_stream_reset b id code p = record (with_send b id (with_reset code p)) { unconfirmed = b.unconfirmed - length p.unconfirmed }

-- how many bytes more may be written to a stream: by its limit, by that of all streams, and by the send window
abbrev pub room : Book → SendPage → ℕ
room b p = min (p.credit_to - p.taken) (min (b.credit_to - b.taken) (b.send_window - b.unconfirmed))

-- ---- datagrams

-- how many bytes more may be queued
abbrev pub datagram_room : Book → ℕ
datagram_room b = b.datagram_send - sum b.queued

-- ---- the end of a connection

-- The connection is closed by this end, whatever error was kept before. No call waits any more.
abbrev pub with_close : Book → Book
with_close b = record b { error = Some LocallyClosed; interests = λ i. false }

-- the last handle that goes closes the connection, if no error is kept
abbrev pub closed_if_last : Book → Book
closed_if_last b = if b.handles == 0 && not (is_some b.error) then with_close b else b

abbrev pub without_handle : Book → Book
without_handle b = closed_if_last (record b { handles = b.handles - 1 })
