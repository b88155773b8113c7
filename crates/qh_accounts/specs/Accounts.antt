-- Which of the peer's streams are open (RFC 9000, sections 2.1 and 4.6).
use Rattle.std.specs.Prelude.{◌≡◌, ℕ, ◌+◌, ◌≤◌, ◌<◌, ◌^◌, Bool, true, false, Some, if◌then◌else◌}
use Prim.Native.Nat.{zero, suc}
use Rattle.qh_spec.specs.declared.sides.Dir.{Dir}
use Rattle.qh_spec.specs.StreamId.{stream_id}
use Rattle.qh_half.specs.Recv.{PlainRecv, is_done as is_recv_done}
use Rattle.qh_half.specs.Send.{PlainSend, is_done as is_send_done}
use Rattle.qh_halves.specs.Counts.{other_side}
use Rattle.qh_halves.specs.RecvHalves.{recv_at}
use Rattle.qh_halves.specs.SendHalves.{send_at}
use Rattle.qh_streams.specs.Streams.{PlainStreams, counts_of, is_two_way, is_live}

-- how many of the first n numbers, from 0 on, pass the test
abbrev pub count_first : (ℕ → Bool) → (n : ℕ) → ℕ
count_first passes zero = 0
count_first passes (suc n) = (if passes n then 1 else 0) + count_first passes n

-- the peer's stream of a direction and an index is live: a half of it isn't done
abbrev pub is_live_at : PlainStreams → Dir → (index : ℕ) → Bool
is_live_at s dir index = is_live s (stream_id (other_side s.side) dir index)

-- how many of the peer's first n streams of a direction are live
abbrev pub live_of_first : PlainStreams → Dir → (n : ℕ) → ℕ
live_of_first s dir n = count_first (is_live_at s dir) n

-- The peer's streams that arrived are the closed ones and the live ones. No more arrived than the peer was told that it may open; a
-- stream that is live arrived; a half that is there isn't done.
pub record AreAccounted (s : PlainStreams) : Type 0 where
  pub counted : (dir : Dir) → (counts_of s (is_two_way dir)).closed + live_of_first s dir (counts_of s (is_two_way dir)).arrived ≡ (counts_of s (is_two_way dir)).arrived
  pub within : (dir : Dir) → (counts_of s (is_two_way dir)).arrived ≤ (counts_of s (is_two_way dir)).announced.value
  pub bound : (dir : Dir) → (counts_of s (is_two_way dir)).announced.value ≤ 2 ^ 60
  pub arrived : (dir : Dir) (index : ℕ) → is_live_at s dir index ≡ true → index < (counts_of s (is_two_way dir)).arrived
  pub undone_send : (id : ℕ) (h : PlainSend) → send_at s.send id ≡ Some h → is_send_done h ≡ false
  pub undone_recv : (id : ℕ) (r : PlainRecv) → recv_at s.recv id ≡ Some r → is_recv_done r ≡ false
