-- Each call of the streams and of their halves carries the account of the peer's streams on.
use Rattle.std.proofs.Common.{◌≡◌, ℕ, ◌<◌, ◌==◌, max, Bool, true, false, List, Option, Some, None, Result, IfSome, if◌then◌else◌, refl, ap, arith, inl, inr}
use Rattle.qh_base.specs.declared.stream_id.StreamId.{StreamId}
use Rattle.qh_buffers.specs.declared.assembler.Chunk.{Chunk}
use Rattle.qh_half.specs.declared.fault.ReadFault.{ReadFault}
use Rattle.qh_half.specs.declared.fault.WriteFault.{WriteFault}
use Rattle.qh_half.specs.declared.fault.WriteFault.TheVariants.{Memory, Blocked, ClosedStream, Stopped}
use Rattle.qh_halves.specs.declared.counts.StreamCounts.{StreamCounts}
use Rattle.qh_halves.specs.Counts.{with_max_opened, other_side}
use Rattle.qh_halves.specs.RecvHalves.{PlainRecvHalves, IsBegunRead, IsRecvStep, Begins}
use Rattle.qh_halves.specs.SendHalves.{PlainSendHalves, write_limit}
use Rattle.qh_spec.specs.StreamId.{stream_id}
use Rattle.qh_spec.specs.declared.sides.Dir.{Dir}
use Rattle.qh_streams.specs.Halves.{IsChunk}
use Rattle.qh_streams.specs.Halves.IsChunk.{read as read_chunk, finished as finished_chunk, was_reset as reset_chunk}
use Rattle.qh_streams.specs.Streams.{PlainStreams, IsPolled, counted_closed, counts_of, is_live, is_two_way, with_accepted, with_blocked, with_counts, with_peer}
use Rattle.qh_streams.specs.Streams.IsPolled.{writable as writable_polled, queued as queued_polled, none as none_polled}
use Rattle.qh_streams.specs.Tracked.{IsReceivingStep, IsSendingStep}
use Rattle.qh_streams.specs.Tracked.IsReceivingStep.{reads, begins, stops, takes_reset, ingested, reset as reset_taken}
use Rattle.qh_streams.specs.Tracked.IsSendingStep.{takes, finishes, resets, priority as priority_set, stopped, limit as limit_raised}
use Rattle.qh_streams.specs.declared.frames.PeerLimits.{PeerLimits}
use Rattle.qh_streams.specs.declared.frames.StreamEvent.{StreamEvent}
use Rattle.qh_streams.specs.declared.halves.ChunksState.{ChunksState}
use Rattle.qh_streams.proofs.StreamsSettled.{counts_alone}
use Rattle.qh_accounts.specs.Accounts.{AreAccounted}
use Rattle.qh_accounts.proofs.AccountedLike.{AreRecvUndone, AreSendUndone, IsNear, alike_accounted, closed_accounted, near_same, side_with}
use Rattle.qh_accounts.proofs.AccountedSteps.{AreSendSame, AreRecvSame, AreRecvStepped, alike, begin_keeps, read_stepped, recv_kept, recv_stepped, same_recv, same_send, send_same_stepped, step_same, stepped}
use Rattle.qh_accounts.proofs.PeerIds.{counts_now}

-- ---- if the halves are the same

pub record HasSameHalves (old new : PlainStreams) : Type 0 where
  pub side_is : new.side ≡ old.side
  pub send_is : new.send.halves ≡ old.send.halves
  pub recv_is : new.recv.halves ≡ old.recv.halves

pub near_accounted : (old new : PlainStreams) → HasSameHalves old new → ((dir : Dir) → IsNear (counts_of old (is_two_way dir)) (counts_of new (is_two_way dir))) → AreAccounted old → AreAccounted new
near_accounted old new same counts a = alike_accounted old new (record {
  side_is = same.side_is;
  live = λ dir n. rw (same.send_is, same.recv_is) refl;
  undone_send = λ id h is. a.undone_send id h (rw same.send_is at is);
  undone_recv = λ id r is. a.undone_recv id r (rw same.recv_is at is);
  counts = counts;
}) a

pub others_accounted : (old new : PlainStreams) → HasSameHalves old new → new.bi ≡ old.bi → new.uni ≡ old.uni → AreAccounted old → AreAccounted new
others_accounted old new same bi uni a = alike_accounted old new (alike old new same.side_is bi uni (same_send same.send_is a.undone_send) (same_recv same.recv_is a.undone_recv)) a

-- the counts of a direction are set
near_at : (s : PlainStreams) (two_way b : Bool) (c : StreamCounts) → IsNear (counts_of s two_way) c → IsNear (counts_of s b) (counts_of (with_counts s two_way c) b)
near_at s two_way b c near = elim (counts_now s two_way b c) [
  | inl here ↦ let is = here.1 in rw is (rw here.0 near)
  | inr away ↦ let is = away.1 in rw is (near_same _)
]

pub counts_accounted : (s : PlainStreams) (two_way : Bool) (c : StreamCounts) → IsNear (counts_of s two_way) c → AreAccounted s → AreAccounted (with_counts s two_way c)
counts_accounted s two_way c near a =
    let alone = counts_alone s two_way c in
    near_accounted s (with_counts s two_way c) (record { side_is = side_with s two_way c; send_is = ap (λ (h : PlainSendHalves). h.halves) alone.send_is; recv_is = ap (λ (h : PlainRecvHalves). h.halves) alone.recv_is })
    (λ dir. near_at s two_way (is_two_way dir) c near) a

pub set_accounted : (old new : PlainStreams) (dir : Dir) (c : StreamCounts) → IsNear (counts_of old (is_two_way dir)) c → new ≡ with_counts old (is_two_way dir) c → AreAccounted old → AreAccounted new
set_accounted old new dir c near e a = rw e (counts_accounted old (is_two_way dir) c near a)

-- ---- limits and settings

pub peer_accounted : (old new : PlainStreams) (peer : PeerLimits) → new ≡ with_peer old peer → AreAccounted old → AreAccounted new
peer_accounted old new peer e a = rw e (near_accounted old (with_peer old peer) (record { side_is = refl; send_is = refl; recv_is = refl }) (λ dir. near dir) a) where
  set : (c : StreamCounts) (n : ℕ) → IsNear c (with_max_opened n c)
  set c n = record { closed = refl; arrived = refl; more = omega arith; bound = λ b. b }

  by_dir : (b : Bool) → IsNear (counts_of old b) (counts_of (with_peer old peer) b)
  by_dir true = set old.bi peer.max_bidi
  by_dir false = set old.uni peer.max_uni

  near : (dir : Dir) → IsNear (counts_of old (is_two_way dir)) (counts_of (with_peer old peer) (is_two_way dir))
  near dir = by_dir (is_two_way dir)

pub concurrent_accounted : (old new : PlainStreams) (dir : Dir) (count : ℕ) → new ≡ with_counts old (is_two_way dir) (record (counts_of old (is_two_way dir)) { max_concurrent = count }) → AreAccounted old → AreAccounted new
concurrent_accounted old new dir count e a = set_accounted old new dir _ (record { closed = refl; arrived = refl; more = omega arith; bound = λ b. b }) e a

pub send_window_accounted : (old new : PlainStreams) (bytes : ℕ) → new ≡ record old { send = record old.send { send_window = bytes } } → AreAccounted old → AreAccounted new
send_window_accounted old new bytes e a = rw e (others_accounted old _ (record { side_is = refl; send_is = refl; recv_is = refl }) refl refl a)

pub receive_window_accounted : (old new : PlainStreams) (bytes : ℕ) → new ≡ record old { recv = record old.recv { receive_window = bytes } } → AreAccounted old → AreAccounted new
receive_window_accounted old new bytes e a = rw e (others_accounted old _ (record { side_is = refl; send_is = refl; recv_is = refl }) refl refl a)

pub accept_accounted : (old new : PlainStreams) (dir : Dir) (result : Option StreamId)
    → IfSome result (λ id. (id.0 ≡ stream_id (other_side old.side) dir (counts_of old (is_two_way dir)).accepted)
    × ((counts_of old (is_two_way dir)).accepted < (counts_of old (is_two_way dir)).arrived)
    × (new ≡ with_counts old (is_two_way dir) (with_accepted (counts_of old (is_two_way dir)))))
    → (result ≡ None → ((counts_of old (is_two_way dir)).accepted ≡ (counts_of old (is_two_way dir)).arrived) × (new ≡ old)) → AreAccounted old → AreAccounted new
accept_accounted old new dir None some none a = rw (none refl).1 a
accept_accounted old new dir (Some id) some none a = set_accounted old new dir _ (record { closed = refl; arrived = refl; more = omega arith; bound = λ b. b }) some.2 a

-- ---- writers

pub send_accounted : (old new : PlainStreams) → AreSendSame old.send new.send → new ≡ record old { send = new.send } → AreAccounted old → AreAccounted new
send_accounted old new same e a = alike_accounted old new (alike old new (ap (λ (s : PlainStreams). s.side) e) (ap (λ (s : PlainStreams). s.bi) e) (ap (λ (s : PlainStreams). s.uni) e) same
    (same_recv (ap (λ (s : PlainStreams). s.recv.halves) e) a.undone_recv)) a

sending_same : (old new : PlainSendHalves) (id : ℕ) → AreSendUndone old → IsSendingStep old new id → AreSendSame old new
sending_same old new id undone (takes taken bytes step) = step_same undone step
sending_same old new id undone (finishes step) = step_same undone step
sending_same old new id undone (resets code step) = step_same undone step
sending_same old new id undone (priority_set p step) = step_same undone step
sending_same old new id undone (stopped code step) = step_same undone step
sending_same old new id undone (limit_raised max step) = step_same undone step

pub sending_accounted : (old new : PlainStreams) (id : ℕ) → IsSendingStep old.send new.send id → new ≡ record old { send = new.send } → AreAccounted old → AreAccounted new
sending_accounted old new id step e a = send_accounted old new (sending_same old.send new.send id a.undone_send step) e a

told_accounted : (b : Bool) (s : PlainStreams) (blocked : List ℕ) → AreAccounted s → AreAccounted (if b then record s { blocked = blocked } else s)
told_accounted true s blocked a = others_accounted s (record s { blocked = blocked }) (record { side_is = refl; send_is = refl; recv_is = refl }) refl refl a
told_accounted false s blocked a = a

with_accounted : (s : PlainStreams) (id : ℕ) (fault : WriteFault) → AreAccounted s → AreAccounted (with_blocked s id fault)
with_accounted s id Blocked a = told_accounted (write_limit s.send == 0) s _ a
with_accounted s id Memory a = a
with_accounted s id ClosedStream a = a
with_accounted s id (Stopped code) a = a

pub blocked_accounted : (old new : PlainStreams) (id : ℕ) (fault : WriteFault) → new ≡ with_blocked old id fault → AreAccounted old → AreAccounted new
blocked_accounted old new id fault e a = rw e (with_accounted old id fault a)

pub polled_accounted : (old new : PlainStreams) (event : Option StreamEvent) → IsPolled old new event → AreAccounted old → AreAccounted new
polled_accounted old new event (writable_polled id front rest some is none writable e) a = rw e (others_accounted old _ (record { side_is = refl; send_is = refl; recv_is = refl }) refl refl a)
polled_accounted old new event (queued_polled x xs nothing is e) a = rw e (others_accounted old _ (record { side_is = refl; send_is = refl; recv_is = refl }) refl refl a)
polled_accounted old new event (none_polled nothing is e) a = rw e (others_accounted old _ (record { side_is = refl; send_is = refl; recv_is = refl }) refl refl a)

-- ---- readers

pub recv_accounted : (old new : PlainStreams) → AreRecvSame old.recv new.recv → new ≡ record old { recv = new.recv } → AreAccounted old → AreAccounted new
recv_accounted old new same e a = alike_accounted old new (alike old new (ap (λ (s : PlainStreams). s.side) e) (ap (λ (s : PlainStreams). s.bi) e) (ap (λ (s : PlainStreams). s.uni) e)
    (same_send (ap (λ (s : PlainStreams). s.send.halves) e) a.undone_send) same) a

pub begun_accounted : (old new : PlainStreams) (id : ℕ) (ordered : Bool) → IsRecvStep (Begins ordered) old.recv new.recv id 0 → new ≡ record old { recv = new.recv } → AreAccounted old → AreAccounted new
begun_accounted old new id ordered step e a = recv_accounted old new (recv_kept (begin_keeps ordered) a.undone_recv step) e a

receiving_stepped : (old new : PlainRecvHalves) (id : ℕ) → AreRecvUndone old → IsReceivingStep old new id → AreRecvStepped old new id
receiving_stepped old new id undone (reads max_length answer step) = recv_stepped undone step
receiving_stepped old new id undone (begins ordered step) = recv_stepped undone step
receiving_stepped old new id undone (stops code step) = recv_stepped undone step
receiving_stepped old new id undone (takes_reset code step) = recv_stepped undone step
receiving_stepped old new id undone (ingested piece fin taken) = recv_stepped undone taken.step
receiving_stepped old new id undone (reset_taken code size taken) = recv_stepped undone taken.step

-- a step of the receiving halves, and what is told of it
pub recv_closed : (old new : PlainStreams) (recv : PlainRecvHalves) (events : List StreamEvent) (id : ℕ) → AreRecvStepped old.recv recv id → new ≡ counted_closed (record old { recv = recv; events = events }) id (is_live old id)
    → AreAccounted old → AreAccounted new
recv_closed old new recv events id step e a =
    rw e (closed_accounted old (record old { recv = recv; events = events }) id (stepped old (record old { recv = recv; events = events }) id refl refl refl (send_same_stepped id (same_send refl a.undone_send)) step) a)

pub receiving_accounted : (old new : PlainStreams) (id : ℕ) → IsReceivingStep old.recv new.recv id → new ≡ counted_closed (record old { recv = new.recv }) id (is_live old id) → AreAccounted old → AreAccounted new
receiving_accounted old new id step e a = recv_closed old new new.recv old.events id (receiving_stepped old.recv new.recv id a.undone_recv step) e a

pub read_accounted : (old new : PlainStreams) (id max_length : ℕ) (ordered : Bool) (answer : Result (Option Chunk) ReadFault) → IsBegunRead max_length ordered answer old.recv new.recv id
    → new ≡ counted_closed (record old { recv = new.recv }) id (is_live old id) → AreAccounted old → AreAccounted new
read_accounted old new id max_length ordered answer read e a = recv_closed old new new.recv old.events id (read_stepped a.undone_recv read) e a

pub chunk_accounted : (old new : PlainStreams) (id max_length : ℕ) (before after : ChunksState) (result : Result (Option Chunk) ReadFault) → IsChunk old new id max_length before after result → AreAccounted old → AreAccounted new
chunk_accounted old new id max_length before after result (read_chunk answer step e) a = receiving_accounted old new id (reads max_length answer step) e a
chunk_accounted old new id max_length before after result (finished_chunk e) a = rw e a
chunk_accounted old new id max_length before after result (reset_chunk code e) a = rw e a
