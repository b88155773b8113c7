-- Each frame that comes, is handed over, is lost or is acknowledged carries the account of the peer's streams on.
use Rattle.std.proofs.Common.{◌≡◌, ◌⊎◌, ℕ, Bool, List, ◌++◌, reverse, Option, Some, None, refl, ap, arith, inl, inr}
use Rattle.qh_buffers.specs.declared.assembler.Chunk.{Chunk}
use Rattle.qh_buffers.specs.declared.send_buffer.Mark.TheVariants.{Sent}
use Rattle.qh_half.specs.Recv.{PlainRecv, is_done}
use Rattle.qh_halves.specs.declared.counts.StreamCounts.{StreamCounts}
use Rattle.qh_halves.specs.declared.recv_halves.StreamControl.TheVariants.{StopSending, MaxStreamData}
use Rattle.qh_halves.specs.Counts.{count_limit, with_max_opened, has_recv, has_send}
use Rattle.qh_halves.specs.RecvHalves.{PlainRecvHalves, GivesControl, IsPieceTaken, IsRecvAbsent, IsResetTaken}
use Rattle.qh_spec.specs.FrameTypes as frame_types
use Rattle.qh_streams.specs.Streams.{PlainStreams, AreAcked, AreHanded, AreLost, AreTakenBack, AreWritten, IsAckedFrame, IsHandedOver, IsLostFrame, IsReceived, Refusal, available_events, counted_closed, counts_of, is_live, is_two_way, or_refusal, refusal_of}
use Rattle.qh_streams.specs.Streams.AreAcked.{none as none_acked, more as more_acked}
use Rattle.qh_streams.specs.Streams.AreHanded.{none as none_handed, more as more_handed}
use Rattle.qh_streams.specs.Streams.AreLost.{none as none_lost, more as more_lost}
use Rattle.qh_streams.specs.Streams.AreWritten.{none as none_written, more as more_written}
use Rattle.qh_streams.specs.Streams.IsAckedFrame.{stream as stream_acked, reset as reset_acked, stop as stop_acked, max_stream_data as max_stream_data_acked, max_data as max_data_acked, max_streams as max_streams_acked}
use Rattle.qh_streams.specs.Streams.IsHandedOver.{stream as stream_handed, reset as reset_handed, stop as stop_handed, max_stream_data as max_stream_data_handed, max_data as max_data_handed, max_streams as max_streams_handed}
use Rattle.qh_streams.specs.Streams.IsLostFrame.{stream as stream_lost, reset as reset_lost, stop as stop_lost, max_stream_data as max_stream_data_lost, max_data as max_data_lost, max_streams as max_streams_lost}
use Rattle.qh_streams.specs.Streams.IsReceived.{stream as stream_received, reset as reset_received, stop as stop_received, stopped_before, max_data as max_data_received, max_stream_data as max_stream_data_received, max_streams as max_streams_received}
use Rattle.qh_streams.specs.declared.frames.SentFrame.{SentFrame}
use Rattle.qh_streams.specs.declared.frames.StreamEvent.{StreamEvent}
use Rattle.qh_streams.specs.declared.frames.StreamFrame.{StreamFrame}
use Rattle.qh_accounts.specs.Accounts.{AreAccounted}
use Rattle.qh_accounts.proofs.AccountedLike.{AreRecvUndone, IsNear, alike_accounted, closed_accounted}
use Rattle.qh_accounts.proofs.AccountedSteps.{AreSendSame, AreSendStepped, AreRecvStepped, alike, limit_acked_keeps, limit_lost_keeps, recv_kept, recv_kept_or_none, recv_stepped, recv_stepped_same, same_recv, settled, step_or_same, step_same, stepped, stop_acked_keeps, stop_lost_keeps}
use Rattle.qh_accounts.proofs.AccountedArrivals.{arrived_accounted, not_refused}
use Rattle.qh_accounts.proofs.AccountedCalls.{others_accounted, recv_accounted, recv_closed, send_accounted, set_accounted}

-- ---- frames that come

first_none : (a b : Option Refusal) → or_refusal a b ≡ None → a ≡ None
first_none None b e = refl
first_none (Some r) b e = e

-- a step of the sending halves, and what is told of it
told_accounted : (mid new : PlainStreams) → AreSendSame mid.send new.send → new.side ≡ mid.side → new.bi ≡ mid.bi → new.uni ≡ mid.uni → new.recv ≡ mid.recv → AreAccounted mid → AreAccounted new
told_accounted mid new same side_is bi uni recv a = alike_accounted mid new (alike mid new side_is bi uni same (same_recv (ap (λ (r : PlainRecvHalves). r.halves) recv) a.undone_recv)) a

piece_stepped : (old new : PlainRecvHalves) (id : ℕ) (piece : Chunk) (fin : Bool) → AreRecvUndone old → IsPieceTaken old new id piece fin ⊎ IsRecvAbsent old new id → AreRecvStepped old new id
piece_stepped old new id piece fin undone (inl taken) = recv_stepped undone taken.step
piece_stepped old new id piece fin undone (inr none) = recv_stepped_same id (same_recv (ap (λ (r : PlainRecvHalves). r.halves) none.same) undone)

reset_stepped : (old new : PlainRecvHalves) (id code size : ℕ) → AreRecvUndone old → IsResetTaken old new id code size ⊎ IsRecvAbsent old new id → AreRecvStepped old new id
reset_stepped old new id code size undone (inl taken) = recv_stepped undone taken.step
reset_stepped old new id code size undone (inr none) = recv_stepped_same id (same_recv (ap (λ (r : PlainRecvHalves). r.halves) none.same) undone)

pub received_accounted : (old new : PlainStreams) (f : StreamFrame) → IsReceived old new f → refusal_of old f ≡ None → AreAccounted old → AreAccounted new
received_accounted old new f (stream_received id offset payload fin p) taken a =
    let within = not_refused old id.0 (has_recv old.side id.0) frame_types.stream (first_none _ _ taken) in
    let came = arrived_accounted old p.mid id.0 p.arrived within a in
    recv_closed p.mid new new.recv _ id.0 (piece_stepped p.mid.recv new.recv id.0 _ fin came.undone_recv p.taken) p.rest_is came
received_accounted old new f (reset_received id code size p) taken a =
    let within = not_refused old id.0 (has_recv old.side id.0) frame_types.reset_stream (first_none _ _ taken) in
    let came = arrived_accounted old p.mid id.0 p.arrived within a in
    recv_closed p.mid new new.recv _ id.0 (reset_stepped p.mid.recv new.recv id.0 code size came.undone_recv p.taken) p.rest_is came
received_accounted old new f (stop_received mid id code arrived step e) taken a =
    let within = not_refused old id.0 (has_send old.side id.0) frame_types.stop_sending taken in
    let came = arrived_accounted old mid id.0 arrived within a in
    told_accounted mid new (step_same came.undone_send step) (ap (λ (s : PlainStreams). s.side) e) (ap (λ (s : PlainStreams). s.bi) e) (ap (λ (s : PlainStreams). s.uni) e) (ap (λ (s : PlainStreams). s.recv) e) came
received_accounted old new f (stopped_before id code arrived was) taken a = arrived_accounted old new id.0 arrived (not_refused old id.0 (has_send old.side id.0) frame_types.stop_sending taken) a
received_accounted old new f (max_data_received limit e) taken a = rw e (others_accounted old _ (record { side_is = refl; send_is = refl; recv_is = refl }) refl refl a)
received_accounted old new f (max_stream_data_received mid id limit arrived step unblocked e) taken a =
    let within = not_refused old id.0 (has_send old.side id.0) frame_types.max_stream_data taken in
    let came = arrived_accounted old mid id.0 arrived within a in
    told_accounted mid new (step_or_same came.undone_send step) (ap (λ (s : PlainStreams). s.side) e) (ap (λ (s : PlainStreams). s.bi) e) (ap (λ (s : PlainStreams). s.uni) e) (ap (λ (s : PlainStreams). s.recv) e) came
received_accounted old new f (max_streams_received dir n e) taken a =
    let s : PlainStreams = record old { events = old.events ++ available_events (counts_of old (is_two_way dir)) n dir } in
    set_accounted s new dir (with_max_opened n (counts_of old (is_two_way dir))) (record { closed = refl; arrived = refl; more = omega arith; bound = λ b. b }) e
    (others_accounted old s (record { side_is = refl; send_is = refl; recv_is = refl }) refl refl a)

-- ---- frames that are handed over

stop_gives_keeps : (window code : ℕ) (r next : PlainRecv) → GivesControl window (StopSending code) r next → is_done next ≡ is_done r
stop_gives_keeps window code r next p = rw p.2 refl

limit_gives_keeps : (window limit : ℕ) (r next : PlainRecv) → GivesControl window (MaxStreamData limit) r next → is_done next ≡ is_done r
limit_gives_keeps window limit r next p = rw p.2 refl

near_limit : (c : StreamCounts) (n : ℕ) → n ≡ count_limit c → IsNear c (record c { announced = record { value = n; mark = Sent } })
near_limit c n is = record { closed = refl; arrived = refl; more = omega (arith, is); bound = λ b. omega (arith, is, b) }

pub handed_accounted : (old new : PlainStreams) (room : ℕ) (f : SentFrame) → IsHandedOver old new room f → AreAccounted old → AreAccounted new
handed_accounted old new room f (stream_handed id piece next e) a = send_accounted old new (step_same a.undone_send next.step) e a
handed_accounted old new room f (reset_handed id frame next e) a = send_accounted old new (step_same a.undone_send next.step) e a
handed_accounted old new room f (stop_handed id code step e) a = recv_accounted old new (recv_kept (stop_gives_keeps old.recv.stream_window code) a.undone_recv step) e a
handed_accounted old new room f (max_stream_data_handed id limit step e) a = recv_accounted old new (recv_kept (limit_gives_keeps old.recv.stream_window limit) a.undone_recv step) e a
handed_accounted old new room f (max_data_handed limit is due e) a = rw e (others_accounted old _ (record { side_is = refl; send_is = refl; recv_is = refl }) refl refl a)
handed_accounted old new room f (max_streams_handed dir n is due e) a = set_accounted old new dir _ (near_limit (counts_of old (is_two_way dir)) n is) e a

pub handed_all_accounted : (old new : PlainStreams) (fs : List SentFrame) → AreHanded old new fs → AreAccounted old → AreAccounted new
handed_all_accounted old new fs (none_handed _) a = a
handed_all_accounted old new fs (more_handed room _ mid _ f rest handed behind) a = handed_all_accounted mid new rest behind (handed_accounted old mid room f handed a)

pub written_accounted : (room : ℕ) (old new : PlainStreams) (fs : List SentFrame) (bytes : List ℕ) → AreWritten room old new fs bytes → AreAccounted old → AreAccounted new
written_accounted room old new fs bytes (none_written _ _) a = a
written_accounted room old new fs bytes (more_written _ _ mid _ f rest more handed fits back others) a = written_accounted _ mid new rest more others (handed_accounted old mid room f handed a)

-- ---- frames that are lost

pub lost_accounted : (old new : PlainStreams) (f : SentFrame) → IsLostFrame old new f → AreAccounted old → AreAccounted new
lost_accounted old new f (stream_lost id piece step e) a = send_accounted old new (step_or_same a.undone_send step) e a
lost_accounted old new f (reset_lost id frame step e) a = send_accounted old new (step_or_same a.undone_send step) e a
lost_accounted old new f (stop_lost id code step e) a = recv_accounted old new (recv_kept_or_none stop_lost_keeps a.undone_recv step) e a
lost_accounted old new f (max_data_lost limit e) a = rw e (others_accounted old _ (record { side_is = refl; send_is = refl; recv_is = refl }) refl refl a)
lost_accounted old new f (max_stream_data_lost id limit step e) a = recv_accounted old new (recv_kept_or_none (limit_lost_keeps limit) a.undone_recv step) e a
lost_accounted old new f (max_streams_lost dir n e) a = set_accounted old new dir _ (record { closed = refl; arrived = refl; more = omega arith; bound = λ b. b }) e a

pub lost_all_accounted : (old new : PlainStreams) (fs : List SentFrame) → AreLost old new fs → AreAccounted old → AreAccounted new
lost_all_accounted old new fs (none_lost _) a = a
lost_all_accounted old new fs (more_lost _ mid _ front f before lost) a = lost_accounted mid new f lost (lost_all_accounted old mid front before a)

pub taken_back_accounted : (old new : PlainStreams) → AreTakenBack old new → AreAccounted old → AreAccounted new
taken_back_accounted old new p a = lost_all_accounted p.mid new (reverse p.frames) p.lost (handed_all_accounted old p.mid p.frames p.handed a)

-- ---- frames that are acknowledged

-- a step of the sending halves by which a half may go
send_closed : (old new : PlainStreams) (events : List StreamEvent) (id : ℕ) → AreSendStepped old.send new.send id → new ≡ counted_closed (record old { send = new.send; events = events }) id (is_live old id)
    → AreAccounted old → AreAccounted new
send_closed old new events id step e a =
    let mid : PlainStreams = record old { send = new.send; events = events } in
    rw e (closed_accounted old mid id (stepped old mid id refl refl refl step (recv_stepped_same id (same_recv refl a.undone_recv))) a)

pub acked_accounted : (old new : PlainStreams) (f : SentFrame) → IsAckedFrame old new f → AreAccounted old → AreAccounted new
acked_accounted old new f (stream_acked id piece finished step e) a = send_closed old new _ id.0 (settled a.undone_send step) e a
acked_accounted old new f (reset_acked id frame gone step e) a = send_closed old new old.events id.0 (settled a.undone_send step) e a
acked_accounted old new f (stop_acked id code step e) a = recv_accounted old new (recv_kept_or_none stop_acked_keeps a.undone_recv step) e a
acked_accounted old new f (max_data_acked limit e) a = rw e (others_accounted old _ (record { side_is = refl; send_is = refl; recv_is = refl }) refl refl a)
acked_accounted old new f (max_stream_data_acked id limit step e) a = recv_accounted old new (recv_kept_or_none (limit_acked_keeps limit) a.undone_recv step) e a
acked_accounted old new f (max_streams_acked dir n e) a = set_accounted old new dir _ (record { closed = refl; arrived = refl; more = omega arith; bound = λ b. b }) e a

pub acked_all_accounted : (old new : PlainStreams) (fs : List SentFrame) → AreAcked old new fs → AreAccounted old → AreAccounted new
acked_all_accounted old new fs (none_acked _) a = a
acked_all_accounted old new fs (more_acked _ mid _ front f before acked) a = acked_accounted mid new f acked (acked_all_accounted old mid front before a)
