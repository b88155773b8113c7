-- Calls on streams, and what else is asked of a connection: what it owes is kept.
use Rattle.std.proofs.Common.{◌≡◌, ◌⊎◌, ℕ, ℤ, ◌<◌, ◌≤◌, ◌==◌, arith, Bool, true, false, List, [], ◌∷◌, ◌++◌, length, take, Option, Some, None, if◌then◌else◌, refl, sym, ap, subst, ◌∙◌}
use Rattle.std.proofs.lemmas.List.{append-nil, length-append}
use Rattle.std.specs.List.{concat}
use Rattle.std.specs.Prelude.{IfErr, IfOk, IfSome, OnErr, OnOk, Result, Ok, Err}
use Rattle.qh_base.specs.declared.memory.Memory.{Memory as OutOfMemory}
use Rattle.qh_base.specs.declared.stream_id.StreamId.{StreamId}
use Rattle.qh_buffers.specs.declared.assembler.Chunk.{Chunk}
use Rattle.qh_core.specs.Event.{IsDrainedTold, IsPolledEvent}
use Rattle.qh_core.specs.Event.IsDrainedTold.{drained as drained_told, none as none_told}
use Rattle.qh_core.specs.Event.IsPolledEvent.{stream as stream_told, lost as lost_told, none as nothing_told}
use Rattle.qh_core.specs.Follows.{write_acts, write_chunks_acts, finish_acts, reset_by_acts, stop_acts, take_acts, received_reset_acts}
use Rattle.qh_core.specs.Inner.{is_open, with_streams}
use Rattle.qh_core.specs.Streams.{IsRead, IsReadFault, IsWriteRefused}
use Rattle.qh_core.specs.Streams.IsWriteRefused.{closed as closed_to_writes, wanting, refused as refused_write}
use Rattle.qh_core.specs.declared.event.EndpointEvent.{EndpointEvent}
use Rattle.qh_core.specs.declared.event.Event.{Event}
use Rattle.qh_core.specs.declared.fault.TakeFault.{TakeFault}
use Rattle.qh_core.specs.declared.fault.TakeFault.TheVariants.{Readable, Read}
use Rattle.qh_core.specs.declared.inner.Inner.{Inner}
use Rattle.qh_half.specs.declared.fault.ClosedStream.{ClosedStream}
use Rattle.qh_half.specs.declared.fault.FinishFault.{FinishFault}
use Rattle.qh_half.specs.declared.fault.ReadFault.{ReadFault}
use Rattle.qh_half.specs.declared.fault.ReadFault.TheVariants as read_fault
use Rattle.qh_half.specs.declared.fault.WriteFault.{WriteFault}
use Rattle.qh_half.specs.declared.fault.WriteFault.TheVariants.{Blocked, Stopped, ClosedStream as StreamClosed, Memory}
use Rattle.qh_half.specs.declared.send.Written.{Written}
use Rattle.qh_halves.specs.SendHalves.{PlainSendHalves, half_in, Finishes, HasPriority, IsResetWith, IsStep, Takes, finish_fault_at, is_reset_refused_at, send_at, write_limit}
use Rattle.qh_halves.specs.Counts.{other_side}
use Rattle.qh_halves.specs.RecvHalves.{IsRecvStep, Stops, TakesReset, is_closed_at}
use Rattle.qh_halves.specs.declared.counts.StreamCounts.{StreamCounts}
use Rattle.qh_owing.proofs.InPackets.{SendsNoMore, kept_in, no_more}
use Rattle.qh_owing.proofs.KeptArrivals.{opened}
use Rattle.qh_half.specs.Send.{PlainSend}
use Rattle.qh_streams.proofs.StreamsTrackedCalls.{opened_keeps, sending_keeps}
use Rattle.qh_streams.specs.Tracked.IsSendingStep.{takes, finishes, resets, priority as priority_set}
use Rattle.qh_owing.proofs.KeptStreams.{finish, kept, prioritized, reads_nothing, reset_by, restated, wrote}
use Rattle.qh_owing.proofs.OwingConnections.{none_come, nothing_more, on, same, without_more}
use Rattle.qh_owing.proofs.OwingDatagrams.{carried_more, kept_more, out_before}
use Rattle.qh_owing.specs.Owing.{AreKept, IsByteAcknowledged, IsEndAcknowledged, Owes}
use Rattle.qh_packet.specs.Session.{AcceptsTag}
use Rattle.qh_spec.specs.StreamId.{stream_id}
use Rattle.qh_spec.specs.Transcript.{Act, Finished, ReadReset, Reset, Stopped, Wrote, handed_in, handed_out, was_reset, written}
use Rattle.qh_spec.specs.declared.sides.Dir.{Dir}
use Rattle.qh_spec.proofs.TranscriptLaws.{written-append}
use Rattle.qh_streams.proofs.StreamsSettled.{closed_alone, counts_alone}
use Rattle.qh_transcript.proofs.SendingFrames.{closed_opened, counts_opened}
use Rattle.qh_streams.specs.Streams.{PlainStreams, IsOpened, IsPolled, counted_closed, counts_of, is_live, is_two_way, was_opened, with_accepted, with_blocked, with_counts}
use Rattle.qh_streams.specs.Streams.IsPolled.{writable, queued, none as nothing_polled}
use Rattle.qh_streams.specs.declared.frames.StreamEvent.{StreamEvent}
use Rattle.qh_transcript.specs.Sending.{WriteNothing}
use Rattle.qh_transcript.specs.Receiving.{piece_acts, read_acts, reset_acts}

-- ---- what an act writes

-- acts of readers
record AreOfReaders (u : List Act) : Type 0 where
  writes : WriteNothing u
  resets : (id : ℕ) → was_reset u id ≡ false
  comes : handed_in u ≡ []

no_acts : AreOfReaders []
no_acts = record { writes = record { bytes = λ id. refl; ends = λ id. refl }; resets = λ id. refl; comes = refl }

stop_reads : (id code : ℕ) → AreOfReaders (Stopped id code ∷ [])
stop_reads id code = record { writes = record { bytes = λ id. refl; ends = λ id. refl }; resets = λ id. refl; comes = refl }

piece_reads : (id offset : ℕ) (bytes : List ℕ) → AreOfReaders (piece_acts id offset bytes)
piece_reads id offset [] = no_acts
piece_reads id offset (b ∷ bytes) = record { writes = record { bytes = λ id. refl; ends = λ id. refl }; resets = λ id. refl; comes = refl }

told_reset : (id code : ℕ) → AreOfReaders (ReadReset id code ∷ [])
told_reset id code = record { writes = record { bytes = λ id. refl; ends = λ id. refl }; resets = λ id. refl; comes = refl }

read_reads : (id : ℕ) (answer : Result (Option Chunk) ReadFault) → AreOfReaders (read_acts id answer)
read_reads id (Ok (Some c)) = piece_reads id c.offset c.bytes
read_reads id (Ok None) = record { writes = record { bytes = λ id. refl; ends = λ id. refl }; resets = λ id. refl; comes = refl }
read_reads id (Err (read_fault.Reset code)) = told_reset id code
read_reads id (Err read_fault.Blocked) = no_acts
read_reads id (Err read_fault.Memory) = no_acts

take_reads : (id : ℕ) (answer : Result (Option Chunk) TakeFault) → AreOfReaders (take_acts id answer)
take_reads id (Ok o) = read_reads id (Ok o)
take_reads id (Err (Read fault)) = read_reads id (Err fault)
take_reads id (Err (Readable fault)) = no_acts

reset_reads : (id : ℕ) (code : Option ℕ) → AreOfReaders (reset_acts id code)
reset_reads id (Some code) = told_reset id code
reset_reads id None = no_acts

-- ---- what changes beside the sending halves

-- the sending halves are as they were, and the same streams were opened
record IsBeside (old new : PlainStreams) : Type 0 where
  halves : new.send.halves ≡ old.send.halves
  opened : (k : ℕ) → was_opened new k ≡ was_opened old k

beside : (old new : PlainStreams) → new ≡ record old { recv = new.recv; blocked = new.blocked; events = new.events; send = record old.send { send_window = new.send.send_window } } → IsBeside old new
beside old new e = record { halves = ap (λ (s : PlainStreams). s.send.halves) e; opened = λ k. ap (λ (s : PlainStreams). was_opened s k) e }

counts_beside : (s : PlainStreams) (two_way : Bool) (c : StreamCounts) → c.opened ≡ (counts_of s two_way).opened → c.arrived ≡ (counts_of s two_way).arrived → IsBeside s (with_counts s two_way c)
counts_beside s two_way c opened arrived = record { halves = ap (λ (h : PlainSendHalves). h.halves) (counts_alone s two_way c).send_is; opened = counts_opened s two_way c opened arrived }

closed_beside : (old s : PlainStreams) (id : ℕ) (live : Bool) → IsBeside old s → IsBeside old (counted_closed s id live)
closed_beside old s id live b = record {
  halves = ap (λ (h : PlainSendHalves). h.halves) (closed_alone s id live).send_is ∙ b.halves;
  opened = λ k. closed_opened s id live k ∙ b.opened k;
}

maybe_beside : (s : PlainStreams) (b : Bool) (blocked : List ℕ) → IsBeside s (if b then record s { blocked = blocked } else s)
maybe_beside s true blocked = record { halves = refl; opened = λ k. refl }
maybe_beside s false blocked = record { halves = refl; opened = λ k. refl }

blocked_beside : (s : PlainStreams) (id : ℕ) (e : WriteFault) → IsBeside s (with_blocked s id e)
blocked_beside s id Blocked = maybe_beside s (write_limit s.send == 0) _
blocked_beside s id (Stopped code) = record { halves = refl; opened = λ k. refl }
blocked_beside s id StreamClosed = record { halves = refl; opened = λ k. refl }
blocked_beside s id Memory = record { halves = refl; opened = λ k. refl }

polled_beside : (old new : PlainStreams) (o : Option StreamEvent) → IsPolled old new o → IsBeside old new
polled_beside old new _ (writable id front rest open_now blocked_is shut on e) = rw e (record { halves = refl; opened = λ k. refl })
polled_beside old new _ (queued event events left events_are e) = rw e (record { halves = refl; opened = λ k. refl })
polled_beside old new _ (nothing_polled left empty e) = rw e (record { halves = refl; opened = λ k. refl })

read_beside : (max_length : ℕ) (ordered : Bool) (id : ℕ) (answer : Result (Option Chunk) ReadFault) (old new : PlainStreams) → IsRead max_length ordered id answer old new → IsBeside old new
read_beside max_length ordered id answer old new r =
    let mid : IsBeside old r.mid = record { halves = ap (λ (s : PlainStreams). s.send.halves) r.mid_is; opened = λ k. ap (λ (s : PlainStreams). was_opened s k) r.mid_is } in
    let behind : IsBeside old (record r.mid { recv = new.recv }) = record { halves = mid.halves; opened = mid.opened } in
    subst (λ (s : PlainStreams). IsBeside old s) (sym r.new_is) (closed_beside old (record r.mid { recv = new.recv }) id (is_live r.mid id) behind)

unread_beside : (max_length : ℕ) (ordered : Bool) (id : ℕ) (fault : TakeFault) (old new : PlainStreams) → IsReadFault max_length ordered id fault old new → IsBeside old new
unread_beside max_length ordered id (Readable fault) old new f = rw (f.1) (record { halves = refl; opened = λ k. refl })
unread_beside max_length ordered id (Read fault) old new f = read_beside max_length ordered id (Err fault) old new f

recv_closed : (old new : PlainStreams) (id : ℕ) → IsBeside old (counted_closed (record old { recv = new.recv }) id (is_live old id))
recv_closed old new id = closed_beside old (record old { recv = new.recv }) id (is_live old id) (record { halves = refl; opened = λ k. refl })

beside_sends : (old new : PlainStreams) → IsBeside old new → SendsNoMore old new
beside_sends old new b id o w = record { half = w.half; is = subst (λ (l : List (ℕ × PlainSend)). half_in l id ≡ Some w.half) b.halves w.is; sent = w.sent }

writes_on : (t u : List Act) (k : ℕ) → length (written t k) ≤ length (written (t ++ u) k)
writes_on t u k =
    let whole = ap length (written-append t u k) in
    let sum = length-append (written t k) (written u k) in
    omega (arith, whole, sum)

module _ {S : Type 0} (accepts : AcceptsTag) where
  -- ---- the streams alone go on

  module _ (old : Inner S) (s : PlainStreams) (t u : List Act) where
    called : handed_in u ≡ [] → ((Byte : ℕ → ℕ → Type 0) (End : ℕ → Type 0) → AreKept Byte End t old.space.streams → AreKept Byte End (t ++ u) s) → SendsNoMore old.space.streams s → Owes accepts old t → Owes accepts (with_streams old s) (t ++ u)
    called none go less o =
        let id_length = length old.remote_id in
        on accepts old (with_streams old s) t u (record { side = refl; local = refl; remote = refl; opens = λ e. e; numbers = λ up. refl }) (none_come accepts old (with_streams old s) t u none)
        (λ accepted up p. record {
          kept = kept_more id_length old.side (handed_out t) (handed_out (t ++ u)) accepted accepted (t ++ u) (t ++ u) s (out_before t u) (λ x is. is) (λ k. (refl, refl, refl))
              (go (IsByteAcknowledged id_length (handed_out t) accepted old.side) (IsEndAcknowledged id_length (handed_out t) accepted old.side) p.kept);
          in_packets = kept_in old.space.streams s old.space.sent old.space.next_number less p.in_packets;
          out = carried_more id_length old.side t (t ++ u) old.space.sent (out_before t u) (writes_on t u) p.out;
        }) o

    silent : AreOfReaders u → IsBeside old.space.streams s → Owes accepts old t → Owes accepts (with_streams old s) (t ++ u)
    silent readers b o = called readers.comes (λ Byte End p. kept Byte End old.space.streams s (t ++ u) b.halves b.opened
        (restated Byte Byte End End (λ id k b. b) (λ id b. b) t (t ++ u) old.space.streams (reads_nothing t u readers.writes readers.resets) p)) (beside_sends old.space.streams s b) o

  -- a call that does nothing of its own
  quiet_call : (old new : Inner S) (s : PlainStreams) (t : List Act) → new ≡ with_streams old s → IsBeside old.space.streams s → Owes accepts old t → Owes accepts new t
  quiet_call old new s t e b o = subst (λ (c : Inner S). Owes accepts c t) (sym e) (without_more accepts (with_streams old s) t (silent old s t [] no_acts b o))

  pub kept_call : (old new : Inner S) (t : List Act) → new ≡ old → Owes accepts old t → Owes accepts new t
  kept_call old new t e o = subst (λ (c : Inner S). Owes accepts c t) (sym e) o

  -- ---- writers

  pub refused : (id : ℕ) (e : WriteFault) (old new : Inner S) (t : List Act) → IsWriteRefused id e old new → Owes accepts old t → Owes accepts new t
  refused id e old new t (closed_to_writes shut is same) o = kept_call old new t same o
  refused id e old new t (wanting is _ _ same) o = kept_call old new t same o
  refused id e old new t (refused_write up is with) o = quiet_call old new _ t with (blocked_beside old.space.streams id e) o

  pub wrote_call : (id taken : ℕ) (bytes : List ℕ) (old new : Inner S) (t : List Act) → IsStep (Takes bytes) old.space.streams.send new.space.streams.send id taken
      → new ≡ with_streams old (record old.space.streams { send = new.space.streams.send }) → Owes accepts old t → Owes accepts new (t ++ Wrote id bytes ∷ [])
  wrote_call id taken bytes old new t step e o =
      let s : PlainStreams = record old.space.streams { send = new.space.streams.send } in
      subst (λ (c : Inner S). Owes accepts c (t ++ Wrote id bytes ∷ [])) (sym e) (called old s t (Wrote id bytes ∷ []) refl (λ Byte End p. wrote Byte End old.space.streams s t id taken bytes step refl p) (no_more old.space.streams s (sending_keeps old.space.streams s id (takes taken bytes step) refl (λ dir. refl))) o)

  pub write_owes : (id : ℕ) (payload : List ℕ) (answer : Result ℕ WriteFault) (old new : Inner S) (t : List Act)
      → IfOk answer (λ n. (is_open old.state ≡ true) × IsStep (Takes (take n payload)) old.space.streams.send new.space.streams.send id n
      × (new ≡ with_streams old (record old.space.streams { send = new.space.streams.send })))
      → IfErr answer (λ e. IsWriteRefused id e old new) → Owes accepts old t → Owes accepts new (t ++ write_acts id payload answer)
  write_owes id payload (Ok n) old new t ok err o = wrote_call id n (take n payload) old new t ok.1 ok.2 o
  write_owes id payload (Err e) old new t ok err o = nothing_more accepts new t (refused id e old new t err o)

  pub chunks_owe : (id : ℕ) (chunks : List (List ℕ)) (answer : Result Written WriteFault) (old new : Inner S) (t : List Act)
      → IfOk answer (λ w. (is_open old.state ≡ true) × IsStep (Takes (take w.bytes (concat chunks))) old.space.streams.send new.space.streams.send id w.bytes
      × (new ≡ with_streams old (record old.space.streams { send = new.space.streams.send })))
      → IfErr answer (λ e. IsWriteRefused id e old new) → Owes accepts old t → Owes accepts new (t ++ write_chunks_acts id chunks answer)
  chunks_owe id chunks (Ok w) old new t ok err o = wrote_call id w.bytes (take w.bytes (concat chunks)) old new t ok.1 ok.2 o
  chunks_owe id chunks (Err e) old new t ok err o = nothing_more accepts new t (refused id e old new t err o)

  pub finish_owes : (id : ℕ) (answer : Result Unit FinishFault) (old new : Inner S) (t : List Act)
      → OnOk answer (IsStep Finishes old.space.streams.send new.space.streams.send id 0 × (new ≡ with_streams old (record old.space.streams { send = new.space.streams.send })))
      → IfErr answer (λ e. (finish_fault_at old.space.streams.send id ≡ Some e) × (new ≡ old)) → Owes accepts old t → Owes accepts new (t ++ finish_acts id answer)
  finish_owes id (Ok done) old new t ok err o =
      let s : PlainStreams = record old.space.streams { send = new.space.streams.send } in
      subst (λ (c : Inner S). Owes accepts c (t ++ Finished id ∷ [])) (sym ok.1) (called old s t (Finished id ∷ []) refl (λ Byte End p. finish Byte End old.space.streams s t id ok.0 refl p) (no_more old.space.streams s (sending_keeps old.space.streams s id (finishes ok.0) refl (λ dir. refl))) o)
  finish_owes id (Err e) old new t ok err o = nothing_more accepts new t (kept_call old new t err.1 o)

  pub reset_owes : (id code : ℕ) (answer : Result Unit ClosedStream) (old new : Inner S) (t : List Act)
      → OnOk answer (IsStep (IsResetWith code) old.space.streams.send new.space.streams.send id 0 × (new ≡ with_streams old (record old.space.streams { send = new.space.streams.send })))
      → OnErr answer ((is_reset_refused_at old.space.streams.send id ≡ true) × (new ≡ old)) → Owes accepts old t → Owes accepts new (t ++ reset_by_acts id code answer)
  reset_owes id code (Ok done) old new t ok err o =
      let s : PlainStreams = record old.space.streams { send = new.space.streams.send } in
      subst (λ (c : Inner S). Owes accepts c (t ++ Reset id code ∷ [])) (sym ok.1) (called old s t (Reset id code ∷ []) refl (λ Byte End p. reset_by Byte End old.space.streams s t id code ok.0 refl p) (no_more old.space.streams s (sending_keeps old.space.streams s id (resets code ok.0) refl (λ dir. refl))) o)
  reset_owes id code (Err e) old new t ok err o = nothing_more accepts new t (kept_call old new t err.1 o)

  pub priority_owes : (id : ℕ) (priority : ℤ) (answer : Result Unit ClosedStream) (old new : Inner S) (t : List Act)
      → OnOk answer (IsStep (HasPriority priority) old.space.streams.send new.space.streams.send id 0 × (new ≡ with_streams old (record old.space.streams { send = new.space.streams.send })))
      → OnErr answer ((send_at old.space.streams.send id ≡ None) × (new ≡ old)) → Owes accepts old t → Owes accepts new t
  priority_owes id priority (Ok done) old new t ok err o =
      let s : PlainStreams = record old.space.streams { send = new.space.streams.send } in
      subst (λ (c : Inner S). Owes accepts c t) (sym ok.1) (without_more accepts (with_streams old s) t (called old s t [] refl
      (λ Byte End p. subst (λ (z : List Act). AreKept Byte End z s) (sym (append-nil t)) (prioritized Byte End old.space.streams s t id priority ok.0 refl p)) (no_more old.space.streams s (sending_keeps old.space.streams s id (priority_set priority ok.0) refl (λ dir. refl))) o))
  priority_owes id priority (Err e) old new t ok err o = kept_call old new t err.1 o

  -- ---- streams that are opened and accepted

  pub open_owes : (dir : Dir) (answer : Result (Option StreamId) OutOfMemory) (old new : Inner S) (t : List Act)
      → IfOk answer (λ o. IfSome o (λ id. (is_open old.state ≡ true) × (id.0 ≡ stream_id old.space.streams.side dir (counts_of old.space.streams (is_two_way dir)).opened)
      × ((counts_of old.space.streams (is_two_way dir)).opened < (counts_of old.space.streams (is_two_way dir)).max_opened)
      × IsOpened old.space.streams new.space.streams id.0 × (new ≡ with_streams old new.space.streams)))
      → IfOk answer (λ o. o ≡ None → (new ≡ old)
      × ((is_open old.state ≡ false) ⊎ ((counts_of old.space.streams (is_two_way dir)).opened ≡ (counts_of old.space.streams (is_two_way dir)).max_opened)))
      → OnErr answer (new ≡ old) → Owes accepts old t → Owes accepts new t
  open_owes dir (Ok (Some id)) old new t some none err o =
      subst (λ (c : Inner S). Owes accepts c t) (sym some.4) (without_more accepts (with_streams old new.space.streams) t (called old new.space.streams t [] refl
      (λ Byte End p. subst (λ (z : List Act). AreKept Byte End z new.space.streams) (sym (append-nil t)) (opened Byte End t old.space.streams new.space.streams id.0 dir some.1 some.3 p)) (no_more old.space.streams new.space.streams (opened_keeps old.space.streams new.space.streams id.0 some.3)) o))
  open_owes dir (Ok None) old new t some none err o = kept_call old new t (none refl).0 o
  open_owes dir (Err e) old new t some none err o = kept_call old new t err o

  pub accept_owes : (dir : Dir) (answer : Option StreamId) (old new : Inner S) (t : List Act)
      → IfSome answer (λ id. (id.0 ≡ stream_id (other_side old.space.streams.side) dir (counts_of old.space.streams (is_two_way dir)).accepted)
      × ((counts_of old.space.streams (is_two_way dir)).accepted < (counts_of old.space.streams (is_two_way dir)).arrived)
      × (new ≡ with_streams old (with_counts old.space.streams (is_two_way dir) (with_accepted (counts_of old.space.streams (is_two_way dir))))))
      → (answer ≡ None → ((counts_of old.space.streams (is_two_way dir)).accepted ≡ (counts_of old.space.streams (is_two_way dir)).arrived) × (new ≡ old)) → Owes accepts old t → Owes accepts new t
  accept_owes dir (Some id) old new t some none o = quiet_call old new _ t some.2 (counts_beside old.space.streams (is_two_way dir) _ refl refl) o
  accept_owes dir None old new t some none o = kept_call old new t (none refl).1 o

  -- ---- readers

  with_acts : (old new : Inner S) (s : PlainStreams) (t u : List Act) → new ≡ with_streams old s → AreOfReaders u → IsBeside old.space.streams s → Owes accepts old t → Owes accepts new (t ++ u)
  with_acts old new s t u e readers b o = subst (λ (c : Inner S). Owes accepts c (t ++ u)) (sym e) (silent old s t u readers b o)

  pub read_owes : (id max_length : ℕ) (ordered : Bool) (answer : Result (Option Chunk) TakeFault) (old new : Inner S) (t : List Act)
      → IfOk answer (λ o. IsRead max_length ordered id (Ok o) old.space.streams new.space.streams)
      → IfErr answer (λ e. IsReadFault max_length ordered id e old.space.streams new.space.streams)
      → new ≡ with_streams old new.space.streams → Owes accepts old t → Owes accepts new (t ++ take_acts id answer)
  read_owes id max_length ordered (Ok o) old new t ok err rest owes = with_acts old new new.space.streams t (take_acts id (Ok o)) rest (take_reads id (Ok o)) (read_beside max_length ordered id (Ok o) old.space.streams new.space.streams ok) owes
  read_owes id max_length ordered (Err e) old new t ok err rest owes = with_acts old new new.space.streams t (take_acts id (Err e)) rest (take_reads id (Err e)) (unread_beside max_length ordered id e old.space.streams new.space.streams err) owes

  pub stop_owes : (id code : ℕ) (answer : Result Unit ClosedStream) (old new : Inner S) (t : List Act)
      → OnOk answer (IsRecvStep (Stops code) old.space.streams.recv new.space.streams.recv id 0
      × (new ≡ with_streams old (counted_closed (record old.space.streams { recv = new.space.streams.recv }) id (is_live old.space.streams id))))
      → OnErr answer ((is_closed_at old.space.streams.recv id ≡ true) × (new ≡ old)) → Owes accepts old t → Owes accepts new (t ++ stop_acts id code answer)
  stop_owes id code (Ok done) old new t ok err o = with_acts old new _ t (Stopped id code ∷ []) ok.1 (stop_reads id code) (recv_closed old.space.streams new.space.streams id) o
  stop_owes id code (Err e) old new t ok err o = nothing_more accepts new t (kept_call old new t err.1 o)

  pub received_reset_owes : (id : ℕ) (answer : Result (Option ℕ) ClosedStream) (old new : Inner S) (t : List Act)
      → IfOk answer (λ code. IsRecvStep (TakesReset code) old.space.streams.recv new.space.streams.recv id 0
      × (new ≡ with_streams old (counted_closed (record old.space.streams { recv = new.space.streams.recv }) id (is_live old.space.streams id))))
      → OnErr answer ((is_closed_at old.space.streams.recv id ≡ true) × (new ≡ old)) → Owes accepts old t → Owes accepts new (t ++ received_reset_acts id answer)
  received_reset_owes id (Ok code) old new t ok err o = with_acts old new _ t (reset_acts id code) ok.1 (reset_reads id code) (recv_closed old.space.streams new.space.streams id) o
  received_reset_owes id (Err e) old new t ok err o = nothing_more accepts new t (kept_call old new t err.1 o)

  -- ---- settings

  pub concurrent_owes : (two_way : Bool) (count : ℕ) (old new : Inner S) (t : List Act)
      → new ≡ with_streams old (with_counts old.space.streams two_way (record (counts_of old.space.streams two_way) { max_concurrent = count })) → Owes accepts old t → Owes accepts new t
  concurrent_owes two_way count old new t e o = quiet_call old new _ t e (counts_beside old.space.streams two_way _ refl refl) o

  pub send_window_owes : (bytes : ℕ) (old new : Inner S) (t : List Act)
      → new ≡ with_streams old (record old.space.streams { send = record old.space.streams.send { send_window = bytes } }) → Owes accepts old t → Owes accepts new t
  send_window_owes bytes old new t e o = quiet_call old new _ t e (record { halves = refl; opened = λ k. refl }) o

  pub receive_window_owes : (bytes : ℕ) (old new : Inner S) (t : List Act)
      → new ≡ with_streams old (record old.space.streams { recv = record old.space.streams.recv { receive_window = bytes } }) → Owes accepts old t → Owes accepts new t
  receive_window_owes bytes old new t e o = quiet_call old new _ t e (record { halves = refl; opened = λ k. refl }) o

  -- ---- what is told

  pub poll_owes : (answer : Option Event) (old new : Inner S) (t : List Act) → IsPolledEvent old new answer → Owes accepts old t → Owes accepts new t
  poll_owes _ old new t (stream_told e polled rest) o = quiet_call old new _ t rest (polled_beside old.space.streams new.space.streams (Some e) polled) o
  poll_owes _ old new t (lost_told mid error polled is untold e) o =
      let c = with_streams old mid in
      let told = quiet_call old c mid t refl (polled_beside old.space.streams mid None polled) o in
      subst (λ (n : Inner S). Owes accepts n t) (sym e) (same accepts c (record c { is_lost_told = true }) t (record { side = refl; local = refl; remote = refl; opens = λ e. e; numbers = λ up. refl }) refl told)
  poll_owes _ old new t (nothing_told polled why rest) o = quiet_call old new _ t rest (polled_beside old.space.streams new.space.streams None polled) o

  pub endpoint_owes : (answer : Option EndpointEvent) (old new : Inner S) (t : List Act) → IsDrainedTold old new answer → Owes accepts old t → Owes accepts new t
  endpoint_owes _ old new t (drained_told is untold e) o =
      subst (λ (n : Inner S). Owes accepts n t) (sym e) (same accepts old (record old { is_drained_told = true }) t (record { side = refl; local = refl; remote = refl; opens = λ e. e; numbers = λ up. refl }) refl o)
  endpoint_owes _ old new t (none_told why e) o = kept_call old new t e o
