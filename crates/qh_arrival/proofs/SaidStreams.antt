-- What a step of the streams leaves of the limits that count as announced: each is as before, or a frame says it.
use Rattle.std.proofs.Common.{◌≡◌, ◌⊎◌, ℕ, ◌==◌, Bool, true, false, ◌&&◌, not, List, Option, Some, None, if◌then◌else◌, refl, sym, ap, subst, ◌∙◌, inl, inr}
use Rattle.std.proofs.lemmas.Bool.{cases_Bool}
use Rattle.std.proofs.lemmas.Bool.Decides.{eqb_tells}
use Rattle.std.specs.Prelude.{IfErr, IfOk, Result, Ok, Err}
use Rattle.qh_arrival.specs.Said.{max_data_frame, max_stream_data_frame, max_streams_frame}
use Rattle.qh_base.specs.declared.connection_error.ConnectionError.{ConnectionError}
use Rattle.qh_buffers.specs.declared.assembler.Chunk.{Chunk}
use Rattle.qh_core.specs.Config.{bounded}
use Rattle.qh_core.specs.Made.{IsStreamCall}
use Rattle.qh_core.specs.Made.IsStreamCall.{unchanged, opened, accepted, wrote, unwritten, finished as finished_call, reset as reset_call, prioritized, read, stopped, took_reset, concurrent, send_window, receive_window}
use Rattle.qh_core.specs.Receiving.{AreFramesTaken}
use Rattle.qh_core.specs.Receiving.AreFramesTaken.{none as none_taken, more as more_taken, closed as closed_by, refused as refused_at}
use Rattle.qh_core.specs.Streams.{IsRead, IsReadFault, IsWriteRefused}
use Rattle.qh_core.specs.Streams.IsWriteRefused.{closed as closed_to_writes, wanting, refused as refused_write}
use Rattle.qh_core.specs.Timers.{AreLostByAge, IsProbed}
use Rattle.qh_core.specs.Timers.AreLostByAge.{due as age_due, not_yet as age_not_yet}
use Rattle.qh_core.specs.Timers.IsProbed.{due as probe_due, not_yet as probe_not_yet}
use Rattle.qh_core.specs.declared.fault.TakeFault.{TakeFault}
use Rattle.qh_core.specs.declared.fault.TakeFault.TheVariants.{Readable, Read}
use Rattle.qh_core.specs.declared.inner.Inner.{Inner}
use Rattle.qh_frame.specs.declared.frame.Frame.{Frame}
use Rattle.qh_half.specs.Recv.{PlainRecv, IsReadAnswer, new_recv}
use Rattle.qh_half.specs.Recv.IsReadAnswer.{bytes as bytes_read, nothing as nothing_read, end as end_read, reset as reset_read, blocked as none_read, memory as memory_read}
use Rattle.qh_half.specs.declared.fault.ReadFault.{ReadFault}
use Rattle.qh_half.specs.declared.fault.WriteFault.{WriteFault}
use Rattle.qh_half.specs.declared.fault.WriteFault.TheVariants.{Blocked, Stopped as StoppedBy, ClosedStream, Memory}
use Rattle.qh_halves.specs.Counts.{has_recv, is_bi, is_own}
use Rattle.qh_halves.specs.RecvHalves.{PlainRecvHalves, IsRecvAbsent, IsRecvStep, recv_at, recv_half_in}
use Rattle.qh_halves.specs.SendHalves.{write_limit}
use Rattle.qh_halves.specs.declared.counts.StreamCounts.{StreamCounts}
use Rattle.qh_halves.specs.declared.limit.AnnouncedLimit.{AnnouncedLimit}
use Rattle.qh_history.proofs.Carried.{by_frame, by_loss, by_probe}
use Rattle.qh_space.specs.Receiving.{IsFrameTaken}
use Rattle.qh_space.specs.declared.data_space.DataSpace.{DataSpace}
use Rattle.qh_spec.specs.QuicFrames.{QuicFrame}
use Rattle.qh_spec.specs.Transcript.{Act}
use Rattle.qh_spec.specs.declared.sides.Dir.{Dir}
use Rattle.qh_spec.specs.declared.sides.Dir.TheVariants.{Bi, Uni}
use Rattle.qh_streams.proofs.StreamsTracked.{recv_goes}
use Rattle.qh_streams.specs.Streams.{PlainStreams, AreOpened, HasArrived, IsAckedFrame, IsHandedOver, IsLostFrame, IsPolled, IsReceived, arrives_with, counted_closed, counts_of, is_live, is_two_way, was_opened, with_blocked, with_counts, written_frame}
use Rattle.qh_streams.specs.Streams.IsAckedFrame.{stream as stream_acked, reset as reset_acked, stop as stop_acked, max_stream_data as max_stream_data_acked, max_data as max_data_acked, max_streams as max_streams_acked}
use Rattle.qh_streams.specs.Streams.IsHandedOver.{stream as stream_handed, reset as reset_handed, stop as stop_handed, max_stream_data as max_stream_data_handed, max_data as max_data_handed, max_streams as max_streams_handed}
use Rattle.qh_streams.specs.Streams.IsLostFrame.{stream as stream_lost, reset as reset_lost, stop as stop_lost, max_stream_data as max_stream_data_lost, max_data as max_data_lost, max_streams as max_streams_lost}
use Rattle.qh_streams.specs.Streams.IsPolled.{writable, queued, none as nothing}
use Rattle.qh_streams.specs.Streams.IsReceived.{stream as stream_received, reset as reset_received, stop as stop_received, stopped_before, max_data as max_data_received, max_stream_data as max_stream_data_received, max_streams as max_streams_received}
use Rattle.qh_streams.specs.declared.frames.SentFrame.{SentFrame}
use Rattle.qh_streams.specs.declared.frames.StreamEvent.{StreamEvent}
use Rattle.qh_streams.specs.declared.frames.StreamFrame.{StreamFrame}
use Rattle.qh_transcript.proofs.ReceivingLists.{some_is}

-- ---- what may become of the limits

-- the half was there with this limit
abbrev pub WasSo : PlainRecvHalves → ℕ → PlainRecv → Type 0
WasSo old k half = (was : PlainRecv) × (recv_at old k ≡ Some was) × (half.sent_max_stream_data ≡ was.sent_max_stream_data)

-- or it is new and begins with the first one
abbrev pub IsFirst : PlainRecvHalves → PlainRecv → Type 0
IsFirst old half = half.sent_max_stream_data ≡ bounded old.stream_window

module _ (says : QuicFrame → Type 0) where
  pub record RecvLimits (old new : PlainRecvHalves) : Type 0 where
    pub shared : (new.announced.value ≡ old.announced.value) ⊎ says (max_data_frame new.announced.value)
    pub halves : (k : ℕ) (half : PlainRecv) → recv_at new k ≡ Some half → (WasSo old k half ⊎ IsFirst old half) ⊎ says (max_stream_data_frame k half.sent_max_stream_data)
    pub window : new.stream_window ≡ old.stream_window

  pub record LimitsOn (old new : PlainStreams) : Type 0 where
    pub recv : RecvLimits old.recv new.recv
    pub counts : (dir : Dir) → ((counts_of new (is_two_way dir)).announced.value ≡ (counts_of old (is_two_way dir)).announced.value)
        ⊎ says (max_streams_frame dir (counts_of new (is_two_way dir)).announced.value)

-- what says more
pub limits_more : (says more : QuicFrame → Type 0) (old new : PlainStreams) → ((f : QuicFrame) → says f → more f) → LimitsOn says old new → LimitsOn more old new
limits_more says more old new all p = record {
  recv = record {
    shared = elim p.recv.shared [ inl same ↦ inl same | inr said ↦ inr (all _ said) ];
    halves = λ k half is. elim (p.recv.halves k half is) [ inl same ↦ inl same | inr said ↦ inr (all _ said) ];
    window = p.recv.window;
  };
  counts = λ dir. elim (p.counts dir) [ inl same ↦ inl same | inr said ↦ inr (all _ said) ];
}

-- ---- counts

-- each direction announces the same
abbrev SameCounts : (old new : PlainStreams) → Type 0
SameCounts old new = (two_way : Bool) → (counts_of new two_way).announced.value ≡ (counts_of old two_way).announced.value

counts_same : (old new : PlainStreams) → new.bi ≡ old.bi → new.uni ≡ old.uni → SameCounts old new
counts_same old new bi uni true = ap (λ (c : StreamCounts). c.announced.value) bi
counts_same old new bi uni false = ap (λ (c : StreamCounts). c.announced.value) uni

counts_put : (s : PlainStreams) (two_way : Bool) (c : StreamCounts) → c.announced.value ≡ (counts_of s two_way).announced.value → SameCounts s (with_counts s two_way c)
counts_put s true c same true = same
counts_put s true c same false = refl
counts_put s false c same true = refl
counts_put s false c same false = same

recv_put : (s : PlainStreams) (two_way : Bool) (c : StreamCounts) → (with_counts s two_way c).recv ≡ s.recv
recv_put s true c = refl
recv_put s false c = refl

-- the counts don't hang on the other parts
beside : (s : PlainStreams) (old : PlainStreams) → s.bi ≡ old.bi → s.uni ≡ old.uni → (two_way : Bool) → counts_of old two_way ≡ counts_of s two_way
beside s old bi uni true = sym bi
beside s old bi uni false = sym uni

-- ---- halves that are new

new_limit : (has : Bool) (limit : ℕ) (half : PlainRecv) → (if has then Some (new_recv limit) else None) ≡ Some half → half.sent_max_stream_data ≡ limit
new_limit true limit half is = sym (ap (λ (h : PlainRecv). h.sent_max_stream_data) (some_is (new_recv limit) half is))
new_limit false limit half is = absurd (cc)

answer_limit : (half next : PlainRecv) (max_length : ℕ) (answer : Result (Option Chunk) ReadFault) → IsReadAnswer half next max_length answer → next.sent_max_stream_data ≡ half.sent_max_stream_data
answer_limit half next max_length answer (bytes_read c some r) = ap (λ (h : PlainRecv). h.sent_max_stream_data) r.rest_is
answer_limit half next max_length answer (nothing_read none e c empty) = ap (λ (h : PlainRecv). h.sent_max_stream_data) e
answer_limit half next max_length answer (end_read some waits at_end e) = ap (λ (h : PlainRecv). h.sent_max_stream_data) e
answer_limit half next max_length answer (reset_read code some is e) = ap (λ (h : PlainRecv). h.sent_max_stream_data) e
answer_limit half next max_length answer (none_read some waits not_end none e) = ap (λ (h : PlainRecv). h.sent_max_stream_data) e
answer_limit half next max_length answer (memory_read wants e) = ap (λ (h : PlainRecv). h.sent_max_stream_data) e

module _ (says : QuicFrame → Type 0) where
  -- ---- the receiving halves

  recv_same : (old new : PlainRecvHalves) → new.halves ≡ old.halves → new.announced.value ≡ old.announced.value → new.stream_window ≡ old.stream_window → RecvLimits says old new
  recv_same old new same value window = record {
    shared = inl value;
    halves = λ k half is. inl (inl (half, sym (ap (λ (l : List (ℕ × PlainRecv)). recv_half_in l k) same) ∙ is, refl));
    window = window;
  }

  -- nothing of them changes
  recv_is : (old new : PlainRecvHalves) → new ≡ old → RecvLimits says old new
  recv_is old new e = recv_same old new (ap (λ (r : PlainRecvHalves). r.halves) e) (ap (λ (r : PlainRecvHalves). r.announced.value) e) (ap (λ (r : PlainRecvHalves). r.stream_window) e)

  recv_step : {P : PlainRecv → PlainRecv → Type 0} {old new : PlainRecvHalves} {id n : ℕ} → IsRecvStep P old new id n
      → ((half next : PlainRecv) → P half next → (next.sent_max_stream_data ≡ half.sent_max_stream_data) ⊎ says (max_stream_data_frame id next.sent_max_stream_data)) → RecvLimits says old new
  recv_step {old = old} {new = new} {id = id} step keeps = record {
    shared = inl (ap (λ (r : PlainRecvHalves). r.announced.value) step.rest_is);
    halves = λ k half is. elim (eqb_tells k id) [
      | inl same ↦
          let b = (recv_goes step).here k half same.0 is in
          rw same.1 (elim (keeps b.half half b.step) [ inl stays ↦ inl (inl (b.half, b.was, stays)) | inr said ↦ inr said ])
      | inr apart ↦ inl (inl (half, sym ((recv_goes step).apart k apart.0) ∙ is, refl))
    ];
    window = ap (λ (r : PlainRecvHalves). r.stream_window) step.rest_is;
  }

  recv_or_none : {P : PlainRecv → PlainRecv → Type 0} {old new : PlainRecvHalves} {id n : ℕ} → IsRecvStep P old new id n ⊎ IsRecvAbsent old new id
      → ((half next : PlainRecv) → P half next → next.sent_max_stream_data ≡ half.sent_max_stream_data) → RecvLimits says old new
  recv_or_none (inl step) keeps = recv_step step (λ half next p. inl (keeps half next p))
  recv_or_none {old = old} {new = new} (inr absent) keeps = recv_is old new absent.same

  -- ---- the streams

  both_on : (old new : PlainStreams) → RecvLimits says old.recv new.recv → SameCounts old new → LimitsOn says old new
  both_on old new recv same = record { recv = recv; counts = λ dir. inl (same (is_two_way dir)) }

  pub limits_same : (s : PlainStreams) → LimitsOn says s s
  limits_same s = both_on s s (recv_is s.recv s.recv refl) (λ two_way. refl)

  pub limits_on : (first old new : PlainStreams) → LimitsOn says first old → LimitsOn says old new → LimitsOn says first new
  limits_on first old new before after = record {
    recv = record {
      shared = elim after.recv.shared [
        | inl same ↦ elim before.recv.shared [ inl was ↦ inl (same ∙ was) | inr said ↦ inr (subst (λ (n : ℕ). says (max_data_frame n)) (sym same) said) ]
        | inr said ↦ inr said
      ];
      halves = λ k half is. elim (after.recv.halves k half is) [
        | inl (inl was) ↦ elim (before.recv.halves k was.0 was.1) [
          | inl (inl earlier) ↦ inl (inl (earlier.0, earlier.1, was.2 ∙ earlier.2))
          | inl (inr fresh) ↦ inl (inr (was.2 ∙ fresh))
          | inr said ↦ inr (subst (λ (n : ℕ). says (max_stream_data_frame k n)) (sym was.2) said)
        ]
        | inl (inr fresh) ↦ inl (inr (fresh ∙ ap bounded before.recv.window))
        | inr said ↦ inr said
      ];
      window = after.recv.window ∙ before.recv.window;
    };
    counts = λ dir. elim (after.counts dir) [
      | inl same ↦ elim (before.counts dir) [ inl was ↦ inl (same ∙ was) | inr said ↦ inr (subst (λ (n : ℕ). says (max_streams_frame dir n)) (sym same) said) ]
      | inr said ↦ inr said
    ];
  }

  -- neither changes, or the receiving halves do
  still_on : (old new : PlainStreams) → new.recv ≡ old.recv → new.bi ≡ old.bi → new.uni ≡ old.uni → LimitsOn says old new
  still_on old new recv bi uni = both_on old new (recv_is old.recv new.recv recv) (counts_same old new bi uni)

  sends_on : (old new : PlainStreams) → new ≡ record old { send = new.send } → LimitsOn says old new
  sends_on old new e = still_on old new (ap (λ (s : PlainStreams). s.recv) e) (ap (λ (s : PlainStreams). s.bi) e) (ap (λ (s : PlainStreams). s.uni) e)

  recvs_on : (old new : PlainStreams) → new ≡ record old { recv = new.recv } → RecvLimits says old.recv new.recv → LimitsOn says old new
  recvs_on old new e recv = both_on old new recv (counts_same old new (ap (λ (s : PlainStreams). s.bi) e) (ap (λ (s : PlainStreams). s.uni) e))

  -- another mark at the limit that all streams share
  shared_on : (old new : PlainStreams) (a : AnnouncedLimit) → new ≡ record old { recv = record old.recv { announced = a } } → a.value ≡ old.recv.announced.value → LimitsOn says old new
  shared_on old new a e same =
      let s : PlainStreams = record old { recv = record old.recv { announced = a } } in
      subst (λ (x : PlainStreams). LimitsOn says old x) (sym e) (both_on old s (recv_same old.recv s.recv refl same refl) (counts_same old s refl refl))

  -- other counts, which announce the same
  counts_on : (old new : PlainStreams) (two_way : Bool) (c : StreamCounts) → new ≡ with_counts old two_way c → c.announced.value ≡ (counts_of old two_way).announced.value → LimitsOn says old new
  counts_on old new two_way c e same = subst (λ (s : PlainStreams). LimitsOn says old s) (sym e)
      (both_on old (with_counts old two_way c) (recv_is old.recv (with_counts old two_way c).recv (recv_put old two_way c)) (counts_put old two_way c same))

  closed_alone_on : (s : PlainStreams) (id : ℕ) (was_live : Bool) → LimitsOn says s (counted_closed s id was_live)
  closed_alone_on s id was_live = elim (cases_Bool (not (is_own s.side id) && (was_live && not (is_live s id)))) [
    | inl gone ↦ rw gone (counts_on s _ (is_bi id) _ refl refl)
    | inr there ↦ rw there (limits_same s)
  ]

  closed_on : (old s new : PlainStreams) (id : ℕ) (was_live : Bool) → new ≡ counted_closed s id was_live → LimitsOn says old s → LimitsOn says old new
  closed_on old s new id was_live e before = limits_on old s new before (subst (λ (x : PlainStreams). LimitsOn says s x) (sym e) (closed_alone_on s id was_live))

  -- ---- frames that are lost, or acknowledged

  lost_limits : (old new : PlainStreams) (f : SentFrame) → IsLostFrame old new f → LimitsOn says old new
  lost_limits old new _ (stream_lost id piece step rest) = sends_on old new rest
  lost_limits old new _ (reset_lost id reset step rest) = sends_on old new rest
  lost_limits old new _ (stop_lost id code step rest) = recvs_on old new rest (recv_or_none step (λ half next e. ap (λ (r : PlainRecv). r.sent_max_stream_data) e))
  lost_limits old new _ (max_data_lost limit rest) = shared_on old new _ rest refl
  lost_limits old new _ (max_stream_data_lost id limit step rest) = recvs_on old new rest (recv_or_none step (λ half next e. ap (λ (r : PlainRecv). r.sent_max_stream_data) e))
  lost_limits old new _ (max_streams_lost dir count rest) = counts_on old new (is_two_way dir) _ rest refl

  acked_limits : (old new : PlainStreams) (f : SentFrame) → IsAckedFrame old new f → LimitsOn says old new
  acked_limits old new _ (stream_acked id piece finished step rest) =
      let mid : PlainStreams = record old { send = new.send; events = _ } in
      closed_on old mid new id.0 (is_live old id.0) rest (still_on old mid refl refl refl)
  acked_limits old new _ (reset_acked id reset gone step rest) =
      let mid : PlainStreams = record old { send = new.send } in
      closed_on old mid new id.0 (is_live old id.0) rest (still_on old mid refl refl refl)
  acked_limits old new _ (stop_acked id code step rest) = recvs_on old new rest (recv_or_none step (λ half next e. ap (λ (r : PlainRecv). r.sent_max_stream_data) e))
  acked_limits old new _ (max_data_acked limit rest) = shared_on old new _ rest refl
  acked_limits old new _ (max_stream_data_acked id limit step rest) = recvs_on old new rest (recv_or_none step (λ half next e. ap (λ (r : PlainRecv). r.sent_max_stream_data) e))
  acked_limits old new _ (max_streams_acked dir count rest) = counts_on old new (is_two_way dir) _ rest refl

  -- ---- frames that are handed over

  count_said : (old : PlainStreams) (dir d : Dir) (c : StreamCounts) → says (max_streams_frame dir c.announced.value)
      → ((counts_of (with_counts old (is_two_way dir) c) (is_two_way d)).announced.value ≡ (counts_of old (is_two_way d)).announced.value)
      ⊎ says (max_streams_frame d (counts_of (with_counts old (is_two_way dir) c) (is_two_way d)).announced.value)
  count_said old Bi Bi c said = inr said
  count_said old Bi Uni c said = inl refl
  count_said old Uni Bi c said = inl refl
  count_said old Uni Uni c said = inr said

  -- a limit that it says is the one that it announces
  pub handed_limits : (old new : PlainStreams) (room : ℕ) (f : SentFrame) → says (written_frame new f) → IsHandedOver old new room f → LimitsOn says old new
  handed_limits old new room _ said (stream_handed id piece next rest) = sends_on old new rest
  handed_limits old new room _ said (reset_handed id reset next rest) = sends_on old new rest
  handed_limits old new room _ said (stop_handed id code step rest) = recvs_on old new rest (recv_step step (λ half next gives. inl (ap (λ (r : PlainRecv). r.sent_max_stream_data) gives.2)))
  handed_limits old new room _ said (max_stream_data_handed id limit step rest) =
      recvs_on old new rest (recv_step step (λ half next gives.
      inr (subst (λ (n : ℕ). says (max_stream_data_frame id.0 n)) (sym (ap (λ (r : PlainRecv). r.sent_max_stream_data) gives.2)) said)))
  handed_limits old new room _ said (max_data_handed limit is due rest) =
      recvs_on old new (rest ∙ ap (λ (r : PlainRecvHalves). record old { recv = r }) (sym (ap (λ (s : PlainStreams). s.recv) rest))) (record {
        shared = inr (subst (λ (n : ℕ). says (max_data_frame n)) (sym (ap (λ (s : PlainStreams). s.recv.announced.value) rest)) said);
        halves = λ k half there. inl (inl (half, sym (ap (λ (s : PlainStreams). recv_at s.recv k) rest) ∙ there, refl));
        window = ap (λ (s : PlainStreams). s.recv.stream_window) rest;
      })
  handed_limits old new room _ said (max_streams_handed dir count is due rest) =
      let c : StreamCounts = record (counts_of old (is_two_way dir)) { announced = record { value = count; mark = _ } } in
      subst (λ (s : PlainStreams). LimitsOn says old s) (sym rest) (record {
        recv = recv_is old.recv (with_counts old (is_two_way dir) c).recv (recv_put old (is_two_way dir) c);
        counts = λ d. count_said old dir d c said;
      })

  -- ---- streams that are new

  opened_recv : (old new : PlainStreams) (are_new : ℕ → Bool) → AreOpened old new are_new → RecvLimits says old.recv new.recv
  opened_recv old new are_new o = record {
    shared = inl (ap (λ (r : PlainRecvHalves). r.announced.value) o.recv_rest);
    halves = λ k half is. elim (cases_Bool (are_new k)) [
      | inl fresh ↦ inl (inr (new_limit (has_recv old.side k) (bounded old.recv.stream_window) half (sym (rw fresh at (o.recv_is k)) ∙ is)))
      | inr apart ↦ inl (inl (half, sym (rw apart at (o.recv_is k)) ∙ is, refl))
    ];
    window = ap (λ (r : PlainRecvHalves). r.stream_window) o.recv_rest;
  }

  -- they are new, and one direction has other counts
  opened_on : (old s new : PlainStreams) (are_new : ℕ → Bool) (two_way : Bool) (c : StreamCounts) → AreOpened old new are_new → new ≡ with_counts s two_way c → s.bi ≡ old.bi → s.uni ≡ old.uni
      → c.announced.value ≡ (counts_of old two_way).announced.value → LimitsOn says old new
  opened_on old s new are_new two_way c o e bi uni same =
      both_on old new (opened_recv old new are_new o) (λ b.
      ap (λ (x : PlainStreams). (counts_of x b).announced.value) e
      ∙ (counts_put s two_way c (same ∙ ap (λ (x : StreamCounts). x.announced.value) (beside s old bi uni two_way)) b
      ∙ counts_same old s bi uni b))

  arrived_on : (old new : PlainStreams) (id : ℕ) → HasArrived old new id → LimitsOn says old new
  arrived_on old new id a = elim (cases_Bool (was_opened old id)) [
    | inl known ↦ subst (λ (s : PlainStreams). LimitsOn says old s) (sym (a.known known)) (limits_same old)
    | inr fresh ↦ opened_on old (record old { send = new.send; recv = new.recv; events = _ }) new (arrives_with old id) (is_bi id) _ (a.halves fresh) (a.rest_is fresh) refl refl refl
  ]

  -- ---- frames that come

  received_limits : (old new : PlainStreams) (f : StreamFrame) → IsReceived old new f → LimitsOn says old new
  received_limits old new _ (stream_received id offset payload fin r) =
      let mid = r.mid in
      let s : PlainStreams = record mid { recv = new.recv; events = _ } in
      limits_on old mid new (arrived_on old mid id.0 r.arrived) (closed_on mid s new id.0 (is_live mid id.0) r.rest_is (both_on mid s (elim r.taken [
        | inl taken ↦ recv_step taken.step (λ half next goes. inl (ap (λ (h : PlainRecv). h.sent_max_stream_data) goes.rest_is))
        | inr absent ↦ recv_is mid.recv new.recv absent.same
      ]) (counts_same mid s refl refl)))
  received_limits old new _ (reset_received id code size r) =
      let mid = r.mid in
      let s : PlainStreams = record mid { recv = new.recv; events = _ } in
      limits_on old mid new (arrived_on old mid id.0 r.arrived) (closed_on mid s new id.0 (is_live mid id.0) r.rest_is (both_on mid s (elim r.taken [
        | inl taken ↦ recv_step taken.step (λ half next goes. inl (ap (λ (h : PlainRecv). h.sent_max_stream_data) goes.rest_is))
        | inr absent ↦ recv_is mid.recv new.recv absent.same
      ]) (counts_same mid s refl refl)))
  received_limits old new _ (stop_received mid id code came step e) =
      limits_on old mid new (arrived_on old mid id.0 came) (still_on mid new (ap (λ (s : PlainStreams). s.recv) e) (ap (λ (s : PlainStreams). s.bi) e) (ap (λ (s : PlainStreams). s.uni) e))
  received_limits old new _ (stopped_before id code came was) = arrived_on old new id.0 came
  received_limits old new _ (max_data_received limit e) = still_on old new (ap (λ (s : PlainStreams). s.recv) e) (ap (λ (s : PlainStreams). s.bi) e) (ap (λ (s : PlainStreams). s.uni) e)
  received_limits old new _ (max_stream_data_received mid id limit came step unblocked e) =
      limits_on old mid new (arrived_on old mid id.0 came) (still_on mid new (ap (λ (s : PlainStreams). s.recv) e) (ap (λ (s : PlainStreams). s.bi) e) (ap (λ (s : PlainStreams). s.uni) e))
  received_limits old new _ (max_streams_received dir count e) =
      let mid : PlainStreams = record old { events = _ } in
      limits_on old mid new (still_on old mid refl refl refl)
      (counts_on mid new (is_two_way dir) _ e (ap (λ (x : StreamCounts). x.announced.value) (beside mid old refl refl (is_two_way dir))))

  -- ---- what is told

  pub polled_limits : (old new : PlainStreams) (e : Option StreamEvent) → IsPolled old new e → LimitsOn says old new
  polled_limits old new _ (writable id front rest open_now blocked_is shut on e) = still_on old new (ap (λ (s : PlainStreams). s.recv) e) (ap (λ (s : PlainStreams). s.bi) e) (ap (λ (s : PlainStreams). s.uni) e)
  polled_limits old new _ (queued event events left events_are e) = still_on old new (ap (λ (s : PlainStreams). s.recv) e) (ap (λ (s : PlainStreams). s.bi) e) (ap (λ (s : PlainStreams). s.uni) e)
  polled_limits old new _ (nothing left empty e) = still_on old new (ap (λ (s : PlainStreams). s.recv) e) (ap (λ (s : PlainStreams). s.bi) e) (ap (λ (s : PlainStreams). s.uni) e)

  -- ---- packets that come, and what is due

  lost_on : (first old new : PlainStreams) (f : SentFrame) → IsLostFrame old new f → LimitsOn says first old → LimitsOn says first new
  lost_on first old new f lost p = limits_on first old new p (lost_limits old new f lost)

  acked_on : (first old new : PlainStreams) (f : SentFrame) → IsAckedFrame old new f → LimitsOn says first old → LimitsOn says first new
  acked_on first old new f acked p = limits_on first old new p (acked_limits old new f acked)

  frame_limits : (now : ℕ) (old new : DataSpace) (f : Frame) (end : Option ConnectionError) → IsFrameTaken now old new f end → LimitsOn says old.streams new.streams
  frame_limits now old new f end taken = by_frame (λ s. LimitsOn says old.streams s) (lost_on old.streams) (acked_on old.streams) now old new f end
      (λ c of r. received_limits old.streams new.streams c r) (λ none. limits_same old.streams) taken

  pub frames_limits : (now : ℕ) (bytes : List ℕ) (old new : DataSpace) (taken : List Frame) (end : Option ConnectionError) → AreFramesTaken now bytes old new taken end → LimitsOn says old.streams new.streams
  frames_limits now bytes old new taken end (none_taken _) = limits_same old.streams
  frames_limits now bytes old new taken end (more_taken _ rest f _ mid _ later _ b free step t) =
      limits_on old.streams mid.streams new.streams (frame_limits now old mid f None step) (frames_limits now rest mid new later end t)
  frames_limits now bytes old new taken end (closed_by _ rest f _ _ e b free step) = frame_limits now old new f (Some e) step
  frames_limits now bytes old new taken end (refused_at _ rest f _ e b n r) = limits_same old.streams

  pub aged_limits : (now : ℕ) (old new : DataSpace) → AreLostByAge now old new → LimitsOn says old.streams new.streams
  aged_limits now old new (age_due moment largest is by_now acked lost) = by_loss (λ s. LimitsOn says old.streams s) (lost_on old.streams) largest now old new lost (limits_same old.streams)
  aged_limits now old new (age_not_yet later e) = subst (λ (s : DataSpace). LimitsOn says old.streams s.streams) (sym e) (limits_same old.streams)

  pub probed_limits : (now : ℕ) (old new : DataSpace) → IsProbed now old new → LimitsOn says old.streams new.streams
  probed_limits now old new (probe_due moment is by_now due) = by_probe (λ s. LimitsOn says old.streams s) (lost_on old.streams) old new due (limits_same old.streams)
  probed_limits now old new (probe_not_yet later e) = subst (λ (s : DataSpace). LimitsOn says old.streams s.streams) (sym e) (limits_same old.streams)

  -- ---- calls

  maybe_blocked : (s : PlainStreams) (b : Bool) (blocked : List ℕ) → LimitsOn says s (if b then record s { blocked = blocked } else s)
  maybe_blocked s true blocked = still_on s (record s { blocked = blocked }) refl refl refl
  maybe_blocked s false blocked = limits_same s

  blocked_limits : (s : PlainStreams) (id : ℕ) (fault : WriteFault) → LimitsOn says s (with_blocked s id fault)
  blocked_limits s id Blocked = maybe_blocked s (write_limit s.send == 0) _
  blocked_limits s id (StoppedBy code) = limits_same s
  blocked_limits s id ClosedStream = limits_same s
  blocked_limits s id Memory = limits_same s

  read_limits : (max_length : ℕ) (ordered : Bool) (id : ℕ) (answer : Result (Option Chunk) ReadFault) (old new : PlainStreams) → IsRead max_length ordered id answer old new → LimitsOn says old new
  read_limits max_length ordered id answer old new r =
      let s : PlainStreams = record r.mid { recv = new.recv } in
      limits_on old r.mid new (recvs_on old r.mid r.mid_is (recv_step r.begun (λ half next e. inl (ap (λ (h : PlainRecv). h.sent_max_stream_data) e))))
      (closed_on r.mid s new id (is_live r.mid id) r.new_is (recvs_on r.mid s refl (recv_step r.reads (λ half next a. inl (answer_limit half next max_length answer a)))))

  answered_limits : (max_length : ℕ) (ordered : Bool) (id : ℕ) (answer : Result (Option Chunk) TakeFault) (old new : PlainStreams)
      → IfOk answer (λ o. IsRead max_length ordered id (Ok o) old new) → IfErr answer (λ e. IsReadFault max_length ordered id e old new) → LimitsOn says old new
  answered_limits max_length ordered id (Ok o) old new ok err = read_limits max_length ordered id (Ok o) old new ok
  answered_limits max_length ordered id (Err (Read why)) old new ok err = read_limits max_length ordered id (Err why) old new err
  answered_limits max_length ordered id (Err (Readable why)) old new ok err = subst (λ (s : PlainStreams). LimitsOn says old s) (sym err.1) (limits_same old)

  module _ {S : Type 0} where
    refused_limits : (id : ℕ) (fault : WriteFault) (old new : Inner S) → IsWriteRefused id fault old new → LimitsOn says old.space.streams new.space.streams
    refused_limits id fault old new (closed_to_writes down is e) = subst (λ (c : Inner S). LimitsOn says old.space.streams c.space.streams) (sym e) (limits_same old.space.streams)
    refused_limits id fault old new (wanting up may is e) = subst (λ (c : Inner S). LimitsOn says old.space.streams c.space.streams) (sym e) (limits_same old.space.streams)
    refused_limits id fault old new (refused_write up is e) = subst (λ (c : Inner S). LimitsOn says old.space.streams c.space.streams) (sym e) (blocked_limits old.space.streams id fault)

    streams_of : (old new : Inner S) (s : PlainStreams) → new ≡ record old { space = record old.space { streams = s } } → new.space.streams ≡ s
    streams_of old new s e = ap (λ (c : Inner S). c.space.streams) e

    pub called_limits : (old new : Inner S) (acts : List Act) → IsStreamCall old new acts → LimitsOn says old.space.streams new.space.streams
    called_limits old new acts (unchanged e) = subst (λ (c : Inner S). LimitsOn says old.space.streams c.space.streams) (sym e) (limits_same old.space.streams)
    called_limits old new acts (opened dir id up id_is below o rest) =
        let s : PlainStreams = record old.space.streams { send = new.space.streams.send; recv = new.space.streams.recv } in
        opened_on old.space.streams s new.space.streams (λ k. k == id) (is_bi id) _ o.halves o.rest_is refl refl refl
    called_limits old new acts (accepted dir below rest) = counts_on old.space.streams new.space.streams (is_two_way dir) _ (streams_of old new _ rest) refl
    called_limits old new acts (wrote id count bytes up free step rest) = sends_on old.space.streams new.space.streams (streams_of old new _ rest)
    called_limits old new acts (unwritten id fault denied) = refused_limits id fault old new denied
    called_limits old new acts (finished_call id step rest) = sends_on old.space.streams new.space.streams (streams_of old new _ rest)
    called_limits old new acts (reset_call id code step rest) = sends_on old.space.streams new.space.streams (streams_of old new _ rest)
    called_limits old new acts (prioritized id priority step rest) = sends_on old.space.streams new.space.streams (streams_of old new _ rest)
    called_limits old new acts (read max_length ordered id answer ok err rest) = answered_limits max_length ordered id answer old.space.streams new.space.streams ok err
    called_limits old new acts (stopped id code step rest) =
        let mid : PlainStreams = record old.space.streams { recv = new.space.streams.recv } in
        closed_on old.space.streams mid new.space.streams id (is_live old.space.streams id) (streams_of old new _ rest)
        (recvs_on old.space.streams mid refl (recv_step step (λ half next stops. inl (ap (λ (h : PlainRecv). h.sent_max_stream_data) stops.rest_is))))
    called_limits old new acts (took_reset id code step rest) =
        let mid : PlainStreams = record old.space.streams { recv = new.space.streams.recv } in
        closed_on old.space.streams mid new.space.streams id (is_live old.space.streams id) (streams_of old new _ rest)
        (recvs_on old.space.streams mid refl (recv_step step (λ half next taken. inl (ap (λ (h : PlainRecv). h.sent_max_stream_data) taken.2))))
    called_limits old new acts (concurrent dir count rest) = counts_on old.space.streams new.space.streams (is_two_way dir) _ (streams_of old new _ rest) refl
    called_limits old new acts (send_window bytes rest) =
        let e = streams_of old new _ rest in
        still_on old.space.streams new.space.streams (ap (λ (s : PlainStreams). s.recv) e) (ap (λ (s : PlainStreams). s.bi) e) (ap (λ (s : PlainStreams). s.uni) e)
    called_limits old new acts (receive_window bytes rest) =
        let e = streams_of old new _ rest in
        both_on old.space.streams new.space.streams
        (recv_same old.space.streams.recv new.space.streams.recv (ap (λ (s : PlainStreams). s.recv.halves) e) (ap (λ (s : PlainStreams). s.recv.announced.value) e) (ap (λ (s : PlainStreams). s.recv.stream_window) e))
        (counts_same old.space.streams new.space.streams (ap (λ (s : PlainStreams). s.bi) e) (ap (λ (s : PlainStreams). s.uni) e))
