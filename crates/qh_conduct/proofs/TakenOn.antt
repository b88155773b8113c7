-- What a step of the streams leaves of how many bytes were taken of each writer, and of which streams are reset.
use Rattle.std.proofs.Common.{◌≡◌, ◌⊎◌, ℕ, ℤ, ◌+◌, ◌==◌, Bool, true, false, List, [], ◌++◌, length, Option, Some, None, if◌then◌else◌, refl, sym, ap, subst, ◌∙◌, arith, inl, inr}
use Rattle.std.proofs.lemmas.Bool.{cases_Bool, eq-eqb, false≢true}
use Rattle.std.proofs.lemmas.List.{append-nil, length-append}
use Rattle.std.proofs.lemmas.Bool.Decides.{eqb_tells}
use Rattle.qh_buffers.specs.SendBuffer.{taken_to}
use Rattle.qh_buffers.specs.declared.send_buffer.Mark.{Mark}
use Rattle.qh_buffers.specs.declared.send_buffer.Mark.TheVariants.{Sent, Queued, Acked}
use Rattle.qh_conduct.proofs.StreamsGoOn.{acked_goes, closed_before, closed_go, handed_goes, later_on, lost_goes, same_go}
use Rattle.qh_conduct.proofs.StreamsReceive.{call_go, received_go}
use Rattle.qh_conduct.specs.Calls.{IsCall}
use Rattle.qh_conduct.specs.Calls.IsCall.{same as same_call, opened as opened_call, accepted as accepted_call, takes as takes_call, finishes as finishes_call, resets as resets_call, goes_first as goes_first_call, refused as refused_call, reads as reads_call, stops as stops_call, takes_reset as takes_reset_call, concurrent as concurrent_call, send_window as send_window_call, receive_window as receive_window_call, polls as polls_call}
use Rattle.qh_conduct.specs.Sized.{AreTaken, IsClosedAt, MayWrite, written_by}
use Rattle.qh_half.specs.Send.{PlainSend, IsEndOut, IsPieceOut, is_reset, new_send, with_end_acked, with_end_lost, with_end_sent, with_reset_lost, with_reset_mark, write_fault}
use Rattle.qh_half.specs.declared.fault.WriteFault.{WriteFault}
use Rattle.qh_half.specs.declared.fault.WriteFault.TheVariants.{Blocked, Stopped, ClosedStream, Memory}
use Rattle.qh_half.specs.declared.send.Outgoing.{Outgoing}
use Rattle.qh_half.specs.declared.send.ResetFrame.{ResetFrame}
use Rattle.qh_half.specs.declared.send.SendState.{SendState}
use Rattle.qh_half.specs.declared.send.SendState.TheVariants.{Ready, DataSent, ResetSent}
use Rattle.qh_halves.specs.Counts.{has_recv, has_send, is_own}
use Rattle.qh_halves.specs.RecvHalves.{PlainRecvHalves}
use Rattle.qh_halves.specs.SendHalves.{PlainSendHalves, Finishes, GivesPiece, GivesReset, HasLimit, HasPriority, IsAcked, IsLost, IsResetAcked, IsResetLost, IsResetWith, IsStep, IsStoppedWith, Takes, half_write_fault, send_at, write_fault_at, write_limit}
use Rattle.qh_halves.specs.declared.counts.StreamCounts.{StreamCounts}
use Rattle.qh_spec.proofs.TranscriptLaws.{written-append}
use Rattle.qh_spec.specs.Transcript.{Act, if_same_stream, written}
use Rattle.qh_streams.proofs.StreamsKept.{AreLater, later_same, still_opened}
use Rattle.qh_streams.proofs.StreamsSettled.{closed_alone, counts_alone}
use Rattle.qh_streams.proofs.StreamsTracked.{Goes, IsBefore, settled_goes, step_goes, step_or_absent}
use Rattle.qh_streams.specs.Streams.{PlainStreams, HasArrived, IsAckedFrame, IsHandedOver, IsLostFrame, IsPolled, IsReceived, arrives_with, counted_closed, first_limit, is_live, is_two_way, refusal_of, was_opened, with_blocked, with_counts}
use Rattle.qh_streams.specs.Streams.IsAckedFrame.{stream as stream_acked, reset as reset_acked, stop as stop_acked, max_stream_data as max_stream_data_acked, max_data as max_data_acked, max_streams as max_streams_acked}
use Rattle.qh_streams.specs.Streams.IsHandedOver.{stream as stream_handed, reset as reset_handed, stop as stop_handed, max_stream_data as max_stream_data_handed, max_data as max_data_handed, max_streams as max_streams_handed}
use Rattle.qh_streams.specs.Streams.IsLostFrame.{stream as stream_lost, reset as reset_lost, stop as stop_lost, max_stream_data as max_stream_data_lost, max_data as max_data_lost, max_streams as max_streams_lost}
use Rattle.qh_streams.specs.Streams.IsPolled.{writable, queued, none as nothing}
use Rattle.qh_streams.specs.Streams.IsReceived.{stream as stream_received, reset as reset_received, stop as stop_received, stopped_before, max_data as max_data_received, max_stream_data as max_stream_data_received, max_streams as max_streams_received}
use Rattle.qh_streams.specs.declared.frames.SentFrame.{SentFrame}
use Rattle.qh_streams.specs.declared.frames.StreamEvent.{StreamEvent}
use Rattle.qh_streams.specs.declared.frames.StreamFrame.{StreamFrame}
use Rattle.qh_transcript.proofs.ReceivingLists.{some_is}
use Rattle.qh_transcript.proofs.ReceivingOpened.{AddsNew, arrived_new, first_refusal, not_own, opened_new}
use Rattle.qh_transcript.proofs.SendingHalves.{not_closed, ready_state}
use Rattle.qh_transcript.proofs.SendingLists.{other_way}

-- ---- one half

-- as many bytes are taken, and it is reset where it was
pub record KeepsTaken (h next : PlainSend) : Type 0 where
  pub taken : taken_to next.buffer ≡ taken_to h.buffer
  pub reset : is_reset h.state ≡ true → is_reset next.state ≡ true

keeps_self : (h : PlainSend) → KeepsTaken h h
keeps_self h = record { taken = refl; reset = λ is. is }

keeps_on : (first h next : PlainSend) → KeepsTaken first h → KeepsTaken h next → KeepsTaken first next
keeps_on first h next before after = record { taken = after.taken ∙ before.taken; reset = λ is. after.reset (before.reset is) }

same_buffer : (h next : PlainSend) → next.buffer ≡ h.buffer → is_reset next.state ≡ is_reset h.state → KeepsTaken h next
same_buffer h next buffer state = record { taken = ap taken_to buffer; reset = λ is. state ∙ is }

end_sent : (fin : Bool) (s : SendState) → is_reset (if fin then with_end_sent s else s) ≡ is_reset s
end_sent false s = refl
end_sent true Ready = refl
end_sent true (DataSent Sent) = refl
end_sent true (DataSent Queued) = refl
end_sent true (DataSent Acked) = refl
end_sent true (ResetSent code mark) = refl

end_lost : (fin : Bool) (s : SendState) → is_reset (if fin then with_end_lost s else s) ≡ is_reset s
end_lost false s = refl
end_lost true Ready = refl
end_lost true (DataSent Sent) = refl
end_lost true (DataSent Queued) = refl
end_lost true (DataSent Acked) = refl
end_lost true (ResetSent code mark) = refl

end_acked : (fin : Bool) (s : SendState) → is_reset (if fin then with_end_acked s else s) ≡ is_reset s
end_acked false s = refl
end_acked true Ready = refl
end_acked true (DataSent mark) = refl
end_acked true (ResetSent code mark) = refl

reset_marked : (m : Mark) (s : SendState) → is_reset (with_reset_mark m s) ≡ is_reset s
reset_marked m Ready = refl
reset_marked m (DataSent mark) = refl
reset_marked m (ResetSent code mark) = refl

lost_marked : (s : SendState) → is_reset (with_reset_lost s) ≡ is_reset s
lost_marked Ready = refl
lost_marked (DataSent mark) = refl
lost_marked (ResetSent code mark) = refl

finish_taken : (h next : PlainSend) → Finishes h next → KeepsTaken h next
finish_taken h next p = record { taken = ap (λ (h : PlainSend). taken_to h.buffer) p.1; reset = λ is. absurd (false≢true (sym (not_closed h.stop_reason h.state p.0) ∙ is)) }

reset_taken : (code : ℕ) (h next : PlainSend) → IsResetWith code h next → KeepsTaken h next
reset_taken code h next p = record { taken = ap (λ (h : PlainSend). taken_to h.buffer) p.1; reset = λ is. ap (λ (h : PlainSend). is_reset h.state) p.1 }

priority_taken : (priority : ℤ) (h next : PlainSend) → HasPriority priority h next → KeepsTaken h next
priority_taken priority h next e = same_buffer h next (ap (λ (h : PlainSend). h.buffer) e) (ap (λ (h : PlainSend). is_reset h.state) e)

stopped_taken : (code : ℕ) (h next : PlainSend) → IsStoppedWith code h next → KeepsTaken h next
stopped_taken code h next p = same_buffer h next (ap (λ (h : PlainSend). h.buffer) p.1) (ap (λ (h : PlainSend). is_reset h.state) p.1)

limit_taken : (limit : ℕ) (h next : PlainSend) → HasLimit limit h next → KeepsTaken h next
limit_taken limit h next e = same_buffer h next (ap (λ (h : PlainSend). h.buffer) e) (ap (λ (h : PlainSend). is_reset h.state) e)

-- the bytes of a half that isn't reset, or all of one that is
live_or_reset : (h next : PlainSend) → (is_reset h.state ≡ false → taken_to next.buffer ≡ taken_to h.buffer) → (is_reset h.state ≡ true → next ≡ h) → is_reset next.state ≡ is_reset h.state → KeepsTaken h next
live_or_reset h next live gone state = record {
  taken = elim (cases_Bool (is_reset h.state)) [
    | inl is ↦ ap (λ (h : PlainSend). taken_to h.buffer) (gone is)
    | inr not ↦ live not
  ];
  reset = λ is. state ∙ is;
}

lost_taken : (piece : Outgoing) (h next : PlainSend) → IsLost piece h next → KeepsTaken h next
lost_taken piece h next p =
    live_or_reset h next (λ live. let b = p.bytes_are live in rw (b.start_is, b.bytes_are) refl) p.kept (ap is_reset p.state_is ∙ end_lost piece.fin h.state)

acked_taken : (piece : Outgoing) (h next : PlainSend) → IsAcked piece h next → KeepsTaken h next
acked_taken piece h next p = live_or_reset h next (λ live. (p.bytes_are live).taken_is) p.kept (ap is_reset p.state_is ∙ end_acked piece.fin h.state)

reset_acked_taken : (h next : PlainSend) → IsResetAcked h next → KeepsTaken h next
reset_acked_taken h next e = same_buffer h next (ap (λ (h : PlainSend). h.buffer) e) (ap (λ (h : PlainSend). is_reset h.state) e ∙ reset_marked Acked h.state)

reset_lost_taken : (h next : PlainSend) → IsResetLost h next → KeepsTaken h next
reset_lost_taken h next e = same_buffer h next (ap (λ (h : PlainSend). h.buffer) e) (ap (λ (h : PlainSend). is_reset h.state) e ∙ lost_marked h.state)

piece_taken : (room from to : ℕ) (fin : Bool) (h next : PlainSend) → IsPieceOut h next room from to fin → KeepsTaken h next
piece_taken room from to fin h next p = record { taken = rw (p.bytes_are.start_is, p.bytes_are.bytes_are) refl; reset = λ is. absurd (false≢true (sym p.not_reset ∙ is)) }

last_taken : (from to : ℕ) (fin : Bool) (h next : PlainSend) → IsEndOut h next from to fin → KeepsTaken h next
last_taken from to fin h next p = same_buffer h next (ap (λ (h : PlainSend). h.buffer) p.new_is) (ap (λ (h : PlainSend). is_reset h.state) p.new_is ∙ end_sent true h.state)

gives_taken : (room : ℕ) (piece : Outgoing) (h next : PlainSend) → GivesPiece room piece h next → KeepsTaken h next
gives_taken room piece h next (inl p) = piece_taken room piece.offsets.start piece.offsets.end piece.fin h next p
gives_taken room piece h next (inr p) = last_taken piece.offsets.start piece.offsets.end piece.fin h next p

gives_reset_taken : (f : ResetFrame) (h next : PlainSend) → GivesReset f h next → KeepsTaken h next
gives_reset_taken f h next p = same_buffer h next (ap (λ (h : PlainSend). h.buffer) p.2) (ap (λ (h : PlainSend). is_reset h.state) p.2 ∙ reset_marked Sent h.state)

-- ---- the streams

-- the stream is new, and nothing was taken
pub record IsNewSend (old new : PlainStreams) (k : ℕ) (h : PlainSend) : Type 0 where
  pub before : was_opened old k ≡ false
  pub after : was_opened new k ≡ true
  pub nothing : taken_to h.buffer ≡ 0

pub record TakenOn (old new : PlainStreams) : Type 0 where
  pub later : AreLater old new
  pub halves : (k : ℕ) (h : PlainSend) → send_at new.send k ≡ Some h → IsBefore KeepsTaken (send_at old.send) k h ⊎ IsNewSend old new k h

pub same_taken : (old new : PlainStreams) → AreLater old new → new.send.halves ≡ old.send.halves → TakenOn old new
same_taken old new later same = record { later = later; halves = λ k h is. inl (record { half = h; was = rw same at is; step = keeps_self h }) }

taken_by : {P : PlainSend → PlainSend → Type 0} {id : ℕ} (old new : PlainStreams) → AreLater old new → Goes P (send_at old.send) (send_at new.send) id → ((h next : PlainSend) → P h next → KeepsTaken h next) → TakenOn old new
taken_by {id = id} old new later goes keeps = record {
  later = later;
  halves = λ k h is. inl (elim (eqb_tells k id) [
    | inl same ↦ let b = goes.here k h same.0 is in rw same.1 (record { half = b.half; was = b.was; step = keeps b.half h b.step })
    | inr apart ↦ record { half = h; was = sym (goes.apart k apart.0) ∙ is; step = keeps_self h }
  ]);
}

pub taken_on : (first old new : PlainStreams) → TakenOn old new → TakenOn first old → TakenOn first new
taken_on first old new after before = record {
  later = later_on before.later after.later;
  halves = λ k h is. elim (after.halves k h is) [
    | inl b ↦ elim (before.halves k b.half b.was) [
      | inl a ↦ inl (record { half = a.half; was = a.was; step = keeps_on a.half b.half h a.step b.step })
      | inr fresh ↦ inr (record { before = fresh.before; after = still_opened after.later k fresh.after; nothing = b.step.taken ∙ fresh.nothing })
    ]
    | inr fresh ↦ inr (record { before = closed_before before.later k fresh.before; after = fresh.after; nothing = fresh.nothing })
  ];
}

pub self_taken : (s : PlainStreams) → TakenOn s s
self_taken s = same_taken s s (same_go s).later refl

some_none : {X : Type 0} (o : Option X) (x : X) → o ≡ Some x → o ≡ None → ⊥
some_none o x some none = cc

none_unless : {X : Type 0} (o : Option X) → ((x : X) → o ≡ Some x → ⊥) → o ≡ None
none_unless None never = refl
none_unless (Some x) never = absurd (never x refl)

-- what was taken is what was written, still
pub taken_after : (old new : PlainStreams) (t : List Act) → TakenOn old new → AreTaken old t → AreTaken new t
taken_after old new t go p = record {
  halves = λ k h is. elim (go.halves k h is) [
    | inl b ↦ b.step.taken ∙ p.halves k b.half b.was
    | inr fresh ↦ fresh.nothing ∙ ap length (sym (p.unopened k fresh.before).1)
  ];
  unopened = λ k closed.
      let was = p.unopened k (closed_before go.later k closed) in (
        none_unless (send_at new.send k) (λ h is. elim (go.halves k h is) [
          | inl b ↦ some_none (send_at old.send k) b.half b.was was.0
          | inr fresh ↦ false≢true (sym closed ∙ fresh.after)
        ]),
        was.1,
      );
}

pub closed_after : (old new : PlainStreams) (t : List Act) (stream size : ℕ) → TakenOn old new → IsClosedAt old t stream size → IsClosedAt new t stream size
closed_after old new t stream size go p = record {
  size_is = p.size_is;
  opened = still_opened go.later stream p.opened;
  reset = λ h is. elim (go.halves stream h is) [
    | inl b ↦ b.step.reset (p.reset b.half b.was)
    | inr fresh ↦ absurd (false≢true (sym fresh.before ∙ p.opened))
  ];
}

-- ---- frames that are lost, acknowledged or handed over

-- other counts leave the sending halves
with_counts_send : (s : PlainStreams) (two_way : Bool) (c : StreamCounts) → (with_counts s two_way c).send.halves ≡ s.send.halves
with_counts_send s two_way c = ap (λ (h : PlainSendHalves). h.halves) (counts_alone s two_way c).send_is

closed_send : (s : PlainStreams) (id : ℕ) (was_live : Bool) → (counted_closed s id was_live).send ≡ s.send
closed_send s id was_live = (closed_alone s id was_live).send_is

pub lost_taken_on : (old new : PlainStreams) (f : SentFrame) → IsLostFrame old new f → TakenOn old new
lost_taken_on old new f (stream_lost id piece step rest) = taken_by old new (lost_goes old new f (stream_lost id piece step rest)).later (step_or_absent step) (lost_taken piece)
lost_taken_on old new f (reset_lost id reset step rest) = taken_by old new (lost_goes old new f (reset_lost id reset step rest)).later (step_or_absent step) reset_lost_taken
lost_taken_on old new f (stop_lost id code step rest) = same_taken old new (lost_goes old new f (stop_lost id code step rest)).later (ap (λ (s : PlainStreams). s.send.halves) rest)
lost_taken_on old new f (max_data_lost limit rest) = same_taken old new (lost_goes old new f (max_data_lost limit rest)).later (ap (λ (s : PlainStreams). s.send.halves) rest)
lost_taken_on old new f (max_stream_data_lost id limit step rest) = same_taken old new (lost_goes old new f (max_stream_data_lost id limit step rest)).later (ap (λ (s : PlainStreams). s.send.halves) rest)
lost_taken_on old new f (max_streams_lost dir count rest) =
    same_taken old new (lost_goes old new f (max_streams_lost dir count rest)).later (ap (λ (s : PlainStreams). s.send.halves) rest ∙ with_counts_send old (is_two_way dir) _)

pub acked_taken_on : (old new : PlainStreams) (f : SentFrame) → IsAckedFrame old new f → TakenOn old new
acked_taken_on old new f (stream_acked id piece finished step rest) = taken_by old new (acked_goes old new f (stream_acked id piece finished step rest)).later (settled_goes step) (acked_taken piece)
acked_taken_on old new f (reset_acked id reset gone step rest) = taken_by old new (acked_goes old new f (reset_acked id reset gone step rest)).later (settled_goes step) reset_acked_taken
acked_taken_on old new f (stop_acked id code step rest) = same_taken old new (acked_goes old new f (stop_acked id code step rest)).later (ap (λ (s : PlainStreams). s.send.halves) rest)
acked_taken_on old new f (max_data_acked limit rest) = same_taken old new (acked_goes old new f (max_data_acked limit rest)).later (ap (λ (s : PlainStreams). s.send.halves) rest)
acked_taken_on old new f (max_stream_data_acked id limit step rest) = same_taken old new (acked_goes old new f (max_stream_data_acked id limit step rest)).later (ap (λ (s : PlainStreams). s.send.halves) rest)
acked_taken_on old new f (max_streams_acked dir count rest) =
    same_taken old new (acked_goes old new f (max_streams_acked dir count rest)).later (ap (λ (s : PlainStreams). s.send.halves) rest ∙ with_counts_send old (is_two_way dir) _)

pub handed_taken_on : (old new : PlainStreams) (room : ℕ) (f : SentFrame) → IsHandedOver old new room f → TakenOn old new
handed_taken_on old new room f (stream_handed id piece next rest) = taken_by old new (handed_goes old new room f (stream_handed id piece next rest)).later (step_goes next.step) (gives_taken _ piece)
handed_taken_on old new room f (reset_handed id reset next rest) = taken_by old new (handed_goes old new room f (reset_handed id reset next rest)).later (step_goes next.step) (gives_reset_taken reset)
handed_taken_on old new room f (stop_handed id code step rest) = same_taken old new (handed_goes old new room f (stop_handed id code step rest)).later (ap (λ (s : PlainStreams). s.send.halves) rest)
handed_taken_on old new room f (max_stream_data_handed id limit step rest) = same_taken old new (handed_goes old new room f (max_stream_data_handed id limit step rest)).later (ap (λ (s : PlainStreams). s.send.halves) rest)
handed_taken_on old new room f (max_data_handed limit is due rest) = same_taken old new (handed_goes old new room f (max_data_handed limit is due rest)).later (ap (λ (s : PlainStreams). s.send.halves) rest)
handed_taken_on old new room f (max_streams_handed dir count is due rest) =
    same_taken old new (handed_goes old new room f (max_streams_handed dir count is due rest)).later (ap (λ (s : PlainStreams). s.send.halves) rest ∙ with_counts_send old (is_two_way dir) _)

-- ---- frames that come

new_nothing : (has : Bool) (limit : ℕ) (h : PlainSend) → (if has then Some (new_send limit) else None) ≡ Some h → taken_to h.buffer ≡ 0
new_nothing true limit h is = sym (ap (λ (h : PlainSend). taken_to h.buffer) (some_is (new_send limit) h is))
new_nothing false limit h is = absurd (cc)

adds_taken : (old new : PlainStreams) (are_new : ℕ → Bool) → AddsNew old new are_new → TakenOn old new
adds_taken old new are_new p = record {
  later = p.later;
  halves = λ k h is. elim (cases_Bool (are_new k)) [
    | inl fresh ↦ inr (record {
      before = p.before k fresh;
      after = p.after k fresh;
      nothing = new_nothing (has_send old.side k) (first_limit old k) h (sym (rw fresh at (p.are_opened.send_is k)) ∙ is);
    })
    | inr apart ↦ inl (record { half = h; was = sym (rw apart at (p.are_opened.send_is k)) ∙ is; step = keeps_self h })
  ];
}

arrived_taken : (old new : PlainStreams) (id : ℕ) → (was_opened old id ≡ false → is_own old.side id ≡ false) → HasArrived old new id → TakenOn old new
arrived_taken old new id peers a = elim (cases_Bool (was_opened old id)) [
  | inl known ↦ subst (λ (s : PlainStreams). TakenOn old s) (sym (a.known known)) (self_taken old)
  | inr fresh ↦ adds_taken old new (arrives_with old id) (arrived_new old new id (peers fresh) fresh a)
]

-- a step of the receiving half, by which a stream may be closed
closes_taken : (mid new : PlainStreams) (recv : PlainRecvHalves) (events : List StreamEvent) (id : ℕ) (was_live : Bool) → new ≡ counted_closed (record mid { recv = recv; events = events }) id was_live → TakenOn mid new
closes_taken mid new recv events id was_live rest =
    let s : PlainStreams = record mid { recv = recv; events = events } in
    subst (λ (x : PlainStreams). TakenOn mid x) (sym rest)
    (same_taken mid (counted_closed s id was_live) (later_on (later_same mid s refl refl refl) (closed_go s id was_live).later) (ap (λ (h : PlainSendHalves). h.halves) (closed_send s id was_live)))

-- the counts are as they were
same_later : (old new s : PlainStreams) → new ≡ s → s.side ≡ old.side → s.bi ≡ old.bi → s.uni ≡ old.uni → AreLater old new
same_later old new s e side bi uni = later_same old new (ap (λ (s : PlainStreams). s.side) e ∙ side) (ap (λ (s : PlainStreams). s.bi) e ∙ bi) (ap (λ (s : PlainStreams). s.uni) e ∙ uni)

pub received_taken : (old new : PlainStreams) (f : StreamFrame) → refusal_of old f ≡ None → IsReceived old new f → TakenOn old new
received_taken old new f free (stream_received id offset payload fin r) =
    taken_on old r.mid new (closes_taken r.mid new new.recv _ id.0 (is_live r.mid id.0) r.rest_is)
    (arrived_taken old r.mid id.0 (not_own old id.0 (has_recv old.side id.0) 8 (first_refusal _ _ free)) r.arrived)
received_taken old new f free (reset_received id code size r) =
    taken_on old r.mid new (closes_taken r.mid new new.recv _ id.0 (is_live r.mid id.0) r.rest_is)
    (arrived_taken old r.mid id.0 (not_own old id.0 (has_recv old.side id.0) 4 (first_refusal _ _ free)) r.arrived)
received_taken old new f free (stop_received mid id code came step e) =
    taken_on old mid new (taken_by mid new (same_later mid new _ e refl refl refl) (step_goes step) (stopped_taken code))
    (arrived_taken old mid id.0 (not_own old id.0 (has_send old.side id.0) 5 free) came)
received_taken old new f free (stopped_before id code came was) = arrived_taken old new id.0 (not_own old id.0 (has_send old.side id.0) 5 free) came
received_taken old new f free (max_data_received limit e) = same_taken old new (same_later old new _ e refl refl refl) (ap (λ (s : PlainStreams). s.send.halves) e)
received_taken old new f free (max_stream_data_received mid id limit came step unblocked e) =
    taken_on old mid new (taken_by mid new (same_later mid new _ e refl refl refl) (step_or_absent step) (limit_taken limit))
    (arrived_taken old mid id.0 (not_own old id.0 (has_send old.side id.0) 17 free) came)
received_taken old new f free (max_streams_received dir count e) =
    same_taken old new (received_go old new f free (max_streams_received dir count e)).later (ap (λ (s : PlainStreams). s.send.halves) e ∙ with_counts_send _ (is_two_way dir) _)

-- ---- calls

pub polled_taken : (old new : PlainStreams) (o : Option StreamEvent) → IsPolled old new o → TakenOn old new
polled_taken old new _ (writable id front rest open_now blocked_is shut on e) = same_taken old new (same_later old new _ e refl refl refl) (ap (λ (s : PlainStreams). s.send.halves) e)
polled_taken old new _ (queued event events left events_are e) = same_taken old new (same_later old new _ e refl refl refl) (ap (λ (s : PlainStreams). s.send.halves) e)
polled_taken old new _ (nothing left empty e) = same_taken old new (same_later old new _ e refl refl refl) (ap (λ (s : PlainStreams). s.send.halves) e)

maybe_blocked : (s : PlainStreams) (b : Bool) (blocked : List ℕ) → (if b then record s { blocked = blocked } else s).send ≡ s.send
maybe_blocked s true blocked = refl
maybe_blocked s false blocked = refl

blocked_send : (s : PlainStreams) (id : ℕ) (fault : WriteFault) → (with_blocked s id fault).send ≡ s.send
blocked_send s id Blocked = maybe_blocked s (write_limit s.send == 0) _
blocked_send s id (Stopped code) = refl
blocked_send s id ClosedStream = refl
blocked_send s id Memory = refl

-- bytes were taken of a writer, where the connection is open and the stream takes some
pub record IsWriting {old new : PlainStreams} (is_up : Bool) (call : IsCall old new) : Type 0 where
  pub id : ℕ
  pub count : ℕ
  pub bytes : List ℕ
  pub step : IsStep (Takes bytes) old.send new.send id count
  pub rest : new ≡ record old { send = new.send }
  pub bytes_are : (stream : ℕ) → written_by call stream ≡ if_same_stream stream id bytes []
  pub up : is_up ≡ true
  pub free : write_fault_at old.send id ≡ None

abbrev pub IsQuiet : {old new : PlainStreams} → IsCall old new → Type 0
IsQuiet {old = old} {new = new} call = TakenOn old new × ((stream : ℕ) → written_by call stream ≡ [])

pub call_view : (old new : PlainStreams) (is_up : Bool) (call : IsCall old new) → MayWrite is_up call → IsQuiet call ⊎ IsWriting is_up call
call_view old new is_up (same_call e) may = inl (subst (λ (s : PlainStreams). TakenOn old s) (sym e) (self_taken old), λ stream. refl)
call_view old new is_up (opened_call id dir is o) may = inl (adds_taken old new (λ k. k == id) (opened_new old new id dir is o), λ stream. refl)
call_view old new is_up (accepted_call dir e) may = inl (same_taken old new (call_go old new (accepted_call dir e)).later (ap (λ (s : PlainStreams). s.send.halves) e ∙ with_counts_send old (is_two_way dir) _), λ stream. refl)
call_view old new is_up (takes_call id count bytes step e) may = inr (record { id = id; count = count; bytes = bytes; step = step; rest = e; bytes_are = λ stream. refl; up = may.0; free = may.1 })
call_view old new is_up (finishes_call id step e) may = inl (taken_by old new (same_later old new _ e refl refl refl) (step_goes step) finish_taken, λ stream. refl)
call_view old new is_up (resets_call id code step e) may = inl (taken_by old new (same_later old new _ e refl refl refl) (step_goes step) (reset_taken code), λ stream. refl)
call_view old new is_up (goes_first_call id priority step e) may = inl (taken_by old new (same_later old new _ e refl refl refl) (step_goes step) (priority_taken priority), λ stream. refl)
call_view old new is_up (refused_call id fault e) may =
    inl (same_taken old new (call_go old new (refused_call id fault e)).later (ap (λ (s : PlainStreams). s.send.halves) e ∙ ap (λ (h : PlainSendHalves). h.halves) (blocked_send old id fault)), λ stream. refl)
call_view old new is_up (reads_call max_length ordered id answer r) may =
    inl (
      same_taken old new (call_go old new (reads_call max_length ordered id answer r)).later
          (ap (λ (s : PlainStreams). s.send.halves) r.new_is ∙ (ap (λ (h : PlainSendHalves). h.halves) (closed_send _ id _) ∙ ap (λ (s : PlainStreams). s.send.halves) r.mid_is)),
      λ stream. refl,
    )
call_view old new is_up (stops_call id code step e) may = inl (closes_taken old new new.recv old.events id (is_live old id) e, λ stream. refl)
call_view old new is_up (takes_reset_call id code step e) may = inl (closes_taken old new new.recv old.events id (is_live old id) e, λ stream. refl)
call_view old new is_up (concurrent_call dir count e) may = inl (same_taken old new (call_go old new (concurrent_call dir count e)).later (ap (λ (s : PlainStreams). s.send.halves) e ∙ with_counts_send old (is_two_way dir) _), λ stream. refl)
call_view old new is_up (send_window_call bytes e) may = inl (same_taken old new (same_later old new _ e refl refl refl) (ap (λ (s : PlainStreams). s.send.halves) e), λ stream. refl)
call_view old new is_up (receive_window_call bytes e) may = inl (same_taken old new (same_later old new _ e refl refl refl) (ap (λ (s : PlainStreams). s.send.halves) e), λ stream. refl)
call_view old new is_up (polls_call o polled) may = inl (polled_taken old new o polled, λ stream. refl)

-- ---- bytes that are written

here_all : (id : ℕ) (bytes : List ℕ) → if_same_stream id id bytes [] ≡ bytes
here_all id bytes = rw (eq-eqb id id refl) refl

apart_none : (k id : ℕ) (bytes : List ℕ) → (k == id) ≡ false → if_same_stream k id bytes [] ≡ []
apart_none k id bytes apart = rw (other_way k id apart) refl

grown : (h next : PlainSend) (bytes : List ℕ) → Takes bytes h next → taken_to next.buffer ≡ taken_to h.buffer + length bytes
grown h next bytes e = ap (λ (h : PlainSend). taken_to h.buffer) e ∙ (let longer = length-append h.buffer.bytes bytes in omega (arith, longer))

grown_list : (old more : List ℕ) (size before added : ℕ) → size ≡ before + added → before ≡ length old → added ≡ length more → size ≡ length (old ++ more)
grown_list old more size before added is was more_is = let longer = length-append old more in omega (arith, is, was, more_is, longer)

module _ (old new : PlainStreams) (t u : List Act) (id count : ℕ) (bytes : List ℕ) (step : IsStep (Takes bytes) old.send new.send id count) (rest : new ≡ record old { send = new.send })
    (wrote : (stream : ℕ) → written u stream ≡ if_same_stream stream id bytes []) where
  later : AreLater old new
  later = same_later old new _ rest refl refl refl

  at_it : written (t ++ u) id ≡ written t id ++ bytes
  at_it = written-append t u id ∙ ap (λ (l : List ℕ). written t id ++ l) (wrote id ∙ here_all id bytes)

  apart_from : (k : ℕ) → (k == id) ≡ false → written (t ++ u) k ≡ written t k
  apart_from k apart = written-append t u k ∙ (ap (λ (l : List ℕ). written t k ++ l) (wrote k ∙ apart_none k id bytes apart) ∙ append-nil (written t k))

  pub written_taken : AreTaken old t → AreTaken new (t ++ u)
  written_taken p = record {
    halves = λ k h is. elim (eqb_tells k id) [
      | inl same ↦
          let b = (step_goes step).here k h same.0 is in
          rw same.1 (ap (λ (n : ℕ). n) (grown b.half h bytes b.step) ∙ (let was = p.halves id b.half b.was in let longer = length-append (written t id) bytes in let whole = ap length at_it in omega (arith, was, longer, whole)))
      | inr apart ↦ p.halves k h (sym ((step_goes step).apart k apart.0) ∙ is) ∙ ap length (sym (apart_from k apart.0))
    ];
    unopened = λ k closed.
        let was = p.unopened k (closed_before later k closed) in
        elim (eqb_tells k id) [
          | inl same ↦ absurd (some_none (send_at old.send id) step.half step.was (rw same.1 at was.0))
          | inr apart ↦ ((step_goes step).apart k apart.0 ∙ was.0, apart_from k apart.0 ∙ was.1)
        ];
  }

  pub written_closed : (stream size : ℕ) → write_fault_at old.send id ≡ None → IsClosedAt old t stream size → IsClosedAt new (t ++ u) stream size
  written_closed stream size free p = elim (eqb_tells stream id) [
    | inl same ↦
        let gone = p.reset step.half (rw same.1 step.was) in
        let fault : write_fault step.half (write_limit old.send) ≡ None = sym (ap (λ (o : Option PlainSend). half_write_fault o (write_limit old.send)) step.was) ∙ free in
        absurd (false≢true (sym (ready_state step.half.state _ fault).0 ∙ gone))
    | inr apart ↦ record {
      size_is = p.size_is ∙ ap length (sym (apart_from stream apart.0));
      opened = still_opened later stream p.opened;
      reset = λ h is. p.reset h (sym ((step_goes step).apart stream apart.0) ∙ is);
    }
  ]
