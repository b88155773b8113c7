-- What a step of the streams leaves of the limits that are known of the peer: each is as before, or a frame of the peer's gives it.
use Rattle.std.proofs.Common.{◌≡◌, ◌⊎◌, ℕ, ◌-◌, ◌≤◌, ◌^◌, nat_lt, max, min, ◌==◌, Bool, true, false, ◌&&◌, not, List, [], ◌∷◌, Option, Some, None, if◌then◌else◌, refl, sym, ap, subst, ◌∙◌, inl, inr, arith}
use Rattle.std.proofs.lemmas.Bool.{cases_Bool, cases_lt, ltb-false}
use Rattle.std.proofs.lemmas.Bool.Decides.{eqb_tells}
use Rattle.std.specs.Prelude.{IfErr, IfOk, Result, Ok, Err}
use Rattle.qh_arrival.specs.Said.{max_data_frame, max_stream_data_frame, max_streams_frame}
use Rattle.qh_base.specs.declared.connection_error.ConnectionError.{ConnectionError}
use Rattle.qh_buffers.specs.declared.assembler.Chunk.{Chunk}
use Rattle.qh_conduct.proofs.ReachSpaces.{form_same, none_is, same_coming}
use Rattle.qh_core.specs.Made.{IsStreamCall}
use Rattle.qh_core.specs.Made.IsStreamCall.{unchanged, opened, accepted, wrote, unwritten, finished as finished_call, reset as reset_call, prioritized, read, stopped, took_reset, concurrent, send_window, receive_window}
use Rattle.qh_core.specs.Receiving.{AreFramesTaken}
use Rattle.qh_core.specs.Receiving.AreFramesTaken.{none as none_taken, more as more_taken, closed as closed_by, refused as refused_at}
use Rattle.qh_core.specs.Streams.{IsRead, IsReadFault, IsWriteRefused}
use Rattle.qh_core.specs.Streams.IsWriteRefused.{closed as closed_to_writes, wanting, refused as refused_write}
use Rattle.qh_core.specs.Timers.{AreLostByAge, IsProbed}
use Rattle.qh_core.specs.Timers.AreLostByAge.{due as age_due, not_yet as age_not_yet}
use Rattle.qh_core.specs.Timers.IsProbed.{due as probe_due, not_yet as probe_not_yet}
use Rattle.qh_core.specs.declared.fault.TakeFault.{TakeFault}
use Rattle.qh_core.specs.declared.fault.TakeFault.TheVariants.{Readable, Read}
use Rattle.qh_core.specs.declared.inner.Inner.{Inner}
use Rattle.qh_frame.specs.Plain.{plain_of}
use Rattle.qh_frame.specs.WrittenForm.{written_form}
use Rattle.qh_frame.specs.declared.frame.Frame.{Frame}
use Rattle.qh_frame.specs.declared.frame.Frame.TheVariants as kind
use Rattle.qh_half.specs.Send.{PlainSend, new_send}
use Rattle.qh_half.specs.declared.fault.ReadFault.{ReadFault}
use Rattle.qh_half.specs.declared.fault.WriteFault.{WriteFault}
use Rattle.qh_half.specs.declared.fault.WriteFault.TheVariants.{Blocked, Stopped as StoppedBy, ClosedStream, Memory}
use Rattle.qh_half.specs.declared.send.Outgoing.{Outgoing}
use Rattle.qh_halves.specs.Counts.{has_send, is_bi, is_own, with_max_opened}
use Rattle.qh_halves.specs.SendHalves.{PlainSendHalves, GivesPiece, HasLimit, send_at, half_in, write_limit}
use Rattle.qh_halves.specs.declared.counts.StreamCounts.{StreamCounts}
use Rattle.qh_history.proofs.Carried.{by_frame, by_loss, by_packet, by_probe}
use Rattle.qh_space.specs.Receiving.{IsFrameTaken, coming_of, frame_refusal}
use Rattle.qh_space.specs.Sending.{IsPacketMade}
use Rattle.qh_space.specs.declared.data_space.DataSpace.{DataSpace}
use Rattle.qh_spec.proofs.FrameLaws.{quic_frames_agree}
use Rattle.qh_spec.specs.Lists.{In}
use Rattle.qh_spec.specs.QuicFrames.{QuicFrame, AreQuicFrames}
use Rattle.qh_spec.specs.Transcript.{Act}
use Rattle.qh_spec.specs.declared.sides.Dir.{Dir}
use Rattle.qh_spec.specs.declared.sides.Dir.TheVariants.{Bi, Uni}
use Rattle.qh_streams.proofs.StreamsTracked.{Goes, settled_goes, step_goes, step_or_absent}
use Rattle.qh_streams.specs.Streams.{PlainStreams, AreOpened, HasArrived, IsAckedFrame, IsHandedOver, IsLostFrame, IsPolled, IsReceived, arrives_with, count_refusal, counted_closed, counts_of, first_limit, is_live, is_two_way, max_frame_header, refusal_of, was_opened, with_blocked, with_counts}
use Rattle.qh_streams.specs.Streams.IsAckedFrame.{stream as stream_acked, reset as reset_acked, stop as stop_acked, max_stream_data as max_stream_data_acked, max_data as max_data_acked, max_streams as max_streams_acked}
use Rattle.qh_streams.specs.Streams.IsHandedOver.{stream as stream_handed, reset as reset_handed, stop as stop_handed, max_stream_data as max_stream_data_handed, max_data as max_data_handed, max_streams as max_streams_handed}
use Rattle.qh_streams.specs.Streams.IsLostFrame.{stream as stream_lost, reset as reset_lost, stop as stop_lost, max_stream_data as max_stream_data_lost, max_data as max_data_lost, max_streams as max_streams_lost}
use Rattle.qh_streams.specs.Streams.IsPolled.{writable, queued, none as nothing}
use Rattle.qh_streams.specs.Streams.IsReceived.{stream as stream_received, reset as reset_received, stop as stop_received, stopped_before, max_data as max_data_received, max_stream_data as max_stream_data_received, max_streams as max_streams_received}
use Rattle.qh_streams.specs.declared.frames.SentFrame.{SentFrame}
use Rattle.qh_streams.specs.declared.frames.StreamEvent.{StreamEvent}
use Rattle.qh_streams.specs.declared.frames.StreamFrame.{StreamFrame}
use Rattle.qh_streams.specs.declared.frames.StreamFrame.TheVariants as coming
use Rattle.qh_transcript.proofs.ReceivingLists.{some_is}
use Rattle.qh_transcript.proofs.WithinKept.{at_counts, or_absent_shared, peer_after, settled_shared, step_shared}

-- ---- what may become of the limits

-- the half was there with this limit
abbrev pub WasSo : PlainSendHalves → ℕ → PlainSend → Type 0
WasSo old k half = (was : PlainSend) × (send_at old k ≡ Some was) × (half.max_data ≡ was.max_data)

module _ (gives : QuicFrame → Type 0) where
  -- where each stream has this limit at first
  pub record SendLimits (first : ℕ → ℕ) (old new : PlainSendHalves) : Type 0 where
    pub shared : (new.max_data ≡ old.max_data) ⊎ gives (max_data_frame new.max_data)
    pub halves : (k : ℕ) (half : PlainSend) → send_at new k ≡ Some half → (WasSo old k half ⊎ (half.max_data ≡ first k)) ⊎ gives (max_stream_data_frame k half.max_data)

  pub record GivenOn (old new : PlainStreams) : Type 0 where
    pub side : new.side ≡ old.side
    pub peer : new.peer ≡ old.peer
    pub send : SendLimits (first_limit old) old.send new.send
    pub counts : (dir : Dir) → ((counts_of new (is_two_way dir)).max_opened ≡ (counts_of old (is_two_way dir)).max_opened)
        ⊎ gives (max_streams_frame dir (counts_of new (is_two_way dir)).max_opened)

-- what gives more
pub given_more : (gives more : QuicFrame → Type 0) (old new : PlainStreams) → ((f : QuicFrame) → gives f → more f) → GivenOn gives old new → GivenOn more old new
given_more gives more old new all p = record {
  side = p.side;
  peer = p.peer;
  send = record {
    shared = elim p.send.shared [ inl same ↦ inl same | inr given ↦ inr (all _ given) ];
    halves = λ k half is. elim (p.send.halves k half is) [ inl same ↦ inl same | inr given ↦ inr (all _ given) ];
  };
  counts = λ dir. elim (p.counts dir) [ inl same ↦ inl same | inr given ↦ inr (all _ given) ];
}

-- ---- first limits

pub first_same : (old new : PlainStreams) (k : ℕ) → new.side ≡ old.side → new.peer ≡ old.peer → first_limit new k ≡ first_limit old k
first_same old new k side peer = rw (side, peer) refl

-- a half that is new has it
new_limit : (has : Bool) (limit : ℕ) (half : PlainSend) → (if has then Some (new_send limit) else None) ≡ Some half → half.max_data ≡ limit
new_limit true limit half is = sym (ap (λ (h : PlainSend). h.max_data) (some_is (new_send limit) half is))
new_limit false limit half is = absurd (cc)

-- ---- counts

-- it is the same side of the same peer, which permits as many streams
record PermitsSo (old new : PlainStreams) : Type 0 where
  side : new.side ≡ old.side
  peer : new.peer ≡ old.peer
  most : (two_way : Bool) → (counts_of new two_way).max_opened ≡ (counts_of old two_way).max_opened

same_most : (old new : PlainStreams) → new.bi ≡ old.bi → new.uni ≡ old.uni → (two_way : Bool) → (counts_of new two_way).max_opened ≡ (counts_of old two_way).max_opened
same_most old new bi uni true = ap (λ (c : StreamCounts). c.max_opened) bi
same_most old new bi uni false = ap (λ (c : StreamCounts). c.max_opened) uni

permits : (old new : PlainStreams) → new.side ≡ old.side → new.peer ≡ old.peer → new.bi ≡ old.bi → new.uni ≡ old.uni → PermitsSo old new
permits old new side peer bi uni = record { side = side; peer = peer; most = same_most old new bi uni }

-- other counts, which permit as many
counts_permit : (old s new : PlainStreams) (two_way : Bool) (c : StreamCounts) → new ≡ with_counts s two_way c → PermitsSo old s → c.max_opened ≡ (counts_of old two_way).max_opened → PermitsSo old new
counts_permit old s new two_way c e p same =
    let at = peer_after new s two_way c e in
    record {
      side = at.0 ∙ p.side;
      peer = at.1 ∙ p.peer;
      most = λ b. ap (λ (x : PlainStreams). (counts_of x b).max_opened) e ∙ at_counts (λ b c. c.max_opened ≡ (counts_of old b).max_opened) s two_way b c same (p.most b);
    }

send_put : (s : PlainStreams) (two_way : Bool) (c : StreamCounts) → (with_counts s two_way c).send ≡ s.send
send_put s true c = refl
send_put s false c = refl

-- ---- the greater of two

greater : (a b : ℕ) → (max a b ≡ a) ⊎ (max a b ≡ b)
greater a b = elim (cases_lt a b) [ inl less ↦ inr (omega (arith, less)) | inr most ↦ inl (omega (arith, most)) ]

-- a count that isn't refused is at most 2^60
within_count : (dir : Dir) (count : ℕ) → count_refusal dir count ≡ None → count ≤ 2 ^ 60
within_count Bi count free = elim (cases_Bool (nat_lt (2 ^ 60) count)) [
  | inl over ↦ let never = rw over at free in absurd (cc)
  | inr under ↦ ltb-false (2 ^ 60) count under
]
within_count Uni count free = elim (cases_Bool (nat_lt (2 ^ 60) count)) [
  | inl over ↦ let never = rw over at free in absurd (cc)
  | inr under ↦ ltb-false (2 ^ 60) count under
]

whole_count : (count most : ℕ) → count ≤ most → min count most ≡ count
whole_count count most below = omega (arith, below)

module _ (gives : QuicFrame → Type 0) where
  -- ---- the sending halves

  sends_same : (first : ℕ → ℕ) (old new : PlainSendHalves) → new.halves ≡ old.halves → new.max_data ≡ old.max_data → SendLimits gives first old new
  sends_same first old new same shared = record {
    shared = inl shared;
    halves = λ k half is. inl (inl (half, sym (ap (λ (l : List (ℕ × PlainSend)). half_in l k) same) ∙ is, refl));
  }

  sends_are : (first : ℕ → ℕ) (old new : PlainSendHalves) → new ≡ old → SendLimits gives first old new
  sends_are first old new e = sends_same first old new (ap (λ (s : PlainSendHalves). s.halves) e) (ap (λ (s : PlainSendHalves). s.max_data) e)

  -- one half becomes another, or goes
  sends_go : {P : PlainSend → PlainSend → Type 0} {id : ℕ} (first : ℕ → ℕ) (old new : PlainSendHalves) → Goes P (send_at old) (send_at new) id → new.max_data ≡ old.max_data
      → ((half next : PlainSend) → P half next → (next.max_data ≡ half.max_data) ⊎ gives (max_stream_data_frame id next.max_data)) → SendLimits gives first old new
  sends_go {id = id} first old new goes shared keeps = record {
    shared = inl shared;
    halves = λ k half is. elim (eqb_tells k id) [
      | inl same ↦
          let b = goes.here k half same.0 is in
          rw same.1 (elim (keeps b.half half b.step) [ inl stays ↦ inl (inl (b.half, b.was, stays)) | inr given ↦ inr given ])
      | inr apart ↦ inl (inl (half, sym (goes.apart k apart.0) ∙ is, refl))
    ];
  }

  opened_sends : (old new : PlainStreams) (are_new : ℕ → Bool) → AreOpened old new are_new → SendLimits gives (first_limit old) old.send new.send
  opened_sends old new are_new o = record {
    shared = inl (ap (λ (s : PlainSendHalves). s.max_data) o.send_rest);
    halves = λ k half is. elim (cases_Bool (are_new k)) [
      | inl fresh ↦ inl (inr (new_limit (has_send old.side k) (first_limit old k) half (sym (rw fresh at (o.send_is k)) ∙ is)))
      | inr apart ↦ inl (inl (half, sym (rw apart at (o.send_is k)) ∙ is, refl))
    ];
  }

  -- ---- the streams

  both_on : (old new : PlainStreams) → SendLimits gives (first_limit old) old.send new.send → PermitsSo old new → GivenOn gives old new
  both_on old new send p = record { side = p.side; peer = p.peer; send = send; counts = λ dir. inl (p.most (is_two_way dir)) }

  pub given_same : (s : PlainStreams) → GivenOn gives s s
  given_same s = both_on s s (sends_are (first_limit s) s.send s.send refl) (permits s s refl refl refl refl)

  pub given_on : (first old new : PlainStreams) → GivenOn gives first old → GivenOn gives old new → GivenOn gives first new
  given_on first old new before after = record {
    side = after.side ∙ before.side;
    peer = after.peer ∙ before.peer;
    send = record {
      shared = elim after.send.shared [
        | inl same ↦ elim before.send.shared [ inl was ↦ inl (same ∙ was) | inr given ↦ inr (subst (λ (n : ℕ). gives (max_data_frame n)) (sym same) given) ]
        | inr given ↦ inr given
      ];
      halves = λ k half is. elim (after.send.halves k half is) [
        | inl (inl was) ↦ elim (before.send.halves k was.0 was.1) [
          | inl (inl earlier) ↦ inl (inl (earlier.0, earlier.1, was.2 ∙ earlier.2))
          | inl (inr fresh) ↦ inl (inr (was.2 ∙ fresh))
          | inr given ↦ inr (subst (λ (n : ℕ). gives (max_stream_data_frame k n)) (sym was.2) given)
        ]
        | inl (inr fresh) ↦ inl (inr (fresh ∙ first_same first old k before.side before.peer))
        | inr given ↦ inr given
      ];
    };
    counts = λ dir. elim (after.counts dir) [
      | inl same ↦ elim (before.counts dir) [ inl was ↦ inl (same ∙ was) | inr given ↦ inr (subst (λ (n : ℕ). gives (max_streams_frame dir n)) (sym same) given) ]
      | inr given ↦ inr given
    ];
  }

  -- the sending halves stay, and as many streams are permitted
  alone_on : (old s new : PlainStreams) → new ≡ s → s.send ≡ old.send → PermitsSo old s → GivenOn gives old new
  alone_on old s new e send p = subst (λ (x : PlainStreams). GivenOn gives old x) (sym e) (both_on old s (sends_are (first_limit old) old.send s.send send) p)

  recvs_on : (old new : PlainStreams) → new ≡ record old { recv = new.recv } → GivenOn gives old new
  recvs_on old new e = let s : PlainStreams = record old { recv = new.recv } in alone_on old s new e refl (permits old s refl refl refl refl)

  -- one sending half becomes another, or goes
  sends_on : {P : PlainSend → PlainSend → Type 0} {id : ℕ} (old new : PlainStreams) → new ≡ record old { send = new.send } → Goes P (send_at old.send) (send_at new.send) id
      → new.send.max_data ≡ old.send.max_data → ((half next : PlainSend) → P half next → next.max_data ≡ half.max_data) → GivenOn gives old new
  sends_on old new e goes shared keeps =
      both_on old new (sends_go (first_limit old) old.send new.send goes shared (λ half next p. inl (keeps half next p)))
      (permits old new (ap (λ (s : PlainStreams). s.side) e) (ap (λ (s : PlainStreams). s.peer) e) (ap (λ (s : PlainStreams). s.bi) e) (ap (λ (s : PlainStreams). s.uni) e))

  -- other counts, which permit as many
  counts_on : (old new : PlainStreams) (two_way : Bool) (c : StreamCounts) → new ≡ with_counts old two_way c → c.max_opened ≡ (counts_of old two_way).max_opened → GivenOn gives old new
  counts_on old new two_way c e same =
      alone_on old (with_counts old two_way c) new e (send_put old two_way c) (counts_permit old old (with_counts old two_way c) two_way c refl (permits old old refl refl refl refl) same)

  closed_alone_on : (s : PlainStreams) (id : ℕ) (was_live : Bool) → GivenOn gives s (counted_closed s id was_live)
  closed_alone_on s id was_live = elim (cases_Bool (not (is_own s.side id) && (was_live && not (is_live s id)))) [
    | inl gone ↦ rw gone (counts_on s _ (is_bi id) _ refl refl)
    | inr there ↦ rw there (given_same s)
  ]

  closed_on : (old s new : PlainStreams) (id : ℕ) (was_live : Bool) → new ≡ counted_closed s id was_live → GivenOn gives old s → GivenOn gives old new
  closed_on old s new id was_live e before = given_on old s new before (subst (λ (x : PlainStreams). GivenOn gives s x) (sym e) (closed_alone_on s id was_live))

  -- ---- frames that are lost, or acknowledged

  lost_given : (old new : PlainStreams) (f : SentFrame) → IsLostFrame old new f → GivenOn gives old new
  lost_given old new _ (stream_lost id piece step rest) = sends_on old new rest (step_or_absent step) (or_absent_shared step).max_data (λ half next p. ap (λ (h : PlainSend). h.max_data) p.rest_is)
  lost_given old new _ (reset_lost id reset step rest) = sends_on old new rest (step_or_absent step) (or_absent_shared step).max_data (λ half next e. ap (λ (h : PlainSend). h.max_data) e)
  lost_given old new _ (stop_lost id code step rest) = recvs_on old new rest
  lost_given old new _ (max_data_lost limit rest) = alone_on old _ new rest refl (permits old _ refl refl refl refl)
  lost_given old new _ (max_stream_data_lost id limit step rest) = recvs_on old new rest
  lost_given old new _ (max_streams_lost dir count rest) = counts_on old new (is_two_way dir) _ rest refl

  acked_given : (old new : PlainStreams) (f : SentFrame) → IsAckedFrame old new f → GivenOn gives old new
  acked_given old new _ (stream_acked id piece finished step rest) =
      let mid : PlainStreams = record old { send = new.send; events = _ } in
      closed_on old mid new id.0 (is_live old id.0) rest
      (both_on old mid (sends_go (first_limit old) old.send new.send (settled_goes step) (settled_shared step).max_data (λ half next p. inl (ap (λ (h : PlainSend). h.max_data) p.rest_is)))
      (permits old mid refl refl refl refl))
  acked_given old new _ (reset_acked id reset gone step rest) =
      let mid : PlainStreams = record old { send = new.send } in
      closed_on old mid new id.0 (is_live old id.0) rest
      (both_on old mid (sends_go (first_limit old) old.send new.send (settled_goes step) (settled_shared step).max_data (λ half next e. inl (ap (λ (h : PlainSend). h.max_data) e)))
      (permits old mid refl refl refl refl))
  acked_given old new _ (stop_acked id code step rest) = recvs_on old new rest
  acked_given old new _ (max_data_acked limit rest) = alone_on old _ new rest refl (permits old _ refl refl refl refl)
  acked_given old new _ (max_stream_data_acked id limit step rest) = recvs_on old new rest
  acked_given old new _ (max_streams_acked dir count rest) = counts_on old new (is_two_way dir) _ rest refl

  -- ---- frames that are handed over

  piece_limit : (room : ℕ) (piece : Outgoing) (half next : PlainSend) → GivesPiece room piece half next → next.max_data ≡ half.max_data
  piece_limit room piece half next (inl p) = ap (λ (h : PlainSend). h.max_data) p.rest_is
  piece_limit room piece half next (inr p) = ap (λ (h : PlainSend). h.max_data) p.new_is

  handed_given : (old new : PlainStreams) (room : ℕ) (f : SentFrame) → IsHandedOver old new room f → GivenOn gives old new
  handed_given old new room _ (stream_handed id piece next rest) = sends_on old new rest (step_goes next.step) (step_shared next.step).max_data (piece_limit (room - max_frame_header) piece)
  handed_given old new room _ (reset_handed id reset next rest) = sends_on old new rest (step_goes next.step) (step_shared next.step).max_data (λ half next p. ap (λ (h : PlainSend). h.max_data) p.2)
  handed_given old new room _ (stop_handed id code step rest) = recvs_on old new rest
  handed_given old new room _ (max_stream_data_handed id limit step rest) = recvs_on old new rest
  handed_given old new room _ (max_data_handed limit is due rest) = alone_on old _ new rest refl (permits old _ refl refl refl refl)
  handed_given old new room _ (max_streams_handed dir count is due rest) = counts_on old new (is_two_way dir) _ rest refl

  -- ---- streams that are new

  -- they are new, and one direction has other counts
  opened_on : (old s new : PlainStreams) (are_new : ℕ → Bool) (two_way : Bool) (c : StreamCounts) → AreOpened old new are_new → new ≡ with_counts s two_way c → PermitsSo old s
      → c.max_opened ≡ (counts_of old two_way).max_opened → GivenOn gives old new
  opened_on old s new are_new two_way c o e p same = both_on old new (opened_sends old new are_new o) (counts_permit old s new two_way c e p same)

  arrived_on : (old new : PlainStreams) (id : ℕ) → HasArrived old new id → GivenOn gives old new
  arrived_on old new id a = elim (cases_Bool (was_opened old id)) [
    | inl known ↦ subst (λ (s : PlainStreams). GivenOn gives old s) (sym (a.known known)) (given_same old)
    | inr fresh ↦
        let s : PlainStreams = record old { send = new.send; recv = new.recv; events = _ } in
        opened_on old s new (arrives_with old id) (is_bi id) _ (a.halves fresh) (a.rest_is fresh) (permits old s refl refl refl refl) refl
  ]

  -- ---- frames that come

  -- a limit that such a frame has is given
  abbrev Brings : StreamFrame → Type 0
  Brings (coming.MaxData limit) = gives (max_data_frame limit)
  Brings (coming.MaxStreamData id limit) = gives (max_stream_data_frame id.0 limit)
  Brings (coming.MaxStreams dir count) = gives (max_streams_frame dir count)
  Brings other = Unit {0}

  count_given : (old : PlainStreams) (dir d : Dir) (c : StreamCounts) → (c.max_opened ≡ (counts_of old (is_two_way dir)).max_opened) ⊎ gives (max_streams_frame dir c.max_opened)
      → ((counts_of (with_counts old (is_two_way dir) c) (is_two_way d)).max_opened ≡ (counts_of old (is_two_way d)).max_opened)
      ⊎ gives (max_streams_frame d (counts_of (with_counts old (is_two_way dir) c) (is_two_way d)).max_opened)
  count_given old Bi Bi c given = given
  count_given old Bi Uni c given = inl refl
  count_given old Uni Bi c given = inl refl
  count_given old Uni Uni c given = given

  more_count : (dir : Dir) (count : ℕ) (c : StreamCounts) → count ≤ 2 ^ 60 → gives (max_streams_frame dir count)
      → ((with_max_opened count c).max_opened ≡ c.max_opened) ⊎ gives (max_streams_frame dir (with_max_opened count c).max_opened)
  more_count dir count c below given = elim (greater c.max_opened (min count (2 ^ 60))) [
    | inl same ↦ inl same
    | inr risen ↦ inr (subst (λ (n : ℕ). gives (max_streams_frame dir n)) (sym (risen ∙ whole_count count (2 ^ 60) below)) given)
  ]

  more_limit : (id limit : ℕ) (half next : PlainSend) → gives (max_stream_data_frame id limit) → HasLimit limit half next → (next.max_data ≡ half.max_data) ⊎ gives (max_stream_data_frame id next.max_data)
  more_limit id limit half next given e =
      let is : next.max_data ≡ max half.max_data limit = ap (λ (h : PlainSend). h.max_data) e in
      elim (greater half.max_data limit) [
        | inl same ↦ inl (is ∙ same)
        | inr risen ↦ inr (subst (λ (n : ℕ). gives (max_stream_data_frame id n)) (sym (is ∙ risen)) given)
      ]

  received_given : (old new : PlainStreams) (f : StreamFrame) → refusal_of old f ≡ None → Brings f → IsReceived old new f → GivenOn gives old new
  received_given old new _ free given (stream_received id offset payload fin r) =
      let mid = r.mid in
      let s : PlainStreams = record mid { recv = new.recv; events = _ } in
      given_on old mid new (arrived_on old mid id.0 r.arrived) (closed_on mid s new id.0 (is_live mid id.0) r.rest_is (alone_on mid s s refl refl (permits mid s refl refl refl refl)))
  received_given old new _ free given (reset_received id code size r) =
      let mid = r.mid in
      let s : PlainStreams = record mid { recv = new.recv; events = _ } in
      given_on old mid new (arrived_on old mid id.0 r.arrived) (closed_on mid s new id.0 (is_live mid id.0) r.rest_is (alone_on mid s s refl refl (permits mid s refl refl refl refl)))
  received_given old new _ free given (stop_received mid id code came step e) =
      given_on old mid new (arrived_on old mid id.0 came)
      (both_on mid new (sends_go (first_limit mid) mid.send new.send (step_goes step) (step_shared step).max_data (λ half next p. inl (ap (λ (h : PlainSend). h.max_data) p.1)))
      (permits mid new (ap (λ (s : PlainStreams). s.side) e) (ap (λ (s : PlainStreams). s.peer) e) (ap (λ (s : PlainStreams). s.bi) e) (ap (λ (s : PlainStreams). s.uni) e)))
  received_given old new _ free given (stopped_before id code came was) = arrived_on old new id.0 came
  received_given old new _ free given (max_data_received limit e) =
      let s : PlainStreams = record old { send = record old.send { max_data = max old.send.max_data limit } } in
      subst (λ (x : PlainStreams). GivenOn gives old x) (sym e) (both_on old s (record {
        shared = elim (greater old.send.max_data limit) [ inl same ↦ inl same | inr risen ↦ inr (subst (λ (n : ℕ). gives (max_data_frame n)) (sym risen) given) ];
        halves = λ k half is. inl (inl (half, is, refl));
      }) (permits old s refl refl refl refl))
  received_given old new _ free given (max_stream_data_received mid id limit came step unblocked e) =
      given_on old mid new (arrived_on old mid id.0 came)
      (both_on mid new (sends_go (first_limit mid) mid.send new.send (step_or_absent step) (or_absent_shared step).max_data (λ half next p. more_limit id.0 limit half next given p))
      (permits mid new (ap (λ (s : PlainStreams). s.side) e) (ap (λ (s : PlainStreams). s.peer) e) (ap (λ (s : PlainStreams). s.bi) e) (ap (λ (s : PlainStreams). s.uni) e)))
  received_given old new _ free given (max_streams_received dir count e) =
      let mid : PlainStreams = record old { events = _ } in
      let c = with_max_opened count (counts_of old (is_two_way dir)) in
      let at = peer_after new mid (is_two_way dir) c e in
      record {
        side = at.0;
        peer = at.1;
        send = sends_are (first_limit old) old.send new.send (ap (λ (s : PlainStreams). s.send) e ∙ send_put mid (is_two_way dir) c);
        counts = λ d.
            subst (λ (s : PlainStreams). ((counts_of s (is_two_way d)).max_opened ≡ (counts_of old (is_two_way d)).max_opened) ⊎ gives (max_streams_frame d (counts_of s (is_two_way d)).max_opened)) (sym e)
            (count_given mid dir d c (more_count dir count (counts_of old (is_two_way dir)) (within_count dir count free) given));
      }

  -- a frame that was read stands so in the packet, where it has a limit
  brings : (f : Frame) (q : QuicFrame) (c : StreamFrame) → coming_of f ≡ Some c → written_form q ≡ plain_of f → gives q → Brings c
  brings (kind.Stream x) q c is e given = subst (λ (c : StreamFrame). Brings c) (same_coming _ c is) tt
  brings (kind.ResetStream id code size) q c is e given = subst (λ (c : StreamFrame). Brings c) (same_coming _ c is) tt
  brings (kind.StopSending id code) q c is e given = subst (λ (c : StreamFrame). Brings c) (same_coming _ c is) tt
  brings (kind.MaxData limit) q c is e given = subst (λ (c : StreamFrame). Brings c) (same_coming _ c is) (subst gives (form_same q _ e refl refl refl) given)
  brings (kind.MaxStreamData id limit) q c is e given = subst (λ (c : StreamFrame). Brings c) (same_coming _ c is) (subst gives (form_same q _ e refl refl refl) given)
  brings (kind.MaxStreams Bi count) q c is e given = subst (λ (c : StreamFrame). Brings c) (same_coming _ c is) (subst gives (form_same q _ e refl refl refl) given)
  brings (kind.MaxStreams Uni count) q c is e given = subst (λ (c : StreamFrame). Brings c) (same_coming _ c is) (subst gives (form_same q _ e refl refl refl) given)
  brings kind.Padding q c is e given = none_is c is
  brings kind.Ping q c is e given = none_is c is
  brings (kind.Ack a) q c is e given = none_is c is
  brings (kind.Crypto offset payload) q c is e given = none_is c is
  brings (kind.NewToken token) q c is e given = none_is c is
  brings (kind.DataBlocked limit) q c is e given = none_is c is
  brings (kind.StreamDataBlocked id limit) q c is e given = none_is c is
  brings (kind.StreamsBlocked dir count) q c is e given = none_is c is
  brings (kind.NewConnectionId sequence prior id token) q c is e given = none_is c is
  brings (kind.RetireConnectionId sequence) q c is e given = none_is c is
  brings (kind.PathChallenge bytes) q c is e given = none_is c is
  brings (kind.PathResponse bytes) q c is e given = none_is c is
  brings (kind.ConnectionClose code frame_type reason) q c is e given = none_is c is
  brings (kind.ApplicationClose code reason) q c is e given = none_is c is
  brings kind.HandshakeDone q c is e given = none_is c is
  brings (kind.Datagram payload has_length) q c is e given = none_is c is

  -- ---- what is told

  pub polled_given : (old new : PlainStreams) (e : Option StreamEvent) → IsPolled old new e → GivenOn gives old new
  polled_given old new _ (writable id front rest open_now blocked_is shut on e) = alone_on old _ new e refl (permits old _ refl refl refl refl)
  polled_given old new _ (queued event events left events_are e) = alone_on old _ new e refl (permits old _ refl refl refl refl)
  polled_given old new _ (nothing left empty e) = alone_on old _ new e refl (permits old _ refl refl refl refl)

  -- ---- packets that come and go, and what is due

  lost_on : (first old new : PlainStreams) (f : SentFrame) → IsLostFrame old new f → GivenOn gives first old → GivenOn gives first new
  lost_on first old new f lost p = given_on first old new p (lost_given old new f lost)

  acked_on : (first old new : PlainStreams) (f : SentFrame) → IsAckedFrame old new f → GivenOn gives first old → GivenOn gives first new
  acked_on first old new f acked p = given_on first old new p (acked_given old new f acked)

  frame_given : (now : ℕ) (old new : DataSpace) (f : Frame) (q : QuicFrame) (end : Option ConnectionError) → frame_refusal old f ≡ None → written_form q ≡ plain_of f → gives q
      → IsFrameTaken now old new f end → GivenOn gives old.streams new.streams
  frame_given now old new f q end free form given taken = by_frame (λ s. GivenOn gives old.streams s) (lost_on old.streams) (acked_on old.streams) now old new f end
      (λ c of r. received_given old.streams new.streams c (sym (of.refusal old) ∙ free) (brings f q c of.is form given) r) (λ none. given_same old.streams) taken

  -- the frames of the bytes, and what taking them leaves
  record AreTakenSo (bytes : List ℕ) (old new : DataSpace) : Type 0 where
    frames : List QuicFrame
    are : AreQuicFrames bytes frames
    given : ((q : QuicFrame) → In q frames → gives q) → GivenOn gives old.streams new.streams

  taken_so : (now : ℕ) (bytes : List ℕ) (old new : DataSpace) (taken : List Frame) (end : Option ConnectionError) → AreFramesTaken now bytes old new taken end → end ≡ None → AreTakenSo bytes old new
  taken_so now bytes old new taken end (none_taken _) still = record { frames = []; are = refl; given = λ all. given_same old.streams }
  taken_so now bytes old new taken end (more_taken _ rest f _ mid _ later _ begins free step t) still =
      let r = taken_so now rest mid new later end t still in
      record {
        frames = begins.frame ∷ r.frames;
        are = (rest, begins.is, r.are);
        given = λ all.
            given_on old.streams mid.streams new.streams (frame_given now old mid f begins.frame None free begins.form_is (all begins.frame (inl refl)) step) (r.given (λ q among. all q (inr among)));
      }
  taken_so now bytes old new taken end (closed_by _ rest f _ _ e begins free step) still = absurd (cc)
  taken_so now bytes old new taken end (refused_at _ rest f _ e begins named fault) still = absurd (cc)

  pub frames_given : (now : ℕ) (bytes : List ℕ) (old new : DataSpace) (taken : List Frame) (fs : List QuicFrame) → AreFramesTaken now bytes old new taken None → AreQuicFrames bytes fs
      → ((q : QuicFrame) → In q fs → gives q) → GivenOn gives old.streams new.streams
  frames_given now bytes old new taken fs t are all =
      let r = taken_so now bytes old new taken None t refl in
      let same = quic_frames_agree bytes r.frames fs r.are are in
      r.given (λ q among. all q (subst (λ (l : List QuicFrame). In q l) same among))

  pub packet_given : (now around room : ℕ) (old new : DataSpace) (before after : List ℕ) → IsPacketMade now around room old new before after → GivenOn gives old.streams new.streams
  packet_given now around room old new before after made =
      by_packet (λ s. GivenOn gives old.streams s) (lost_on old.streams) (λ was s left f next p. given_on old.streams was s p (handed_given was s left f next)) now around room old new before after made
      (given_same old.streams)

  pub aged_given : (now : ℕ) (old new : DataSpace) → AreLostByAge now old new → GivenOn gives old.streams new.streams
  aged_given now old new (age_due moment largest is by_now acked lost) = by_loss (λ s. GivenOn gives old.streams s) (lost_on old.streams) largest now old new lost (given_same old.streams)
  aged_given now old new (age_not_yet later e) = subst (λ (s : DataSpace). GivenOn gives old.streams s.streams) (sym e) (given_same old.streams)

  pub probed_given : (now : ℕ) (old new : DataSpace) → IsProbed now old new → GivenOn gives old.streams new.streams
  probed_given now old new (probe_due moment is by_now due) = by_probe (λ s. GivenOn gives old.streams s) (lost_on old.streams) old new due (given_same old.streams)
  probed_given now old new (probe_not_yet later e) = subst (λ (s : DataSpace). GivenOn gives old.streams s.streams) (sym e) (given_same old.streams)

  -- ---- calls

  maybe_blocked : (s : PlainStreams) (b : Bool) (blocked : List ℕ) → GivenOn gives s (if b then record s { blocked = blocked } else s)
  maybe_blocked s true blocked = alone_on s (record s { blocked = blocked }) (record s { blocked = blocked }) refl refl (permits s (record s { blocked = blocked }) refl refl refl refl)
  maybe_blocked s false blocked = given_same s

  blocked_given : (s : PlainStreams) (id : ℕ) (fault : WriteFault) → GivenOn gives s (with_blocked s id fault)
  blocked_given s id Blocked = maybe_blocked s (write_limit s.send == 0) _
  blocked_given s id (StoppedBy code) = given_same s
  blocked_given s id ClosedStream = given_same s
  blocked_given s id Memory = given_same s

  read_given : (max_length : ℕ) (ordered : Bool) (id : ℕ) (answer : Result (Option Chunk) ReadFault) (old new : PlainStreams) → IsRead max_length ordered id answer old new → GivenOn gives old new
  read_given max_length ordered id answer old new r =
      let s : PlainStreams = record r.mid { recv = new.recv } in
      given_on old r.mid new (recvs_on old r.mid r.mid_is) (closed_on r.mid s new id (is_live r.mid id) r.new_is (recvs_on r.mid s refl))

  answered_given : (max_length : ℕ) (ordered : Bool) (id : ℕ) (answer : Result (Option Chunk) TakeFault) (old new : PlainStreams)
      → IfOk answer (λ o. IsRead max_length ordered id (Ok o) old new) → IfErr answer (λ e. IsReadFault max_length ordered id e old new) → GivenOn gives old new
  answered_given max_length ordered id (Ok o) old new ok err = read_given max_length ordered id (Ok o) old new ok
  answered_given max_length ordered id (Err (Read why)) old new ok err = read_given max_length ordered id (Err why) old new err
  answered_given max_length ordered id (Err (Readable why)) old new ok err = subst (λ (s : PlainStreams). GivenOn gives old s) (sym err.1) (given_same old)

  module _ {S : Type 0} where
    refused_given : (id : ℕ) (fault : WriteFault) (old new : Inner S) → IsWriteRefused id fault old new → GivenOn gives old.space.streams new.space.streams
    refused_given id fault old new (closed_to_writes down is e) = subst (λ (c : Inner S). GivenOn gives old.space.streams c.space.streams) (sym e) (given_same old.space.streams)
    refused_given id fault old new (wanting up may is e) = subst (λ (c : Inner S). GivenOn gives old.space.streams c.space.streams) (sym e) (given_same old.space.streams)
    refused_given id fault old new (refused_write up is e) = subst (λ (c : Inner S). GivenOn gives old.space.streams c.space.streams) (sym e) (blocked_given old.space.streams id fault)

    streams_of : (old new : Inner S) (s : PlainStreams) → new ≡ record old { space = record old.space { streams = s } } → new.space.streams ≡ s
    streams_of old new s e = ap (λ (c : Inner S). c.space.streams) e

    pub called_given : (old new : Inner S) (acts : List Act) → IsStreamCall old new acts → GivenOn gives old.space.streams new.space.streams
    called_given old new acts (unchanged e) = subst (λ (c : Inner S). GivenOn gives old.space.streams c.space.streams) (sym e) (given_same old.space.streams)
    called_given old new acts (opened dir id up id_is below o rest) =
        let s : PlainStreams = record old.space.streams { send = new.space.streams.send; recv = new.space.streams.recv } in
        opened_on old.space.streams s new.space.streams (λ k. k == id) (is_bi id) _ o.halves o.rest_is (permits old.space.streams s refl refl refl refl) refl
    called_given old new acts (accepted dir below rest) = counts_on old.space.streams new.space.streams (is_two_way dir) _ (streams_of old new _ rest) refl
    called_given old new acts (wrote id count bytes up free step rest) =
        sends_on old.space.streams new.space.streams (streams_of old new _ rest) (step_goes step) (ap (λ (s : PlainSendHalves). s.max_data) step.is.rest_is) (λ half next e. ap (λ (h : PlainSend). h.max_data) e)
    called_given old new acts (unwritten id fault denied) = refused_given id fault old new denied
    called_given old new acts (finished_call id step rest) =
        sends_on old.space.streams new.space.streams (streams_of old new _ rest) (step_goes step) (step_shared step).max_data (λ half next p. ap (λ (h : PlainSend). h.max_data) p.1)
    called_given old new acts (reset_call id code step rest) =
        sends_on old.space.streams new.space.streams (streams_of old new _ rest) (step_goes step) (step_shared step).max_data (λ half next p. ap (λ (h : PlainSend). h.max_data) p.1)
    called_given old new acts (prioritized id priority step rest) =
        sends_on old.space.streams new.space.streams (streams_of old new _ rest) (step_goes step) (step_shared step).max_data (λ half next e. ap (λ (h : PlainSend). h.max_data) e)
    called_given old new acts (read max_length ordered id answer ok err rest) = answered_given max_length ordered id answer old.space.streams new.space.streams ok err
    called_given old new acts (stopped id code step rest) =
        let mid : PlainStreams = record old.space.streams { recv = new.space.streams.recv } in
        closed_on old.space.streams mid new.space.streams id (is_live old.space.streams id) (streams_of old new _ rest) (recvs_on old.space.streams mid refl)
    called_given old new acts (took_reset id code step rest) =
        let mid : PlainStreams = record old.space.streams { recv = new.space.streams.recv } in
        closed_on old.space.streams mid new.space.streams id (is_live old.space.streams id) (streams_of old new _ rest) (recvs_on old.space.streams mid refl)
    called_given old new acts (concurrent dir count rest) = counts_on old.space.streams new.space.streams (is_two_way dir) _ (streams_of old new _ rest) refl
    called_given old new acts (send_window bytes rest) =
        let s : PlainStreams = record old.space.streams { send = record old.space.streams.send { send_window = bytes } } in
        subst (λ (x : PlainStreams). GivenOn gives old.space.streams x) (sym (streams_of old new s rest))
        (both_on old.space.streams s (sends_same (first_limit old.space.streams) old.space.streams.send s.send refl refl) (permits old.space.streams s refl refl refl refl))
    called_given old new acts (receive_window bytes rest) = alone_on old.space.streams _ new.space.streams (streams_of old new _ rest) refl (permits old.space.streams _ refl refl refl refl)
