-- The frames of a packet that came are taken one after another: how the space stands to all that was done then.
use Rattle.std.proofs.Common.{◌≡◌, ℕ, ◌+◌, ◌≤◌, ◌/◌, ◌==◌, max, cond, Bool, true, false, List, [], ◌∷◌, ◌++◌, Option, Some, None, refl, sym, ap, subst, ◌∙◌, arith, inl, inr}
use Rattle.std.proofs.lemmas.Bool.{cases_Bool, both_ways}
use Rattle.qh_base.specs.declared.connection_error.ConnectionError.{ConnectionError}
use Rattle.qh_base.specs.declared.stream_id.StreamId.{StreamId}
use Rattle.qh_core.proofs.Ends.{same_of}
use Rattle.qh_core.proofs.Followed.{FollowsOf}
use Rattle.qh_core.specs.Follows.{HasFrame}
use Rattle.qh_core.specs.Receiving.{AreFramesTaken}
use Rattle.qh_core.specs.Receiving.AreFramesTaken.{none as none_taken, more as more_taken, closed as closed_taken, refused as refused_taken}
use Rattle.qh_core.specs.declared.config.ConnConfig.{ConnConfig}
use Rattle.qh_frame.proofs.WrittenForms.{form_stream}
use Rattle.qh_frame.specs.FrameAt.{Begins}
use Rattle.qh_frame.specs.Plain.{plain_of}
use Rattle.qh_frame.specs.WrittenForm.{ack_values, or_frame, written_form}
use Rattle.qh_frame.specs.declared.frame.Frame.{Frame}
use Rattle.qh_frame.specs.declared.frame.Frame.TheVariants as kind
use Rattle.qh_history.proofs.Arrivals.{frame_stands}
use Rattle.qh_history.proofs.SameEnd as same
use Rattle.qh_history.proofs.WithinLimits as limits
use Rattle.qh_history.specs.Standing.{some_coming}
use Rattle.qh_space.specs.Receiving.{IsFrameTaken, IsAckReceived, coming_of, frame_refusal}
use Rattle.qh_space.specs.Receiving.IsFrameTaken.{passive, streams as of_streams, ack as of_ack, challenge, close}
use Rattle.qh_space.specs.declared.data_space.DataSpace.{DataSpace}
use Rattle.qh_spec.proofs.Cuts.{empty_front}
use Rattle.qh_spec.proofs.FrameLaws.{quic_frame_agrees}
use Rattle.qh_spec.proofs.Members.{in_split}
use Rattle.qh_spec.proofs.Varints.{no_empty_varint}
use Rattle.qh_spec.specs.FrameViews.{stream_of, stream_values}
use Rattle.qh_spec.specs.Link.{other}
use Rattle.qh_spec.specs.Lists.{In}
use Rattle.qh_spec.specs.QuicFrame.{StreamFrame as Run, has_bit}
use Rattle.qh_spec.specs.QuicFrames.{QuicFrame, AreQuicFrames}
use Rattle.qh_spec.specs.Transcript.{Act, handed_in}
use Rattle.qh_spec.specs.Varint.{IsVarint}
use Rattle.qh_spec.specs.declared.sides.Dir.TheVariants.{Bi, Uni}
use Rattle.qh_spec.specs.declared.sides.Side.{Side}
use Rattle.qh_streams.specs.Streams.{PlainStreams}
use Rattle.qh_streams.specs.declared.frames.StreamFrame.{StreamFrame}
use Rattle.qh_streams.specs.declared.frames.StreamFrame.TheVariants as coming
use Rattle.qh_transcript.specs.Sending.{some_run, runs_of}
use Rattle.qh_transcript.specs.Within.{KeepsWithin, count_given, greatest}

-- ---- the form of a frame that isn't STREAM, ACK or DATAGRAM

stream_kind_is : (zero fin : Bool) → ((10 + cond zero 0 4 + cond fin 1 0) / 8 == 1) ≡ true
stream_kind_is true true = refl
stream_kind_is true false = refl
stream_kind_is false true = refl
stream_kind_is false false = refl

or_same : (o : Option Run) (q f : QuicFrame) → or_frame o q ≡ f → (f.kind / 8 == 1) ≡ false → q ≡ f
or_same None q f e plain = e
or_same (Some s) q f e plain =
    let streams : (f.kind / 8 == 1) ≡ true = ap (λ (f : QuicFrame). f.kind / 8 == 1) (sym e) ∙ stream_kind_is (s.offset == 0) s.fin in
    absurd (both_ways (f.kind / 8 == 1) plain streams)

form_same : (q f : QuicFrame) → written_form q ≡ f → (f.kind / 8 == 1) ≡ false → (f.kind == 2) ≡ false → (f.kind == 49) ≡ false → q ≡ f
form_same q f e plain no_ack no_datagram = elim (cases_Bool (q.kind / 8 == 1)) [
  | inl streams ↦ or_same (stream_values (has_bit 1 q.kind) q.values) q f (rw streams at e) plain
  | inr other ↦ elim (cases_Bool (q.kind == 3)) [
    | inl ack ↦
        let form : record { kind = 2; values = ack_values q.values } ≡ f = rw (other, ack) at e in
        absurd (both_ways (f.kind == 2) no_ack (ap (λ (f : QuicFrame). f.kind == 2) (sym form)))
    | inr not ↦ elim (cases_Bool (q.kind == 48)) [
      | inl datagram ↦
          let form : record { kind = 49; values = q.values } ≡ f = rw (other, not, datagram) at e in
          absurd (both_ways (f.kind == 49) no_datagram (ap (λ (f : QuicFrame). f.kind == 49) (sym form)))
      | inr none ↦ rw (other, not, none) at e
    ]
  ]
]

-- ---- the frames that give limits

-- a frame that speaks of streams, but for STREAM, which gives no limit
abbrev limiting : Option StreamFrame → List StreamFrame
limiting None = []
limiting (Some (coming.Stream id offset payload fin)) = []
limiting (Some f) = f ∷ []

no_less : (x g : ℕ) → x ≤ max 0 g → x ≤ g
no_less x g h = omega (arith, h)

no_count : (b : Bool) (x first : ℕ) (id : StreamId) (offset : ℕ) (payload : List ℕ) (fin : Bool) (given : List StreamFrame)
    → x ≤ greatest (count_given b) first (coming.Stream id offset payload fin ∷ given) → x ≤ greatest (count_given b) first given
no_count true x first id offset payload fin given h = no_less x _ h
no_count false x first id offset payload fin given h = no_less x _ h

without_stream : (id : StreamId) (offset : ℕ) (payload : List ℕ) (fin : Bool) (s : PlainStreams) (given : List StreamFrame) (t : List Act) → KeepsWithin s (coming.Stream id offset payload fin ∷ given) t
    → KeepsWithin s given t
without_stream id offset payload fin s given t p = record {
  all_bytes = no_less _ _ p.all_bytes;
  stream_bytes = λ k. no_less _ _ (p.stream_bytes k);
  count = λ b. no_count b _ _ id offset payload fin given (p.count b);
  max_data = no_less _ _ p.max_data;
  taken = p.taken;
  credit = p.credit;
  halves = λ k h is. let r = p.halves k h is in (r.0, no_less _ _ r.1);
  max_opened = λ b. no_count b _ _ id offset payload fin given (p.max_opened b);
}

by_limits : (o : Option StreamFrame) (s : PlainStreams) (given : List StreamFrame) (t : List Act) → KeepsWithin s (some_coming o ++ given) t → KeepsWithin s (limiting o ++ given) t
by_limits None s given t p = p
by_limits (Some (coming.Stream id offset payload fin)) s given t p = without_stream id offset payload fin s given t p
by_limits (Some (coming.Reset id code size)) s given t p = p
by_limits (Some (coming.Stop id code)) s given t p = p
by_limits (Some (coming.MaxData limit)) s given t p = p
by_limits (Some (coming.MaxStreamData id limit)) s given t p = p
by_limits (Some (coming.MaxStreams dir count)) s given t p = p

-- a frame with a limit has its type, so that it stands in the packet as it is
limiting_same : (f : Frame) (q : QuicFrame) (c : StreamFrame) → coming_of f ≡ Some c → In c (limiting (Some c)) → written_form q ≡ plain_of f → q ≡ plain_of f
limiting_same (kind.ResetStream id code size) q c is there e = form_same q _ e refl refl refl
limiting_same (kind.StopSending id code) q c is there e = form_same q _ e refl refl refl
limiting_same (kind.MaxData limit) q c is there e = form_same q _ e refl refl refl
limiting_same (kind.MaxStreamData id limit) q c is there e = form_same q _ e refl refl refl
limiting_same (kind.MaxStreams Bi count) q c is there e = form_same q _ e refl refl refl
limiting_same (kind.MaxStreams Uni count) q c is there e = form_same q _ e refl refl refl
limiting_same (kind.Stream x) q c is there e = absurd (subst (λ (o : Option StreamFrame). In c (limiting o)) (sym is) there)
limiting_same kind.Padding q c is there e = absurd (cc)
limiting_same kind.Ping q c is there e = absurd (cc)
limiting_same (kind.Ack a) q c is there e = absurd (cc)
limiting_same (kind.Crypto offset payload) q c is there e = absurd (cc)
limiting_same (kind.NewToken token) q c is there e = absurd (cc)
limiting_same (kind.DataBlocked limit) q c is there e = absurd (cc)
limiting_same (kind.StreamDataBlocked id limit) q c is there e = absurd (cc)
limiting_same (kind.StreamsBlocked dir count) q c is there e = absurd (cc)
limiting_same (kind.NewConnectionId sequence prior id token) q c is there e = absurd (cc)
limiting_same (kind.RetireConnectionId sequence) q c is there e = absurd (cc)
limiting_same (kind.PathChallenge bytes) q c is there e = absurd (cc)
limiting_same (kind.PathResponse bytes) q c is there e = absurd (cc)
limiting_same (kind.ConnectionClose code frame_type reason) q c is there e = absurd (cc)
limiting_same (kind.ApplicationClose code reason) q c is there e = absurd (cc)
limiting_same kind.HandshakeDone q c is there e = absurd (cc)
limiting_same (kind.Datagram payload has_length) q c is there e = absurd (cc)

in_limiting : (o : Option StreamFrame) (c : StreamFrame) → In c (limiting o) → (o ≡ Some c) × In c (limiting (Some c))
in_limiting None c is = absurd is
in_limiting (Some (coming.Stream id offset payload fin)) c is = absurd is
in_limiting (Some (coming.Reset id code size)) c (inl e) = (ap (λ (c : StreamFrame). Some c) e, subst (λ (c : StreamFrame). In c (limiting (Some c))) e (inl refl))
in_limiting (Some (coming.Stop id code)) c (inl e) = (ap (λ (c : StreamFrame). Some c) e, subst (λ (c : StreamFrame). In c (limiting (Some c))) e (inl refl))
in_limiting (Some (coming.MaxData limit)) c (inl e) = (ap (λ (c : StreamFrame). Some c) e, subst (λ (c : StreamFrame). In c (limiting (Some c))) e (inl refl))
in_limiting (Some (coming.MaxStreamData id limit)) c (inl e) = (ap (λ (c : StreamFrame). Some c) e, subst (λ (c : StreamFrame). In c (limiting (Some c))) e (inl refl))
in_limiting (Some (coming.MaxStreams dir count)) c (inl e) = (ap (λ (c : StreamFrame). Some c) e, subst (λ (c : StreamFrame). In c (limiting (Some c))) e (inl refl))
in_limiting (Some (coming.Reset id code size)) c (inr none) = absurd none
in_limiting (Some (coming.Stop id code)) c (inr none) = absurd none
in_limiting (Some (coming.MaxData limit)) c (inr none) = absurd none
in_limiting (Some (coming.MaxStreamData id limit)) c (inr none) = absurd none
in_limiting (Some (coming.MaxStreams dir count)) c (inr none) = absurd none

-- ---- one frame

-- which numbers came doesn't change by a frame
acked_dedup : (now : ℕ) (old new : DataSpace) (a : _) → IsAckReceived now old new a → new.dedup ≡ old.dedup
acked_dedup now old new a r = ap (λ (s : DataSpace). s.dedup) r.lost.rest_is ∙ ap (λ (s : DataSpace). s.dedup) r.mid_is

taken_dedup : (now : ℕ) (old new : DataSpace) (f : Frame) (closed : Option ConnectionError) → IsFrameTaken now old new f closed → new.dedup ≡ old.dedup
taken_dedup now old new f closed (passive _ is e) = ap (λ (s : DataSpace). s.dedup) e
taken_dedup now old new f closed (of_streams _ c is r e) = ap (λ (s : DataSpace). s.dedup) e
taken_dedup now old new f closed (of_ack a r) = acked_dedup now old new a r
taken_dedup now old new f closed (challenge bytes e) = ap (λ (s : DataSpace). s.dedup) e
taken_dedup now old new f closed (close _ error is e) = ap (λ (s : DataSpace). s.dedup) e

acked_datagrams : (now : ℕ) (old new : DataSpace) (a : _) → IsAckReceived now old new a → new.datagram_receive ≡ old.datagram_receive
acked_datagrams now old new a r = ap (λ (s : DataSpace). s.datagram_receive) r.lost.rest_is ∙ ap (λ (s : DataSpace). s.datagram_receive) r.mid_is

-- nor how long a DATAGRAM frame's payload may be
taken_datagrams : (now : ℕ) (old new : DataSpace) (f : Frame) (closed : Option ConnectionError) → IsFrameTaken now old new f closed → new.datagram_receive ≡ old.datagram_receive
taken_datagrams now old new f closed (passive _ is e) = ap (λ (s : DataSpace). s.datagram_receive) e
taken_datagrams now old new f closed (of_streams _ c is r e) = ap (λ (s : DataSpace). s.datagram_receive) e
taken_datagrams now old new f closed (of_ack a r) = acked_datagrams now old new a r
taken_datagrams now old new f closed (challenge bytes e) = ap (λ (s : DataSpace). s.datagram_receive) e
taken_datagrams now old new f closed (close _ error is e) = ap (λ (s : DataSpace). s.datagram_receive) e

run_here : (o : Option Run) (run : Run) → In run (some_run o ++ []) → o ≡ Some run
run_here None run is = absurd is
run_here (Some r) run (inl same) = ap (λ (r : Run). Some r) same
run_here (Some r) run (inr none) = absurd none

-- no frame begins where no byte is
no_frame : (bytes : List ℕ) (form : QuicFrame) (rest : List ℕ) → Begins bytes form rest → bytes ≡ [] → ⊥
no_frame bytes form rest b e =
    no_empty_varint b.frame.kind (subst (λ (z : List ℕ). IsVarint z b.frame.kind) (empty_front b.is.kind.0 b.is.fields (sym e ∙ b.is.kind.1)) b.is.kind.2)

module _ (side : Side) (own peer : ℕ) (config : ConnConfig) where
  one_frame : (now : ℕ) (old new : DataSpace) (f : Frame) (closed : Option ConnectionError) (q : QuicFrame) (t : List Act) → frame_refusal old f ≡ None → IsFrameTaken now old new f closed
      → written_form q ≡ plain_of f → HasFrame own (handed_in t) (other side) q → FollowsOf side own peer config old t → FollowsOf side own peer config new t
  one_frame now old new f closed q t ok taken form has p =
      let view : stream_of q ≡ stream_of (plain_of f) = sym (form_stream q) ∙ ap stream_of form in
      record {
        of = same_of side config.peer old new (same.frame now old new f closed taken) p.of;
        datagrams = taken_datagrams now old new f closed taken ∙ p.datagrams;
        sent = p.sent;
        came = p.came ++ runs_of (plain_of f ∷ []);
        is_sent = p.is_sent;
        has_come = λ run is. elim (in_split run p.came (runs_of (plain_of f ∷ [])) is) [
          | inl before ↦ p.has_come run before
          | inr now ↦ record {
            datagram = has.datagram;
            among = has.among;
            packet = has.packet;
            has = has.has;
            space_is = has.space_is;
            sender_is = has.sender_is;
            frame = q;
            frame_among = has.frame_among;
            is = view ∙ run_here (stream_of (plain_of f)) run now;
          }
        ];
        stands = frame_stands now old new f closed p.sent p.came t ok taken p.stands;
        given = limiting (coming_of f) ++ p.given;
        gave = λ c is. elim (in_split c (limiting (coming_of f)) p.given is) [
          | inl now ↦
              let here = in_limiting (coming_of f) c now in
              record { frame = f; is = here.0; has = subst (λ (q : QuicFrame). HasFrame own (handed_in t) (other side) q) (limiting_same f q c here.0 here.1 form) has }
          | inr before ↦ p.gave c before
        ];
        within = by_limits (coming_of f) new.streams p.given t
            (limits.frame now old new f closed p.given t ok taken (λ id none. (p.stands.out.unopened id none).1) p.within);
        resets = p.resets;
        each_within = p.each_within;
        accepted = p.accepted;
        remembers = rw (taken_dedup now old new f closed taken) p.remembers;
        numbers = p.numbers;
      }

  -- ---- all of them

  -- what a frame begins is the first of the frames
  first_is : (bytes rest : List ℕ) (form : QuicFrame) (fs : List QuicFrame) → Begins bytes form rest → AreQuicFrames bytes fs
      → (q : QuicFrame) × (more : List QuicFrame) × (fs ≡ q ∷ more) × (written_form q ≡ form) × AreQuicFrames rest more
  first_is bytes rest form [] b are = absurd (no_frame bytes form rest b are)
  first_is bytes rest form (q ∷ more) b are =
      let one = quic_frame_agrees bytes b.frame q rest are.0 b.is are.1 in
      (q, more, refl, ap written_form (sym one.0) ∙ b.form_is, subst (λ (z : List ℕ). AreQuicFrames z more) (sym one.1) are.2)

  pub frames_follow : (now : ℕ) (bytes : List ℕ) (old new : DataSpace) (taken : List Frame) (end : Option ConnectionError) (fs : List QuicFrame) (t : List Act)
      → AreFramesTaken now bytes old new taken end → AreQuicFrames bytes fs → ((q : QuicFrame) → In q fs → HasFrame own (handed_in t) (other side) q)
      → FollowsOf side own peer config old t → FollowsOf side own peer config new t
  frames_follow now bytes old new taken end fs t (none_taken _) are has p = p
  frames_follow now bytes old new taken end fs t (more_taken _ rest f _ mid _ others _ begins ok one behind) are has p =
      let first = first_is bytes rest (plain_of f) fs begins are in
      let there : In first.0 fs = subst (λ (z : List QuicFrame). In first.0 z) (sym first.2) (inl refl) in
      frames_follow now rest mid new others end first.1 t behind first.4
      (λ q is. has q (subst (λ (z : List QuicFrame). In q z) (sym first.2) (inr is)))
      (one_frame now old mid f None first.0 t ok one first.3 (has first.0 there) p)
  frames_follow now bytes old new taken end fs t (closed_taken _ rest f _ _ error begins ok one) are has p =
      let first = first_is bytes rest (plain_of f) fs begins are in
      let there : In first.0 fs = subst (λ (z : List QuicFrame). In first.0 z) (sym first.2) (inl refl) in
      one_frame now old new f (Some error) first.0 t ok one first.3 (has first.0 there) p
  frames_follow now bytes old new taken end fs t (refused_taken _ rest f _ error begins named refusal) are has p = p
