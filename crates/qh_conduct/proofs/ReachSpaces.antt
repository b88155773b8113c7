-- What the streams know came in datagrams, with the frames of a packet that is taken.
use Rattle.std.proofs.Common.{◌≡◌, ℕ, ◌+◌, ◌/◌, ◌==◌, cond, Bool, true, false, List, [], ◌∷◌, ◌++◌, Option, Some, None, refl, sym, ap, subst, ◌∙◌, inl, inr}
use Rattle.std.proofs.lemmas.Bool.{both_ways, cases_Bool}
use Rattle.qh_base.specs.declared.connection_error.ConnectionError.{ConnectionError}
use Rattle.qh_conduct.proofs.ReachFrames.{received}
use Rattle.qh_conduct.proofs.ReachSteps as step
use Rattle.qh_conduct.specs.Reached.{AreReached, CameIn}
use Rattle.qh_core.specs.Follows.{HasFrame}
use Rattle.qh_core.specs.Receiving.{AreFramesTaken}
use Rattle.qh_core.specs.Receiving.AreFramesTaken.{none as none_taken, more as more_taken, closed as closed_taken, refused as refused_taken}
use Rattle.qh_frame.proofs.WrittenForms.{form_stream}
use Rattle.qh_frame.specs.FrameAt.{Begins}
use Rattle.qh_frame.specs.Plain.{plain_of}
use Rattle.qh_frame.specs.WrittenForm.{ack_values, or_frame, written_form}
use Rattle.qh_frame.specs.declared.frame.Frame.{Frame}
use Rattle.qh_frame.specs.declared.frame.Frame.TheVariants as kind
use Rattle.qh_history.proofs.Carried.{by_frame}
use Rattle.qh_history.specs.Standing.{some_coming}
use Rattle.qh_space.specs.Receiving.{IsFrameTaken, coming_of, frame_refusal}
use Rattle.qh_space.specs.declared.data_space.DataSpace.{DataSpace}
use Rattle.qh_spec.proofs.Cuts.{empty_front}
use Rattle.qh_spec.proofs.FrameLaws.{quic_frame_agrees}
use Rattle.qh_spec.proofs.Members.{in_split}
use Rattle.qh_spec.proofs.Varints.{no_empty_varint}
use Rattle.qh_spec.specs.FrameViews.{stream_of, stream_values}
use Rattle.qh_spec.specs.Link.{other}
use Rattle.qh_spec.specs.Lists.{In}
use Rattle.qh_spec.specs.QuicFrame.{StreamFrame as Run, has_bit}
use Rattle.qh_spec.specs.QuicFrames.{QuicFrame, AreQuicFrames}
use Rattle.qh_spec.specs.Varint.{IsVarint}
use Rattle.qh_spec.specs.declared.sides.Dir.TheVariants.{Bi, Uni}
use Rattle.qh_spec.specs.declared.sides.Side.{Side}
use Rattle.qh_streams.specs.Streams.{PlainStreams}
use Rattle.qh_streams.specs.declared.frames.StreamFrame.{StreamFrame}
use Rattle.qh_transcript.proofs.SendingFrames.{form_carries}

-- ---- the form of a frame that isn't STREAM, ACK or DATAGRAM

stream_kind_is : (zero fin : Bool) → ((10 + cond zero 0 4 + cond fin 1 0) / 8 == 1) ≡ true
stream_kind_is true true = refl
stream_kind_is true false = refl
stream_kind_is false true = refl
stream_kind_is false false = refl

or_same : (o : Option Run) (q f : QuicFrame) → or_frame o q ≡ f → (f.kind / 8 == 1) ≡ false → q ≡ f
or_same None q f e plain = e
or_same (Some s) q f e plain =
    let streams : (f.kind / 8 == 1) ≡ true = ap (λ (f : QuicFrame). f.kind / 8 == 1) (sym e) ∙ stream_kind_is (s.offset == 0) s.fin in
    absurd (both_ways (f.kind / 8 == 1) plain streams)

pub form_same : (q f : QuicFrame) → written_form q ≡ f → (f.kind / 8 == 1) ≡ false → (f.kind == 2) ≡ false → (f.kind == 49) ≡ false → q ≡ f
form_same q f e plain no_ack no_datagram = elim (cases_Bool (q.kind / 8 == 1)) [
  | inl streams ↦ or_same (stream_values (has_bit 1 q.kind) q.values) q f (rw streams at e) plain
  | inr other ↦ elim (cases_Bool (q.kind == 3)) [
    | inl ack ↦
        let form : record { kind = 2; values = ack_values q.values } ≡ f = rw (other, ack) at e in
        absurd (both_ways (f.kind == 2) no_ack (ap (λ (f : QuicFrame). f.kind == 2) (sym form)))
    | inr not ↦ elim (cases_Bool (q.kind == 48)) [
      | inl datagram ↦
          let form : record { kind = 49; values = q.values } ≡ f = rw (other, not, datagram) at e in
          absurd (both_ways (f.kind == 49) no_datagram (ap (λ (f : QuicFrame). f.kind == 49) (sym form)))
      | inr none ↦ rw (other, not, none) at e
    ]
  ]
]

pub same_coming : (a b : StreamFrame) → Some a ≡ Some b → a ≡ b
same_coming a b e = cc

pub none_is : {X : Type 0} (c : StreamFrame) → ◌≡◌ {A = Option StreamFrame} None (Some c) → X
none_is c e = absurd (cc)

module _ (side : Side) (own : ℕ) (datagrams : List (List ℕ)) where
  -- ---- one frame

  -- a frame that isn't written in another form stands in the packet as it is
  has_form : (q f : QuicFrame) → written_form q ≡ f → (f.kind / 8 == 1) ≡ false → (f.kind == 2) ≡ false → (f.kind == 49) ≡ false → HasFrame own datagrams (other side) q → HasFrame own datagrams (other side) f
  has_form q f e plain no_ack no_datagram = subst (λ (q : QuicFrame). HasFrame own datagrams (other side) q) (form_same q f e plain no_ack no_datagram)

  -- a frame that was read of the packet came
  pub frame_came : (f : Frame) (q : QuicFrame) (c : StreamFrame) → coming_of f ≡ Some c → written_form q ≡ plain_of f → HasFrame own datagrams (other side) q → CameIn own datagrams (other side) c
  frame_came (kind.Stream x) q c is e has = subst (λ (c : StreamFrame). CameIn own datagrams (other side) c) (same_coming _ c is) (record {
    datagram = has.datagram;
    among = has.among;
    packet = has.packet;
    has = has.has;
    space_is = has.space_is;
    sender_is = has.sender_is;
    frame = q;
    frame_among = has.frame_among;
    is = sym (form_stream q) ∙ ap stream_of e ∙ form_carries (x.offset == 0) x.fin x.id.0 x.offset x.payload.now refl;
  })
  frame_came (kind.ResetStream id code size) q c is e has =
      subst (λ (c : StreamFrame). CameIn own datagrams (other side) c) (same_coming _ c is) (record { frame = kind.ResetStream id code size; is = refl; has = has_form q _ e refl refl refl has })
  frame_came (kind.StopSending id code) q c is e has =
      subst (λ (c : StreamFrame). CameIn own datagrams (other side) c) (same_coming _ c is) (record { frame = kind.StopSending id code; is = refl; has = has_form q _ e refl refl refl has })
  frame_came (kind.MaxData limit) q c is e has =
      subst (λ (c : StreamFrame). CameIn own datagrams (other side) c) (same_coming _ c is) (record { frame = kind.MaxData limit; is = refl; has = has_form q _ e refl refl refl has })
  frame_came (kind.MaxStreamData id limit) q c is e has =
      subst (λ (c : StreamFrame). CameIn own datagrams (other side) c) (same_coming _ c is) (record { frame = kind.MaxStreamData id limit; is = refl; has = has_form q _ e refl refl refl has })
  frame_came (kind.MaxStreams Bi count) q c is e has =
      subst (λ (c : StreamFrame). CameIn own datagrams (other side) c) (same_coming _ c is) (record { frame = kind.MaxStreams Bi count; is = refl; has = has_form q _ e refl refl refl has })
  frame_came (kind.MaxStreams Uni count) q c is e has =
      subst (λ (c : StreamFrame). CameIn own datagrams (other side) c) (same_coming _ c is) (record { frame = kind.MaxStreams Uni count; is = refl; has = has_form q _ e refl refl refl has })
  frame_came kind.Padding q c is e has = none_is c is
  frame_came kind.Ping q c is e has = none_is c is
  frame_came (kind.Ack a) q c is e has = none_is c is
  frame_came (kind.Crypto offset payload) q c is e has = none_is c is
  frame_came (kind.NewToken token) q c is e has = none_is c is
  frame_came (kind.DataBlocked limit) q c is e has = none_is c is
  frame_came (kind.StreamDataBlocked id limit) q c is e has = none_is c is
  frame_came (kind.StreamsBlocked dir count) q c is e has = none_is c is
  frame_came (kind.NewConnectionId sequence prior id token) q c is e has = none_is c is
  frame_came (kind.RetireConnectionId sequence) q c is e has = none_is c is
  frame_came (kind.PathChallenge bytes) q c is e has = none_is c is
  frame_came (kind.PathResponse bytes) q c is e has = none_is c is
  frame_came (kind.ConnectionClose code frame_type reason) q c is e has = none_is c is
  frame_came (kind.ApplicationClose code reason) q c is e has = none_is c is
  frame_came kind.HandshakeDone q c is e has = none_is c is
  frame_came (kind.Datagram payload has_length) q c is e has = none_is c is

  -- what the streams know came in the datagrams
  pub record Came (s : PlainStreams) : Type 0 where
    pub frames : List StreamFrame
    pub came : (f : StreamFrame) → In f frames → CameIn own datagrams (other side) f
    pub are : AreReached side s frames

  in_coming : (o : Option StreamFrame) (c : StreamFrame) → In c (some_coming o) → o ≡ Some c
  in_coming None c is = absurd is
  in_coming (Some d) c (inl same) = ap (λ (c : StreamFrame). Some c) same
  in_coming (Some d) c (inr none) = absurd none

  pub one_frame : (now : ℕ) (old new : DataSpace) (f : Frame) (closed : Option ConnectionError) (q : QuicFrame) → frame_refusal old f ≡ None → IsFrameTaken now old new f closed
      → written_form q ≡ plain_of f → HasFrame own datagrams (other side) q → Came old.streams → Came new.streams
  one_frame now old new f closed q ok taken form has p =
      let frames : List StreamFrame = some_coming (coming_of f) ++ p.frames in
      record {
        frames = frames;
        came = λ c is. elim (in_split c (some_coming (coming_of f)) p.frames is) [
          | inl here ↦ frame_came f q c (in_coming (coming_of f) c here) form has
          | inr before ↦ p.came c before
        ];
        are = by_frame (λ s. AreReached side s frames) (step.lost side frames) (step.acked side frames) now old new f closed
            (λ c of r. rw of.is (received side p.frames old.streams new.streams c (sym (of.refusal old) ∙ ok) r p.are))
            (λ none. rw none.none p.are) taken;
      }

  -- ---- all of them

  -- no frame begins where no byte is
  no_frame : (bytes : List ℕ) (form : QuicFrame) (rest : List ℕ) → Begins bytes form rest → bytes ≡ [] → ⊥
  no_frame bytes form rest b e =
      no_empty_varint b.frame.kind (subst (λ (z : List ℕ). IsVarint z b.frame.kind) (empty_front b.is.kind.0 b.is.fields (sym e ∙ b.is.kind.1)) b.is.kind.2)

  -- what a frame begins is the first of the frames
  pub first_is : (bytes rest : List ℕ) (form : QuicFrame) (fs : List QuicFrame) → Begins bytes form rest → AreQuicFrames bytes fs
      → (q : QuicFrame) × (more : List QuicFrame) × (fs ≡ q ∷ more) × (written_form q ≡ form) × AreQuicFrames rest more
  first_is bytes rest form [] b are = absurd (no_frame bytes form rest b are)
  first_is bytes rest form (q ∷ more) b are =
      let one = quic_frame_agrees bytes b.frame q rest are.0 b.is are.1 in
      (q, more, refl, ap written_form (sym one.0) ∙ b.form_is, subst (λ (z : List ℕ). AreQuicFrames z more) (sym one.1) are.2)

  pub all_frames : (now : ℕ) (bytes : List ℕ) (old new : DataSpace) (taken : List Frame) (end : Option ConnectionError) (fs : List QuicFrame) → AreFramesTaken now bytes old new taken end
      → AreQuicFrames bytes fs → ((q : QuicFrame) → In q fs → HasFrame own datagrams (other side) q) → Came old.streams → Came new.streams
  all_frames now bytes old new taken end fs (none_taken _) are has p = p
  all_frames now bytes old new taken end fs (more_taken _ rest f _ mid _ others _ begins ok one behind) are has p =
      let first = first_is bytes rest (plain_of f) fs begins are in
      let there : In first.0 fs = subst (λ (z : List QuicFrame). In first.0 z) (sym first.2) (inl refl) in
      all_frames now rest mid new others end first.1 behind first.4
      (λ q is. has q (subst (λ (z : List QuicFrame). In q z) (sym first.2) (inr is)))
      (one_frame now old mid f None first.0 ok one first.3 (has first.0 there) p)
  all_frames now bytes old new taken end fs (closed_taken _ rest f _ _ error begins ok one) are has p =
      let first = first_is bytes rest (plain_of f) fs begins are in
      let there : In first.0 fs = subst (λ (z : List QuicFrame). In first.0 z) (sym first.2) (inl refl) in
      one_frame now old new f (Some error) first.0 ok one first.3 (has first.0 there) p
  all_frames now bytes old new taken end fs (refused_taken _ rest f _ error begins named refusal) are has p = p
