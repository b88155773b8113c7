-- The RESET_STREAM frames of a packet that is made: the final size of each is no more than was written on its stream, and a stream of
-- this end's that one names is one of those that the peer permits.
use Rattle.std.proofs.Common.{◌≡◌, ℕ, ◌-◌, ◌<◌, ◌≤◌, ◌==◌, nat_lt, Bool, true, false, List, [], ◌∷◌, ◌++◌, length, Option, Some, None, if◌then◌else◌, refl, sym, ap, subst, ◌∙◌, inl, inr, append_assoc, arith}
use Rattle.std.specs.Prelude.{MatchBool}
use Rattle.std.proofs.lemmas.Bool.{both_ways, cases_Bool}
use Rattle.std.proofs.lemmas.List.{append-nil}
use borrow.Author.Tests.{ltb-true}
use Rattle.qh_base.specs.declared.stream_id.StreamId.{StreamId}
use Rattle.qh_buffers.specs.Ranges.{PlainRange}
use Rattle.qh_core.specs.Follows.{reset_frame}
use Rattle.qh_frame.proofs.FramesWritten.{ping_put}
use Rattle.qh_frame.specs.AckWritten.{ack_frame}
use Rattle.qh_frame.specs.FrameBytes.{frame_bytes, numbers_bytes}
use Rattle.qh_frame.specs.Plain.{frame, by_dir}
use Rattle.qh_frame.specs.WrittenForm.{stream_form}
use Rattle.qh_frame.specs.declared.ack.AckRange.{AckRange}
use Rattle.qh_half.specs.Send.{PlainSend}
use Rattle.qh_half.specs.declared.send.ResetFrame.{ResetFrame}
use Rattle.qh_halves.specs.Counts.{index_of, is_bi, is_own}
use Rattle.qh_halves.specs.SendHalves.{IsSentNext, send_at}
use Rattle.qh_halves.specs.declared.send_halves.Transmission.TheVariants.{Reset}
use Rattle.qh_recovery.specs.PendingAcks.{IsAckPut}
use Rattle.qh_space.specs.Sending.{AreElicitingPut, IsPacketMade, ReadsBack, bytes_if, may_elicit, ping_bytes, response_bytes}
use Rattle.qh_space.specs.declared.data_space.DataSpace.{DataSpace}
use Rattle.qh_spec.proofs.Members.{in_left}
use Rattle.qh_spec.specs.FrameTypes as frame_types
use Rattle.qh_spec.specs.FrameViews.{stream_of}
use Rattle.qh_spec.specs.Lists.{In}
use Rattle.qh_spec.specs.QuicFrame.{StreamFrame as Run}
use Rattle.qh_spec.specs.QuicFrames.{QuicFrame, Value, AreQuicFrames, Num, Text}
use Rattle.qh_spec.specs.Transcript.{Act, written}
use Rattle.qh_spec.specs.declared.sides.Dir.{Dir}
use Rattle.qh_spec.specs.declared.sides.Dir.TheVariants.{Bi, Uni}
use Rattle.qh_spec.specs.declared.sides.Side.{Side}
use Rattle.qh_streams.specs.Streams.{PlainStreams, AreWritten, IsHandedOver, IsReadBack, counts_of, half_bytes, max_frame_header, was_opened, written_frame}
use Rattle.qh_streams.specs.Streams.AreWritten.{none as none_written, more as more_written}
use Rattle.qh_streams.specs.Streams.IsHandedOver.{stream as stream_handed, reset as reset_handed, stop as stop_handed, max_stream_data as max_stream_data_handed, max_data as max_data_handed, max_streams as max_streams_handed}
use Rattle.qh_streams.specs.declared.frames.PeerLimits.{PeerLimits}
use Rattle.qh_streams.specs.declared.frames.SentFrame.{SentFrame}
use Rattle.qh_streams.specs.declared.frames.StreamFrame.{StreamFrame}
use Rattle.qh_transcript.proofs.ReceivingLists.{none_some}
use Rattle.qh_transcript.proofs.SendingFrames as sending
use Rattle.qh_transcript.proofs.SendingSteps.{fewer}
use Rattle.qh_transcript.proofs.WithinFrames as limits
use Rattle.qh_transcript.proofs.WithinKept.{peer_after}
use Rattle.qh_transcript.specs.Sending.{StandsOut, some_run}
use Rattle.qh_transcript.specs.Within.{KeepsWithin, count_given, greatest}

-- ---- which frames are RESET_STREAM frames

abbrev pub has_reset_type : QuicFrame → Bool
has_reset_type f = f.kind == frame_types.reset_stream

form_type : (zero fin : Bool) (id offset : ℕ) (payload : List ℕ) → (offset == 0) ≡ zero
    → has_reset_type (stream_form (record { id = id; offset = offset; payload = payload; fin = fin })) ≡ false
form_type true true id offset payload e = rw e refl
form_type true false id offset payload e = rw e refl
form_type false true id offset payload e = rw e refl
form_type false false id offset payload e = rw e refl

count_type : (dir : Dir) (count : ℕ) → has_reset_type (frame (by_dir dir 18 19) (Num count ∷ [])) ≡ false
count_type Bi count = refl
count_type Uni count = refl

ack_type : (ranges : List AckRange) → has_reset_type (ack_frame 0 ranges) ≡ false
ack_type [] = refl
ack_type (r ∷ more) = refl

-- what one says
abbrev number_of : List Value → ℕ
number_of (Num n ∷ more) = n
number_of other = 0

abbrev rest_of : List Value → List Value
rest_of (v ∷ more) = more
rest_of [] = []

same_id : (a b m c d n : ℕ) → reset_frame a b m ≡ reset_frame c d n → a ≡ c
same_id a b m c d n e = ap (λ (g : QuicFrame). number_of g.values) e

same_size : (a b m c d n : ℕ) → reset_frame a b m ≡ reset_frame c d n → m ≡ n
same_size a b m c d n e = ap (λ (g : QuicFrame). number_of (rest_of (rest_of g.values))) e

-- ---- the end, and the peer's first limits, stay

end_stays : (old new : PlainStreams) (room : ℕ) (f : SentFrame) → IsHandedOver old new room f → (new.side ≡ old.side) × (new.peer ≡ old.peer)
end_stays old new room f (stream_handed id piece next rest) = (ap (λ (s : PlainStreams). s.side) rest, ap (λ (s : PlainStreams). s.peer) rest)
end_stays old new room f (reset_handed id reset next rest) = (ap (λ (s : PlainStreams). s.side) rest, ap (λ (s : PlainStreams). s.peer) rest)
end_stays old new room f (stop_handed id code step rest) = (ap (λ (s : PlainStreams). s.side) rest, ap (λ (s : PlainStreams). s.peer) rest)
end_stays old new room f (max_stream_data_handed id limit step rest) = (ap (λ (s : PlainStreams). s.side) rest, ap (λ (s : PlainStreams). s.peer) rest)
end_stays old new room f (max_data_handed limit is due rest) = (ap (λ (s : PlainStreams). s.side) rest, ap (λ (s : PlainStreams). s.peer) rest)
end_stays old new room f (max_streams_handed dir n is due rest) = peer_after new old _ _ rest

pub below_count : (s : PlainStreams) (id : ℕ) → is_own s.side id ≡ true → was_opened s id ≡ true → index_of id < (counts_of s (is_bi id)).opened
below_count s id own opened =
    let counted : nat_lt (index_of id) (counts_of s (is_bi id)).opened ≡ true = rw own at opened in
    ltb-true (index_of id) (counts_of s (is_bi id)).opened counted

module _ (side : Side) (peer : PeerLimits) (sent : List Run) (given : List StreamFrame) (t : List Act) where
  -- the limit on the count of this end's streams of a direction
  abbrev permitted : Bool → ℕ
  permitted two_way = greatest (count_given two_way) (if two_way then peer.max_bidi else peer.max_uni) given

  -- so many bytes were written on the stream, and the peer permits it
  abbrev pub IsKept : (id size : ℕ) → Type 0
  IsKept id size = (size ≤ length (written t id)) × (is_own side id ≡ true → index_of id < permitted (is_bi id))

  -- a frame that is a RESET_STREAM frame says so
  abbrev pub IsSaid : QuicFrame → Type 0
  IsSaid f = (id code size : ℕ) → f ≡ reset_frame id code size → IsKept id size

  other : (f : QuicFrame) → has_reset_type f ≡ false → IsSaid f
  other f not id code size e = absurd (both_ways (has_reset_type f) not (ap has_reset_type e))

  -- the streams, while frames are handed over
  pub record AreStanding (s : PlainStreams) : Type 0 where
    pub out : StandsOut s sent t
    pub within : KeepsWithin s given t
    pub side_is : s.side ≡ side
    pub peer_is : s.peer ≡ peer

  still : (old new : PlainStreams) (room : ℕ) (f : SentFrame) → IsHandedOver old new room f → AreStanding old → AreStanding new
  still old new room f handed p =
      let same = end_stays old new room f handed in
      let more = some_run (stream_of (written_frame new f)) in
      record {
        out = fewer new (sent ++ more) sent t (λ run is. in_left run sent more is) (sending.handed old new room f sent t handed p.out);
        within = limits.handed old new room f given t handed p.within;
        side_is = same.0 ∙ p.side_is;
        peer_is = same.1 ∙ p.peer_is;
      }

  opened_here : (s : PlainStreams) (id : ℕ) (h : PlainSend) → AreStanding s → send_at s.send id ≡ Some h → was_opened s id ≡ true
  opened_here s id h p is = elim (cases_Bool (was_opened s id)) [
    | inl opened ↦ opened
    | inr closed ↦ none_some _ (send_at s.send id) h (p.out.unopened id closed).0 is
  ]

  permits : (s : PlainStreams) (id : ℕ) → AreStanding s → was_opened s id ≡ true → is_own side id ≡ true → index_of id < permitted (is_bi id)
  permits s id p opened mine =
      let below = below_count s id (rw p.side_is mine) opened in
      let bound : (counts_of s (is_bi id)).opened ≤ permitted (is_bi id) = rw p.peer_is at (p.within.count (is_bi id)) in
      omega (arith, below, bound)

  reset_said : (old mid : PlainStreams) (room : ℕ) (id : StreamId) (r : ResetFrame) → AreStanding old → IsSentNext old.send mid.send (room - max_frame_header) id.0 (Reset r)
      → IsSaid (reset_frame id.0 r.code r.final_size)
  reset_said old mid room id r p next stream code size e =
      let half = next.step.half in
      let taken = (p.within.halves id.0 half next.step.was).0 in
      let final = next.step.step.1 in
      let same = same_size id.0 r.code r.final_size stream code size e in
      let whole : size ≤ length (written t id.0) = omega (arith, taken, final, same) in
      subst (λ (n : ℕ). IsKept n size) (same_id id.0 r.code r.final_size stream code size e) (whole, permits old id.0 p (opened_here old id.0 half p next.step.was))

  handed_said : (old mid : PlainStreams) (room : ℕ) (f : SentFrame) → AreStanding old → IsHandedOver old mid room f → IsSaid (written_frame mid f)
  handed_said old mid room f p (stream_handed id piece next rest) =
      other _ (form_type (piece.offsets.start == 0) piece.fin id.0 piece.offsets.start (half_bytes (send_at mid.send id.0) piece) refl)
  handed_said old mid room f p (reset_handed id r next rest) = reset_said old mid room id r p next
  handed_said old mid room f p (stop_handed id code step rest) = other (frame 5 (Num id.0 ∷ Num code ∷ [])) refl
  handed_said old mid room f p (max_stream_data_handed id limit step rest) = other (frame 17 (Num id.0 ∷ Num limit ∷ [])) refl
  handed_said old mid room f p (max_data_handed limit is due rest) = other (frame 16 (Num limit ∷ [])) refl
  handed_said old mid room f p (max_streams_handed dir count is due rest) = other (frame (by_dir dir 18 19) (Num count ∷ [])) (count_type dir count)

  -- ---- the frames of bytes

  pub record AreSaid (bytes : List ℕ) : Type 0 where
    pub frames : List QuicFrame
    pub are : AreQuicFrames bytes frames
    pub said : (f : QuicFrame) → In f frames → IsSaid f

  none_said : AreSaid []
  none_said = record { frames = []; are = refl; said = λ f is. absurd is }

  one_said : (f : QuicFrame) (more : List ℕ) → IsReadBack f → IsSaid f → AreSaid more → AreSaid (frame_bytes f ++ more)
  one_said f more back says b = record {
    frames = f ∷ b.frames;
    are = (more, back more, b.are);
    said = λ g among. elim among [ inl same ↦ subst IsSaid same says | inr there ↦ b.said g there ];
  }

  ping_said : (due : Bool) (more : List ℕ) → AreSaid more → AreSaid (bytes_if due ping_bytes ++ more)
  ping_said true more b = one_said (frame 1 []) more (ping_put [] (numbers_bytes (1 ∷ [])) refl).is (other (frame 1 []) refl) b
  ping_said false more b = b

  response_said : (response : Option (List ℕ)) (more : List ℕ) → ReadsBack response → AreSaid more → AreSaid (response_bytes response ++ more)
  response_said None more back b = b
  response_said (Some echoed) more back b = one_said (frame 27 (Text echoed ∷ [])) more back (other (frame 27 (Text echoed ∷ [])) refl) b

  written_said : (room : ℕ) (old new : PlainStreams) (fs : List SentFrame) (bytes : List ℕ) → AreWritten room old new fs bytes → AreStanding old → AreSaid bytes
  written_said room old new fs bytes (none_written _ _) p = none_said
  written_said room old new fs bytes (more_written _ _ mid _ f gs rest handed fits back others) p =
      one_said (written_frame mid f) rest back (handed_said old mid room f p handed) (written_said _ mid new gs rest others (still old mid room f handed p))

  -- ---- the packet

  -- what was appended
  pub record AreSaidBehind (before after : List ℕ) : Type 0 where
    pub bytes : List ℕ
    pub appended : after ≡ before ++ bytes
    pub are : AreSaid bytes

  put_said : (may : Bool) (room : ℕ) (old new : DataSpace) (mid after : List ℕ) (frames : List SentFrame) → MatchBool may (AreElicitingPut room old new mid after frames) ((new ≡ old) × (after ≡ mid))
      → AreStanding old.streams → AreSaidBehind mid after
  put_said true room old new mid after frames put p =
      let w = put.streams in
      let ping = bytes_if old.is_ping_due ping_bytes in
      let response = response_bytes old.path_response in
      record {
        bytes = ping ++ (response ++ w.bytes);
        appended = w.out_is ∙ append_assoc mid (ping ++ response) w.bytes ∙ ap (λ (z : List ℕ). mid ++ z) (append_assoc ping response w.bytes);
        are = ping_said old.is_ping_due (response ++ w.bytes) (response_said old.path_response w.bytes put.reads_back (written_said _ old.streams new.streams w.frames w.bytes w.written p));
      }
  put_said false room old new mid after frames none p = record { bytes = []; appended = none.1 ∙ sym (append-nil mid); are = none_said }

  ack_said : (due : Bool) (ranges : List PlainRange) (before mid after : List ℕ) → MatchBool due (IsAckPut ranges before mid) (mid ≡ before) → AreSaidBehind mid after → AreSaidBehind before after
  ack_said true ranges before mid after put b =
      let ack : QuicFrame = ack_frame 0 put.ranges in
      record {
        bytes = frame_bytes ack ++ b.bytes;
        appended = b.appended ∙ (ap (λ (z : List ℕ). z ++ b.bytes) put.is_put.whole ∙ append_assoc before (frame_bytes ack) b.bytes);
        are = one_said ack b.bytes put.is_put.is (other ack (ack_type put.ranges)) b.are;
      }
  ack_said false ranges before mid after same b = record { bytes = b.bytes; appended = b.appended ∙ ap (λ (z : List ℕ). z ++ b.bytes) same; are = b.are }

  pub packet_said : (now overhead room : ℕ) (old new : DataSpace) (before after : List ℕ) → IsPacketMade now overhead room old new before after → AreStanding old.streams → AreSaidBehind before after
  packet_said now overhead room old new before after made p =
      ack_said old.acks.is_due old.acks.ranges before made.out_mid after made.ack
      (put_said (may_elicit old) (room - (length made.out_mid - length before)) old made.mid made.out_mid after made.packet.frames.items made.eliciting p)
