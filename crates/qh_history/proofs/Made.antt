-- A packet that is made: its bytes are frames that read back, and none but those of the streams carry bytes of streams.
use Rattle.std.proofs.Common.{◌≡◌, ◌⊎◌, ℕ, ◌-◌, nat_lt, Bool, true, false, List, [], ◌∷◌, ◌++◌, length, Option, Some, None, refl, sym, ap, subst, ◌∙◌, inl, inr, append_assoc}
use Rattle.std.specs.Prelude.{map, MatchBool}
use Rattle.std.specs.List.{AllByRecursion, concat}
use Rattle.std.proofs.lemmas.List.{append-nil}
use Rattle.qh_buffers.specs.Ranges.{PlainRange}
use Rattle.qh_frame.proofs.FramesWritten.{ping_put}
use Rattle.qh_frame.specs.AckWritten.{ack_frame}
use Rattle.qh_frame.specs.FrameBytes.{frame_bytes, numbers_bytes}
use Rattle.qh_frame.specs.Plain.{frame}
use Rattle.qh_frame.specs.declared.ack.AckRange.{AckRange}
use Rattle.qh_history.proofs.Carried.{by_packet, sent_streams}
use Rattle.qh_history.specs.Standing.{Stands, StandsMade}
use Rattle.qh_recovery.specs.PendingAcks.{IsAckPut}
use Rattle.qh_space.specs.Sending.{AreElicitingPut, IsPacketMade, ReadsBack, bytes_if, may_elicit, ping_bytes, response_bytes}
use Rattle.qh_space.specs.declared.data_space.DataSpace.{DataSpace}
use Rattle.qh_spec.specs.FrameViews.{stream_of}
use Rattle.qh_spec.specs.QuicFrame.{StreamFrame as Run}
use Rattle.qh_spec.specs.QuicFrames.{QuicFrame, AreQuicFrames, Text}
use Rattle.qh_spec.specs.Transcript.{Act}
use Rattle.qh_streams.specs.Streams.{PlainStreams, IsReadBack}
use Rattle.qh_streams.specs.declared.frames.SentFrame.{SentFrame}
use Rattle.qh_transcript.proofs.ReceivingFrames.{kept_stand}
use Rattle.qh_transcript.proofs.ReceivingKept.{again, handed}
use Rattle.qh_transcript.proofs.SendingFrames.{all_written}
use Rattle.qh_transcript.specs.Receiving.{StandsIn}
use Rattle.qh_transcript.specs.Sending.{StandsOut, StandsBehind, some_run, runs_of}

-- frames that each read back are the frames of their bytes
all_read : (fs : List QuicFrame) → AllByRecursion IsReadBack fs → AreQuicFrames (concat (map frame_bytes fs)) fs
all_read [] h = refl
all_read (f ∷ fs) h = (concat (map frame_bytes fs), h.0 (concat (map frame_bytes fs)), all_read fs h.1)

-- ---- frames that carry nothing of a stream

module _ (s : PlainStreams) (sent : List Run) (t : List Act) where
  nothing_behind : StandsOut s sent t → StandsBehind s sent t []
  nothing_behind p = record { frames = []; bytes_are = refl; read_back = tt; stands = subst (λ (z : List Run). StandsOut s z t) (sym (append-nil sent)) p }

  one_behind : (f : QuicFrame) (more : List ℕ) → IsReadBack f → stream_of f ≡ None → StandsBehind s sent t more → StandsBehind s sent t (frame_bytes f ++ more)
  one_behind f more back silent b = record {
    frames = f ∷ b.frames;
    bytes_are = ap (λ (z : List ℕ). frame_bytes f ++ z) b.bytes_are;
    read_back = (back, b.read_back);
    stands = subst (λ (o : Option Run). StandsOut s (sent ++ (some_run o ++ runs_of b.frames)) t) (sym silent) b.stands;
  }

  ping_behind : (due : Bool) (more : List ℕ) → StandsBehind s sent t more → StandsBehind s sent t (bytes_if due ping_bytes ++ more)
  ping_behind true more b = one_behind (frame 1 []) more (ping_put [] (numbers_bytes (1 ∷ [])) refl).is refl b
  ping_behind false more b = b

  response_behind : (response : Option (List ℕ)) (more : List ℕ) → ReadsBack response → StandsBehind s sent t more → StandsBehind s sent t (response_bytes response ++ more)
  response_behind None more back b = b
  response_behind (Some echoed) more back b = one_behind (frame 27 (Text echoed ∷ [])) more back refl b

  ack_silent : (rs : List AckRange) → stream_of (ack_frame 0 rs) ≡ None
  ack_silent [] = refl
  ack_silent (r ∷ rs) = refl

  -- what stands behind an ACK, where one is due
  ack_behind : (due : Bool) (numbers : List PlainRange) (before mid more : List ℕ) → MatchBool due (IsAckPut numbers before mid) (mid ≡ before) → StandsBehind s sent t more
      → (bytes : List ℕ) × (mid ++ more ≡ before ++ bytes) × StandsBehind s sent t bytes
  ack_behind true numbers before mid more put b = (
    frame_bytes (ack_frame 0 put.ranges) ++ more,
    ap (λ (z : List ℕ). z ++ more) put.is_put.whole ∙ append_assoc before (frame_bytes (ack_frame 0 put.ranges)) more,
    one_behind (ack_frame 0 put.ranges) more put.is_put.is (ack_silent put.ranges) b,
  )
  ack_behind false numbers before mid more same b = (more, ap (λ (z : List ℕ). z ++ more) same, b)

-- ---- the packet

-- what is appended behind the ACK, and how the streams stand then
record StandsAppended (s : DataSpace) (sent : List Run) (t : List Act) (before after : List ℕ) : Type 0 where
  bytes : List ℕ
  appended : after ≡ before ++ bytes
  behind : StandsBehind s.streams sent t bytes

eliciting : (room : ℕ) (old new : DataSpace) (before after : List ℕ) (frames : List SentFrame) (sent : List Run) (t : List Act) → AreElicitingPut room old new before after frames
    → StandsOut old.streams sent t → StandsAppended new sent t before after
eliciting room old new before after frames sent t put p =
    let w = put.streams in
    let response = response_bytes old.path_response in
    let ping = bytes_if old.is_ping_due ping_bytes in
    record {
      bytes = ping ++ (response ++ w.bytes);
      appended = w.out_is ∙ append_assoc before (ping ++ response) w.bytes ∙ ap (λ (z : List ℕ). before ++ z) (append_assoc ping response w.bytes);
      behind = ping_behind new.streams sent t old.is_ping_due (response ++ w.bytes)
          (response_behind new.streams sent t old.path_response w.bytes put.reads_back
          (all_written _ old.streams new.streams sent t w.frames w.bytes w.written p));
    }

maybe_eliciting : (may : Bool) (room : ℕ) (old new : DataSpace) (before after : List ℕ) (frames : List SentFrame) (sent : List Run) (t : List Act)
    → MatchBool may (AreElicitingPut room old new before after frames) ((new ≡ old) × (after ≡ before)) → StandsOut old.streams sent t → StandsAppended new sent t before after
maybe_eliciting true room old new before after frames sent t put p = eliciting room old new before after frames sent t put p
maybe_eliciting false room old new before after frames sent t none p = subst (λ (s : DataSpace). StandsAppended s sent t before after) (sym none.0) (record {
  bytes = [];
  appended = none.1 ∙ sym (append-nil before);
  behind = nothing_behind old.streams sent t p;
})

pub made_stands : (now overhead room : ℕ) (old new : DataSpace) (before after : List ℕ) (sent came : List Run) (t : List Act) → IsPacketMade now overhead room old new before after
    → Stands old sent came t → StandsMade new sent came t before after
made_stands now overhead room old new before after sent came t made p =
    let a = maybe_eliciting (may_elicit old) (room - (length made.out_mid - length before)) old made.mid made.out_mid after made.packet.frames.items sent t made.eliciting p.out in
    let whole = ack_behind made.mid.streams sent t old.acks.is_due old.acks.ranges before made.out_mid a.bytes made.ack a.behind in
    let b = whole.2 in
    let same : new.streams ≡ made.mid.streams = ap (λ (s : DataSpace). s.streams) made.new_is ∙ sent_streams made.mid made.packet (nat_lt (length made.out_mid) (length after)) in
    record {
      bytes = whole.0;
      frames = b.frames;
      appended = a.appended ∙ whole.1;
      are = subst (λ (z : List ℕ). AreQuicFrames z b.frames) (sym b.bytes_are) (all_read b.frames b.read_back);
      stands = record {
        out = subst (λ (s : PlainStreams). StandsOut s (sent ++ runs_of b.frames) t) (sym same) b.stands;
        into = by_packet (λ s. StandsIn s came t) (λ was s f lost. kept_stand was s came t (again was s f lost)) (λ was s room f next. kept_stand was s came t (handed room was s f next)) now overhead room old new before after made p.into;
      };
    }
