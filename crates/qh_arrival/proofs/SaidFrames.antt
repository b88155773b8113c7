-- What the frames of a packet say of limits: each limit that counts as announced behind them is the one from before, or one of
-- them says it.
use Rattle.std.proofs.Common.{◌≡◌, ℕ, ◌-◌, nat_lt, Bool, true, false, List, [], ◌∷◌, ◌++◌, length, Option, Some, None, refl, sym, ap, subst, ◌∙◌, inl, inr, append_assoc}
use Rattle.std.specs.Prelude.{MatchBool}
use Rattle.std.proofs.lemmas.List.{append-nil}
use Rattle.qh_arrival.proofs.SaidStreams.{LimitsOn, handed_limits, limits_more, limits_on, limits_same}
use Rattle.qh_buffers.specs.Ranges.{PlainRange}
use Rattle.qh_frame.proofs.FramesWritten.{ping_put}
use Rattle.qh_frame.specs.AckWritten.{ack_frame}
use Rattle.qh_frame.specs.FrameBytes.{frame_bytes, numbers_bytes}
use Rattle.qh_frame.specs.Plain.{frame}
use Rattle.qh_history.proofs.Carried.{sent_streams}
use Rattle.qh_recovery.specs.PendingAcks.{IsAckPut}
use Rattle.qh_space.specs.Sending.{AreElicitingPut, IsPacketMade, ReadsBack, bytes_if, may_elicit, ping_bytes, response_bytes}
use Rattle.qh_space.specs.declared.data_space.DataSpace.{DataSpace}
use Rattle.qh_spec.specs.Lists.{In}
use Rattle.qh_spec.specs.QuicFrames.{QuicFrame, AreQuicFrames, Text}
use Rattle.qh_streams.specs.Streams.{PlainStreams, AreWritten, IsReadBack, written_frame}
use Rattle.qh_streams.specs.Streams.AreWritten.{none as none_written, more as more_written}
use Rattle.qh_streams.specs.declared.frames.SentFrame.{SentFrame}

-- the frame is one of these
abbrev pub OneOf : List QuicFrame → QuicFrame → Type 0
OneOf fs f = In f fs

-- the bytes are frames that say what is announced
pub record AreSaying (old new : PlainStreams) (bytes : List ℕ) : Type 0 where
  pub frames : List QuicFrame
  pub are : AreQuicFrames bytes frames
  pub limits : LimitsOn (OneOf frames) old new

none_saying : (s : PlainStreams) → AreSaying s s []
none_saying s = record { frames = []; are = refl; limits = limits_same (OneOf []) s }

one_saying : (old new : PlainStreams) (f : QuicFrame) (more : List ℕ) → IsReadBack f → AreSaying old new more → AreSaying old new (frame_bytes f ++ more)
one_saying old new f more back b = record {
  frames = f ∷ b.frames;
  are = (more, back more, b.are);
  limits = limits_more (OneOf b.frames) (OneOf (f ∷ b.frames)) old new (λ g among. inr among) b.limits;
}

ping_saying : (old new : PlainStreams) (due : Bool) (more : List ℕ) → AreSaying old new more → AreSaying old new (bytes_if due ping_bytes ++ more)
ping_saying old new true more b = one_saying old new (frame 1 []) more (ping_put [] (numbers_bytes (1 ∷ [])) refl).is b
ping_saying old new false more b = b

response_saying : (old new : PlainStreams) (due : Option (List ℕ)) (more : List ℕ) → ReadsBack due → AreSaying old new more → AreSaying old new (response_bytes due ++ more)
response_saying old new None more back b = b
response_saying old new (Some echoed) more back b = one_saying old new (frame 27 (Text echoed ∷ [])) more back b

written_saying : (room : ℕ) (old new : PlainStreams) (fs : List SentFrame) (bytes : List ℕ) → AreWritten room old new fs bytes → AreSaying old new bytes
written_saying room old new fs bytes (none_written _ _) = none_saying old
written_saying room old new fs bytes (more_written _ _ mid _ f gs rest handed fits back others) =
    let b = written_saying _ mid new gs rest others in
    let g = written_frame mid f in
    let all = g ∷ b.frames in
    record {
      frames = all;
      are = (rest, back rest, b.are);
      limits = limits_on (OneOf all) old mid new (handed_limits (OneOf all) old mid room f (inl refl) handed) (limits_more (OneOf b.frames) (OneOf all) mid new (λ h among. inr among) b.limits);
    }

-- what is appended behind the ACK
pub record AreAppended (old new : PlainStreams) (mid after : List ℕ) : Type 0 where
  pub bytes : List ℕ
  pub appended : after ≡ mid ++ bytes
  pub saying : AreSaying old new bytes

put_saying : (may : Bool) (room : ℕ) (old new : DataSpace) (mid after : List ℕ) (frames : List SentFrame) → MatchBool may (AreElicitingPut room old new mid after frames) ((new ≡ old) × (after ≡ mid))
    → AreAppended old.streams new.streams mid after
put_saying true room old new mid after frames put =
    let w = put.streams in
    let pings = bytes_if old.is_ping_due ping_bytes in
    let due = response_bytes old.path_response in
    record {
      bytes = pings ++ (due ++ w.bytes);
      appended = w.out_is ∙ append_assoc mid (pings ++ due) w.bytes ∙ ap (λ (z : List ℕ). mid ++ z) (append_assoc pings due w.bytes);
      saying = ping_saying old.streams new.streams old.is_ping_due (due ++ w.bytes)
          (response_saying old.streams new.streams old.path_response w.bytes put.reads_back (written_saying _ old.streams new.streams w.frames w.bytes w.written));
    }
put_saying false room old new mid after frames none =
    record { bytes = []; appended = none.1 ∙ sym (append-nil mid); saying = subst (λ (s : DataSpace). AreSaying old.streams s.streams []) (sym none.0) (none_saying old.streams) }

ack_saying : (old new : PlainStreams) (due : Bool) (ranges : List PlainRange) (before mid after : List ℕ) → MatchBool due (IsAckPut ranges before mid) (mid ≡ before) → AreAppended old new mid after → AreAppended old new before after
ack_saying old new true ranges before mid after put b = record {
  bytes = frame_bytes (ack_frame 0 put.ranges) ++ b.bytes;
  appended = b.appended ∙ (ap (λ (z : List ℕ). z ++ b.bytes) put.is_put.whole ∙ append_assoc before (frame_bytes (ack_frame 0 put.ranges)) b.bytes);
  saying = one_saying old new (ack_frame 0 put.ranges) b.bytes put.is_put.is b.saying;
}
ack_saying old new false ranges before mid after same b = record { bytes = b.bytes; appended = b.appended ∙ ap (λ (z : List ℕ). z ++ b.bytes) same; saying = b.saying }

-- the frames of a packet that is made
pub packet_saying : (now around room : ℕ) (old new : DataSpace) (before after : List ℕ) → IsPacketMade now around room old new before after → AreAppended old.streams new.streams before after
packet_saying now around room old new before after made =
    let same : new.streams ≡ made.mid.streams = ap (λ (s : DataSpace). s.streams) made.new_is ∙ sent_streams made.mid made.packet (nat_lt (length made.out_mid) (length after)) in
    subst (λ (s : PlainStreams). AreAppended old.streams s before after) (sym same)
    (ack_saying old.streams made.mid.streams old.acks.is_due old.acks.ranges before made.out_mid after made.ack
    (put_saying (may_elicit old) (room - (length made.out_mid - length before)) old made.mid made.out_mid after made.packet.frames.items made.eliciting))
