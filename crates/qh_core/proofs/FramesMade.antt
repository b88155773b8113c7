-- The frames of a packet that is made: an ACK of all that is to be acknowledged, where one is due, and frames that ask for an
-- acknowledgement.
use Rattle.std.proofs.Common.{◌≡◌, ℕ, ◌-◌, ◌<◌, ◌==◌, nat_lt, Bool, true, false, List, [], ◌∷◌, ◌++◌, length, Option, Some, None, refl, sym, ap, ◌∙◌, inl, append_assoc, arith}
use Rattle.std.specs.Prelude.{MatchBool, ◌||◌}
use Rattle.std.specs.List.{list_any}
use Rattle.std.proofs.lemmas.Bool.{both_ways}
use Rattle.std.proofs.lemmas.List.{append-nil, length-append}
use borrow.Author.Tests.{ltb-true}
use Rattle.qh_buffers.specs.Ranges.{has}
use Rattle.qh_frame.proofs.FramesWritten.{ping_put}
use Rattle.qh_frame.specs.AckWritten.{ack_frame}
use Rattle.qh_frame.specs.FrameBytes.{frame_bytes, numbers_bytes}
use Rattle.qh_frame.specs.Plain.{frame}
use Rattle.qh_frame.specs.WrittenForm.{stream_form}
use Rattle.qh_packet.specs.Frames.{is_ack_eliciting}
use Rattle.qh_recovery.specs.PendingAcks.{IsAckPut, PlainPendingAcks}
use Rattle.qh_space.specs.Sending.{AreElicitingPut, IsPacketMade, ReadsBack, bytes_if, may_elicit, ping_bytes, response_bytes}
use Rattle.qh_space.specs.declared.data_space.DataSpace.{DataSpace}
use Rattle.qh_spec.specs.Acknowledged.{Covers}
use Rattle.qh_spec.specs.Lists.{In}
use Rattle.qh_spec.specs.QuicFrames.{QuicFrame, AreQuicFrames, Text}
use Rattle.qh_spec.specs.declared.sides.Dir.TheVariants.{Bi, Uni}
use Rattle.qh_streams.specs.Streams.{PlainStreams, AreWritten, IsReadBack, half_bytes, written_frame}
use Rattle.qh_streams.specs.Streams.AreWritten.{none as none_written, more as more_written}
use Rattle.qh_halves.specs.SendHalves.{send_at}
use Rattle.qh_streams.specs.declared.frames.SentFrame.{SentFrame}
use Rattle.qh_streams.specs.declared.frames.SentFrame.TheVariants as sent

-- ---- frames that ask for an acknowledgement

form_asks : (zero fin : Bool) (id offset : ℕ) (payload : List ℕ) → (offset == 0) ≡ zero
    → is_ack_eliciting (stream_form (record { id = id; offset = offset; payload = payload; fin = fin })) ≡ true
form_asks true true id offset payload e = rw e refl
form_asks true false id offset payload e = rw e refl
form_asks false true id offset payload e = rw e refl
form_asks false false id offset payload e = rw e refl

written_asks : (s : PlainStreams) (f : SentFrame) → is_ack_eliciting (written_frame s f) ≡ true
written_asks s (sent.Stream id piece) = form_asks (piece.offsets.start == 0) piece.fin id.0 piece.offsets.start (half_bytes (send_at s.send id.0) piece) refl
written_asks s (sent.ResetStream id reset_frame) = refl
written_asks s (sent.StopSending id code) = refl
written_asks s (sent.MaxData limit) = refl
written_asks s (sent.MaxStreamData id limit) = refl
written_asks s (sent.MaxStreams Bi count) = refl
written_asks s (sent.MaxStreams Uni count) = refl

-- the bytes are frames, and where there is one an acknowledgement is asked for
record AreAsking (bytes : List ℕ) : Type 0 where
  frames : List QuicFrame
  are : AreQuicFrames bytes frames
  ask : 0 < length bytes → list_any is_ack_eliciting frames ≡ true

nothing_asks : AreAsking []
nothing_asks = record { frames = []; are = refl; ask = λ some. absurd (omega (arith, some)) }

one_asks : (f : QuicFrame) (more : List ℕ) → IsReadBack f → is_ack_eliciting f ≡ true → AreAsking more → AreAsking (frame_bytes f ++ more)
one_asks f more back asks b = record {
  frames = f ∷ b.frames;
  are = (more, back more, b.are);
  ask = λ some. ap (λ (x : Bool). x || list_any is_ack_eliciting b.frames) asks;
}

ping_asks : (due : Bool) (more : List ℕ) → AreAsking more → AreAsking (bytes_if due ping_bytes ++ more)
ping_asks true more b = one_asks (frame 1 []) more (ping_put [] (numbers_bytes (1 ∷ [])) refl).is refl b
ping_asks false more b = b

response_asks : (response : Option (List ℕ)) (more : List ℕ) → ReadsBack response → AreAsking more → AreAsking (response_bytes response ++ more)
response_asks None more back b = b
response_asks (Some echoed) more back b = one_asks (frame 27 (Text echoed ∷ [])) more back refl b

written_ask : (room : ℕ) (old new : PlainStreams) (fs : List SentFrame) (bytes : List ℕ) → AreWritten room old new fs bytes → AreAsking bytes
written_ask room old new fs bytes (none_written _ _) = nothing_asks
written_ask room old new fs bytes (more_written _ _ mid _ f gs rest handed fits back others) =
    one_asks (written_frame mid f) rest back (written_asks mid f) (written_ask _ mid new gs rest others)

-- what is appended behind the ACK
record IsAskingBehind (mid after : List ℕ) : Type 0 where
  bytes : List ℕ
  appended : after ≡ mid ++ bytes
  asking : AreAsking bytes

put_asks : (may : Bool) (room : ℕ) (old new : DataSpace) (mid after : List ℕ) (frames : List SentFrame) → MatchBool may (AreElicitingPut room old new mid after frames) ((new ≡ old) × (after ≡ mid))
    → IsAskingBehind mid after
put_asks true room old new mid after frames put =
    let w = put.streams in
    let ping = bytes_if old.is_ping_due ping_bytes in
    let response = response_bytes old.path_response in
    record {
      bytes = ping ++ (response ++ w.bytes);
      appended = w.out_is ∙ append_assoc mid (ping ++ response) w.bytes ∙ ap (λ (z : List ℕ). mid ++ z) (append_assoc ping response w.bytes);
      asking = ping_asks old.is_ping_due (response ++ w.bytes) (response_asks old.path_response w.bytes put.reads_back (written_ask _ old.streams new.streams w.frames w.bytes w.written));
    }
put_asks false room old new mid after frames none = record { bytes = []; appended = none.1 ∙ sym (append-nil mid); asking = nothing_asks }

-- ---- behind an ACK

-- The bytes that were appended are frames. Where an ACK is due one of them covers all that is to be acknowledged. Where something
-- stands behind the ACK an acknowledgement is asked for.
pub record AreFramesOf (acks : PlainPendingAcks) (before mid after : List ℕ) : Type 0 where
  pub bytes : List ℕ
  pub appended : after ≡ before ++ bytes
  pub frames : List QuicFrame
  pub are : AreQuicFrames bytes frames
  pub acknowledge : acks.is_due ≡ true → (n : ℕ) → has acks.ranges n ≡ true → (f : QuicFrame) × In f frames × Covers f n
  pub ask : nat_lt (length mid) (length after) ≡ true → list_any is_ack_eliciting frames ≡ true

ask_behind : (mid after : List ℕ) (b : IsAskingBehind mid after) → nat_lt (length mid) (length after) ≡ true → list_any is_ack_eliciting b.asking.frames ≡ true
ask_behind mid after b longer =
    let less = ltb-true (length mid) (length after) longer in
    let sum = ap length b.appended ∙ length-append mid b.bytes in
    b.asking.ask (omega (arith, less, sum))

or_right_true : (x y : Bool) → y ≡ true → (x || y) ≡ true
or_right_true true y e = refl
or_right_true false y e = e

behind_ack : (due : Bool) (acks : PlainPendingAcks) (before mid after : List ℕ) → acks.is_due ≡ due → MatchBool due (IsAckPut acks.ranges before mid) (mid ≡ before) → IsAskingBehind mid after
    → AreFramesOf acks before mid after
behind_ack true acks before mid after is put b =
    let ack : QuicFrame = ack_frame 0 put.ranges in
    record {
      bytes = frame_bytes ack ++ b.bytes;
      appended = b.appended ∙ (ap (λ (z : List ℕ). z ++ b.bytes) put.is_put.whole ∙ append_assoc before (frame_bytes ack) b.bytes);
      frames = ack ∷ b.asking.frames;
      are = (b.bytes, put.is_put.is b.bytes, b.asking.are);
      acknowledge = λ due n there. (ack, inl refl, (put.covers n).1 there);
      ask = λ longer. or_right_true (is_ack_eliciting ack) (list_any is_ack_eliciting b.asking.frames) (ask_behind mid after b longer);
    }
behind_ack false acks before mid after is same b = record {
  bytes = b.bytes;
  appended = b.appended ∙ ap (λ (z : List ℕ). z ++ b.bytes) same;
  frames = b.asking.frames;
  are = b.asking.are;
  acknowledge = λ due n there. absurd (both_ways acks.is_due is due);
  ask = ask_behind mid after b;
}

pub frames_made : (now overhead room : ℕ) (old new : DataSpace) (before after : List ℕ) (made : IsPacketMade now overhead room old new before after) → AreFramesOf old.acks before made.out_mid after
frames_made now overhead room old new before after made =
    behind_ack old.acks.is_due old.acks before made.out_mid after refl made.ack
    (put_asks (may_elicit old) (room - (length made.out_mid - length before)) old made.mid made.out_mid after made.packet.frames.items made.eliciting)
