-- The frames of a packet that is made: each is one that the connection may send.
use Rattle.std.proofs.Common.{◌≡◌, ℕ, ◌-◌, nat_lt, Bool, true, false, List, [], ◌∷◌, ◌++◌, length, Option, Some, None, is_some, refl, sym, ap, subst, ◌∙◌, inl, inr, append_assoc, arith}
use Rattle.std.specs.Prelude.{MatchBool}
use Rattle.std.proofs.lemmas.Bool.{eq-eqb}
use Rattle.std.proofs.lemmas.List.{append-nil}
use Rattle.qh_buffers.specs.Ranges.{PlainRange, has}
use Rattle.qh_conduct.proofs.ConnectionGoesOn.{Goes, frame_on, live_on}
use Rattle.qh_conduct.proofs.StreamsGoOn.{GoOn, go_on, handed_goes, reading_on, same_go, sending_on}
use Rattle.qh_conduct.specs.Announced.{AreLive, HasComeWith, IsKeptFrame}
use Rattle.qh_conduct.specs.Announced.IsKeptFrame.{ping, response, ack, stream, reset, stop, max_data, max_stream_data, max_streams}
use Rattle.qh_core.specs.declared.inner.Inner.{Inner}
use Rattle.qh_frame.proofs.FramesWritten.{ping_put}
use Rattle.qh_frame.specs.AckWritten.{ack_frame}
use Rattle.qh_frame.specs.FrameBytes.{frame_bytes, numbers_bytes}
use Rattle.qh_frame.specs.Plain.{frame}
use Rattle.qh_half.specs.Recv.{PlainRecv}
use Rattle.qh_half.specs.Send.{PlainSend}
use Rattle.qh_halves.specs.RecvHalves.{recv_at}
use Rattle.qh_halves.specs.SendHalves.{send_at}
use Rattle.qh_recovery.specs.PendingAcks.{IsAckPut}
use Rattle.qh_recovery.specs.declared.sent_packets.SentPacket.{SentPacket}
use Rattle.qh_space.specs.Sending.{AreElicitingPut, IsPacketMade, ReadsBack, bytes_if, may_elicit, ping_bytes, response_bytes, with_sent}
use Rattle.qh_space.specs.declared.data_space.DataSpace.{DataSpace}
use Rattle.qh_spec.specs.Lists.{In}
use Rattle.qh_spec.specs.QuicFrames.{QuicFrame, AreQuicFrames, Text}
use Rattle.qh_spec.specs.declared.sides.Dir.TheVariants.{Bi, Uni}
use Rattle.qh_streams.proofs.StreamsTracked.{recv_goes}
use Rattle.qh_streams.specs.Streams.{PlainStreams, AreWritten, IsHandedOver, IsReadBack, half_bytes, written_frame}
use Rattle.qh_streams.specs.Streams.AreWritten.{none as none_written, more as more_written}
use Rattle.qh_streams.specs.Streams.IsHandedOver.{stream as stream_handed, reset as reset_handed, stop as stop_handed, max_stream_data as max_stream_data_handed, max_data as max_data_handed, max_streams as max_streams_handed}
use Rattle.qh_streams.specs.declared.frames.SentFrame.{SentFrame}

written_goes : (room : ℕ) (old new : PlainStreams) (fs : List SentFrame) (bytes : List ℕ) → AreWritten room old new fs bytes → GoOn old new
written_goes room old new fs bytes (none_written _ _) = same_go old
written_goes room old new fs bytes (more_written _ _ mid _ f gs rest handed fits back others) = go_on old mid new (written_goes _ mid new gs rest others) (handed_goes old mid room f handed)

half_of : (s : PlainStreams) (id : ℕ) (half : PlainSend) → send_at s.send id ≡ Some half → is_some (send_at s.send id) ≡ true
half_of s id half is = ap is_some is

reader_of : (s : PlainStreams) (id : ℕ) (half : PlainRecv) → recv_at s.recv id ≡ Some half → is_some (recv_at s.recv id) ≡ true
reader_of s id half is = ap is_some is

module _ {S : Type 0} (c : Inner S) (came : List (List ℕ)) where
  -- the connection with other streams
  abbrev at : PlainStreams → Inner S
  at s = record c { space = record c.space { streams = s } }

  at_goes : (old new : PlainStreams) → GoOn old new → Goes (at old) (at new)
  at_goes old new go = record { side = refl; local_id = refl; remote_length = refl; config = refl; streams = go; next = omega arith; shut = λ no. no }

  handed_kept : (old mid : PlainStreams) (room : ℕ) (f : SentFrame) → AreLive old → IsHandedOver old mid room f → IsKeptFrame (at mid) came (written_frame mid f)
  handed_kept old mid room f live (stream_handed id piece next rest) =
      let go = handed_goes old mid room f (stream_handed id piece next rest) in
      stream (record { id = id.0; offset = piece.offsets.start; payload = half_bytes (send_at mid.send id.0) piece; fin = piece.fin }) refl
      (sending_on go.later id.0 (live.send id.0 (half_of old id.0 next.step.half next.step.was)))
  handed_kept old mid room f live (reset_handed id frame_of next rest) =
      let go = handed_goes old mid room f (reset_handed id frame_of next rest) in
      reset id.0 frame_of.code frame_of.final_size refl (sending_on go.later id.0 (live.send id.0 (half_of old id.0 next.step.half next.step.was)))
  handed_kept old mid room f live (stop_handed id code step rest) =
      let go = handed_goes old mid room f (stop_handed id code step rest) in
      stop id.0 code refl (reading_on go.later id.0 (live.recv id.0 (reader_of old id.0 step.half step.was)))
  handed_kept old mid room f live (max_stream_data_handed id limit step rest) =
      let go = handed_goes old mid room f (max_stream_data_handed id limit step rest) in
      max_stream_data id.0 limit refl (reading_on go.later id.0 (live.recv id.0 (reader_of old id.0 step.half step.was)))
      (λ half there.
      let goes = (recv_goes step).here id.0 half (eq-eqb id.0 id.0 refl) there in
      let same = ap (λ (h : PlainRecv). h.sent_max_stream_data) goes.step.2 in
      omega (arith, same))
  handed_kept old mid room f live (max_data_handed limit is due rest) = max_data limit refl (let same = ap (λ (s : PlainStreams). s.recv.announced.value) rest in omega (arith, same))
  handed_kept old mid room f live (max_streams_handed Bi count is due rest) = max_streams Bi count refl (let same = ap (λ (s : PlainStreams). s.bi.announced.value) rest in omega (arith, same))
  handed_kept old mid room f live (max_streams_handed Uni count is due rest) = max_streams Uni count refl (let same = ap (λ (s : PlainStreams). s.uni.announced.value) rest in omega (arith, same))

  -- the bytes are frames that it may send
  pub record AreKept (bytes : List ℕ) : Type 0 where
    pub frames : List QuicFrame
    pub are : AreQuicFrames bytes frames
    pub kept : (f : QuicFrame) → In f frames → IsKeptFrame c came f

  none_kept : AreKept []
  none_kept = record { frames = []; are = refl; kept = λ f among. absurd among }

  one_kept : (f : QuicFrame) (more : List ℕ) → IsReadBack f → IsKeptFrame c came f → AreKept more → AreKept (frame_bytes f ++ more)
  one_kept f more back is b = record {
    frames = f ∷ b.frames;
    are = (more, back more, b.are);
    kept = λ g among. elim among [ inl same ↦ subst (λ (h : QuicFrame). IsKeptFrame c came h) same is | inr later ↦ b.kept g later ];
  }

  ping_kept : (due : Bool) (more : List ℕ) → AreKept more → AreKept (bytes_if due ping_bytes ++ more)
  ping_kept true more b = one_kept (frame 1 []) more (ping_put [] (numbers_bytes (1 ∷ [])) refl).is (ping refl) b
  ping_kept false more b = b

  response_kept : (due : Option (List ℕ)) (more : List ℕ) → ReadsBack due → AreKept more → AreKept (response_bytes due ++ more)
  response_kept None more back b = b
  response_kept (Some echoed) more back b = one_kept (frame 27 (Text echoed ∷ [])) more back (response echoed refl) b

  written_kept : (room : ℕ) (old new : PlainStreams) (fs : List SentFrame) (bytes : List ℕ) → AreWritten room old new fs bytes → AreLive old → GoOn new c.space.streams → AreKept bytes
  written_kept room old new fs bytes (none_written _ _) live go = none_kept
  written_kept room old new fs bytes (more_written _ _ mid _ f gs rest handed fits back others) live go =
      let later : GoOn mid c.space.streams = go_on mid new c.space.streams go (written_goes _ mid new gs rest others) in
      let first : IsKeptFrame c came (written_frame mid f) = frame_on (at mid) c came came (written_frame mid f) (at_goes mid c.space.streams later) (λ d is. is) (handed_kept old mid room f live handed) in
      one_kept (written_frame mid f) rest back first (written_kept _ mid new gs rest others (live_on old mid (handed_goes old mid room f handed) live) go)

  -- what is appended behind the ACK
  pub record AreBehind (mid after : List ℕ) : Type 0 where
    pub bytes : List ℕ
    pub appended : after ≡ mid ++ bytes
    pub kept : AreKept bytes

  put_kept : (may : Bool) (room : ℕ) (old new : DataSpace) (mid after : List ℕ) (frames : List SentFrame) → MatchBool may (AreElicitingPut room old new mid after frames) ((new ≡ old) × (after ≡ mid))
      → AreLive old.streams → new.streams ≡ c.space.streams → AreBehind mid after
  put_kept true room old new mid after frames put live same =
      let w = put.streams in
      let pings = bytes_if old.is_ping_due ping_bytes in
      let due = response_bytes old.path_response in
      let last : GoOn new.streams c.space.streams = subst (λ (s : PlainStreams). GoOn new.streams s) same (same_go new.streams) in
      record {
        bytes = pings ++ (due ++ w.bytes);
        appended = w.out_is ∙ append_assoc mid (pings ++ due) w.bytes ∙ ap (λ (z : List ℕ). mid ++ z) (append_assoc pings due w.bytes);
        kept = ping_kept old.is_ping_due (due ++ w.bytes) (response_kept old.path_response w.bytes put.reads_back (written_kept _ old.streams new.streams w.frames w.bytes w.written live last));
      }
  put_kept false room old new mid after frames none live same = record { bytes = []; appended = none.1 ∙ sym (append-nil mid); kept = none_kept }

  ack_kept : (due : Bool) (ranges : List PlainRange) (before mid after : List ℕ) → MatchBool due (IsAckPut ranges before mid) (mid ≡ before) → ((n : ℕ) → has ranges n ≡ true → HasComeWith c came n) → AreBehind mid after → AreBehind before after
  ack_kept true ranges before mid after put all b = record {
    bytes = frame_bytes (ack_frame 0 put.ranges) ++ b.bytes;
    appended = b.appended ∙ (ap (λ (z : List ℕ). z ++ b.bytes) put.is_put.whole ∙ append_assoc before (frame_bytes (ack_frame 0 put.ranges)) b.bytes);
    kept = one_kept (ack_frame 0 put.ranges) b.bytes put.is_put.is (ack put.ranges refl put.are_acked.apart (λ n covers. all n ((put.covers n).0 covers))) b.kept;
  }
  ack_kept false ranges before mid after same all b = record { bytes = b.bytes; appended = b.appended ∙ ap (λ (z : List ℕ). z ++ b.bytes) same; kept = b.kept }

  sent_streams : (s : DataSpace) (packet : SentPacket SentFrame) (is_eliciting : Bool) → (with_sent s packet is_eliciting).streams ≡ s.streams
  sent_streams s packet true = refl
  sent_streams s packet false = refl

  -- the frames of a packet that is made, where it leaves this space
  pub packet_kept : (now around room : ℕ) (old : DataSpace) (before after : List ℕ) → IsPacketMade now around room old c.space before after → AreLive old.streams
      → ((n : ℕ) → has old.acks.ranges n ≡ true → HasComeWith c came n) → AreBehind before after
  packet_kept now around room old before after made live all =
      let same : c.space.streams ≡ made.mid.streams = ap (λ (s : DataSpace). s.streams) made.new_is ∙ sent_streams made.mid made.packet (nat_lt (length made.out_mid) (length after)) in
      ack_kept old.acks.is_due old.acks.ranges before made.out_mid after made.ack all
      (put_kept (may_elicit old) (room - (length made.out_mid - length before)) old made.mid made.out_mid after made.packet.frames.items made.eliciting live (sym same))
