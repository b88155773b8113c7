-- A packet that is made: each STREAM frame of it is carried by its datagram, and what is owed is kept.
use Rattle.std.proofs.Common.{◌≡◌, ◌⊎◌, ℕ, ◌+◌, ◌-◌, ◌≤◌, ◌^◌, ◌%◌, ◌==◌, nat_lt, Bool, true, false, List, [], ◌∷◌, ◌++◌, length, take, drop, Option, Some, None, refl, sym, ap, subst, ◌∙◌, inl, inr, append_assoc, arith}
use Rattle.std.specs.Prelude.{MatchBool}
use Rattle.std.proofs.lemmas.Bool.{both_ways, cases_lt, false≢true, lt-ltb, le-ltb}
use Rattle.std.proofs.lemmas.List.{append-nil, length-drop, length-take-le}
use Rattle.std.proofs.lemmas.Nat.{from_be_bytes-to_be_bytes_4}
use Rattle.qh_buffers.specs.Ranges.{PlainRange}
use Rattle.qh_buffers.specs.SendBuffer.{PlainSendBuffer, bytes_between, is_queued, taken_to}
use Rattle.qh_frame.proofs.FramesWritten.{ping_put}
use Rattle.qh_frame.specs.AckWritten.{ack_frame}
use Rattle.qh_frame.specs.FrameBytes.{frame_bytes, numbers_bytes}
use Rattle.qh_frame.specs.Plain.{frame}
use Rattle.qh_half.specs.Send.{PlainSend, IsSentAsTaken}
use Rattle.qh_half.specs.declared.send.Outgoing.{Outgoing}
use Rattle.qh_halves.specs.SendHalves.{GivesPiece, send_at}
use Rattle.qh_history.proofs.Carried.{by_packet}
use Rattle.qh_owing.proofs.InPackets.{Packets, last_or_before, not_sent_in, put_none, put_sends, sent_in}
use Rattle.qh_owing.proofs.KeptHalves.{out_within}
use Rattle.qh_owing.proofs.KeptStreams.{again, handed, reads_nothing, step_next}
use Rattle.qh_owing.proofs.OwingDatagrams.{carried_more, kept_more, out_before, reads_on}
use Rattle.qh_owing.specs.Owing.{AreInPackets, AreKept, IsByteAcknowledged, IsEndAcknowledged, IsFrameCarried, IsOwing, KeepsStream}
use Rattle.qh_packet.specs.Packet.{low_bytes}
use Rattle.qh_recovery.specs.PendingAcks.{IsAckPut}
use Rattle.qh_recovery.specs.SentPackets.{packet_at}
use Rattle.qh_recovery.specs.declared.sent_packets.SentPacket.{SentPacket}
use Rattle.qh_space.specs.Sending.{AreElicitingPut, IsPacketMade, IsSentBare, ReadsBack, bytes_if, may_elicit, ping_bytes, response_bytes, with_sent}
use Rattle.qh_space.specs.declared.data_space.DataSpace.{DataSpace}
use Rattle.qh_spec.proofs.Members.{in_last}
use Rattle.qh_spec.proofs.TranscriptLaws.{handed_out-append}
use Rattle.qh_spec.specs.Datagram.{Packet, HasPacket}
use Rattle.qh_spec.specs.FrameViews.{stream_of}
use Rattle.qh_spec.specs.Lists.{In}
use Rattle.qh_spec.specs.Packet.{be_value}
use Rattle.qh_spec.specs.QuicFrame.{StreamFrame}
use Rattle.qh_spec.specs.QuicFrames.{QuicFrame, AreQuicFrames, Text}
use Rattle.qh_spec.specs.Transcript.{Act, HandedOut, finished, handed_out, was_reset, written}
use Rattle.qh_spec.specs.declared.sides.Side.{Side}
use Rattle.qh_spec.specs.declared.sides.Space.TheVariants.{Data}
use Rattle.qh_streams.specs.Streams.{PlainStreams, AreWritten, IsHandedOver, IsReadBack, half_bytes, max_frame_header, written_frame}
use Rattle.qh_streams.specs.Streams.AreWritten.{none as none_written, more as more_written}
use Rattle.qh_streams.specs.Streams.IsHandedOver.{stream as stream_handed, reset as reset_handed, stop as stop_handed, max_stream_data as max_stream_data_handed, max_data as max_data_handed, max_streams as max_streams_handed}
use Rattle.qh_streams.specs.declared.frames.SentFrame.{SentFrame}
use Rattle.qh_streams.specs.declared.frames.SentFrame.TheVariants as sent
use Rattle.qh_transcript.proofs.SendingFrames.{form_carries}

-- ---- the number of a packet

pub low_value : (n : ℕ) → be_value (low_bytes n) ≡ n % 256 ^ length (low_bytes n)
low_value n =
    let back = from_be_bytes-to_be_bytes_4 (n % 2 ^ 32) (omega arith) in
    omega (arith, back)

-- ---- a frame that is handed over

-- the frame has just the bytes and the end of the piece, which were written
record IsRunOf (count stream : ℕ) (piece : Outgoing) (f : QuicFrame) : Type 0 where
  within : piece.offsets.end ≤ count
  run : StreamFrame
  is : stream_of f ≡ Some run
  stream_is : run.id ≡ stream
  from : run.offset ≡ piece.offsets.start
  to : run.offset + length run.payload ≡ piece.offsets.end
  fin : run.fin ≡ piece.fin

abbrev HasRunOf : List Act → SentFrame → QuicFrame → Type 0
HasRunOf t (sent.Stream id piece) f = IsRunOf (length (written t id.0)) id.0 piece f
HasRunOf t other f = Unit {0}

queued_from : (v : PlainSendBuffer) (k : ℕ) → is_queued v k ≡ true → v.start ≤ k
queued_from v k waits = elim (cases_lt k v.start) [
  | inl low ↦ absurd (false≢true (rw (lt-ltb k v.start low) at waits))
  | inr from ↦ from
]

between_length : (bytes : List ℕ) (start from to : ℕ) → start ≤ from → from ≤ to → to ≤ start + length bytes → from + length (take (to - from) (drop (from - start) bytes)) ≡ to
between_length bytes start from to low order within =
    let left = length-drop (from - start) bytes in
    let all = length-take-le (to - from) (drop (from - start) bytes) (omega (arith, left, low, order, within)) in
    omega (arith, all, order)

-- it ends within what was taken, and its bytes are as many as it says
given_length : (room : ℕ) (piece : Outgoing) (h next : PlainSend) → GivesPiece room piece h next → IsSentAsTaken h.buffer
    → (piece.offsets.end ≤ taken_to h.buffer) × (piece.offsets.start + length (bytes_between next.buffer piece.offsets.start piece.offsets.end) ≡ piece.offsets.end)
given_length room piece h next (inl p) sent_of =
    let out = p.bytes_are in
    let from = piece.offsets.start in
    let to = piece.offsets.end in
    let some = out.some in
    let within = out_within h next room from to piece.fin p sent_of in
    let low = queued_from h.buffer from (out.queued from (omega arith) some) in
    (within, rw (out.start_is, out.bytes_are) (between_length h.buffer.bytes h.buffer.start from to low (omega (arith, some)) within))
given_length room piece h next (inr p) sent_of =
    let from = piece.offsets.start in
    let to = piece.offsets.end in
    let same = p.at_end.1 in
    let at_end = p.at_end.0 in
    let zero_long : to - from ≡ 0 = omega (arith, same) in
    let none : bytes_between next.buffer from to ≡ [] = rw zero_long refl in
    let empty = ap length none in
    (omega (arith, same, at_end), omega (arith, empty, same))

module _ (Byte : ℕ → ℕ → Type 0) (End : ℕ → Type 0) (t : List Act) where
  handed_run : (old new : PlainStreams) (room : ℕ) (f : SentFrame) → IsHandedOver old new room f → AreKept Byte End t old → HasRunOf t f (written_frame new f)
  handed_run old new room f (stream_handed id piece next rest) p =
      let s = next.step in
      let keeps : KeepsStream (Byte id.0) (End id.0) (length (written t id.0)) (finished t id.0) (was_reset t id.0) (Some s.half) = rw (s.was) at (p.streams id.0) in
      let g = given_length (room - max_frame_header) piece s.half s.next s.step keeps.half.sent_of in
      let within = g.0 in
      let taken = keeps.half.taken in
      let view = form_carries (piece.offsets.start == 0) piece.fin id.0 piece.offsets.start (half_bytes (send_at new.send id.0) piece) refl in
      record {
        within = omega (arith, within, taken);
        run = record { id = id.0; offset = piece.offsets.start; payload = half_bytes (send_at new.send id.0) piece; fin = piece.fin };
        is = view;
        stream_is = refl;
        from = refl;
        to = ap (λ (o : Option PlainSend). piece.offsets.start + length (half_bytes o piece)) (step_next s) ∙ g.1;
        fin = refl;
      }
  handed_run old new room f (reset_handed id frame next rest) p = tt
  handed_run old new room f (stop_handed id code step rest) p = tt
  handed_run old new room f (max_stream_data_handed id limit step rest) p = tt
  handed_run old new room f (max_data_handed limit is due rest) p = tt
  handed_run old new room f (max_streams_handed dir n is due rest) p = tt

  -- ---- the bytes of a packet's frames

  -- the bytes are frames, and each of these frames of the streams is one of them
  record AreRunsOf (bytes : List ℕ) (fs : List SentFrame) : Type 0 where
    frames : List QuicFrame
    are : AreQuicFrames bytes frames
    runs : (f : SentFrame) → In f fs → (g : QuicFrame) × In g frames × HasRunOf t f g

  written_runs : (room : ℕ) (old new : PlainStreams) (fs : List SentFrame) (bytes : List ℕ) → AreWritten room old new fs bytes → AreKept Byte End t old → AreRunsOf bytes fs
  written_runs room old new fs bytes (none_written _ _) p = record { frames = []; are = refl; runs = λ f among. absurd among }
  written_runs room old new fs bytes (more_written _ _ mid _ f gs rest first fits back behind) p =
      let r = written_runs _ mid new gs rest behind (handed Byte End t old mid room f first p) in
      record {
        frames = written_frame mid f ∷ r.frames;
        are = (rest, back rest, r.are);
        runs = λ g among. elim among [
          | inl same ↦ (written_frame mid f, inl refl, subst (λ (x : SentFrame). HasRunOf t x (written_frame mid f)) same (handed_run old mid room f first p))
          | inr more ↦ let q = r.runs g more in (q.0, inr q.1, q.2)
        ];
      }

  one_before : (f : QuicFrame) (more : List ℕ) (fs : List SentFrame) → IsReadBack f → AreRunsOf more fs → AreRunsOf (frame_bytes f ++ more) fs
  one_before f more fs back r = record { frames = f ∷ r.frames; are = (more, back more, r.are); runs = λ g among. let q = r.runs g among in (q.0, inr q.1, q.2) }

  ping_before : (due : Bool) (more : List ℕ) (fs : List SentFrame) → AreRunsOf more fs → AreRunsOf (bytes_if due ping_bytes ++ more) fs
  ping_before true more fs r = one_before (frame 1 []) more fs (ping_put [] (numbers_bytes (1 ∷ [])) refl).is r
  ping_before false more fs r = r

  response_before : (response : Option (List ℕ)) (more : List ℕ) (fs : List SentFrame) → ReadsBack response → AreRunsOf more fs → AreRunsOf (response_bytes response ++ more) fs
  response_before None more fs back r = r
  response_before (Some echoed) more fs back r = one_before (frame 27 (Text echoed ∷ [])) more fs back r

  -- what was appended, and the frames of the streams in it, where there is something
  record AreRunsBehind (mid after : List ℕ) (fs : List SentFrame) : Type 0 where
    bytes : List ℕ
    appended : after ≡ mid ++ bytes
    frames : List QuicFrame
    are : AreQuicFrames bytes frames
    runs : nat_lt (length mid) (length after) ≡ true → (f : SentFrame) → In f fs → (g : QuicFrame) × In g frames × HasRunOf t f g

  put_runs : (may : Bool) (room : ℕ) (old new : DataSpace) (mid after : List ℕ) (fs : List SentFrame) → MatchBool may (AreElicitingPut room old new mid after fs) ((new ≡ old) × (after ≡ mid))
      → AreKept Byte End t old.streams → AreRunsBehind mid after fs
  put_runs true room old new mid after fs put p =
      let w = put.streams in
      let ping = bytes_if old.is_ping_due ping_bytes in
      let response = response_bytes old.path_response in
      let all = ping_before old.is_ping_due (response ++ w.bytes) w.frames (response_before old.path_response w.bytes w.frames put.reads_back (written_runs _ old.streams new.streams w.frames w.bytes w.written p)) in
      record {
        bytes = ping ++ (response ++ w.bytes);
        appended = w.out_is ∙ append_assoc mid (ping ++ response) w.bytes ∙ ap (λ (z : List ℕ). mid ++ z) (append_assoc ping response w.bytes);
        frames = all.frames;
        are = all.are;
        runs = λ longer f among. all.runs f (subst (λ (l : List SentFrame). In f l) w.sent_is among);
      }
  put_runs false room old new mid after fs none p = record {
    bytes = [];
    appended = none.1 ∙ sym (append-nil mid);
    frames = [];
    are = refl;
    runs = λ longer. absurd (both_ways (nat_lt (length mid) (length after)) (ap (λ (l : List ℕ). nat_lt (length mid) (length l)) none.1 ∙ le-ltb (length mid) (length mid) (omega arith)) longer);
  }

  -- the same of all that stands in the packet
  record AreRunsMade (before mid after : List ℕ) (fs : List SentFrame) : Type 0 where
    bytes : List ℕ
    appended : after ≡ before ++ bytes
    frames : List QuicFrame
    are : AreQuicFrames bytes frames
    runs : nat_lt (length mid) (length after) ≡ true → (f : SentFrame) → In f fs → (g : QuicFrame) × In g frames × HasRunOf t f g

  ack_runs : (due : Bool) (numbers : List PlainRange) (before mid after : List ℕ) (fs : List SentFrame) → MatchBool due (IsAckPut numbers before mid) (mid ≡ before) → AreRunsBehind mid after fs
      → AreRunsMade before mid after fs
  ack_runs true numbers before mid after fs put b =
      let ack : QuicFrame = ack_frame 0 put.ranges in
      record {
        bytes = frame_bytes ack ++ b.bytes;
        appended = b.appended ∙ (ap (λ (z : List ℕ). z ++ b.bytes) put.is_put.whole ∙ append_assoc before (frame_bytes ack) b.bytes);
        frames = ack ∷ b.frames;
        are = (b.bytes, put.is_put.is b.bytes, b.are);
        runs = λ longer f among. let q = b.runs longer f among in (q.0, inr q.1, q.2);
      }
  ack_runs false numbers before mid after fs same b = record {
    bytes = b.bytes;
    appended = b.appended ∙ ap (λ (z : List ℕ). z ++ b.bytes) same;
    frames = b.frames;
    are = b.are;
    runs = b.runs;
  }

  runs_made : (now overhead room : ℕ) (old new : DataSpace) (before after : List ℕ) (made : IsPacketMade now overhead room old new before after) → AreKept Byte End t old.streams
      → AreRunsMade before made.out_mid after made.packet.frames.items
  runs_made now overhead room old new before after made p =
      ack_runs old.acks.is_due old.acks.ranges before made.out_mid after made.packet.frames.items made.ack
      (put_runs (may_elicit old) (room - (length made.out_mid - length before)) old made.mid made.out_mid after made.packet.frames.items made.eliciting p)

-- ---- packets that are out

-- behind a packet that was made it is out, where something stands behind its ACK, and what was out
abbrev IsOutBehind : (old new : Packets) (number : ℕ) (packet : SentPacket SentFrame) (is_eliciting : Bool) → Type 0
IsOutBehind old new number packet is_eliciting = (k : ℕ) (q : SentPacket SentFrame) → packet_at new k ≡ Some q → (packet_at old k ≡ Some q) ⊎ ((is_eliciting ≡ true) × (number ≡ k) × (packet ≡ q))

sent_behind : (s : DataSpace) (packet : SentPacket SentFrame) (is_eliciting : Bool) → IsOutBehind s.sent (with_sent s packet is_eliciting).sent s.next_number packet is_eliciting
sent_behind s packet true k q there = elim (last_or_before s.sent s.next_number k packet q there) [ inl before ↦ inl before | inr last ↦ inr (refl, last.0, last.1) ]
sent_behind s packet false k q there = inl there

-- frames that are put leave the packets and the number
put_packets : (may : Bool) (room : ℕ) (old mid : DataSpace) (out_mid after : List ℕ) (fs : List SentFrame) → MatchBool may (AreElicitingPut room old mid out_mid after fs) ((mid ≡ old) × (after ≡ out_mid))
    → (mid.sent ≡ old.sent) × (mid.next_number ≡ old.next_number)
put_packets true room old mid out_mid after fs put = (ap (λ (s : DataSpace). s.sent) put.rest_is, ap (λ (s : DataSpace). s.next_number) put.rest_is)
put_packets false room old mid out_mid after fs none = (ap (λ (s : DataSpace). s.sent) none.0, ap (λ (s : DataSpace). s.next_number) none.0)

out_behind : (now overhead room : ℕ) (old new : DataSpace) (before after : List ℕ) (made : IsPacketMade now overhead room old new before after)
    → IsOutBehind old.sent new.sent old.next_number made.packet (nat_lt (length made.out_mid) (length after))
out_behind now overhead room old new before after made =
    let same = put_packets (may_elicit old) (room - (length made.out_mid - length before)) old made.mid made.out_mid after made.packet.frames.items made.eliciting in
    let is_eliciting = nat_lt (length made.out_mid) (length after) in
    let sent_is : new.sent ≡ (with_sent made.mid made.packet is_eliciting).sent = ap (λ (s : DataSpace). s.sent) made.new_is in
    rw (sent_is, ← same.0, ← same.1) (sent_behind made.mid made.packet is_eliciting)

-- what counts as sent is in packets that are out
made_in : (now overhead room : ℕ) (old new : DataSpace) (before after : List ℕ) → IsPacketMade now overhead room old new before after → AreInPackets old.streams old.sent old.next_number
    → AreInPackets new.streams new.sent new.next_number
made_in now overhead room old new before after made p =
    subst (λ (s : DataSpace). AreInPackets s.streams s.sent s.next_number) (sym made.new_is) (in_it (nat_lt (length made.out_mid) (length after)) refl) where
      space_left : ℕ
      space_left = room - (length made.out_mid - length before)

      fs : List SentFrame
      fs = made.packet.frames.items

      same : (made.mid.sent ≡ old.sent) × (made.mid.next_number ≡ old.next_number)
      same = put_packets (may_elicit old) space_left old made.mid made.out_mid after fs made.eliciting

      in_it : (b : Bool) → nat_lt (length made.out_mid) (length after) ≡ b
          → AreInPackets (with_sent made.mid made.packet b).streams (with_sent made.mid made.packet b).sent (with_sent made.mid made.packet b).next_number
      in_it true e = rw (same.0, same.1) (sent_in old.streams old.sent old.next_number p made.packet made.mid.streams (put_sends (may_elicit old) space_left old made.mid made.out_mid after fs made.eliciting))
      in_it false e = rw (same.0, same.1) (not_sent_in old.streams old.sent old.next_number p made.packet made.mid.streams (put_none (may_elicit old) space_left old made.mid made.out_mid after fs made.eliciting e))

-- ---- what is owed behind the datagram

module _ (id_length : ℕ) (side : Side) (accepted : List Packet) (t : List Act) where
  abbrev Byte : ℕ → ℕ → Type 0
  Byte = IsByteAcknowledged id_length (handed_out t) accepted side

  abbrev End : ℕ → Type 0
  End = IsEndAcknowledged id_length (handed_out t) accepted side

  module _ (d : List ℕ) where
    abbrev later : List Act
    later = t ++ HandedOut d ∷ []

    reads_out : (k : ℕ) → (written later k ≡ written t k) × (finished later k ≡ finished t k) × (was_reset later k ≡ was_reset t k)
    reads_out k = reads_nothing t (HandedOut d ∷ []) (record { bytes = λ id. refl; ends = λ id. refl }) (λ id. refl) k

    last_out : In d (handed_out later)
    last_out = subst (λ (z : List (List ℕ)). In d z) (sym (handed_out-append t (HandedOut d ∷ []))) (in_last d (handed_out t))

    -- a frame of the datagram's packet was carried by it
    run_carried : (number : ℕ) (frames : List QuicFrame) → HasPacket id_length (record { space = Data; sender = side; number = number; frames = frames }) d
        → (f : SentFrame) (g : QuicFrame) → In g frames → HasRunOf t f g → IsFrameCarried id_length side later number f
    run_carried number frames has (sent.Stream id piece) g among r =
        let within = r.within in
        let same = ap length (reads_out id.0).0 in (
          omega (arith, within, same),
          record {
            run = r.run;
            has = record {
              has = record {
                datagram = d;
                among = last_out;
                packet = record { space = Data; sender = side; number = number; frames = frames };
                has = has;
                space_is = refl;
                sender_is = refl;
                frame = g;
                frame_among = among;
                is = r.is;
              };
              number_is = refl;
            };
            stream_is = r.stream_is;
            from = r.from;
            to = r.to;
            fin = r.fin;
          },
        )
    run_carried number frames has (sent.ResetStream id reset_frame) g among r = r
    run_carried number frames has (sent.StopSending id code) g among r = r
    run_carried number frames has (sent.MaxData limit) g among r = r
    run_carried number frames has (sent.MaxStreamData id limit) g among r = r
    run_carried number frames has (sent.MaxStreams dir count) g among r = r

  -- the packet has these frames, and where a datagram has it what is owed is kept behind that
  pub record IsMadeOwing (old new : DataSpace) (before after : List ℕ) : Type 0 where
    pub bytes : List ℕ
    pub appended : after ≡ before ++ bytes
    pub frames : List QuicFrame
    pub are : AreQuicFrames bytes frames
    pub owing : (d : List ℕ) → HasPacket id_length (record { space = Data; sender = side; number = old.next_number; frames = frames }) d
        → IsOwing id_length side accepted (t ++ HandedOut d ∷ []) new

  pub made_owing : (now overhead room : ℕ) (old new : DataSpace) (before after : List ℕ) → IsPacketMade now overhead room old new before after → IsOwing id_length side accepted t old
      → IsMadeOwing old new before after
  made_owing now overhead room old new before after made p =
      let r = runs_made Byte End t now overhead room old new before after made p.kept in
      let out = out_behind now overhead room old new before after made in
      let kept = by_packet (λ s. AreKept Byte End t s) (λ was s f lost. again Byte End t was s f lost) (λ was s room f next. handed Byte End t was s room f next) now overhead room old new before after made p.kept in
      record {
        bytes = r.bytes;
        appended = r.appended;
        frames = r.frames;
        are = r.are;
        owing = λ d has. record {
          kept = kept_more id_length side (handed_out t) (handed_out (later d)) accepted accepted t (later d) new.streams (out_before t (HandedOut d ∷ [])) (λ x is. is) (reads_out d) kept;
          in_packets = made_in now overhead room old new before after made p.in_packets;
          out = λ number q f there among. elim (out number q there) [
            | inl before ↦ carried_more id_length side t (later d) old.sent (out_before t (HandedOut d ∷ [])) (reads_on id_length side t (later d) (reads_out d)) p.out number q f before among
            | inr last ↦
                let g = r.runs last.0 f (subst (λ (s : SentPacket SentFrame). In f s.frames.items) (sym last.2) among) in
                subst (λ (n : ℕ). IsFrameCarried id_length side (later d) n f) last.1 (run_carried d old.next_number r.frames has f g.0 g.1 g.2)
          ];
        };
      }

  -- what is owed is kept behind a packet of which nothing would be sent again
  pub bare_owing : (now size : ℕ) (old new : DataSpace) → IsSentBare now size old new → (d : List ℕ) → IsOwing id_length side accepted t old → IsOwing id_length side accepted (t ++ HandedOut d ∷ []) new
  bare_owing now size old new bare d p =
      subst (λ (s : DataSpace). IsOwing id_length side accepted (later d) s) (sym bare.new_is) (record {
        kept = kept_more id_length side (handed_out t) (handed_out (later d)) accepted accepted t (later d) old.streams (out_before t (HandedOut d ∷ [])) (λ x is. is) (reads_out d) p.kept;
        in_packets = sent_in old.streams old.sent old.next_number p.in_packets bare.packet old.streams (λ o w. inl w);
        out = λ number q f there among. elim (last_or_before old.sent old.next_number number bare.packet q there) [
          | inl before ↦ carried_more id_length side t (later d) old.sent (out_before t (HandedOut d ∷ [])) (reads_on id_length side t (later d) (reads_out d)) p.out number q f before among
          | inr last ↦ absurd (subst (λ (fs : List SentFrame). In f fs) (ap (λ (s : SentPacket SentFrame). s.frames.items) (sym last.1) ∙ bare.nothing) among)
        ];
      })
