-- What more datagrams, more accepted packets and more acts leave of what is owed.
use Rattle.std.proofs.Common.{ℕ, ◌≤◌, List, ◌++◌, length, sym, ap, subst, arith}
use Rattle.qh_owing.proofs.KeptStreams.{Reads, restated}
use Rattle.qh_owing.specs.Owing.{AreKept, AreOutCarried, IsByteAcknowledged, IsEndAcknowledged, IsFrameCarried, IsOwing, IsPieceCarried, WasAccepted}
use Rattle.qh_packet.specs.Session.{AcceptsTag}
use Rattle.qh_recovery.specs.declared.sent_packets.SentPacket.{SentPacket}
use Rattle.qh_space.specs.declared.data_space.DataSpace.{DataSpace}
use Rattle.qh_spec.proofs.Members.{in_left}
use Rattle.qh_spec.proofs.TranscriptLaws.{handed_in-append, handed_out-append}
use Rattle.qh_spec.specs.Carried.{HasNumberedRun, IsAcknowledged}
use Rattle.qh_spec.specs.Datagram.{Packet}
use Rattle.qh_spec.specs.Lists.{In}
use Rattle.qh_spec.specs.QuicFrame.{StreamFrame}
use Rattle.qh_spec.specs.Transcript.{Act, handed_in, handed_out, written}
use Rattle.qh_spec.specs.declared.sides.Side.{Side}
use Rattle.qh_streams.specs.Streams.{PlainStreams}
use Rattle.qh_streams.specs.declared.frames.SentFrame.{SentFrame}
use Rattle.qh_streams.specs.declared.frames.SentFrame.TheVariants as sent
use Rattle.qh_half.specs.declared.send.Outgoing.{Outgoing}

abbrev pub IsPart : {X : Type 0} → List X → List X → Type 0
IsPart {X = X} xs ys = (x : X) → In x xs → In x ys

pub in_before : (t u : List Act) → IsPart (handed_in t) (handed_in (t ++ u))
in_before t u d is = subst (λ (z : List (List ℕ)). In d z) (sym (handed_in-append t u)) (in_left d (handed_in t) (handed_in u) is)

pub out_before : (t u : List Act) → IsPart (handed_out t) (handed_out (t ++ u))
out_before t u d is = subst (λ (z : List (List ℕ)). In d z) (sym (handed_out-append t u)) (in_left d (handed_out t) (handed_out u) is)

pub come_more : (accepts : AcceptsTag) (id : List ℕ) (xs ys : List (List ℕ)) (peer : Side) (p : Packet) → IsPart xs ys → WasAccepted accepts id xs peer p → WasAccepted accepts id ys peer p
come_more accepts id xs ys peer p part h = record {
  datagram = h.datagram;
  among = part h.datagram h.among;
  expected = h.expected;
  bytes = h.bytes;
  opened = h.opened;
  are = h.are;
  has = h.has;
  space_is = h.space_is;
  sender_is = h.sender_is;
}

module _ (id_length : ℕ) (side : Side) where
  module _ (xs ys : List (List ℕ)) (part : IsPart xs ys) where
    numbered_more : (number : ℕ) (run : StreamFrame) → HasNumberedRun id_length xs side number run → HasNumberedRun id_length ys side number run
    numbered_more number run h =
        let r = h.has in
        record {
          has = record {
            datagram = r.datagram;
            among = part r.datagram r.among;
            packet = r.packet;
            has = r.has;
            space_is = r.space_is;
            sender_is = r.sender_is;
            frame = r.frame;
            frame_among = r.frame_among;
            is = r.is;
          };
          number_is = h.number_is;
        }

    acknowledged_more : (accepted more : List Packet) → IsPart accepted more → (number : ℕ) → IsAcknowledged accepted number → IsAcknowledged more number
    acknowledged_more accepted more also number a = record {
      packet = a.packet;
      among = also a.packet a.among;
      space_is = a.space_is;
      frame = a.frame;
      frame_among = a.frame_among;
      covers = a.covers;
    }

    byte_more : (accepted more : List Packet) → IsPart accepted more → (stream k : ℕ) → IsByteAcknowledged id_length xs accepted side stream k → IsByteAcknowledged id_length ys more side stream k
    byte_more accepted more also stream k b = record {
      number = b.number;
      run = b.run;
      has = numbered_more b.number b.run b.has;
      stream_is = b.stream_is;
      from = b.from;
      to = b.to;
      acknowledged = acknowledged_more accepted more also b.number b.acknowledged;
    }

    end_more : (accepted more : List Packet) → IsPart accepted more → (stream : ℕ) → IsEndAcknowledged id_length xs accepted side stream → IsEndAcknowledged id_length ys more side stream
    end_more accepted more also stream b = record {
      number = b.number;
      run = b.run;
      has = numbered_more b.number b.run b.has;
      stream_is = b.stream_is;
      fin = b.fin;
      acknowledged = acknowledged_more accepted more also b.number b.acknowledged;
    }

    piece_more : (number stream : ℕ) (piece : Outgoing) → IsPieceCarried id_length xs side number stream piece → IsPieceCarried id_length ys side number stream piece
    piece_more number stream piece c = record { run = c.run; has = numbered_more number c.run c.has; stream_is = c.stream_is; from = c.from; to = c.to; fin = c.fin }

  -- as many bytes were written, or more
  abbrev pub WritesOn : (t u : List Act) → Type 0
  WritesOn t u = (k : ℕ) → length (written t k) ≤ length (written u k)

  frame_more : (t u : List Act) → IsPart (handed_out t) (handed_out u) → WritesOn t u → (number : ℕ) (f : SentFrame) → IsFrameCarried id_length side t number f → IsFrameCarried id_length side u number f
  frame_more t u part on number (sent.Stream id piece) c = let low = c.0 in let more = on id.0 in (omega (arith, low, more), piece_more (handed_out t) (handed_out u) part number id.0 piece c.1)
  frame_more t u part on number (sent.ResetStream id reset_frame) c = c
  frame_more t u part on number (sent.StopSending id code) c = c
  frame_more t u part on number (sent.MaxData limit) c = c
  frame_more t u part on number (sent.MaxStreamData id limit) c = c
  frame_more t u part on number (sent.MaxStreams dir count) c = c

  pub carried_more : (t u : List Act) (packets : List (ℕ × SentPacket SentFrame)) → IsPart (handed_out t) (handed_out u) → WritesOn t u → AreOutCarried id_length side t packets → AreOutCarried id_length side u packets
  carried_more t u packets part on out number q f there among = frame_more t u part on number f (out number q f there among)

  -- the streams keep what they owe, by the datagrams
  abbrev pub KeepOwed : List (List ℕ) → List Packet → List Act → PlainStreams → Type 0
  KeepOwed sent accepted t s = AreKept (IsByteAcknowledged id_length sent accepted side) (IsEndAcknowledged id_length sent accepted side) t s

  pub kept_more : (xs ys : List (List ℕ)) (accepted more : List Packet) (t u : List Act) (s : PlainStreams) → IsPart xs ys → IsPart accepted more → ((k : ℕ) → Reads t u k)
      → KeepOwed xs accepted t s → KeepOwed ys more u s
  kept_more xs ys accepted more t u s part also reads p =
      restated (IsByteAcknowledged id_length xs accepted side) (IsByteAcknowledged id_length ys more side) (IsEndAcknowledged id_length xs accepted side) (IsEndAcknowledged id_length ys more side)
      (λ id k b. byte_more xs ys part accepted more also id k b) (λ id b. end_more xs ys part accepted more also id b) t u s reads p

  pub reads_on : (t u : List Act) → ((k : ℕ) → Reads t u k) → WritesOn t u
  reads_on t u reads k = let same = ap length (reads k).0 in omega (arith, same)

  pub owing_more : (accepted more : List Packet) (t u : List Act) (s : DataSpace) → IsPart accepted more → IsPart (handed_out t) (handed_out u) → ((k : ℕ) → Reads t u k)
      → IsOwing id_length side accepted t s → IsOwing id_length side more u s
  owing_more accepted more t u s also part reads p = record {
    kept = kept_more (handed_out t) (handed_out u) accepted more t u s.streams part also reads p.kept;
    in_packets = p.in_packets;
    out = carried_more t u s.sent part (reads_on t u reads) p.out;
  }
