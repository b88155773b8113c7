-- The runs that datagrams carry, as datagrams are handed in and out.
use Rattle.std.proofs.Common.{◌≡◌, ℕ, List, [], ◌∷◌, ◌++◌, length, Option, Some, None, refl, sym, ap, subst, ◌∙◌, inl, inr}
use Rattle.qh_packet.proofs.Packets.{only_content}
use Rattle.qh_packet.specs.Packet.{header_bytes}
use Rattle.qh_spec.proofs.FrameLaws.{quic_frames_agree}
use Rattle.qh_spec.proofs.Members.{in_left, in_right, in_split, in_last}
use Rattle.qh_spec.proofs.TranscriptLaws.{handed_in-append, handed_out-append}
use Rattle.qh_spec.specs.Carried.{HasRun}
use Rattle.qh_spec.specs.Datagram.{Packet, HasPacket}
use Rattle.qh_spec.specs.FrameViews.{stream_of}
use Rattle.qh_spec.specs.Link.{other}
use Rattle.qh_spec.specs.Lists.{In}
use Rattle.qh_spec.specs.QuicFrame.{StreamFrame as Run}
use Rattle.qh_spec.specs.QuicFrames.{QuicFrame, AreQuicFrames}
use Rattle.qh_spec.specs.Transcript.{Act, HandedIn, HandedOut, handed_in, handed_out}
use Rattle.qh_spec.specs.declared.sides.Side.{Side}
use Rattle.qh_spec.specs.declared.sides.Space.TheVariants.{Data}
use Rattle.qh_transcript.specs.Sending.{some_run, runs_of}

-- ---- the runs of frames

in_some : (o : Option Run) (run : Run) → In run (some_run o) → o ≡ Some run
in_some None run is = absurd is
in_some (Some r) run (inl same) = ap (λ (r : Run). Some r) same
in_some (Some r) run (inr none) = absurd none

-- each is that of one of the frames
of_frame : (fs : List QuicFrame) (run : Run) → In run (runs_of fs) → (f : QuicFrame) × In f fs × (stream_of f ≡ Some run)
of_frame [] run is = absurd is
of_frame (f ∷ fs) run is = elim (in_split run (some_run (stream_of f)) (runs_of fs) is) [
  | inl here ↦ (f, inl refl, in_some (stream_of f) run here)
  | inr more ↦ let r = of_frame fs run more in (r.0, inr r.1, r.2)
]

-- and that of each frame is among them
in_runs : (fs : List QuicFrame) (f : QuicFrame) (run : Run) → In f fs → stream_of f ≡ Some run → In run (runs_of fs)
in_runs [] f run is view = absurd is
in_runs (g ∷ fs) f run (inl same) view =
    in_left run (some_run (stream_of g)) (runs_of fs) (subst (λ (o : Option Run). In run (some_run o)) (sym (ap (λ (f : QuicFrame). stream_of f) same ∙ view)) (inl refl))
in_runs (g ∷ fs) f run (inr more) view = in_right run (some_run (stream_of g)) (runs_of fs) (in_runs fs f run more view)

-- ---- datagrams that are handed in

run_among : (k : ℕ) (xs ys : List (List ℕ)) → ((d : List ℕ) → In d xs → In d ys) → (side : Side) (run : Run) → HasRun k xs side run → HasRun k ys side run
run_among k xs ys among side run q = record {
  datagram = q.datagram;
  among = among q.datagram q.among;
  packet = q.packet;
  has = q.has;
  space_is = q.space_is;
  sender_is = q.sender_is;
  frame = q.frame;
  frame_among = q.frame_among;
  is = q.is;
}

one_in : (t : List Act) (d : List ℕ) → handed_in (t ++ HandedIn d ∷ []) ≡ handed_in t ++ d ∷ []
one_in t d = handed_in-append t (HandedIn d ∷ [])

before_in : (k : ℕ) (side : Side) (t : List Act) (d : List ℕ) (run : Run) → HasRun k (handed_in t) side run → HasRun k (handed_in (t ++ HandedIn d ∷ [])) side run
before_in k side t d run q = subst (λ (z : List (List ℕ)). HasRun k z side run) (sym (one_in t d)) (run_among k (handed_in t) (handed_in t ++ d ∷ []) (λ x is. in_left x (handed_in t) (d ∷ []) is) side run q)

pub dropped : (own_length : ℕ) (side : Side) (came : List Run) (t : List Act) (datagram : List ℕ) → ((run : Run) → In run came → HasRun own_length (handed_in t) (other side) run)
    → (run : Run) → In run came → HasRun own_length (handed_in (t ++ HandedIn datagram ∷ [])) (other side) run
dropped k side came t d carried run is = before_in k (other side) t d run (carried run is)

pub taken : (own_length : ℕ) (side : Side) (came : List Run) (t : List Act) (datagram : List ℕ) (packet : Packet) → HasPacket own_length packet datagram → packet.space ≡ Data → packet.sender ≡ other side
    → ((run : Run) → In run came → HasRun own_length (handed_in t) (other side) run)
    → (run : Run) → In run (came ++ runs_of packet.frames) → HasRun own_length (handed_in (t ++ HandedIn datagram ∷ [])) (other side) run
taken k side came t d packet has space sender carried run is = elim (in_split run came (runs_of packet.frames) is) [
  | inl before ↦ dropped k side came t d carried run before
  | inr now ↦
      let f = of_frame packet.frames run now in
      record {
        datagram = d;
        among = subst (λ (z : List (List ℕ)). In d z) (sym (one_in t d)) (in_last d (handed_in t));
        packet = packet;
        has = has;
        space_is = space;
        sender_is = sender;
        frame = f.0;
        frame_among = f.1;
        is = f.2;
      }
]

-- ---- datagrams that are handed out

one_out : (t : List Act) (d : List ℕ) → handed_out (t ++ HandedOut d ∷ []) ≡ handed_out t ++ d ∷ []
one_out t d = handed_out-append t (HandedOut d ∷ [])

-- the runs of a datagram that is written are those of its frames
written_run : (k number : ℕ) (destination frames tag : List ℕ) (fs : List QuicFrame) (d : List ℕ) (p : Packet) (f : QuicFrame) (run : Run) → length destination ≡ k → length tag ≡ 32 → AreQuicFrames frames fs
    → d ≡ header_bytes destination number ++ (frames ++ tag) → HasPacket k p d → In f p.frames → stream_of f ≡ Some run → In run (runs_of fs)
written_run k number destination frames tag fs d p f run length_is tag_is are is has there view =
    let same : p.frames ≡ fs = quic_frames_agree frames p.frames fs (only_content k number destination frames tag d p length_is tag_is is has).1 are in
    in_runs fs f run (subst (λ (z : List QuicFrame). In f z) same there) view

pub handed : (peer_length number : ℕ) (side : Side) (sent : List Run) (t : List Act) (destination frames tag : List ℕ) (fs : List QuicFrame) → length destination ≡ peer_length → length tag ≡ 32
    → AreQuicFrames frames fs → ((run : Run) → HasRun peer_length (handed_out t) side run → In run sent)
    → (run : Run) → HasRun peer_length (handed_out (t ++ HandedOut (header_bytes destination number ++ (frames ++ tag)) ∷ [])) side run → In run (sent ++ runs_of fs)
handed k number side sent t destination frames tag fs length_is tag_is are sent_all run q =
    let d = header_bytes destination number ++ (frames ++ tag) in
    elim (in_split q.datagram (handed_out t) (d ∷ []) (subst (λ (z : List (List ℕ)). In q.datagram z) (one_out t d) q.among)) [
      | inl before ↦ in_left run sent (runs_of fs) (sent_all run (record { datagram = q.datagram; among = before; packet = q.packet; has = q.has; space_is = q.space_is; sender_is = q.sender_is; frame = q.frame; frame_among = q.frame_among; is = q.is }))
      | inr (inl same) ↦ in_right run sent (runs_of fs) (written_run k number destination frames tag fs q.datagram q.packet q.frame run length_is tag_is are (sym same) q.has q.frame_among q.is)
      | inr (inr none) ↦ absurd none
    ]
