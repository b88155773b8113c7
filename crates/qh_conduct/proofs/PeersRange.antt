-- The frames that an end may send can be read, each with values in range, and no other bytes stand in its packets.
use Rattle.std.proofs.Common.{◌≡◌, ℕ, ◌+◌, ◌-◌, ◌<◌, ◌≤◌, ◌^◌, ◌==◌, Bool, true, false, List, [], ◌∷◌, length, get_or, refl, sym, ap, subst, ◌∙◌, arith, inl, inr}
use Rattle.qh_conduct.proofs.FramesFit.{control_fits}
use Rattle.qh_conduct.specs.Announced.{AreLive, IsKeptFrame}
use Rattle.qh_conduct.specs.Announced.IsKeptFrame.{ping, response, ack, stream, reset, stop, max_data, max_stream_data, max_streams, control, close}
use Rattle.qh_core.specs.Inner.{is_open}
use Rattle.qh_core.specs.declared.inner.Inner.{Inner}
use Rattle.std.proofs.lemmas.Bool.{both_ways}
use Rattle.qh_frame.specs.AckWritten.{AreApart, AreBelow, ack_frame, gaps}
use Rattle.qh_frame.specs.FrameAt.{HasNoFrame}
use Rattle.qh_frame.specs.Plain.{by_dir, frame}
use Rattle.qh_frame.specs.Range.{IsInRange}
use Rattle.qh_frame.specs.WrittenForm.{stream_form}
use Rattle.qh_frame.specs.declared.ack.AckRange.{AckRange}
use Rattle.qh_packet.proofs.Packets.{same_parts}
use Rattle.qh_packet.specs.Frames.{BeginWithFrames, none as none_before, more as more_before}
use Rattle.qh_packet.specs.Packet.{IsOpened}
use Rattle.qh_spec.proofs.Cuts.{empty_front}
use Rattle.qh_spec.proofs.FrameLaws.{quic_frame_agrees}
use Rattle.qh_spec.proofs.PacketLaws.{no_initial_packet, not_initial}
use Rattle.qh_spec.proofs.Varints.{no_empty_varint}
use Rattle.qh_spec.specs.Acknowledged.{AreRanges}
use Rattle.qh_spec.specs.Datagram.{Packet, HasPacket, one_rtt, initial, later}
use Rattle.qh_spec.specs.Lists.{In}
use Rattle.qh_spec.specs.Packet.{ShortPacket, short_packet}
use Rattle.qh_spec.specs.QuicFrame.{StreamFrame as Run}
use Rattle.qh_spec.specs.QuicFrames.{QuicFrame, AreQuicFrames, IsQuicFrame, Num}
use Rattle.qh_spec.specs.Varint.{IsVarint}
use Rattle.qh_spec.specs.declared.sides.Dir.{Dir}
use Rattle.qh_spec.specs.declared.sides.Dir.TheVariants.{Bi, Uni}
use Rattle.qh_spec.specs.declared.sides.Side.{Side}
use Rattle.qh_spec.specs.declared.sides.Space.{Space}
use Rattle.qh_streams.specs.Streams.{is_two_way}

-- ---- values in range

pub ranges_fit : (greatest least : ℕ) (more : List AckRange) → least ≤ greatest → AreBelow least more → AreRanges greatest ((greatest - least) ∷ gaps least more)
ranges_fit greatest least [] low below = omega (arith, low)
ranges_fit greatest least (r ∷ more) low below =
    let first = below.0 in
    let apart = below.1 in
    (r.greatest, omega (arith, low, apart), ranges_fit r.greatest r.least more first below.2)

ack_fits : (ranges : List AckRange) → AreApart ranges → IsInRange (ack_frame 0 ranges)
ack_fits [] apart = absurd apart
ack_fits (r ∷ more) apart = ranges_fit r.greatest r.least more apart.0 apart.2

form_fits : (zero fin : Bool) (id offset : ℕ) (payload : List ℕ) → (offset == 0) ≡ zero → offset + length payload < 2 ^ 62 → IsInRange (stream_form (record { id = id; offset = offset; payload = payload; fin = fin }))
form_fits true true id offset payload e small = rw e (omega (arith, small))
form_fits true false id offset payload e small = rw e (omega (arith, small))
form_fits false true id offset payload e small = rw e small
form_fits false false id offset payload e small = rw e small

count_fits : (dir : Dir) (count : ℕ) → count ≤ 2 ^ 60 → IsInRange (frame (by_dir dir 18 19) (Num count ∷ []))
count_fits Bi count small = small
count_fits Uni count small = small

module _ {S : Type 0} (c : Inner S) (came : List (List ℕ)) where
  pub kept_fits : (q : QuicFrame) → AreLive c.space.streams → is_open c.state ≡ true → ((run : Run) → q ≡ stream_form run → run.offset + length run.payload < 2 ^ 62) → IsKeptFrame c came q → IsInRange q
  kept_fits q live up small (ping is) = rw is tt
  kept_fits q live up small (response echoed is) = rw is tt
  kept_fits q live up small (ack ranges is apart all) = rw is (ack_fits ranges apart)
  kept_fits q live up small (stream run is named) = rw is (form_fits (run.offset == 0) run.fin run.id run.offset run.payload refl (small run is))
  kept_fits q live up small (reset id code size is named) = rw is tt
  kept_fits q live up small (stop id code is named) = rw is tt
  kept_fits q live up small (max_data limit is below) = rw is tt
  kept_fits q live up small (max_stream_data id limit is named below) = rw is tt
  kept_fits q live up small (max_streams dir count is below) = rw is (count_fits dir count (let most = live.counts (is_two_way dir) in omega (arith, below, most)))
  kept_fits q live up small (control g is may) = rw is (control_fits c.side c.config.peer_datagram g may)
  kept_fits q live up small (close reason is shut) = absurd (both_ways (is_open c.state) shut up)

-- ---- nothing is left behind the frames

no_frame_here : (f : QuicFrame) (bytes rest : List ℕ) → IsQuicFrame bytes f rest → bytes ≡ [] → ⊥
no_frame_here f bytes rest is e = no_empty_varint f.kind (subst (λ (z : List ℕ). IsVarint z f.kind) (empty_front is.kind.0 is.fields (sym e ∙ is.kind.1)) is.kind.2)

pub nothing_left : (bytes rest : List ℕ) (fs : List QuicFrame) → BeginWithFrames bytes rest → AreQuicFrames bytes fs → ((q : QuicFrame) → In q fs → IsInRange q) → HasNoFrame rest → rest ≡ []
nothing_left bytes rest [] (none_before _) are fits unread = are
nothing_left bytes rest (q ∷ more) (none_before _) are fits unread = absurd (unread q are.0 are.1 (fits q (inl refl)))
nothing_left bytes rest [] (more_before _ mid _ f is range behind) are fits unread = absurd (no_frame_here f bytes mid is are)
nothing_left bytes rest (q ∷ more) (more_before _ mid _ f is range behind) are fits unread =
    let one = quic_frame_agrees bytes f q mid are.0 is are.1 in
    nothing_left mid rest more behind (subst (λ (z : List ℕ). AreQuicFrames z more) (sym one.1) are.2) (λ q is. fits q (inr is)) unread

-- ---- the frames of a datagram are those of the packet that is opened

opened_first : (p : ShortPacket) (d : List ℕ) → d ≡ short_packet p → length p.number ≤ 4 → get_or d 0 0 < 128
opened_first p d e short = let first : get_or d 0 0 ≡ 63 + length p.number = ap (λ (z : List ℕ). get_or z 0 0) e in omega (arith, first, short)

pub opened_frames : (accepts : Side → Space → ℕ → List ℕ → Bool) (destination : List ℕ) (from : Side) (expected : ℕ) (d : List ℕ) (number : ℕ) (bytes : List ℕ) (p : Packet)
    → IsOpened accepts (length destination) from expected d number bytes → HasPacket (length destination) p d → AreQuicFrames bytes p.frames
opened_frames accepts destination from expected d number bytes p o (one_rtt b h) =
    let same = same_parts (length destination) o.packet h.short o.is.fits h.fits (sym o.is.whole ∙ h.whole) in
    subst (λ (z : List ℕ). AreQuicFrames z p.frames) (sym same.frames ∙ o.frames_are) h.content.frames
opened_frames accepts destination from expected d number bytes p o (initial front rest b f i) =
    absurd (no_initial_packet d front rest p f i (opened_first o.packet d o.is.whole o.is.fits.short_number))
opened_frames accepts destination from expected d number bytes p o (later front rest b m c f i h) =
    absurd (not_initial d front rest m c f i (opened_first o.packet d o.is.whole o.is.fits.short_number))
