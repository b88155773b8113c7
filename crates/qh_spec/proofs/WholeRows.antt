-- What a datagram with a message carries.
use Rattle.std.proofs.Common.{◌≡◌, ◌<◌, ◌^◌, inl, inr, ℕ, Bool, true, false, List, [], ◌∷◌, length, Option, Some, refl, sym, ap, ◌∙◌, subst, arith, append-nil}
use Rattle.qh_spec.specs.declared.sides.Side.{Side}
use Rattle.qh_spec.specs.declared.sides.Side.TheVariants.{Client, Server}
use Rattle.qh_spec.specs.declared.sides.Space.TheVariants.{Data}
use Rattle.qh_spec.specs.Carried.{HasRun}
use Rattle.qh_spec.specs.Datagram.{Packet, IsOneRttPacket, HasPacket, one_rtt}
use Rattle.qh_spec.specs.FrameViews.{stream_of}
use Rattle.qh_spec.specs.Lists.{In}
use Rattle.qh_spec.specs.Message.{PlainMessage}
use Rattle.qh_spec.specs.MessageRows.{get_message, other_message, get_bytes}
use Rattle.qh_spec.specs.QuicFrame.{StreamFrame}
use Rattle.qh_spec.specs.QuicFrames.{Number, Counted, Num, Text, QuicFrame, shape_of, AreQuicFrames}
use Rattle.qh_spec.specs.Spelling.{Spells}
use Rattle.qh_spec.specs.StreamId.{side_bit}
use Rattle.qh_spec.specs.Tag.{IsTag}
use Rattle.qh_spec.specs.Varint.{one}
use Rattle.qh_spec.specs.Whole.{IsWholeStream, IsWhole}
use Rattle.qh_spec.specs.WholeRows.{stream_type, carrying, carrying_get, carrying_open_get}
use Rattle.qh_spec.proofs.MessageRows.{get_spells, get_spells_no_other}
use Rattle.qh_spec.proofs.PacketLaws.{one_packet}
use Rattle.qh_spec.proofs.WholeLaws.{one_stream, one_frame_whole}

fin_shape : (fin : Bool) → shape_of (stream_type fin) ≡ Some (Number ∷ Counted ∷ [])
unfolding shape_of
fin_shape true = refl
fin_shape false = refl

small_type : (fin : Bool) → stream_type fin < 2 ^ 6
small_type true = omega arith
small_type false = omega arith

abbrev frame_of : Bool → List ℕ → QuicFrame
frame_of fin payload = record { kind = stream_type fin; values = Num 0 ∷ Text payload ∷ [] }

-- the packet, and its only frame as a STREAM frame
abbrev pub packet_of : Side → Bool → List ℕ → Packet
packet_of s fin payload = record { space = Data; sender = s; number = 1000; frames = frame_of fin payload ∷ [] }

abbrev pub run_of : Bool → List ℕ → StreamFrame
run_of fin payload = record { id = 0; offset = 0; payload = payload; fin = fin }

frame_is_run : (fin : Bool) (payload : List ℕ) → stream_of (frame_of fin payload) ≡ Some (run_of fin payload)
frame_is_run true payload = refl
frame_is_run false payload = refl

frames_are : (fin : Bool) (payload : List ℕ) → length payload < 64 → AreQuicFrames (stream_type fin ∷ 0 ∷ length payload ∷ payload) (frame_of fin payload ∷ [])
frames_are fin payload short = (
  [],
  record {
    fields = 0 ∷ length payload ∷ payload;
    shape = Number ∷ Counted ∷ [];
    kind = (stream_type fin ∷ [], refl, one (small_type fin) refl);
    shaped = fin_shape fin;
    values = (
      length payload ∷ payload,
      (0 ∷ [], refl, one (omega arith) refl),
      ([], (payload, (length payload ∷ [], refl, one (omega (arith, short)) refl), sym (append-nil payload)), refl),
    );
  },
  refl,
)

unfoldable tag_of : Side → List ℕ
tag_of s = 208 ∷ 0 ∷ 0 ∷ 0 ∷ 0 ∷ 0 ∷ 0 ∷ 0 ∷ 0 ∷ 0 ∷ 0 ∷ 0 ∷ 0 ∷ 0 ∷ 0 ∷ 0
    ∷ 165 ∷ side_bit s ∷ 0 ∷ 0 ∷ 0 ∷ 0 ∷ 0 ∷ 0 ∷ 3 ∷ 232 ∷ 8 ∷ 0 ∷ 0 ∷ 0 ∷ 0 ∷ 1 ∷ []

tagged : (s : Side) → IsTag (tag_of s) s Data 1000
unfolding tag_of
tagged s = record { key_id = 208 ∷ 0 ∷ 0 ∷ 0 ∷ 0 ∷ 0 ∷ 0 ∷ 0 ∷ []; short = omega arith; bound = omega arith; is = refl }

whole_packet : (s : Side) (fin : Bool) (payload : List ℕ) → length payload < 64 → IsOneRttPacket 8 (carrying s fin payload) (packet_of s fin payload)
unfolding tag_of
whole_packet s fin payload short = record {
  short = record {
    destination = 80 ∷ 0 ∷ 0 ∷ 0 ∷ 0 ∷ 0 ∷ 0 ∷ 0 ∷ [];
    number = 0 ∷ 0 ∷ 3 ∷ 232 ∷ [];
    frames = stream_type fin ∷ 0 ∷ length payload ∷ payload;
    tag = tag_of s;
  };
  fits = record { destination = refl; some_number = omega arith; short_number = omega arith; tag = refl };
  whole = refl;
  content = record { space_is = refl; tagged = tagged s; low = refl; frames = frames_are fin payload short };
}

pub packet_there : (s : Side) (fin : Bool) (payload : List ℕ) → length payload < 64 → HasPacket 8 (packet_of s fin payload) (carrying s fin payload)
packet_there s fin payload short = one_rtt (carrying s fin payload) (whole_packet s fin payload short)

pub run_there : (s : Side) (fin : Bool) (payload : List ℕ) → length payload < 64 → HasRun 8 (carrying s fin payload ∷ []) s (run_of fin payload)
run_there s fin payload short = record {
  datagram = carrying s fin payload;
  among = inl refl;
  packet = packet_of s fin payload;
  has = packet_there s fin payload short;
  space_is = refl;
  sender_is = refl;
  frame = frame_of fin payload;
  frame_among = inl refl;
  is = frame_is_run fin payload;
}

only_one : {X : Type 0} (x y : X) → In x (y ∷ []) → y ≡ x
only_one x y (inl e) = e
only_one x y (inr h) = absurd h

-- the datagram has no other packet
pub only_packet : (s t : Side) (fin : Bool) (payload : List ℕ) → length payload < 64 → (run : StreamFrame)
    → (h : HasRun 8 (carrying s fin payload ∷ []) t run) → h.packet ≡ packet_of s fin payload
only_packet s t fin payload short run h =
    let here : carrying s fin payload ≡ h.datagram = only_one h.datagram (carrying s fin payload) h.among in
    let has : HasPacket 8 h.packet (carrying s fin payload) = subst (λ (z : List ℕ). HasPacket 8 h.packet z) (sym here) h.has in
    one_packet 8 h.packet (packet_of s fin payload) (carrying s fin payload) (omega arith) has (packet_there s fin payload short)

-- and no other frame
pub only_run : (s t : Side) (fin : Bool) (payload : List ℕ) → length payload < 64 → (run : StreamFrame) → HasRun 8 (carrying s fin payload ∷ []) t run
    → (t ≡ s) × (run_of fin payload ≡ run)
only_run s t fin payload short run h =
    let same = only_packet s t fin payload short run h in
    let frame_in : In h.frame (frame_of fin payload ∷ []) = subst (λ (z : Packet). In h.frame z.frames) same h.frame_among in
    let frame : frame_of fin payload ≡ h.frame = only_one h.frame (frame_of fin payload) frame_in in
    let run_is : ◌≡◌ {A = Option StreamFrame} (Some (run_of fin payload)) (Some run) = sym (frame_is_run fin payload) ∙ ap stream_of frame ∙ h.is in
    let found : run_of fin payload ≡ run = cc in
    (sym h.sender_is ∙ ap (λ (z : Packet). z.sender) same, found)

-- the stream is whole where its end is there
pub carrying_whole : (s : Side) (payload : List ℕ) → length payload < 64 → IsWholeStream 8 (carrying s true payload ∷ []) s 0 payload
carrying_whole s payload short =
    one_frame_whole 8 (carrying s true payload ∷ []) s (run_of true payload) (run_there s true payload short) refl refl
    (λ r h e. (only_run s s true payload short r h).1)

pub get_whole : IsWhole 8 (carrying_get ∷ []) Client 0 get_message
get_whole = record { bytes = get_bytes; stream_is = carrying_whole Client get_bytes (omega arith); spells = get_spells }

client_is_not_server : Server ≡ Client → ⊥
client_is_not_server e = cc

-- the server sent nothing of it
pub get_not_of_server : (m : PlainMessage) → IsWhole 8 (carrying_get ∷ []) Server 0 m → ⊥
get_not_of_server m p =
    let end = p.stream_is.ends in
    client_is_not_server (only_run Client Server true get_bytes (omega arith) end.run end.has).0

-- nothing is on another stream
pub get_not_elsewhere : (stream : ℕ) (m : PlainMessage) → 0 < stream → IsWhole 8 (carrying_get ∷ []) Client stream m → ⊥
get_not_elsewhere stream m more p =
    let end = p.stream_is.ends in
    let same = (only_run Client Client true get_bytes (omega arith) end.run end.has).1 in
    let id : 0 ≡ end.run.id = ap (λ (z : StreamFrame). z.id) same in
    let is = end.stream_is in
    omega (arith, id, is, more)

-- without the end it isn't whole
pub open_not_whole : (m : PlainMessage) → IsWhole 8 (carrying_open_get ∷ []) Client 0 m → ⊥
open_not_whole m p =
    let end = p.stream_is.ends in
    let same = (only_run Client Client false get_bytes (omega arith) end.run end.has).1 in
    let fin : false ≡ true = ap (λ (z : StreamFrame). z.fin) same ∙ end.fin in
    cc

-- it is no other message
pub get_whole_alone : IsWhole 8 (carrying_get ∷ []) Client 0 other_message → ⊥
get_whole_alone p =
    let same : p.bytes ≡ get_bytes = one_stream 8 (carrying_get ∷ []) Client 0 p.bytes get_bytes p.stream_is (carrying_whole Client get_bytes (omega arith)) in
    get_spells_no_other (subst (λ (z : List ℕ). Spells z other_message) same p.spells)
