-- Which frames speak of ids, and that frames which are written are read back.
use Rattle.std.proofs.Common.{◌≡◌, ◌⊎◌, ℕ, ◌-◌, ◌^◌, ◌<◌, ◌≤◌, Bool, true, false, List, [], ◌∷◌, ◌++◌, length, map, Option, Some, None, refl, sym, ap, subst, ◌∙◌, inl, inr, append_assoc, length-append, length-drop, arith}
use Rattle.std.specs.Prelude.{MatchBool, replicate, drop}
use Rattle.std.specs.List.{AllByRecursion}
use Rattle.std.proofs.lemmas.List.{append-nil, length-replicate}
use Rattle.qh_buffers.specs.Ranges.{PlainRange}
use Rattle.qh_conduct.proofs.FramesSay.{Between, ack_kind, close_kind, count_kind, exact_kind, form_kind}
use Rattle.qh_core.specs.Config.{bounded}
use Rattle.qh_core.specs.Control.{MaySend, control_bytes, control_frame}
use Rattle.qh_core.specs.Sending.{close_frame, fault_type}
use Rattle.qh_core.specs.declared.control.ControlFrame.{ControlFrame}
use Rattle.qh_core.specs.declared.control.ControlFrame.TheVariants.{NewToken, NewConnectionId, RetireConnectionId, Datagram}
use Rattle.qh_core.specs.declared.state.Close.{Close}
use Rattle.qh_core.specs.declared.state.Close.TheVariants.{Application, Connection}
use Rattle.qh_frame.proofs.FramesWritten.{ping_put, written_frame as frame_written}
use Rattle.qh_frame.specs.AckWritten.{ack_frame}
use Rattle.qh_frame.specs.FrameBytes.{fields_bytes, frame_bytes, numbers_bytes, values_bytes}
use Rattle.qh_frame.specs.Plain.{frame, by_dir}
use Rattle.qh_halves.specs.SendHalves.{send_at}
use Rattle.qh_peers.specs.Ids.{SaysFewIds}
use Rattle.qh_recovery.specs.PendingAcks.{IsAckPut}
use Rattle.qh_space.specs.Sending.{AreElicitingPut, IsPacketMade, ReadsBack, bytes_if, may_elicit, ping_bytes, response_bytes}
use Rattle.qh_space.specs.declared.data_space.DataSpace.{DataSpace}
use Rattle.qh_spec.specs.Lists.{In}
use Rattle.qh_spec.specs.QuicFrames.{AreQuicFrames, Counted, Fixed, Num, Number, Part, QuicFrame, ShortCounted, Text, Value, shape_of}
use Rattle.qh_spec.specs.Varint.{varint}
use Rattle.qh_spec.specs.declared.sides.Side.{Side}
use Rattle.qh_streams.specs.Streams.{PlainStreams, AreWritten, IsHandedOver, IsReadBack, half_bytes, written_frame}
use Rattle.qh_streams.specs.Streams.AreWritten.{none as none_written, more as more_written}
use Rattle.qh_streams.specs.Streams.IsHandedOver.{stream as stream_handed, reset as reset_handed, stop as stop_handed, max_stream_data as max_stream_data_handed, max_data as max_data_handed, max_streams as max_streams_handed}
use Rattle.qh_streams.specs.declared.frames.SentFrame.{SentFrame}
use Rattle.qh_token.specs.Reset.{last_14, reset_token_of}

-- ---- frames of other types

-- a frame that is neither NEW_CONNECTION_ID nor RETIRE_CONNECTION_ID says nothing of ids
pub record SaysNoIds (f : QuicFrame) : Type 0 where
  pub no_new : f.kind ≡ 24 → ⊥
  pub no_retire : f.kind ≡ 25 → ⊥

pub no_ids : (k : ℕ) (f : QuicFrame) → SaysNoIds f → SaysFewIds k f
no_ids k f silent = record {
  new_id = λ sequence prior id token e. absurd (silent.no_new (ap (λ (g : QuicFrame). g.kind) e));
  no_retire = λ sequence e. silent.no_retire (ap (λ (g : QuicFrame). g.kind) e);
}

other_kind : (f : QuicFrame) (low high : ℕ) → Between low high f.kind → (25 < low) ⊎ (high < 24) → SaysNoIds f
other_kind f low high b (inl above) = let least = b.0 in record { no_new = λ e. omega (arith, above, least, e); no_retire = λ e. omega (arith, above, least, e) }
other_kind f low high b (inr below) = let most = b.1 in record { no_new = λ e. omega (arith, below, most, e); no_retire = λ e. omega (arith, below, most, e) }

other_frame : (kind : ℕ) (values : List Value) → (25 < kind) ⊎ (kind < 24) → SaysNoIds (frame kind values)
other_frame kind values other = other_kind (frame kind values) kind kind (exact_kind (frame kind values) kind values refl) other

-- ---- the frames of a packet that isn't of the connection's own

handed_none : (old mid : PlainStreams) (room : ℕ) (f : SentFrame) → IsHandedOver old mid room f → SaysNoIds (written_frame mid f)
handed_none old mid room f (stream_handed id piece next rest) =
    other_kind _ 10 15 (form_kind _ (record { id = id.0; offset = piece.offsets.start; payload = half_bytes (send_at mid.send id.0) piece; fin = piece.fin }) refl) (inr (omega arith))
handed_none old mid room f (reset_handed id r next rest) = other_frame 4 _ (inr (omega arith))
handed_none old mid room f (stop_handed id code step rest) = other_frame 5 _ (inr (omega arith))
handed_none old mid room f (max_stream_data_handed id limit step rest) = other_frame 17 _ (inr (omega arith))
handed_none old mid room f (max_data_handed limit is due rest) = other_frame 16 _ (inr (omega arith))
handed_none old mid room f (max_streams_handed dir count is due rest) =
    other_kind (frame (by_dir dir 18 19) (Num count ∷ [])) 18 19 (count_kind (frame (by_dir dir 18 19) (Num count ∷ [])) dir count refl) (inr (omega arith))

-- the bytes are frames that say nothing of ids
pub record NameNoIds (bytes : List ℕ) : Type 0 where
  pub frames : List QuicFrame
  pub are : AreQuicFrames bytes frames
  pub none : (f : QuicFrame) → In f frames → SaysNoIds f

none_at_all : NameNoIds []
none_at_all = record { frames = []; are = refl; none = λ f among. absurd among }

one_more : (f : QuicFrame) (more : List ℕ) → IsReadBack f → SaysNoIds f → NameNoIds more → NameNoIds (frame_bytes f ++ more)
one_more f more back silent b = record {
  frames = f ∷ b.frames;
  are = (more, back more, b.are);
  none = λ g among. elim among [ inl same ↦ subst (λ (h : QuicFrame). SaysNoIds h) same silent | inr later ↦ b.none g later ];
}

ping_none : (due : Bool) (more : List ℕ) → NameNoIds more → NameNoIds (bytes_if due ping_bytes ++ more)
ping_none true more b = one_more (frame 1 []) more (ping_put [] (numbers_bytes (1 ∷ [])) refl).is (other_frame 1 [] (inr (omega arith))) b
ping_none false more b = b

response_none : (due : Option (List ℕ)) (more : List ℕ) → ReadsBack due → NameNoIds more → NameNoIds (response_bytes due ++ more)
response_none None more back b = b
response_none (Some echoed) more back b = one_more (frame 27 (Text echoed ∷ [])) more back (other_frame 27 (Text echoed ∷ []) (inl (omega arith))) b

written_none : (room : ℕ) (old new : PlainStreams) (fs : List SentFrame) (bytes : List ℕ) → AreWritten room old new fs bytes → NameNoIds bytes
written_none room old new fs bytes (none_written _ _) = none_at_all
written_none room old new fs bytes (more_written _ _ mid _ f gs rest handed fits back others) =
    one_more (written_frame mid f) rest back (handed_none old mid room f handed) (written_none _ mid new gs rest others)

-- what is appended behind what stood there
pub record AreBehind (before after : List ℕ) : Type 0 where
  pub bytes : List ℕ
  pub appended : after ≡ before ++ bytes
  pub named : NameNoIds bytes

put_none : (may : Bool) (room : ℕ) (old new : DataSpace) (mid after : List ℕ) (frames : List SentFrame) → MatchBool may (AreElicitingPut room old new mid after frames) ((new ≡ old) × (after ≡ mid)) → AreBehind mid after
put_none true room old new mid after frames put =
    let w = put.streams in
    let pings = bytes_if old.is_ping_due ping_bytes in
    let due = response_bytes old.path_response in
    record {
      bytes = pings ++ (due ++ w.bytes);
      appended = w.out_is ∙ append_assoc mid (pings ++ due) w.bytes ∙ ap (λ (z : List ℕ). mid ++ z) (append_assoc pings due w.bytes);
      named = ping_none old.is_ping_due (due ++ w.bytes) (response_none old.path_response w.bytes put.reads_back (written_none _ old.streams new.streams w.frames w.bytes w.written));
    }
put_none false room old new mid after frames none = record { bytes = []; appended = none.1 ∙ sym (append-nil mid); named = none_at_all }

acks_none : (due : Bool) (ranges : List PlainRange) (before mid after : List ℕ) → MatchBool due (IsAckPut ranges before mid) (mid ≡ before) → AreBehind mid after → AreBehind before after
acks_none true ranges before mid after put b = record {
  bytes = frame_bytes (ack_frame 0 put.ranges) ++ b.bytes;
  appended = b.appended ∙ (ap (λ (z : List ℕ). z ++ b.bytes) put.is_put.whole ∙ append_assoc before (frame_bytes (ack_frame 0 put.ranges)) b.bytes);
  named = one_more (ack_frame 0 put.ranges) b.bytes put.is_put.is (other_kind (ack_frame 0 put.ranges) 2 2 (ack_kind (ack_frame 0 put.ranges) put.ranges refl) (inr (omega arith))) b.named;
}
acks_none false ranges before mid after same b = record { bytes = b.bytes; appended = b.appended ∙ ap (λ (z : List ℕ). z ++ b.bytes) same; named = b.named }

pub packet_none : (now around room : ℕ) (old new : DataSpace) (before after : List ℕ) → IsPacketMade now around room old new before after → AreBehind before after
packet_none now around room old new before after made =
    acks_none old.acks.is_due old.acks.ranges before made.out_mid after made.ack
    (put_none (may_elicit old) (room - (length made.out_mid - length before)) old made.mid made.out_mid after made.packet.frames.items made.eliciting)

-- ---- a close

close_shape : shape_of 28 ≡ Some (Number ∷ Number ∷ Counted ∷ [])
unfolding shape_of
close_shape = refl

application_shape : shape_of 29 ≡ Some (Number ∷ Counted ∷ [])
unfolding shape_of
application_shape = refl

text_in_two : (a b c t : List ℕ) → length t ≤ length (a ++ (b ++ ((c ++ t) ++ [])))
text_in_two a b c t =
    let first = length-append a (b ++ ((c ++ t) ++ [])) in
    let second = length-append b ((c ++ t) ++ []) in
    let third = length-append (c ++ t) [] in
    let last = length-append c t in
    omega (arith, first, second, third, last)

-- the bytes of a frame whose type has this shape
pub shaped_bytes : (kind : ℕ) (shape : List Part) (values : List Value) → shape_of kind ≡ Some shape → frame_bytes (frame kind values) ≡ varint kind ++ values_bytes shape values
unfolding frame_bytes
shaped_bytes kind shape values is = ap (λ (o : Option (List Part)). varint kind ++ fields_bytes o values) is

close_size : (a b : ℕ) (t : List ℕ) → length t ≤ length (frame_bytes (frame 28 (Num a ∷ Num b ∷ Text t ∷ [])))
close_size a b t =
    let shape : List Part = Number ∷ Number ∷ Counted ∷ [] in
    let values : List Value = Num a ∷ Num b ∷ Text t ∷ [] in
    let bytes = ap length (shaped_bytes 28 shape values close_shape) in
    let sum = length-append (varint 28) (values_bytes shape values) in
    let less = text_in_two (varint a) (varint b) (varint (length t)) t in
    omega (arith, bytes, sum, less)

application_size : (a : ℕ) (t : List ℕ) → length t ≤ length (frame_bytes (frame 29 (Num a ∷ Text t ∷ [])))
application_size a t =
    let shape : List Part = Number ∷ Counted ∷ [] in
    let values : List Value = Num a ∷ Text t ∷ [] in
    let bytes = ap length (shaped_bytes 29 shape values application_shape) in
    let sum = length-append (varint 29) (values_bytes shape values) in
    let less = text_in_two [] (varint a) (varint (length t)) t in
    omega (arith, bytes, sum, less)

fault_small : (kind : Option ℕ) → fault_type kind < 2 ^ 62
fault_small None = omega arith
fault_small (Some n) = omega arith

-- the code of a close of the application's fits into a frame
abbrev pub HasCloseCode : Close → Type 0
HasCloseCode (Application a) = a.error_code < 2 ^ 62
HasCloseCode (Connection c) = Unit {0}

-- a close that has room in a datagram is read back
pub close_back : (reason : Close) → HasCloseCode reason → length (frame_bytes (close_frame reason)) ≤ 1200 → IsReadBack (close_frame reason)
close_back (Connection c) code short rest =
    let less = close_size (bounded c.code.0) (fault_type c.frame) c.reason in
    frame_written 28 (Number ∷ Number ∷ Counted ∷ []) (Num (bounded c.code.0) ∷ Num (fault_type c.frame) ∷ Text c.reason ∷ []) rest (omega arith) close_shape
    (omega arith, (fault_small c.frame, (omega (arith, less, short), tt)))
close_back (Application a) code short rest =
    let less = application_size a.error_code a.reason in
    frame_written 29 (Number ∷ Counted ∷ []) (Num a.error_code ∷ Text a.reason ∷ []) rest (omega arith) application_shape (code, (omega (arith, less, short), tt))

pub close_none : (reason : Close) → HasCloseCode reason → length (frame_bytes (close_frame reason)) ≤ 1200 → NameNoIds (frame_bytes (close_frame reason))
close_none reason code short =
    subst (λ (z : List ℕ). NameNoIds z) (append-nil (frame_bytes (close_frame reason)))
    (one_more (close_frame reason) [] (close_back reason code short) (other_kind (close_frame reason) 28 29 (close_kind (close_frame reason) reason refl) (inl (omega arith))) none_at_all)

-- ---- frames of the connection's own

token_shape : shape_of 7 ≡ Some (Counted ∷ [])
unfolding shape_of
token_shape = refl

id_shape : shape_of 24 ≡ Some (Number ∷ Number ∷ ShortCounted ∷ Fixed 16 ∷ [])
unfolding shape_of
id_shape = refl

datagram_shape : shape_of 49 ≡ Some (Counted ∷ [])
unfolding shape_of
datagram_shape = refl

last_length : (id : List ℕ) → length (last_14 id) ≡ 14
last_length id =
    let all = length-append (replicate (14 - length id) 0) (drop (length id - 14) id) in
    let zeros = length-replicate {A = ℕ} (14 - length id) 0 in
    let rest = length-drop (length id - 14) id in
    omega (arith, all, zeros, rest)

token_length : (id : List ℕ) → length (reset_token_of id) ≡ 16
token_length id = let last = last_length id in omega (arith, last)

-- what an end may send, and says few ids, is read back
pub own_back : (k : ℕ) (side : Side) (most : Option ℕ) (f : ControlFrame) → MaySend side most f → SaysFewIds k (control_frame f) → IsReadBack (control_frame f)
own_back k side most (NewToken token) may says rest =
    let short = may.2 in
    frame_written 7 (Counted ∷ []) (Text token ∷ []) rest (omega arith) token_shape (omega (arith, short), tt)
own_back k side most (NewConnectionId sequence prior id token) may says rest =
    let new = says.new_id sequence prior id token.0 refl in
    let below = new.0 in
    let none = new.1 in
    let short = may.2 in
    frame_written 24 (Number ∷ Number ∷ ShortCounted ∷ Fixed 16 ∷ []) (Num sequence ∷ Num prior ∷ Text id ∷ Text token.0 ∷ []) rest (omega arith) id_shape
    (omega (arith, below), (omega (arith, none), (omega (arith, short), (ap length new.4 ∙ token_length id, tt))))
own_back k side most (RetireConnectionId sequence) may says rest = absurd (says.no_retire sequence refl)
own_back k side most (Datagram payload) may says rest =
    let short = may.1 in
    frame_written 49 (Counted ∷ []) (Text payload ∷ []) rest (omega arith) datagram_shape (omega (arith, short), tt)

-- the bytes of such frames are they
pub own_are : (k : ℕ) (side : Side) (most : Option ℕ) (fs : List ControlFrame) → AllByRecursion (MaySend side most) fs → AllByRecursion (λ (f : ControlFrame). SaysFewIds k (control_frame f)) fs
    → AreQuicFrames (control_bytes fs) (map control_frame fs)
own_are k side most [] may says = refl
own_are k side most (f ∷ fs) may says = (control_bytes fs, own_back k side most f may.0 says.0 (control_bytes fs), own_are k side most fs may.1 says.1)

pub own_says : (k : ℕ) (fs : List ControlFrame) (q : QuicFrame) → AllByRecursion (λ (f : ControlFrame). SaysFewIds k (control_frame f)) fs → In q (map control_frame fs) → SaysFewIds k q
own_says k [] q says among = absurd among
own_says k (f ∷ fs) q says (inl same) = subst (λ (z : QuicFrame). SaysFewIds k z) same says.0
own_says k (f ∷ fs) q says (inr later) = own_says k fs q says.1 later

-- ---- what each says

pub token_none : (k : ℕ) (token : List ℕ) → SaysFewIds k (control_frame (NewToken token))
token_none k token = no_ids k (control_frame (NewToken token)) (other_frame 7 (Text token ∷ []) (inr (omega arith)))

pub datagram_none : (k : ℕ) (payload : List ℕ) → SaysFewIds k (control_frame (Datagram payload))
datagram_none k payload = no_ids k (control_frame (Datagram payload)) (other_frame 49 (Text payload ∷ []) (inl (omega arith)))

pub new_says : (k sequence prior : ℕ) (id token : List ℕ) → sequence < 8 → prior ≡ 0 → length id ≡ k → 1 ≤ length id → token ≡ reset_token_of id
    → SaysFewIds k (frame 24 (Num sequence ∷ Num prior ∷ Text id ∷ Text token ∷ []))
new_says k sequence prior id token below none long some own = record {
  new_id = λ n m i t e.
      let values : Num sequence ∷ Num prior ∷ Text id ∷ Text token ∷ [] ≡ Num n ∷ Num m ∷ Text i ∷ Text t ∷ [] = ap (λ (f : QuicFrame). f.values) e in
      let first : sequence ≡ n = cc in
      let second : prior ≡ m = cc in
      let third : id ≡ i = cc in
      let fourth : token ≡ t = cc in (
        subst (λ (z : ℕ). z < 8) first below,
        sym second ∙ none,
        ap length (sym third) ∙ long,
        subst (λ (z : List ℕ). 1 ≤ length z) third some,
        sym fourth ∙ own ∙ ap (λ (z : List ℕ). reset_token_of z) third,
      );
  no_retire = λ n e. let kind : 24 ≡ 25 = ap (λ (f : QuicFrame). f.kind) e in omega (arith, kind);
}
