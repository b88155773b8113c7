-- What is written of streams, frame after frame.
use Rattle.std.proofs.Common.{◌≡◌, ℕ, ◌+◌, ◌-◌, ◌<◌, ◌≤◌, ◌^◌, append_assoc, ◌==◌, nat_lt, Bool, true, false, List, [], ◌∷◌, ◌++◌, length, take, Option, Some, None, if◌then◌else◌, refl, sym, ap, ◌∙◌, arith, inl, inr, subst}
use Rattle.std.specs.Option.{IfSome}
use Rattle.std.proofs.Math.Seq.{take-append_seam}
use Rattle.std.proofs.lemmas.Bool.{cases_Bool, cases_lt, lt-ltb, le-ltb}
use borrow.Author.Tests.{ltb-true}
use Rattle.std.proofs.lemmas.List.{append-nil, length-append, length-take, length-drop, take-append-le}
use Rattle.qh_spec.specs.QuicFrame.{StreamFrame as CarriedStream}
use Rattle.qh_spec.specs.QuicFrames.{QuicFrame}
use Rattle.qh_spec.specs.Varint.{varint}
use Rattle.qh_frame.specs.FrameBytes.{IsPut, frame_bytes}
use Rattle.qh_frame.specs.WrittenForm.{stream_form}
use Rattle.qh_frame.proofs.StreamsWritten.{start_shape, later_shape}
use Rattle.qh_buffers.specs.SendBuffer.{PlainSendBuffer, bytes_between}
use Rattle.qh_half.specs.declared.send.Outgoing.{Outgoing}
use Rattle.qh_half.specs.Send.{PlainSend, IsHeld}
use Rattle.qh_halves.specs.Counts.{count_limit, AreCounts, is_own, is_bi, index_of}
use Rattle.qh_halves.specs.Limit.{is_due}
use Rattle.qh_halves.specs.SendHalves.{PlainSendHalves, half_holds, GivesPiece, IsSentNext, IsOutNow, HasForm, NoneWaits}
use Rattle.qh_halves.specs.declared.send_halves.Transmission.{Transmission}
use Rattle.qh_halves.specs.declared.send_halves.Transmission.TheVariants.{Stream, Reset}
use Rattle.qh_streams.specs.declared.frames.SentFrame.{SentFrame}
use Rattle.qh_streams.proofs.StreamsKept.{are_counts}
use Rattle.qh_half.specs.Recv.{PlainRecv}
use Rattle.qh_halves.specs.RecvHalves.{PlainRecvHalves, data_limit, recv_at}
use Rattle.qh_streams.specs.declared.frames.SentFrame.TheVariants as sent
use Rattle.qh_halves.specs.declared.counts.StreamCounts.{StreamCounts}
use Rattle.qh_buffers.specs.declared.send_buffer.Mark.TheVariants.{Sent}
use Rattle.qh_spec.specs.declared.sides.Dir.{Dir}
use Rattle.qh_streams.specs.Streams.{PlainStreams, AreStreams, counts_of, with_counts, is_two_way, was_opened, half_bytes, max_frame_header, payload_length, IsHandedOver, IsOf, IsReadBack, IsOut, IsOutHeld, KeepsOut, AreAllOut, AreWritten, written_frame}
use Rattle.qh_streams.specs.Streams.AreWritten.{none as none_written, more as more_written}
use Rattle.qh_streams.specs.Streams.IsOf.{stream as of_stream, reset as of_reset}
use Rattle.qh_streams.specs.declared.streams.writing.Phase.TheVariants as phase
use Rattle.qh_streams.specs.Streams.IsHandedOver.{stream as stream_handed, reset as reset_handed, stop as stop_handed, max_stream_data as max_stream_data_handed, max_data as max_data_handed, max_streams as max_streams_handed}

-- ---- a STREAM frame

-- a STREAM frame has its payload's bytes
payload_within : (s : CarriedStream) → length s.payload ≤ length (frame_bytes (stream_form s))
unfolding frame_bytes
payload_within s = elim (cases_Bool (s.offset == 0)) [
  | inl start ↦ rw (start, start_shape s.fin (10 + 0 + (if s.fin then 1 else 0)) refl) (simp length-append (omega arith))
  | inr later ↦ rw (later, later_shape s.fin (10 + 4 + (if s.fin then 1 else 0)) refl) (simp length-append (omega arith))
]

-- what is put behind a head makes the frame whole
abbrev pub IsHead : (old mid : List ℕ) → (id offset count : ℕ) → (fin : Bool) → Type 0
IsHead old mid id offset count fin = (payload : List ℕ) → length payload ≡ count
    → IsPut old (mid ++ payload) (stream_form (record { id = id; offset = offset; payload = payload; fin = fin })) (25 + count)

between_length : (v : PlainSendBuffer) (from to : ℕ) → IsHeld v from to → length (bytes_between v from to) ≡ to - from
between_length v from to h = simp (length-take, length-drop) (omega arith)

-- the bytes of a piece that are held are as many as it has
pub piece_length : (h : Option PlainSend) (piece : Outgoing) → half_holds h piece → length (half_bytes h piece) ≡ piece.offsets.end - piece.offsets.start
piece_length None piece held = absurd held
piece_length (Some h) piece held = between_length h.buffer piece.offsets.start piece.offsets.end held

-- what stood in front of a head still does
pub head_behind : (h : Option PlainSend) (piece : Outgoing) (old mid : List ℕ) (id offset : ℕ) → half_holds h piece
    → IsHead old mid id offset (piece.offsets.end - piece.offsets.start) piece.fin → take (length old) mid ≡ old
head_behind h piece old mid id offset held head =
    let payload = half_bytes h piece in
    let s : CarriedStream = record { id = id; offset = offset; payload = payload; fin = piece.fin } in
    let whole = (head payload (piece_length h piece held)).whole in
    let long = payload_within s in
    let sum = ap length whole in
    let sum_left = length-append mid payload in
    let sum_right = length-append old (frame_bytes (stream_form s)) in
    let fits : length old ≤ length mid = omega (arith, sum, sum_left, sum_right, long) in
    sym (take-append-le (length old) mid payload fits) ∙ ap (take (length old)) whole ∙ take-append_seam old (frame_bytes (stream_form s))

-- the frame of a piece stands behind its head
pub piece_put : (h : Option PlainSend) (piece : Outgoing) (old mid new : List ℕ) (id offset : ℕ) → half_holds h piece → offset ≡ piece.offsets.start
    → IsHead old mid id offset (piece.offsets.end - piece.offsets.start) piece.fin
    → IfSome h (λ (h : PlainSend). new ≡ mid ++ bytes_between h.buffer piece.offsets.start piece.offsets.end)
    → IsPut old new (stream_form (record { id = id; offset = piece.offsets.start; payload = half_bytes h piece; fin = piece.fin })) (25 + (piece.offsets.end - piece.offsets.start))
piece_put None piece old mid new id offset held is head e = absurd held
piece_put (Some h) piece old mid new id offset held is head e =
    let payload = half_bytes (Some h) piece in
    rw e (subst (λ (z : ℕ). IsPut old (mid ++ payload) (stream_form (record { id = id; offset = z; payload = payload; fin = piece.fin })) (25 + (piece.offsets.end - piece.offsets.start))) is
    (head payload (piece_length (Some h) piece held)))

-- ---- MAX frames

-- the limit of the connection is handed over
pub limit_handed : (s : PlainStreams) (mid new : PlainRecvHalves) (limit : ℕ) → mid ≡ s.recv
    → (limit ≡ data_limit mid) × (is_due mid.announced limit ≡ true) × (new ≡ record mid { announced = record { value = limit; mark = Sent } })
    → (room : ℕ) → IsHandedOver s (record s { recv = new }) room (sent.MaxData limit)
limit_handed s mid new limit same told room =
    max_data_handed limit (rw same at told.0) (rw same at told.1)
    (ap (λ (r : PlainRecvHalves). record s { recv = r }) (rw same at told.2))

-- the count of streams is handed over
pub count_handed : (s new : PlainStreams) (dir : Dir) (c : StreamCounts) (limit count : ℕ) → c ≡ counts_of s (is_two_way dir) → limit ≡ count_limit c → count ≡ limit
    → is_due c.announced limit ≡ true → new ≡ with_counts s (is_two_way dir) (record c { announced = record { value = limit; mark = Sent } })
    → (room : ℕ) → IsHandedOver s new room (sent.MaxStreams dir count)
count_handed s new dir c limit count c_is limit_is count_is due new_is room =
    max_streams_handed dir count (count_is ∙ limit_is ∙ ap count_limit c_is)
    (rw (count_is, ← c_is) due) (rw (count_is, ← c_is) new_is)

-- a count has a form on the wire
pub limit_small : (c : StreamCounts) (limit : ℕ) → AreCounts c → limit ≡ count_limit c → limit < 4611686018427387904
limit_small c limit are e = omega (arith, are.announced, e)

-- ---- STREAM and RESET_STREAM frames

abbrev pub frame_of : (id : ℕ) → Transmission → SentFrame
frame_of id (Stream piece) = sent.Stream (record { 0 = id }) piece
frame_of id (Reset reset) = sent.ResetStream (record { 0 = id }) reset

pub of_sending : (id : ℕ) (t : Transmission) → IsOf phase.Sending (frame_of id t)
of_sending id (Stream piece) = of_stream _ piece
of_sending id (Reset reset) = of_reset _ reset

pub streams_same : (s : PlainStreams) (new : PlainSendHalves) → new ≡ s.send → record s { send = new } ≡ s
streams_same s new same = ap (λ (h : PlainSendHalves). record s { send = h }) same

pub sent_handed : (s : PlainStreams) (new : PlainSendHalves) (room id : ℕ) (t : Transmission) → IsSentNext s.send new (room - max_frame_header) id t
    → IsHandedOver s (record s { send = new }) room (frame_of id t)
sent_handed s new room id (Stream piece) next = stream_handed _ piece next refl
sent_handed s new room id (Reset reset) next = reset_handed _ reset next refl

index_small : (own : Bool) (c : StreamCounts) (k : ℕ) → AreCounts c → nat_lt (index_of k) (if own then c.opened else c.arrived) ≡ true → k < 4611686018427387904
index_small true c k are h = let less = ltb-true _ _ h in omega (arith, less, are.opened, are.max_opened)
index_small false c k are h = let less = ltb-true _ _ h in omega (arith, less, are.arrived, are.announced)

-- the id of a stream that was opened has a form on the wire
pub id_small : {s : PlainStreams} {capacity : ℕ} → AreStreams s capacity → (k : ℕ) → was_opened s k ≡ true → k < 4611686018427387904
id_small {s = s} ok k was = index_small (is_own s.side k) (counts_of s (is_bi k)) k (are_counts ok (is_bi k)) was

-- the same of one with a receiving half
pub recv_id_small : {s : PlainStreams} {capacity : ℕ} → AreStreams s capacity → (k : ℕ) (half : PlainRecv) → recv_at s.recv k ≡ Some half → k < 4611686018427387904
recv_id_small ok k half was = id_small ok k (ok.recv_live k (rw was refl)).0

pub sent_out : {s : PlainStreams} {capacity : ℕ} (new : PlainSendHalves) (room id : ℕ) (t : Transmission) → AreStreams s capacity → IsSentNext s.send new room id t
    → IsOutNow new id t → HasForm t → IsOutHeld (record s { send = new }) (frame_of id t)
sent_out new room id (Stream piece) ok next out form =
    let was = (ok.send_live id (rw next.step.was refl)).0 in
    ((was, out.0), id_small ok id was, out.1, form)
sent_out new room id (Reset reset) ok next out form = id_small ok id (ok.send_live id (rw next.step.was refl)).0

-- ---- one frame

piece_fits : (h next : PlainSend) (room : ℕ) (piece : Outgoing) → GivesPiece room piece h next → piece.offsets.end - piece.offsets.start ≤ room
piece_fits h next room piece (inl out) = let fits = out.bytes_are.fits in omega (arith, fits)
piece_fits h next room piece (inr out) = let at_end = out.at_end.1 in omega (arith, at_end)

-- the frame that is handed over has room
pub frame_fits : (old new : PlainStreams) (room : ℕ) (f : SentFrame) → IsHandedOver old new room f → max_frame_header < room → max_frame_header + payload_length f ≤ room
frame_fits old new room f (stream_handed id piece next rest) h = let fits = piece_fits next.step.half next.step.next (room - max_frame_header) piece next.step.step in omega (arith, fits, h)
frame_fits old new room f (reset_handed id reset next rest) h = omega (arith, h)
frame_fits old new room f (stop_handed id code step rest) h = omega (arith, h)
frame_fits old new room f (max_stream_data_handed id limit step rest) h = omega (arith, h)
frame_fits old new room f (max_data_handed limit is due rest) h = omega (arith, h)
frame_fits old new room f (max_streams_handed dir count is due rest) h = omega (arith, h)

pub held_out : (s : PlainStreams) (f : SentFrame) → IsOutHeld s f → IsOut s f
held_out s (sent.Stream id piece) out = out.0
held_out s (sent.ResetStream id reset) out = tt
held_out s (sent.StopSending id code) out = tt
held_out s (sent.MaxData limit) out = tt
held_out s (sent.MaxStreamData id limit) out = tt
held_out s (sent.MaxStreams dir count) out = tt

-- ---- frame after frame

varint_some : (n : ℕ) → 0 < length (varint n)
unfolding varint
varint_some n =
    elim (cases_lt n (2 ^ 6)) [
      | inl h ↦ rw (lt-ltb n (2 ^ 6) h) (omega arith)
      | inr g ↦ elim (cases_lt n (2 ^ 14)) [
        | inl h ↦ rw (le-ltb n (2 ^ 6) g, lt-ltb n (2 ^ 14) h) (omega arith)
        | inr g' ↦ elim (cases_lt n (2 ^ 30)) [
          | inl h ↦ rw (le-ltb n (2 ^ 6) g, le-ltb n (2 ^ 14) g', lt-ltb n (2 ^ 30) h) (omega arith)
          | inr g'' ↦ rw (le-ltb n (2 ^ 6) g, le-ltb n (2 ^ 14) g', le-ltb n (2 ^ 30) g'') (omega arith)
        ]
      ]
    ]

-- a frame has a byte, that of its type
pub frame_some : (f : QuicFrame) → 0 < length (frame_bytes f)
unfolding frame_bytes
frame_some f = let some = varint_some f.kind in rw length-append (omega (arith, some))

-- one frame more
pub written_more : (room left : ℕ) (old mid new : PlainStreams) (fs : List SentFrame) (bytes : List ℕ) (f : SentFrame) → AreWritten room old mid fs bytes
    → left ≡ room - length bytes → IsHandedOver mid new left f → length (frame_bytes (written_frame new f)) ≤ left → IsReadBack (written_frame new f)
    → AreWritten room old new (fs ++ (f ∷ [])) (bytes ++ frame_bytes (written_frame new f))
written_more room left old mid new fs bytes f (none_written _ _) e handed fits back =
    let same : left ≡ room = omega (arith, e) in
    rw (← append-nil (frame_bytes (written_frame new f)))
    (more_written room mid new new f [] [] (rw same at handed) (omega (arith, fits, same)) back (none_written _ new))
written_more room left old mid new fs bytes f (more_written _ _ m _ g gs rest first first_fits first_back others) e handed fits back =
    let head = frame_bytes (written_frame m g) in
    let sum = length-append head rest in
    rw (append_assoc head rest (frame_bytes (written_frame new f)))
    (more_written room old m new g (gs ++ (f ∷ [])) (rest ++ frame_bytes (written_frame new f)) first first_fits first_back
    (written_more (room - length head) left m mid new gs rest f others (omega (arith, e, sum)) handed fits back))

pub kept_all_out : (old new : PlainStreams) → KeepsOut old new → (fs : List SentFrame) → AreAllOut old fs → AreAllOut new fs
kept_all_out old new keeps [] h = tt
kept_all_out old new keeps (f ∷ fs) h = (keeps f h.0, kept_all_out old new keeps fs h.1)

pub all_out_more : (s : PlainStreams) (fs : List SentFrame) (f : SentFrame) → AreAllOut s fs → IsOut s f → AreAllOut s (fs ++ (f ∷ []))
all_out_more s [] f h out = (out, tt)
all_out_more s (g ∷ gs) f h out = (h.0, all_out_more s gs f h.1 out)
