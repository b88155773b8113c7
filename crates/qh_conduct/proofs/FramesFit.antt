-- The frames that are sent are in range.
use Rattle.std.proofs.Common.{◌≡◌, ◌⊎◌, ℕ, ◌+◌, ◌-◌, ◌<◌, ◌≤◌, ◌^◌, ◌==◌, Bool, true, false, List, [], ◌∷◌, ◌++◌, length, Option, Some, None, if◌then◌else◌, refl, sym, ap, subst, ◌∙◌, arith, inl, inr}
use Rattle.std.proofs.lemmas.Bool.{cases_lt, eqb-true}
use Rattle.std.proofs.lemmas.Option.{same_Some}
use Rattle.qh_conduct.specs.Announced.{IsKeptFrame}
use Rattle.qh_conduct.specs.Announced.IsKeptFrame.{ping, response, ack, stream, reset, stop, max_data, max_stream_data, max_streams, control, close}
use Rattle.qh_core.specs.Control.{MaySend, control_frame}
use Rattle.qh_core.specs.Follows.{Follows, HasSomething, IsWithinLimits}
use Rattle.qh_core.specs.Follows.Reaches.{run as by_run}
use Rattle.qh_core.specs.Inner.{AreOf}
use Rattle.qh_core.specs.Sending.{close_frame}
use Rattle.qh_core.specs.declared.config.ConnConfig.{ConnConfig}
use Rattle.qh_core.specs.declared.control.ControlFrame.{ControlFrame}
use Rattle.qh_core.specs.declared.control.ControlFrame.TheVariants.{NewToken, NewConnectionId, RetireConnectionId, Datagram}
use Rattle.qh_core.specs.declared.inner.Inner.{Inner}
use Rattle.qh_core.specs.declared.state.Close.{Close}
use Rattle.qh_core.specs.declared.state.Close.TheVariants.{Application, Connection}
use Rattle.qh_frame.specs.AckWritten.{AreApart, AreBelow, ack_frame, gaps}
use Rattle.qh_frame.specs.Plain.{plain_of}
use Rattle.qh_frame.specs.Range.{IsInRange}
use Rattle.qh_frame.specs.WrittenForm.{stream_form}
use Rattle.qh_frame.specs.declared.ack.AckRange.{AckRange}
use Rattle.qh_frame.specs.declared.frame.Frame.{Frame}
use Rattle.qh_frame.specs.declared.frame.Frame.TheVariants as kind
use Rattle.qh_halves.specs.Counts.{is_bi, is_own}
use Rattle.qh_space.specs.Receiving.{coming_of}
use Rattle.qh_spec.specs.Acknowledged.{AreRanges}
use Rattle.qh_spec.specs.Carried.{HasRun}
use Rattle.qh_spec.specs.Datagram.{Packet, HasPacket, one_rtt, initial, later}
use Rattle.qh_spec.specs.FrameViews.{stream_of}
use Rattle.qh_spec.specs.Lists.{In}
use Rattle.qh_spec.specs.QuicFrame.{StreamFrame as Run}
use Rattle.qh_spec.specs.QuicFrames.{QuicFrame, Part, Number, Fixed, Counted, ShortCounted, Left, Ranges, Value, Num, Text, Nums, AreQuicFrames, AreValues, IsValue}
use Rattle.qh_spec.specs.Transcript.{Act, HandedIn, HandedOut, Wrote, Finished, Reset, Stopped, ReadBytes, ReadEnd, ReadReset, handed_out}
use Rattle.qh_spec.specs.Varint.{IsVarint, one, two, four, eight}
use Rattle.qh_spec.specs.declared.sides.Dir.TheVariants.{Bi, Uni}
use Rattle.qh_spec.specs.declared.sides.Side.{Side}
use Rattle.qh_spec.specs.declared.sides.Space.TheVariants.{Data}
use Rattle.qh_streams.specs.Streams.{PlainStreams, counts_of, first_limit}
use Rattle.qh_streams.specs.declared.frames.PeerLimits.{PeerLimits}
use Rattle.qh_streams.specs.declared.frames.StreamFrame.{StreamFrame}
use Rattle.qh_streams.specs.declared.frames.StreamFrame.TheVariants as coming
use Rattle.qh_transcript.proofs.ReceivingLists.{none_some}
use Rattle.qh_transcript.proofs.SendingFrames.{form_carries}
use Rattle.qh_transcript.specs.Within.{greatest, stream_given}

-- ---- numbers that are read are below 2^62

varint_small : (bytes : List ℕ) (n : ℕ) → IsVarint bytes n → n < 2 ^ 62
varint_small bytes n (one below is) = omega (arith, below)
varint_small bytes n (two below is) = omega (arith, below)
varint_small bytes n (four below is) = omega (arith, below)
varint_small bytes n (eight below is) = below

same_number : (m n : ℕ) → Num m ≡ Num n → m ≡ n
same_number m n e = cc

value_small : (part : Part) (bytes : List ℕ) (v : Value) (rest : List ℕ) → IsValue part bytes v rest → (n : ℕ) → v ≡ Num n → n < 2 ^ 62
value_small Number bytes (Num m) rest is n e = let small = varint_small is.0 m is.2 in let same = same_number m n e in omega (arith, small, same)
value_small (Fixed k) bytes (Num m) rest is n e = absurd is
value_small Counted bytes (Num m) rest is n e = absurd is
value_small ShortCounted bytes (Num m) rest is n e = absurd is
value_small Left bytes (Num m) rest is n e = absurd is
value_small Ranges bytes (Num m) rest is n e = absurd is
value_small part bytes (Text t) rest is n e = absurd (cc)
value_small part bytes (Nums ns) rest is n e = absurd (cc)

values_small : (parts : List Part) (bytes : List ℕ) (vs : List Value) (rest : List ℕ) → AreValues parts bytes vs rest → (n : ℕ) → In (Num n) vs → n < 2 ^ 62
values_small parts bytes [] rest are n among = absurd among
values_small [] bytes (v ∷ vs) rest are n among = absurd are
values_small (p ∷ ps) bytes (v ∷ vs) rest are n (inl same) = value_small p bytes v are.0 are.1 n same
values_small (p ∷ ps) bytes (v ∷ vs) rest are n (inr more) = values_small ps are.0 vs rest are.2 n more

-- those of the frames of a packet
frames_small : (bytes : List ℕ) (fs : List QuicFrame) → AreQuicFrames bytes fs → (f : QuicFrame) → In f fs → (n : ℕ) → In (Num n) f.values → n < 2 ^ 62
frames_small bytes [] are f among n there = absurd among
frames_small bytes (g ∷ fs) are f (inl same) n there = values_small are.1.shape are.1.fields g.values are.0 are.1.values n (subst (λ (h : QuicFrame). In (Num n) h.values) (sym same) there)
frames_small bytes (g ∷ fs) are f (inr more) n there = frames_small are.0 fs are.2 f more n there

packet_reads : (k : ℕ) (p : Packet) (d : List ℕ) → HasPacket k p d → (bytes : List ℕ) × AreQuicFrames bytes p.frames
packet_reads k p d (one_rtt b h) = (h.short.frames, h.content.frames)
packet_reads k p d (initial front rest b e i) = (i.frame_bytes, i.content.frames)
packet_reads k p d (later front rest b first body e form h) = packet_reads k p rest h

packet_small : (k : ℕ) (p : Packet) (d : List ℕ) → HasPacket k p d → (f : QuicFrame) → In f p.frames → (n : ℕ) → In (Num n) f.values → n < 2 ^ 62
packet_small k p d has = let reads = packet_reads k p d has in frames_small reads.0 p.frames reads.1

-- ---- the limits that were given are below 2^62

maybe_small : (here : Bool) (limit : ℕ) → limit < 2 ^ 62 → (if here then limit else 0) < 2 ^ 62
maybe_small true limit small = small
maybe_small false limit small = omega arith

given_small : (f : Frame) (c : StreamFrame) (id : ℕ) → coming_of f ≡ Some c → ((n : ℕ) → In (Num n) (plain_of f).values → n < 2 ^ 62) → stream_given id c < 2 ^ 62
given_small kind.Padding f id is small = none_some _ None f refl is
given_small kind.Ping f id is small = none_some _ None f refl is
given_small (kind.Ack a) f id is small = none_some _ None f refl is
given_small (kind.ResetStream s code size) f id is small = subst (λ (g : StreamFrame). stream_given id g < 2 ^ 62) (same_Some (coming.Reset s code size) f is) (omega arith)
given_small (kind.StopSending s code) f id is small = subst (λ (g : StreamFrame). stream_given id g < 2 ^ 62) (same_Some (coming.Stop s code) f is) (omega arith)
given_small (kind.Crypto offset payload) f id is small = none_some _ None f refl is
given_small (kind.NewToken token) f id is small = none_some _ None f refl is
given_small (kind.Stream s) f id is small = subst (λ (g : StreamFrame). stream_given id g < 2 ^ 62) (same_Some (coming.Stream s.id s.offset s.payload.now s.fin) f is) (omega arith)
given_small (kind.MaxData limit) f id is small = subst (λ (g : StreamFrame). stream_given id g < 2 ^ 62) (same_Some (coming.MaxData limit) f is) (omega arith)
given_small (kind.MaxStreamData s limit) f id is small = subst (λ (g : StreamFrame). stream_given id g < 2 ^ 62) (same_Some (coming.MaxStreamData s limit) f is) (maybe_small (s.0 == id) limit (small limit (inr (inl refl))))
given_small (kind.MaxStreams dir count) f id is small = subst (λ (g : StreamFrame). stream_given id g < 2 ^ 62) (same_Some (coming.MaxStreams dir count) f is) (omega arith)
given_small (kind.DataBlocked limit) f id is small = none_some _ None f refl is
given_small (kind.StreamDataBlocked s limit) f id is small = none_some _ None f refl is
given_small (kind.StreamsBlocked dir count) f id is small = none_some _ None f refl is
given_small (kind.NewConnectionId sequence prior id_bytes token) f id is small = none_some _ None f refl is
given_small (kind.RetireConnectionId sequence) f id is small = none_some _ None f refl is
given_small (kind.PathChallenge bytes) f id is small = none_some _ None f refl is
given_small (kind.PathResponse bytes) f id is small = none_some _ None f refl is
given_small (kind.ConnectionClose code frame_type reason) f id is small = none_some _ None f refl is
given_small (kind.ApplicationClose code reason) f id is small = none_some _ None f refl is
given_small kind.HandshakeDone f id is small = none_some _ None f refl is
given_small (kind.Datagram payload has_length) f id is small = none_some _ None f refl is

greatest_small : (id first : ℕ) (given : List StreamFrame) → first < 2 ^ 62 → ((f : StreamFrame) → In f given → stream_given id f < 2 ^ 62) → greatest (stream_given id) first given < 2 ^ 62
greatest_small id first [] small all = small
greatest_small id first (f ∷ fs) small all = let here = all f (inl refl) in let more = greatest_small id first fs small (λ g is. all g (inr is)) in omega (arith, here, more)

one_of_two : (two_way own : Bool) (a b c : ℕ) → a < 2 ^ 62 → b < 2 ^ 62 → c < 2 ^ 62 → (if two_way then (if own then a else b) else c) < 2 ^ 62
one_of_two true true a b c x y z = x
one_of_two true false a b c x y z = y
one_of_two false own a b c x y z = z

first_small : (side : Side) (config : ConnConfig) (s : PlainStreams) (id : ℕ) → AreOf side config.peer s → first_limit s id < 2 ^ 62
first_small side config s id of =
    let peer : s.peer ≡ config.peer = of.peer_is in
    let said = of.said in
    let a = ap (λ (p : PeerLimits). p.bidi_remote) peer in
    let b = ap (λ (p : PeerLimits). p.bidi_local) peer in
    let c = ap (λ (p : PeerLimits). p.uni) peer in
    one_of_two (is_bi id) (is_own s.side id) s.peer.bidi_remote s.peer.bidi_local s.peer.uni (omega (arith, a, said.bidi_remote)) (omega (arith, b, said.bidi_local)) (omega (arith, c, said.uni))

-- ---- a run that was handed out ends below 2^62

front_act : (a : Act) (t : List Act) (d : List ℕ) → (before : List Act) × (after : List Act) × (t ≡ before ++ HandedOut d ∷ after) → (before : List Act) × (after : List Act) × (a ∷ t ≡ before ++ HandedOut d ∷ after)
front_act a t d p = (a ∷ p.0, p.1, ap (λ (z : List Act). a ∷ z) p.2)

where_out : (t : List Act) (d : List ℕ) → In d (handed_out t) → (before : List Act) × (after : List Act) × (t ≡ before ++ HandedOut d ∷ after)
where_out [] d among = absurd among
where_out (HandedOut e ∷ t) d (inl same) = ([], t, ap (λ (z : List ℕ). HandedOut z ∷ t) same)
where_out (HandedOut e ∷ t) d (inr more) = front_act (HandedOut e) t d (where_out t d more)
where_out (HandedIn e ∷ t) d among = front_act (HandedIn e) t d (where_out t d among)
where_out (Wrote s b ∷ t) d among = front_act (Wrote s b) t d (where_out t d among)
where_out (Finished s ∷ t) d among = front_act (Finished s) t d (where_out t d among)
where_out (Reset s code ∷ t) d among = front_act (Reset s code) t d (where_out t d among)
where_out (Stopped s code ∷ t) d among = front_act (Stopped s code) t d (where_out t d among)
where_out (ReadBytes s o b ∷ t) d among = front_act (ReadBytes s o b) t d (where_out t d among)
where_out (ReadEnd s ∷ t) d among = front_act (ReadEnd s) t d (where_out t d among)
where_out (ReadReset s code ∷ t) d among = front_act (ReadReset s code) t d (where_out t d among)

run_fits : (own peer : ℕ) (side : Side) (config : ConnConfig) (before : List Act) (d : List ℕ) (run : Run) → IsWithinLimits own peer side config before d → HasRun peer (d ∷ []) side run → HasSomething run
    → run.offset + length run.payload < 2 ^ 62
run_fits own peer side config before d run w has some =
    let bound = w.stream_bytes run.id (run.offset + length run.payload) (by_run run has some) in
    let small = greatest_small run.id (first_limit w.streams run.id) w.given (first_small side config w.streams run.id w.of) (λ f is.
    let came = w.came f is in
    given_small came.frame f run.id came.is (packet_small own came.has.packet came.has.datagram came.has.has (plain_of came.frame) came.has.frame_among)) in
    omega (arith, bound, small)

-- a number in a form that is written
offset_among : (zero : Bool) (id offset : ℕ) (payload : List ℕ) → (offset == 0) ≡ zero → (offset ≡ 0) ⊎ In (Num offset) (if zero then Num id ∷ Text payload ∷ [] else Num id ∷ Num offset ∷ Text payload ∷ [])
offset_among true id offset payload e = inl (eqb-true offset 0 e)
offset_among false id offset payload e = inr (inr (inl refl))

stream_fits : (own peer : ℕ) (side : Side) (config : ConnConfig) (before : List Act) (d : List ℕ) (p : Packet) (f : QuicFrame) (run : Run) → IsWithinLimits own peer side config before d → HasPacket peer p d → p.space ≡ Data → p.sender ≡ side
    → In f p.frames → f ≡ stream_form run → run.offset + length run.payload < 2 ^ 62
stream_fits own peer side config before d p f run w has space sender among is = elim (cases_lt 0 (length run.payload)) [
  | inl some ↦ run_fits own peer side config before d run w (record {
    datagram = d;
    among = inl refl;
    packet = p;
    has = has;
    space_is = space;
    sender_is = sender;
    frame = f;
    frame_among = among;
    is = ap stream_of is ∙ form_carries (run.offset == 0) run.fin run.id run.offset run.payload refl;
  }) (inl some)
  | inr none ↦ elim (offset_among (run.offset == 0) run.id run.offset run.payload refl) [
    | inl zero ↦ omega (arith, none, zero)
    | inr there ↦ let small = packet_small peer p d has f among run.offset (subst (λ (g : QuicFrame). In (Num run.offset) g.values) (sym is) there) in omega (arith, none, small)
  ]
]

-- ---- each frame that may be sent is in range

ranges_fit : (r : AckRange) (more : List AckRange) → r.least ≤ r.greatest → AreBelow r.least more → AreRanges r.greatest ((r.greatest - r.least) ∷ gaps r.least more)
ranges_fit r [] order below = omega arith
ranges_fit r (s ∷ more) order below = let high = below.1 in (s.greatest, omega (arith, high, order), ranges_fit s more below.0 below.2)

acks_fit : (ranges : List AckRange) → AreApart ranges → IsInRange (ack_frame 0 ranges)
acks_fit [] apart = absurd apart
acks_fit (r ∷ more) apart = ranges_fit r more apart.0 apart.2

form_fits : (zero fin : Bool) (id offset : ℕ) (payload : List ℕ) → (offset == 0) ≡ zero → offset + length payload < 2 ^ 62 → IsInRange (stream_form (record { id = id; offset = offset; payload = payload; fin = fin }))
form_fits true true id offset payload e small = rw e (omega (arith, small))
form_fits true false id offset payload e small = rw e (omega (arith, small))
form_fits false true id offset payload e small = rw e small
form_fits false false id offset payload e small = rw e small

pub control_fits : (side : Side) (peer_datagram : Option ℕ) (g : ControlFrame) → MaySend side peer_datagram g → IsInRange (control_frame g)
control_fits side peer_datagram (NewToken token) may = may.1
control_fits side peer_datagram (NewConnectionId sequence prior id reset_token) may = may
control_fits side peer_datagram (RetireConnectionId sequence) may = tt
control_fits side peer_datagram (Datagram payload) may = tt

module _ {S : Type 0} (c : Inner S) (came : List (List ℕ)) where
  close_fits : (reason : Close) → IsInRange (close_frame reason)
  close_fits (Connection reason) = tt
  close_fits (Application reason) = tt

  pub frame_fits : (f : QuicFrame) → ((two_way : Bool) → (counts_of c.space.streams two_way).announced.value ≤ 2 ^ 60) → ((run : Run) → f ≡ stream_form run → run.offset + length run.payload < 2 ^ 62) → IsKeptFrame c came f → IsInRange f
  frame_fits f counts fits (ping is) = subst (λ (g : QuicFrame). IsInRange g) (sym is) tt
  frame_fits f counts fits (response echoed is) = subst (λ (g : QuicFrame). IsInRange g) (sym is) tt
  frame_fits f counts fits (ack ranges is apart all) = subst (λ (g : QuicFrame). IsInRange g) (sym is) (acks_fit ranges apart)
  frame_fits f counts fits (stream run is named) = subst (λ (g : QuicFrame). IsInRange g) (sym is) (form_fits (run.offset == 0) run.fin run.id run.offset run.payload refl (fits run is))
  frame_fits f counts fits (reset id code size is named) = subst (λ (g : QuicFrame). IsInRange g) (sym is) tt
  frame_fits f counts fits (stop id code is named) = subst (λ (g : QuicFrame). IsInRange g) (sym is) tt
  frame_fits f counts fits (max_data limit is below) = subst (λ (g : QuicFrame). IsInRange g) (sym is) tt
  frame_fits f counts fits (max_stream_data id limit is named below) = subst (λ (g : QuicFrame). IsInRange g) (sym is) tt
  frame_fits f counts fits (max_streams Bi count is below) = subst (λ (g : QuicFrame). IsInRange g) (sym is) (let bound = counts true in omega (arith, below, bound))
  frame_fits f counts fits (max_streams Uni count is below) = subst (λ (g : QuicFrame). IsInRange g) (sym is) (let bound = counts false in omega (arith, below, bound))
  frame_fits f counts fits (control g is may) = subst (λ (q : QuicFrame). IsInRange q) (sym is) (control_fits c.side c.config.peer_datagram g may)
  frame_fits f counts fits (close reason is shut) = subst (λ (g : QuicFrame). IsInRange g) (sym is) (close_fits reason)

-- a STREAM frame of a datagram that was handed out
pub handed_fits : {S : Type 0} (c : Inner S) (t : List Act) (d : List ℕ) (p : Packet) → Follows c t → In d (handed_out t) → HasPacket (length c.remote_id) p d → p.space ≡ Data → p.sender ≡ c.side
    → (f : QuicFrame) → In f p.frames → (run : Run) → f ≡ stream_form run → run.offset + length run.payload < 2 ^ 62
unfolding Follows
handed_fits c t d p follows among has space sender f there run is =
    let at = where_out t d among in
    stream_fits (length c.local_id) (length c.remote_id) c.side c.config at.0 d p f run (follows.each_within at.0 at.1 d at.2) has space sender there is
