-- What the other end wrote, and the streams that it opened, lie within the limits that this end announced.
use Rattle.std.proofs.Common.{◌≡◌, ℕ, ◌-◌, ◌<◌, ◌≤◌, ◌^◌, Bool, true, false, List, [], ◌∷◌, length, Some, None, if◌then◌else◌, refl, sym, ap, subst, ◌∙◌, arith, inl, inr}
use Rattle.std.specs.Prelude.{max, min}
use Rattle.std.proofs.lemmas.Bool.{both_ways, cases_Bool}
use Rattle.std.proofs.lemmas.Bool.Decides.{eqb_tells}
use Rattle.std.proofs.lemmas.Option.{same_Some}
use Rattle.qh_conduct.proofs.PeersKept.{Says, plain_is, says_coming}
use Rattle.qh_conduct.specs.Announced.{Announced}
use Rattle.qh_conduct.specs.Granted.{AreGranted}
use Rattle.qh_conduct.specs.Peers.{ArePeers}
use Rattle.qh_core.specs.Config.{bounded, peer_of}
use Rattle.qh_core.specs.Follows.{Following, HasComing, HasFrame}
use Rattle.qh_core.specs.declared.inner.Inner.{Inner}
use Rattle.qh_frame.specs.Plain.{frame}
use Rattle.qh_half.specs.Recv.{PlainRecv, new_recv}
use Rattle.qh_halves.specs.Counts.{has_recv, is_bi, is_own}
use Rattle.qh_halves.specs.RecvHalves.{recv_at}
use Rattle.qh_spec.specs.Datagram.{Packet, HasPacket, one_rtt, initial, later}
use Rattle.qh_spec.specs.Link.{other}
use Rattle.qh_spec.specs.Lists.{In}
use Rattle.qh_spec.specs.QuicFrames.{Part, Number, QuicFrame, Num, AreQuicFrames, AreValues, IsQuicFrame, shape_of}
use Rattle.qh_spec.specs.Transcript.{Act, handed_in, handed_out, written}
use Rattle.qh_spec.specs.Varint.{IsVarint, one, two, four, eight}
use Rattle.qh_spec.specs.declared.sides.Dir.TheVariants.{Bi, Uni}
use Rattle.qh_spec.specs.declared.sides.Side.{Side}
use Rattle.qh_streams.specs.Streams.{counts_of, first_limit, recv_or_new, was_opened}
use Rattle.qh_streams.specs.declared.frames.PeerLimits.{PeerLimits}
use Rattle.qh_streams.specs.declared.frames.StreamFrame.{StreamFrame}
use Rattle.qh_streams.specs.declared.frames.StreamFrame.TheVariants as coming
use Rattle.qh_transcript.specs.Within.{count_given, data_given, greatest, stream_given, written_in_all}

-- ---- the greatest of limits

max_below : (a b bound : ℕ) → a ≤ bound → b ≤ bound → max a b ≤ bound
max_below a b bound x y = grind (arith, x, y)

greatest_below : (given : StreamFrame → ℕ) (first bound : ℕ) (fs : List StreamFrame) → first ≤ bound → ((f : StreamFrame) → In f fs → given f ≤ bound) → greatest given first fs ≤ bound
greatest_below given first bound [] low each = low
greatest_below given first bound (f ∷ fs) low each = max_below (given f) (greatest given first fs) bound (each f (inl refl)) (greatest_below given first bound fs low (λ g is. each g (inr is)))

min_fits : (v most n : ℕ) → v ≤ most → min v most ≤ n → v ≤ n
min_fits v most n fits low = grind (arith, fits, low)

bounded_small : (v : ℕ) → bounded v ≤ 2 ^ 62 - 1
bounded_small v = grind arith

within_by : (a b c : ℕ) → a ≤ b → b ≤ c → a ≤ c
within_by a b c x y = omega (arith, x, y)

-- ---- a limit in a frame is one that a frame can bear

varint_small : (bytes : List ℕ) (n : ℕ) → IsVarint bytes n → n < 2 ^ 62
varint_small bytes n (one small e) = omega (arith, small)
varint_small bytes n (two small e) = omega (arith, small)
varint_small bytes n (four small e) = omega (arith, small)
varint_small bytes n (eight small e) = small

frame_there : (bytes : List ℕ) (fs : List QuicFrame) (q : QuicFrame) → AreQuicFrames bytes fs → In q fs → (b : List ℕ) × (r : List ℕ) × IsQuicFrame b q r
frame_there bytes (f ∷ fs) q are (inl same) = (bytes, are.0, subst (λ (f : QuicFrame). IsQuicFrame bytes f are.0) same are.1)
frame_there bytes (f ∷ fs) q are (inr more) = frame_there are.0 fs q are.2 more
frame_there bytes [] q are there = absurd there

packet_frame : (own : ℕ) (p : Packet) (d : List ℕ) (q : QuicFrame) → HasPacket own p d → In q p.frames → (b : List ℕ) × (r : List ℕ) × IsQuicFrame b q r
packet_frame own p d q (one_rtt b h) there = frame_there h.short.frames p.frames q h.content.frames there
packet_frame own p d q (initial front rest b f i) there = frame_there i.frame_bytes p.frames q i.content.frames there
packet_frame own p d q (later front rest b m body f i h) there = packet_frame own p rest q h there

limit_shape : shape_of 16 ≡ Some (Number ∷ [])
unfolding shape_of
limit_shape = refl

same_shape : (a b : List Part) → Some a ≡ Some b → a ≡ b
same_shape a b e = cc

limit_small : (own : ℕ) (datagrams : List (List ℕ)) (side : Side) (limit : ℕ) → HasFrame own datagrams side (frame 16 (Num limit ∷ [])) → limit < 2 ^ 62
limit_small own datagrams side limit has =
    let there = packet_frame own has.packet has.datagram (frame 16 (Num limit ∷ [])) has.has has.frame_among in
    let is : IsQuicFrame there.0 (frame 16 (Num limit ∷ [])) there.1 = there.2 in
    let shape = same_shape is.shape (Number ∷ []) (sym is.shaped ∙ limit_shape) in
    let values : AreValues (Number ∷ []) is.fields (Num limit ∷ []) there.1 = subst (λ (s : List Part). AreValues s is.fields (Num limit ∷ []) there.1) shape is.values in
    let number = values.1 in
    varint_small number.0 limit number.2

data_small : (own : ℕ) (datagrams : List (List ℕ)) (side : Side) (f : StreamFrame) → HasComing own datagrams side f → data_given f ≤ 2 ^ 62 - 1
data_small own datagrams side (coming.MaxData limit) has =
    let less = limit_small own datagrams side limit (subst (λ (q : QuicFrame). HasFrame own datagrams side q) (plain_is has.frame _ has.is) has.has) in
    omega (arith, less)
data_small own datagrams side (coming.Stream id offset payload fin) has = omega arith
data_small own datagrams side (coming.Reset id code size) has = omega arith
data_small own datagrams side (coming.Stop id code) has = omega arith
data_small own datagrams side (coming.MaxStreamData id limit) has = omega arith
data_small own datagrams side (coming.MaxStreams dir count) has = omega arith

-- ---- what this end's frames give isn't past what it announced

module _ {S : Type 0} (c : Inner S) (came : List (List ℕ)) where
  data_below : (f : StreamFrame) → Says c came f → data_given f ≤ c.space.streams.recv.announced.value
  data_below (coming.MaxData limit) says = says
  data_below (coming.Stream id offset payload fin) says = omega arith
  data_below (coming.Reset id code size) says = omega arith
  data_below (coming.Stop id code) says = omega arith
  data_below (coming.MaxStreamData id limit) says = omega arith
  data_below (coming.MaxStreams dir count) says = omega arith

  count_below : (two_way : Bool) (f : StreamFrame) → Says c came f → count_given two_way f ≤ (counts_of c.space.streams two_way).announced.value
  count_below true (coming.MaxStreams Bi count) says = says
  count_below true (coming.MaxStreams Uni count) says = omega arith
  count_below false (coming.MaxStreams Bi count) says = omega arith
  count_below false (coming.MaxStreams Uni count) says = says
  count_below true (coming.MaxData limit) says = omega arith
  count_below true (coming.Stream id offset payload fin) says = omega arith
  count_below true (coming.Reset id code size) says = omega arith
  count_below true (coming.Stop id code) says = omega arith
  count_below true (coming.MaxStreamData id limit) says = omega arith
  count_below false (coming.MaxData limit) says = omega arith
  count_below false (coming.Stream id offset payload fin) says = omega arith
  count_below false (coming.Reset id code size) says = omega arith
  count_below false (coming.Stop id code) says = omega arith
  count_below false (coming.MaxStreamData id limit) says = omega arith

  stream_below : (id : ℕ) (h : PlainRecv) → recv_at c.space.streams.recv id ≡ Some h → (f : StreamFrame) → Says c came f → stream_given id f ≤ h.sent_max_stream_data
  stream_below id h there (coming.MaxStreamData s limit) says = elim (eqb_tells s.0 id) [
    | inl here ↦ rw here.0 (says.1 h (rw here.1 there))
    | inr apart ↦ rw apart.0 (omega arith)
  ]
  stream_below id h there (coming.MaxData limit) says = omega arith
  stream_below id h there (coming.Stream s offset payload fin) says = omega arith
  stream_below id h there (coming.Reset s code size) says = omega arith
  stream_below id h there (coming.Stop s code) says = omega arith
  stream_below id h there (coming.MaxStreams dir count) says = omega arith

  -- of a stream that wasn't opened none is given
  stream_none : (id bound : ℕ) → was_opened c.space.streams id ≡ false → (f : StreamFrame) → Says c came f → stream_given id f ≤ bound
  stream_none id bound not (coming.MaxStreamData s limit) says = elim (eqb_tells s.0 id) [
    | inl here ↦ absurd (both_ways (was_opened c.space.streams id) not (rw (← here.1) says.0.0))
    | inr apart ↦ rw apart.0 (omega arith)
  ]
  stream_none id bound not (coming.MaxData limit) says = omega arith
  stream_none id bound not (coming.Stream s offset payload fin) says = omega arith
  stream_none id bound not (coming.Reset s code size) says = omega arith
  stream_none id bound not (coming.Stop s code) says = omega arith
  stream_none id bound not (coming.MaxStreams dir count) says = omega arith

new_limit : (b : Bool) (limit : ℕ) (h : PlainRecv) → (if b then Some (new_recv limit) else None) ≡ Some h → h.sent_max_stream_data ≡ limit
new_limit true limit h e = ap (λ (r : PlainRecv). r.sent_max_stream_data) (sym (same_Some (new_recv limit) h e))
new_limit false limit h e = absurd (cc)

first_by : (two_way is_own : Bool) (a b d limit : ℕ) → a ≡ limit → b ≡ limit → d ≡ limit → (if two_way then (if is_own then a else b) else d) ≡ limit
first_by true true a b d limit x y z = x
first_by true false a b d limit x y z = y
first_by false is_own a b d limit x y z = z

-- ---- the other end keeps within them

module _ {S : Type 0} (c p : Inner S) (tc tp : List Act) (peers : ArePeers c p) (a : Announced c tc) (f : Following p tp) (among : (d : List ℕ) → In d (handed_in tp) → In d (handed_out tc)) where
  gave : (g : StreamFrame) → In g f.given → Says c (handed_in tc) g
  gave g is = says_coming c tc a (length p.local_id) (handed_in tp) (other p.side) peers.back among g (f.gave g is)

  first_of : (limit : PeerLimits → ℕ) → limit f.space.streams.peer ≡ limit (peer_of c.config.limits)
  first_of limit = ap limit f.of.peer_is ∙ ap limit peers.known

  pub all_small : written_in_all tp < 2 ^ 62
  all_small =
      let first = first_of (λ l. l.max_data) in
      let most = greatest_below data_given f.space.streams.peer.max_data (2 ^ 62 - 1) f.given (rw first (bounded_small c.config.limits.receive_window))
      (λ g is. data_small (length p.local_id) (handed_in tp) (other p.side) g (f.gave g is)) in
      let within = f.within.all_bytes in
      omega (arith, within, most)

  module _ (grants : AreGranted c) where
    pub all_within : written_in_all tp ≤ c.space.streams.recv.announced.value
    all_within =
        let first = first_of (λ l. l.max_data) in
        within_by _ _ _ f.within.all_bytes
        (greatest_below data_given f.space.streams.peer.max_data c.space.streams.recv.announced.value f.given (rw first grants.shared) (λ g is. data_below c (handed_in tc) g (gave g is)))

    pub opened_within : (two_way : Bool) → (counts_of f.space.streams two_way).opened ≤ (counts_of c.space.streams two_way).announced.value
    opened_within true =
        let first = first_of (λ l. l.max_bidi) in
        within_by _ _ _ (f.within.count true)
        (greatest_below (count_given true) f.space.streams.peer.max_bidi (counts_of c.space.streams true).announced.value f.given
        (rw first (min_fits c.config.limits.max_bidi (2 ^ 60) (counts_of c.space.streams true).announced.value peers.fits.0 (grants.counts true)))
        (λ g is. count_below c (handed_in tc) true g (gave g is)))
    opened_within false =
        let first = first_of (λ l. l.max_uni) in
        within_by _ _ _ (f.within.count false)
        (greatest_below (count_given false) f.space.streams.peer.max_uni (counts_of c.space.streams false).announced.value f.given
        (rw first (min_fits c.config.limits.max_uni (2 ^ 60) (counts_of c.space.streams false).announced.value peers.fits.1 (grants.counts false)))
        (λ g is. count_below c (handed_in tc) false g (gave g is)))

    first_stream : (id : ℕ) → first_limit f.space.streams id ≡ bounded c.config.limits.stream_window
    first_stream id =
        first_by (is_bi id) (is_own f.space.streams.side id) _ _ _ (bounded c.config.limits.stream_window) (first_of (λ l. l.bidi_remote))
        (first_of (λ l. l.bidi_local)) (first_of (λ l. l.uni))

    pub stream_within : (id : ℕ) (h : PlainRecv) → recv_or_new c.space.streams id ≡ Some h → length (written tp id) ≤ h.sent_max_stream_data
    stream_within id h is = elim (cases_Bool (was_opened c.space.streams id)) [
      | inl known ↦
          let there : recv_at c.space.streams.recv id ≡ Some h = rw known at is in
          within_by _ _ _ (f.within.stream_bytes id)
          (greatest_below (stream_given id) (first_limit f.space.streams id) h.sent_max_stream_data f.given (rw (first_stream id) (grants.streams id h there)) (λ g is. stream_below c (handed_in tc) id h there g (gave g is)))
      | inr not ↦
          let begins = new_limit (has_recv c.space.streams.side id) (bounded c.space.streams.recv.stream_window) h (rw not at is) in
          let limit : h.sent_max_stream_data ≡ bounded c.config.limits.stream_window = begins ∙ ap bounded grants.window in
          let first : first_limit f.space.streams id ≡ h.sent_max_stream_data = first_stream id ∙ sym limit in
          within_by _ _ _ (f.within.stream_bytes id)
          (greatest_below (stream_given id) (first_limit f.space.streams id) h.sent_max_stream_data f.given (omega (arith, first)) (λ g is. stream_none c (handed_in tc) id h.sent_max_stream_data not g (gave g is)))
    ]
