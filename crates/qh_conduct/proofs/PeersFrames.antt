-- No frame of the other end's is refused.
use Rattle.std.proofs.Common.{◌≡◌, ℕ, ◌-◌, ◌/◌, ◌<◌, ◌≤◌, ◌==◌, false, List, [], ◌∷◌, length, Option, Some, None, refl, sym, ap, subst, ◌∙◌, arith, inl, inr}
use Rattle.std.specs.Prelude.{◌⊎◌, IsSomeAnd}
use Rattle.std.proofs.lemmas.Bool.{cases_Bool, eqb-true, le-leb, lt-ltb}
use Rattle.qh_conduct.proofs.FramesSay.{Between, ack_kind, close_kind, control_kind, count_kind, exact_kind, form_kind, no_control, says_ack}
use Rattle.qh_conduct.proofs.PeersKept.{kept_frame, says_came, used_number}
use Rattle.qh_conduct.proofs.PeersLimits.{all_within, stream_within}
use Rattle.qh_conduct.proofs.PeersNames.{names_known}
use Rattle.qh_conduct.proofs.PeersRange.{ranges_fit}
use Rattle.qh_conduct.proofs.PeersRuns.{ends_written, reaches_written}
use Rattle.qh_conduct.proofs.ReachSpaces.{form_same, frame_came}
use Rattle.qh_conduct.proofs.ReachSums.{frame_unrefused}
use Rattle.qh_conduct.specs.Announced.{Announced, IsKeptFrame}
use Rattle.qh_conduct.specs.Announced.IsKeptFrame.{ping, response, ack, stream, reset, stop, max_data, max_stream_data, max_streams, control, close}
use Rattle.qh_conduct.specs.Fitting.{AgreeOnSizes, AreWithinWritten, IsWithinStream}
use Rattle.qh_conduct.specs.Granted.{AreGranted, TakesDatagrams}
use Rattle.qh_conduct.specs.Filled.{AreFilled}
use Rattle.qh_conduct.specs.Peers.{AreLinked, ArePeers}
use Rattle.qh_conduct.specs.Reached.{CameIn, EndsAt, Reached, Reaches}
use Rattle.qh_conduct.specs.Sized.{AreRight}
use Rattle.qh_core.specs.Control.{MaySend, control_frame}
use Rattle.qh_core.specs.Follows.{Following, HasFrame}
use Rattle.qh_core.specs.declared.control.ControlFrame.{ControlFrame}
use Rattle.qh_core.specs.declared.control.ControlFrame.TheVariants.{NewToken, NewConnectionId, RetireConnectionId, Datagram as DatagramOut}
use Rattle.qh_core.specs.declared.inner.Inner.{Inner}
use Rattle.qh_frame.specs.AckWritten.{AreApart, ack_frame, gaps}
use Rattle.qh_frame.specs.Plain.{ack_of, frame, plain_of}
use Rattle.qh_frame.specs.TypeOf.{type_of}
use Rattle.qh_frame.specs.WrittenForm.{ack_values, or_frame, written_form}
use Rattle.qh_frame.specs.declared.ack.Ack.{Ack}
use Rattle.qh_frame.specs.declared.ack.AckRange.{AckRange}
use Rattle.qh_frame.specs.declared.frame.Frame.{Frame}
use Rattle.qh_frame.specs.declared.frame.Frame.TheVariants as kind
use Rattle.qh_space.specs.Receiving.{coming_of, datagram_refusal, frame_refusal, refused_at_server}
use Rattle.qh_spec.proofs.AckRows.{greatest_in}
use Rattle.qh_spec.specs.Acknowledged.{Covers}
use Rattle.qh_spec.specs.FrameViews.{stream_values}
use Rattle.qh_spec.specs.Link.{other}
use Rattle.qh_spec.specs.Lists.{In}
use Rattle.qh_spec.specs.QuicFrame.{StreamFrame as Run, has_bit}
use Rattle.qh_spec.specs.QuicFrames.{QuicFrame, Value, Num, Text}
use Rattle.qh_spec.specs.Transcript.{Act, handed_in, written}
use Rattle.qh_spec.specs.declared.sides.Side.{Side}
use Rattle.qh_spec.specs.declared.sides.Side.TheVariants.{Client, Server}
use Rattle.qh_streams.specs.Streams.{refusal_of}
use Rattle.qh_streams.specs.declared.frames.StreamFrame.{StreamFrame}

-- ---- the type of a frame and of its written form

abbrev pub KeepsForm : QuicFrame → Type 0
KeepsForm q = (written_form q ≡ q) ⊎ (((q.kind ≡ 3) × ((written_form q).kind ≡ 2)) ⊎ (((q.kind ≡ 48) × ((written_form q).kind ≡ 49)) ⊎ Between 10 15 (written_form q).kind))

or_form : (o : Option Run) (q : QuicFrame) → (or_frame o q ≡ q) ⊎ Between 10 15 (or_frame o q).kind
or_form None q = inl refl
or_form (Some run) q = inr (form_kind _ run refl)

pub keeps_form : (q : QuicFrame) → KeepsForm q
keeps_form q = elim (cases_Bool (q.kind / 8 == 1)) [
  | inl streams ↦
      let form : written_form q ≡ or_frame (stream_values (has_bit 1 q.kind) q.values) q = rw streams refl in
      elim (or_form (stream_values (has_bit 1 q.kind) q.values) q) [
        | inl same ↦ inl (form ∙ same)
        | inr kind ↦ inr (inr (inr (subst (λ (f : QuicFrame). Between 10 15 f.kind) (sym form) kind)))
      ]
  | inr others ↦ elim (cases_Bool (q.kind == 3)) [
    | inl marked ↦
        let form : written_form q ≡ record { kind = 2; values = ack_values q.values } = rw (others, marked) refl in
        inr (inl (eqb-true q.kind 3 marked, ap (λ (f : QuicFrame). f.kind) form))
    | inr not ↦ elim (cases_Bool (q.kind == 48)) [
      | inl left ↦
          let form : written_form q ≡ record { kind = 49; values = q.values } = rw (others, not, left) refl in
          inr (inr (inl (eqb-true q.kind 48 left, ap (λ (f : QuicFrame). f.kind) form)))
      | inr none ↦ inl (rw (others, not, none) refl)
    ]
  ]
]

-- what is written as an ACK is one
ack_type : (q f : QuicFrame) → written_form q ≡ f → f.kind ≡ 2 → Between 2 3 q.kind
ack_type q f e two = let kinds = ap (λ (f : QuicFrame). f.kind) e in elim (keeps_form q) [
  | inl same ↦ let one = ap (λ (f : QuicFrame). f.kind) same in (omega (arith, kinds, one, two), omega (arith, kinds, one, two))
  | inr (inl marked) ↦ let three = marked.0 in (omega (arith, three), omega (arith, three))
  | inr (inr (inl left)) ↦ let last = left.1 in absurd (omega (arith, last, kinds, two))
  | inr (inr (inr between)) ↦ let low = between.0 in absurd (omega (arith, low, kinds, two))
]

-- and what is written as a DATAGRAM
datagram_type : (q f : QuicFrame) → written_form q ≡ f → f.kind ≡ 49 → 30 ≤ q.kind
datagram_type q f e last = let kinds = ap (λ (f : QuicFrame). f.kind) e in elim (keeps_form q) [
  | inl same ↦ let one = ap (λ (f : QuicFrame). f.kind) same in omega (arith, kinds, one, last)
  | inr (inl marked) ↦ let two = marked.1 in absurd (omega (arith, two, kinds, last))
  | inr (inr (inl left)) ↦ let is = left.0 in omega (arith, is)
  | inr (inr (inr between)) ↦ let high = between.1 in absurd (omega (arith, high, kinds, last))
]

abbrev first_number : List Value → ℕ
first_number (Num n ∷ more) = n
first_number others = 0

abbrev first_text : List Value → List ℕ
first_text (Text t ∷ more) = t
first_text others = []

module _ {S : Type 0} (c : Inner S) (came : List (List ℕ)) where
  -- a DATAGRAM frame whose payload the peer takes
  record IsSmallDatagram (q : QuicFrame) : Type 0 where
    payload : List ℕ
    is : q ≡ frame 49 (Text payload ∷ [])
    fits : IsSomeAnd c.config.peer_datagram (λ n. length payload ≤ n)

  -- the types of the frames that an end may send, a token from a server alone
  abbrev IsSentKind : QuicFrame → Type 0
  IsSentKind q = ((q.kind ≤ 29) ⊎ IsSmallDatagram q) × (q.kind ≡ 7 → c.side ≡ Server)

  between_kind : (low high : ℕ) (q : QuicFrame) → Between low high q.kind → high ≤ 29 → (7 < low) ⊎ (high < 7) → IsSentKind q
  between_kind low high q b top (inl above) = let l = b.0 in let h = b.1 in (inl (omega (arith, h, top)), λ e. absurd (omega (arith, e, l, above)))
  between_kind low high q b top (inr below) = let l = b.0 in let h = b.1 in (inl (omega (arith, h, top)), λ e. absurd (omega (arith, e, h, below)))

  control_sent : (q : QuicFrame) (g : ControlFrame) → q ≡ control_frame g → MaySend c.side c.config.peer_datagram g → IsSentKind q
  control_sent q (NewToken token) is may = let same : q.kind ≡ 7 = ap (λ (f : QuicFrame). f.kind) is in (inl (omega (arith, same)), λ e. may.0)
  control_sent q (NewConnectionId sequence prior id reset_token) is may = let same : q.kind ≡ 24 = ap (λ (f : QuicFrame). f.kind) is in (inl (omega (arith, same)), λ e. absurd (omega (arith, same, e)))
  control_sent q (RetireConnectionId sequence) is may = let same : q.kind ≡ 25 = ap (λ (f : QuicFrame). f.kind) is in (inl (omega (arith, same)), λ e. absurd (omega (arith, same, e)))
  control_sent q (DatagramOut payload) is may =
      let same : q.kind ≡ 49 = ap (λ (f : QuicFrame). f.kind) is in
      (inr (record { payload = payload; is = is; fits = may.0 }), λ e. absurd (omega (arith, same, e)))

  sent_kind : (q : QuicFrame) → IsKeptFrame c came q → IsSentKind q
  sent_kind q (ping is) = between_kind 1 1 q (exact_kind q 1 [] is) (omega arith) (inr (omega arith))
  sent_kind q (response echoed is) = between_kind 27 27 q (exact_kind q 27 _ is) (omega arith) (inl (omega arith))
  sent_kind q (ack ranges is apart all) = between_kind 2 2 q (ack_kind q ranges is) (omega arith) (inr (omega arith))
  sent_kind q (stream run is named) = between_kind 10 15 q (form_kind q run is) (omega arith) (inl (omega arith))
  sent_kind q (reset id code size is named) = between_kind 4 4 q (exact_kind q 4 _ is) (omega arith) (inr (omega arith))
  sent_kind q (stop id code is named) = between_kind 5 5 q (exact_kind q 5 _ is) (omega arith) (inr (omega arith))
  sent_kind q (max_data limit is below) = between_kind 16 16 q (exact_kind q 16 _ is) (omega arith) (inl (omega arith))
  sent_kind q (max_stream_data id limit is named below) = between_kind 17 17 q (exact_kind q 17 _ is) (omega arith) (inl (omega arith))
  sent_kind q (max_streams dir count is below) = between_kind 18 19 q (count_kind q dir count is) (omega arith) (inl (omega arith))
  sent_kind q (control g is may) = control_sent q g is may
  sent_kind q (close reason is shut) = between_kind 28 29 q (close_kind q reason is) (omega arith) (inl (omega arith))

  -- an ACK covers its greatest number
  own_greatest : (q : QuicFrame) (ranges : List AckRange) (a : Ack) → q ≡ ack_frame 0 ranges → AreApart ranges → written_form q ≡ ack_of a → Covers q a.greatest
  own_greatest q [] a is apart form = absurd apart
  own_greatest q (r ∷ more) a is apart form =
      let same : ack_frame 0 (r ∷ more) ≡ ack_of a = ap written_form (sym is) ∙ form in
      let greatest : r.greatest ≡ a.greatest = ap (λ (f : QuicFrame). first_number f.values) same in
      subst (λ (n : ℕ). Covers q n) greatest (rw is (refl, greatest_in r.greatest ((r.greatest - r.least) ∷ gaps r.least more) (ranges_fit r.greatest r.least more apart.0 apart.2)))

  covers_greatest : (q : QuicFrame) (a : Ack) → written_form q ≡ ack_of a → IsKeptFrame c came q → Covers q a.greatest
  covers_greatest q a form (ack ranges is apart all) = own_greatest q ranges a is apart form
  covers_greatest q a form (ping is) = let x = ack_type q _ form refl in let y = exact_kind q 1 [] is in absurd (omega (arith, x.0, x.1, y.0, y.1))
  covers_greatest q a form (response echoed is) = let x = ack_type q _ form refl in let y = exact_kind q 27 _ is in absurd (omega (arith, x.0, x.1, y.0, y.1))
  covers_greatest q a form (stream run is named) = let x = ack_type q _ form refl in let y = form_kind q run is in absurd (omega (arith, x.0, x.1, y.0, y.1))
  covers_greatest q a form (reset id code size is named) = let x = ack_type q _ form refl in let y = exact_kind q 4 _ is in absurd (omega (arith, x.0, x.1, y.0, y.1))
  covers_greatest q a form (stop id code is named) = let x = ack_type q _ form refl in let y = exact_kind q 5 _ is in absurd (omega (arith, x.0, x.1, y.0, y.1))
  covers_greatest q a form (max_data limit is below) = let x = ack_type q _ form refl in let y = exact_kind q 16 _ is in absurd (omega (arith, x.0, x.1, y.0, y.1))
  covers_greatest q a form (max_stream_data id limit is named below) = let x = ack_type q _ form refl in let y = exact_kind q 17 _ is in absurd (omega (arith, x.0, x.1, y.0, y.1))
  covers_greatest q a form (max_streams dir count is below) = let x = ack_type q _ form refl in let y = count_kind q dir count is in absurd (omega (arith, x.0, x.1, y.0, y.1))
  covers_greatest q a form (control g is may) = absurd (no_control 2 3 q.kind (ack_type q _ form refl) (control_kind q g is) (inr (omega arith)) (inr (omega arith)) (omega arith))
  covers_greatest q a form (close reason is shut) = let x = ack_type q _ form refl in let y = close_kind q reason is in absurd (omega (arith, x.0, x.1, y.0, y.1))

-- ---- no refusal

-- what is refused at a server isn't where the other end is one
taken_there : (side : Side) (kind : ℕ) → other side ≡ Server → refused_at_server side kind ≡ None
taken_there Client kind is = refl
taken_there Server kind is = absurd (cc)

-- nor is a payload that the other end may send
payload_fits : (receive : Option ℕ) (most size type : ℕ) → IsSomeAnd receive (λ m. most ≤ m) → size ≤ most → datagram_refusal receive size type ≡ None
payload_fits None most size type there less = absurd there
payload_fits (Some m) most size type there less = rw (le-leb size m (omega (arith, there, less))) refl

payload_taken : (receive send : Option ℕ) (size type : ℕ) → ((n : ℕ) → send ≡ Some n → IsSomeAnd receive (λ m. n ≤ m)) → IsSomeAnd send (λ n. size ≤ n) → datagram_refusal receive size type ≡ None
payload_taken receive None size type takes fits = absurd fits
payload_taken receive (Some n) size type takes fits = payload_fits receive n size type (takes n refl) fits

module _ {S : Type 0} (c p : Inner S) (tc tp : List Act) (peers : ArePeers c p) (linked : AreLinked tc tp) (a : Announced c tc) (b : Announced p tp) (rc : Reached c tc) (rp : Reached p tp) (f : Following p tp)
    (space_is : p.space ≡ f.space) (filled : AreFilled p tp) (right : AreRight p tp) (grants : AreGranted c) (receives : TakesDatagrams c) where
  abbrev Came : StreamFrame → Type 0
  Came g = CameIn (length c.local_id) (handed_in tc) (other c.side) g

  reaches : (g : StreamFrame) (stream to : ℕ) → Came g → Reaches stream to g → to ≤ length (written tp stream)
  reaches = reaches_written p tp f filled right (length c.local_id) (handed_in tc) (other c.side) peers.there peers.sides linked.to

  ends : (g : StreamFrame) (stream size : ℕ) → Came g → EndsAt stream size g → size ≡ length (written tp stream)
  ends = ends_written p tp f filled right (length c.local_id) (handed_in tc) (other c.side) peers.there peers.sides linked.to

  module _ (g : StreamFrame) (came : Came g) where
    came_too : (k : StreamFrame) → In k (g ∷ rc.frames) → Came k
    came_too k (inl same) = subst (λ (k : StreamFrame). Came k) same came
    came_too k (inr before) = rc.came k before

    fits : AreWithinWritten (g ∷ rc.frames) tp
    fits k id to is r = reaches k id to (came_too k is) r

    agree : AgreeOnSizes (g ∷ rc.frames)
    agree x y id size to is_x is_y end r =
        let whole = ends x id size (came_too x is_x) end in
        let most = reaches y id to (came_too y is_y) r in
        omega (arith, whole, most)

    within : IsWithinStream c.space.streams g
    within id to h r is =
        let most = reaches g id to came r in
        let limit = stream_within c p tc tp peers a f linked.from grants id h is in
        omega (arith, most, limit)

    coming_unrefused : refusal_of c.space.streams g ≡ None
    coming_unrefused =
        frame_unrefused c.side c.space.streams rc.frames rc.are g tp agree fits (all_within c p tc tp peers a f linked.from grants) within
        (names_known c p tc tp peers a b rc rp f space_is linked.from grants g (says_came p tp b (length c.local_id) (handed_in tc) (other c.side) peers.there linked.to g came))

  module _ (q : QuicFrame) (has : HasFrame (length c.local_id) (handed_in tc) (other c.side) q) where
    kept : IsKeptFrame p (handed_in tp) q
    kept = kept_frame p tp b (length c.local_id) (handed_in tc) (other c.side) peers.there linked.to q has

    below_next : (x : Ack) → written_form q ≡ ack_of x → x.greatest < c.space.next_number
    below_next x form =
        used_number c tc a (length p.local_id) (handed_in tp) (other p.side) peers.back linked.from x.greatest
        (says_ack p (handed_in tp) q x.greatest (covers_greatest p (handed_in tp) q x form kept) kept)

    not_kind : (form : QuicFrame) → written_form q ≡ form → (form.kind / 8 == 1) ≡ false → (form.kind == 2) ≡ false → (form.kind == 49) ≡ false → IsSentKind p (handed_in tp) form
    not_kind form e plain no_ack no_datagram = subst (λ (f : QuicFrame). IsSentKind p (handed_in tp) f) (form_same q form e plain no_ack no_datagram) (sent_kind p (handed_in tp) q kept)

    as_coming : (x : Frame) (g : StreamFrame) → coming_of x ≡ Some g → written_form q ≡ plain_of x → refusal_of c.space.streams g ≡ None
    as_coming x g is form = coming_unrefused g (frame_came c.side (length c.local_id) (handed_in tc) x q g is form has)

    pub unrefused : (x : Frame) → written_form q ≡ plain_of x → frame_refusal c.space x ≡ None
    unrefused (kind.Ack x) form = rw (lt-ltb x.greatest c.space.next_number (below_next x form)) refl
    unrefused (kind.NewToken token) form =
        let sender : p.side ≡ Server = (not_kind _ form refl refl refl).1 refl in
        ap (λ (s : Side). refused_at_server s 7) rc.are.side_is ∙ taken_there c.side 7 (sym peers.sides ∙ sender)
    unrefused kind.HandshakeDone form = elim (not_kind _ form refl refl refl).0 [
      | inl low ↦ absurd (omega (arith, low))
      | inr d ↦ let kinds = ap (λ (f : QuicFrame). f.kind) d.is in absurd (omega (arith, kinds))
    ]
    unrefused (kind.Datagram payload has_length) form = elim (sent_kind p (handed_in tp) q kept).0 [
      | inl low ↦ let high = datagram_type q _ form refl in absurd (omega (arith, high, low))
      | inr d ↦
          let same : frame 49 (Text d.payload ∷ []) ≡ frame 49 (Text payload.now ∷ []) = ap written_form (sym d.is) ∙ form in
          let bytes : d.payload ≡ payload.now = ap (λ (f : QuicFrame). first_text f.values) same in
          ap (λ (o : Option ℕ). datagram_refusal o (length payload.now) (type_of (kind.Datagram payload has_length))) receives
          ∙ payload_taken c.config.datagram_receive p.config.peer_datagram (length payload.now) (type_of (kind.Datagram payload has_length)) peers.datagrams
          (subst (λ (z : List ℕ). IsSomeAnd p.config.peer_datagram (λ n. length z ≤ n)) bytes d.fits)
    ]
    unrefused (kind.Stream s) form = as_coming (kind.Stream s) _ refl form
    unrefused (kind.ResetStream id code size) form = as_coming (kind.ResetStream id code size) _ refl form
    unrefused (kind.StopSending id code) form = as_coming (kind.StopSending id code) _ refl form
    unrefused (kind.MaxData limit) form = as_coming (kind.MaxData limit) _ refl form
    unrefused (kind.MaxStreamData id limit) form = as_coming (kind.MaxStreamData id limit) _ refl form
    unrefused (kind.MaxStreams dir count) form = as_coming (kind.MaxStreams dir count) _ refl form
    unrefused kind.Padding form = refl
    unrefused kind.Ping form = refl
    unrefused (kind.Crypto offset payload) form = refl
    unrefused (kind.DataBlocked limit) form = refl
    unrefused (kind.StreamDataBlocked id limit) form = refl
    unrefused (kind.StreamsBlocked dir count) form = refl
    unrefused (kind.NewConnectionId sequence prior id token) form = refl
    unrefused (kind.RetireConnectionId sequence) form = refl
    unrefused (kind.PathChallenge bytes) form = refl
    unrefused (kind.PathResponse bytes) form = refl
    unrefused (kind.ConnectionClose code frame_type reason) form = refl
    unrefused (kind.ApplicationClose code reason) form = refl
