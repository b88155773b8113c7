-- What frames that are taken acknowledge is out no more, and was sent.
use Rattle.std.proofs.Common.{◌≡◌, ◌⊎◌, ℕ, ◌+◌, ◌/◌, ◌<◌, ◌≤◌, ◌==◌, nat_lt, Bool, true, false, List, [], ◌∷◌, Option, Some, None, refl, sym, ap, subst, ◌∙◌, inl, inr, arith}
use Rattle.std.specs.Prelude.{map, ◌||◌, if◌then◌else◌}
use Rattle.std.proofs.lemmas.Bool.{both_ways, cases_Bool, cases_eq, eq-eqb, eqb-true, ne_eqb, or_left, or_right}
use borrow.Author.Tests.{ltb-true}
use Rattle.qh_base.specs.declared.connection_error.ConnectionError.{ConnectionError}
use Rattle.qh_core.proofs.FramesRead.{frames_read}
use Rattle.qh_core.proofs.PacketsOut.{IsFewer, fewer_on, lost_fewer, same_fewer}
use Rattle.qh_core.specs.Receiving.{AreFramesTaken}
use Rattle.qh_core.specs.Receiving.AreFramesTaken.{none as none_taken, more as more_taken, closed as closed_by, refused as refused_at}
use Rattle.qh_frame.specs.Plain.{ack_of, plain_of, ranges_of}
use Rattle.qh_frame.specs.TypeOf.{ack_type}
use Rattle.qh_frame.specs.WrittenForm.{ack_values, written_form}
use Rattle.qh_frame.specs.declared.ack.Ack.{Ack}
use Rattle.qh_frame.specs.declared.frame.Frame.{Frame}
use Rattle.qh_frame.specs.declared.frame.Frame.TheVariants as kind
use Rattle.qh_recovery.specs.SentPackets.{packet_at}
use Rattle.qh_recovery.specs.declared.sent_packets.SentPacket.{SentPacket}
use Rattle.qh_space.specs.Receiving.{IsAckReceived, IsFrameTaken, coming_of, frame_refusal, greatest_of, is_passive}
use Rattle.qh_space.specs.Receiving.IsFrameTaken.{passive, streams as of_streams, ack as of_ack, challenge, close}
use Rattle.qh_space.specs.declared.data_space.DataSpace.{DataSpace}
use Rattle.qh_spec.proofs.Members.{in_map}
use Rattle.qh_spec.specs.Acknowledged.{Covers, InRanges, ValuesCover}
use Rattle.qh_spec.specs.Lists.{In}
use Rattle.qh_spec.specs.QuicFrames.{QuicFrame, AreQuicFrames, Value, Num, Nums}
use Rattle.qh_spec.specs.declared.sides.Dir.TheVariants.{Bi, Uni}
use Rattle.qh_streams.specs.Streams.{refused}
use Rattle.qh_streams.specs.declared.frames.SentFrame.{SentFrame}

-- ---- which frames acknowledge

values_cover : (vs : List Value) (n : ℕ) → ValuesCover vs n → ValuesCover (ack_values vs) n
values_cover (Num greatest ∷ Num delay ∷ Nums ranges ∷ more) n h = h
values_cover vs n h = search

-- the form in which a frame is written acknowledges what the frame does
form_covers : (f : QuicFrame) (n : ℕ) → Covers f n → Covers (written_form f) n
form_covers f n h = elim (cases_Bool (f.kind == 3)) [
  | inl ack ↦
      let three : f.kind ≡ 3 = eqb-true f.kind 3 ack in
      let no_stream : (f.kind / 8 == 1) ≡ false = ap (λ (k : ℕ). k / 8 == 1) three in
      let form : written_form f ≡ record { kind = 2; values = ack_values f.values } = rw (no_stream, ack) refl in
      subst (λ (g : QuicFrame). Covers g n) (sym form) (refl, values_cover f.values n h.1)
  | inr other ↦
      let half = h.0 in
      let no_stream : (f.kind / 8 == 1) ≡ false = ne_eqb (f.kind / 8) 1 (λ e. omega (arith, half, e)) in
      let no_datagram : (f.kind == 48) ≡ false = ne_eqb f.kind 48 (λ e. omega (arith, half, e)) in
      let form : written_form f ≡ f = rw (no_stream, other, no_datagram) refl in
      subst (λ (g : QuicFrame). Covers g n) (sym form) h
]

-- the type of an ACK is 2 or 3
no_ack : (kind : ℕ) → (kind == 2 || kind == 3) ≡ false → kind / 2 ≡ 1 → ⊥
no_ack kind other half = elim (cases_Bool (kind == 2)) [
  | inl two ↦ both_ways (kind == 2 || kind == 3) other (or_left (kind == 2) (kind == 3) two)
  | inr not_two ↦
      let three : kind ≡ 3 = elim (cases_eq kind 2) [ inl e ↦ absurd (both_ways (kind == 2) not_two (eq-eqb kind 2 e)) | inr apart ↦ omega (arith, half, apart) ] in
      both_ways (kind == 2 || kind == 3) other (or_right (kind == 2) (kind == 3) (eq-eqb kind 3 three))
]

stream_half : (zero fin : Bool) → (10 + (if zero then 0 else 4) + (if fin then 1 else 0)) / 2 ≡ 1 → ⊥
stream_half true true e = omega (arith, e)
stream_half true false e = omega (arith, e)
stream_half false true e = omega (arith, e)
stream_half false false e = omega (arith, e)

-- an ACK, or a frame that acknowledges nothing
acks_or_not : (f : Frame) → ((a : Ack) × (f ≡ kind.Ack a)) ⊎ ((n : ℕ) → Covers (plain_of f) n → ⊥)
acks_or_not kind.Padding = inr (λ n h. no_ack 0 refl h.0)
acks_or_not kind.Ping = inr (λ n h. no_ack 1 refl h.0)
acks_or_not (kind.Ack a) = inl (a, refl)
acks_or_not (kind.ResetStream id code size) = inr (λ n h. no_ack 4 refl h.0)
acks_or_not (kind.StopSending id code) = inr (λ n h. no_ack 5 refl h.0)
acks_or_not (kind.Crypto offset payload) = inr (λ n h. no_ack 6 refl h.0)
acks_or_not (kind.NewToken token) = inr (λ n h. no_ack 7 refl h.0)
acks_or_not (kind.Stream s) = inr (λ n h. stream_half (s.offset == 0) s.fin h.0)
acks_or_not (kind.MaxData limit) = inr (λ n h. no_ack 16 refl h.0)
acks_or_not (kind.MaxStreamData id limit) = inr (λ n h. no_ack 17 refl h.0)
acks_or_not (kind.MaxStreams Bi count) = inr (λ n h. no_ack 18 refl h.0)
acks_or_not (kind.MaxStreams Uni count) = inr (λ n h. no_ack 19 refl h.0)
acks_or_not (kind.DataBlocked limit) = inr (λ n h. no_ack 20 refl h.0)
acks_or_not (kind.StreamDataBlocked id limit) = inr (λ n h. no_ack 21 refl h.0)
acks_or_not (kind.StreamsBlocked Bi count) = inr (λ n h. no_ack 22 refl h.0)
acks_or_not (kind.StreamsBlocked Uni count) = inr (λ n h. no_ack 23 refl h.0)
acks_or_not (kind.NewConnectionId sequence prior id token) = inr (λ n h. no_ack 24 refl h.0)
acks_or_not (kind.RetireConnectionId sequence) = inr (λ n h. no_ack 25 refl h.0)
acks_or_not (kind.PathChallenge bytes) = inr (λ n h. no_ack 26 refl h.0)
acks_or_not (kind.PathResponse bytes) = inr (λ n h. no_ack 27 refl h.0)
acks_or_not (kind.ConnectionClose code frame_type reason) = inr (λ n h. no_ack 28 refl h.0)
acks_or_not (kind.ApplicationClose code reason) = inr (λ n h. no_ack 29 refl h.0)
acks_or_not kind.HandshakeDone = inr (λ n h. no_ack 30 refl h.0)
acks_or_not (kind.Datagram payload has_length) = inr (λ n h. no_ack 49 refl h.0)

-- no number above the greatest is covered
at_most : (greatest : ℕ) (ranges : List ℕ) (n : ℕ) → InRanges greatest ranges n → n ≤ greatest
at_most greatest [] n h = absurd h
at_most greatest (range ∷ []) n h = h.3
at_most greatest (range ∷ gap ∷ more) n (inl here) = here.3
at_most greatest (range ∷ gap ∷ more) n (inr later) =
    let low = at_most later.0 more n later.2 in
    let sum = later.1 in
    omega (arith, low, sum)

-- ---- one frame

-- what the frame acknowledges was sent, and is out no more; what is out was out
record IsSettled (old new : DataSpace) (f : QuicFrame) : Type 0 where
  fewer : IsFewer old new
  below : (n : ℕ) → Covers f n → n < old.next_number
  gone : (n : ℕ) → Covers f n → (q : SentPacket SentFrame) → packet_at new.sent n ≡ Some q → ⊥

nothing_settled : (old new : DataSpace) (f : QuicFrame) → IsFewer old new → ((n : ℕ) → Covers f n → ⊥) → IsSettled old new f
nothing_settled old new f fewer none = record { fewer = fewer; below = λ n h. absurd (none n h); gone = λ n h q there. none n h }

not_refused : (s : DataSpace) (a : Ack) → frame_refusal s (kind.Ack a) ≡ None → a.greatest < s.next_number
not_refused s a free = elim (cases_Bool (nat_lt a.greatest s.next_number)) [
  | inl below ↦ ltb-true a.greatest s.next_number below
  | inr not ↦ let fault : refused 10 (ack_type a.ecn) ≡ None = sym (ap (λ (b : Bool). if b then None else refused 10 (ack_type a.ecn)) not) ∙ free in absurd (cc)
]

ack_settles : (now : ℕ) (old new : DataSpace) (a : Ack) → frame_refusal old (kind.Ack a) ≡ None → IsAckReceived now old new a → IsSettled old new (ack_of a)
ack_settles now old new a free r =
    let after = lost_fewer (greatest_of old.largest_acked a.greatest) now r.mid new r.lost in
    let first : IsFewer old r.mid = record {
      next = ap (λ (s : DataSpace). s.next_number) r.mid_is;
      acks = ap (λ (s : DataSpace). s.acks) r.mid_is;
      out = λ k q there. ((r.taken.packets.left k q).0 there).0;
    } in
    record {
      fewer = fewer_on old r.mid new first after;
      below = λ n h. let low = at_most a.greatest (ranges_of a) n h.1 in let high = not_refused old a free in omega (arith, low, high);
      gone = λ n h q there. ((r.taken.packets.left n q).0 (after.out n q there)).1 h;
    }

stays_fewer : (old new : DataSpace) → new ≡ old → IsFewer old new
stays_fewer old new e = subst (λ (s : DataSpace). IsFewer old s) (sym e) (same_fewer old old refl refl refl)

frame_settles : (now : ℕ) (old new : DataSpace) (f : Frame) (closed : Option ConnectionError) → closed ≡ None → frame_refusal old f ≡ None → IsFrameTaken now old new f closed
    → IsSettled old new (plain_of f)
frame_settles now old new f closed still free (passive _ idle e) = elim (acks_or_not f) [
  | inl (a, is) ↦ absurd (both_ways (is_passive f) (ap is_passive is) idle)
  | inr none ↦ nothing_settled old new (plain_of f) (stays_fewer old new e) none
]
frame_settles now old new f closed still free (of_streams _ c is r e) = elim (acks_or_not f) [
  | inl (a, same) ↦ let none : None ≡ Some c = sym (ap coming_of same) ∙ is in absurd (cc)
  | inr none ↦ nothing_settled old new (plain_of f) (subst (λ (s : DataSpace). IsFewer old s) (sym e) (same_fewer old _ refl refl refl)) none
]
frame_settles now old new f closed still free (of_ack a r) = ack_settles now old new a free r
frame_settles now old new f closed still free (challenge bytes e) =
    nothing_settled old new (plain_of f) (subst (λ (s : DataSpace). IsFewer old s) (sym e) (same_fewer old (record old { path_response = Some bytes }) refl refl refl)) (λ n h. no_ack 26 refl h.0)
frame_settles now old new f closed still free (close _ error is e) = absurd (cc)

-- ---- the frames of a packet

-- so it is with each of these frames
pub record AreSettled (old new : DataSpace) (fs : List QuicFrame) : Type 0 where
  pub fewer : IsFewer old new
  pub below : (f : QuicFrame) (n : ℕ) → In f fs → Covers f n → n < old.next_number
  pub gone : (f : QuicFrame) (n : ℕ) → In f fs → Covers f n → (q : SentPacket SentFrame) → packet_at new.sent n ≡ Some q → ⊥

all_settle : (now : ℕ) (bytes : List ℕ) (old new : DataSpace) (taken : List Frame) (end : Option ConnectionError) → AreFramesTaken now bytes old new taken end → end ≡ None
    → AreSettled old new (map plain_of taken)
all_settle now bytes old new taken end (none_taken _) still = record { fewer = same_fewer old old refl refl refl; below = λ f n among h. absurd among; gone = λ f n among h q there. among }
all_settle now bytes old new taken end (more_taken _ rest frame _ mid _ others _ begins free step behind) still =
    let first = frame_settles now old mid frame None refl free step in
    let later = all_settle now rest mid new others end behind still in
    record {
      fewer = fewer_on old mid new first.fewer later.fewer;
      below = λ f n among h. elim among [
        | inl is ↦ first.below n (subst (λ (g : QuicFrame). Covers g n) (sym is) h)
        | inr more ↦ let less = later.below f n more h in let same = first.fewer.next in omega (arith, less, same)
      ];
      gone = λ f n among h q there. elim among [
        | inl is ↦ first.gone n (subst (λ (g : QuicFrame). Covers g n) (sym is) h) q (later.fewer.out n q there)
        | inr more ↦ later.gone f n more h q there
      ];
    }
all_settle now bytes old new taken end (closed_by _ rest frame _ _ e begins free step) still = absurd (cc)
all_settle now bytes old new taken end (refused_at _ rest frame _ e begins named fault) still = absurd (cc)

-- the frames of the bytes acknowledge only what was sent, and it is out no more
pub acks_taken : (now : ℕ) (bytes : List ℕ) (old new : DataSpace) (taken : List Frame) (fs : List QuicFrame) → AreFramesTaken now bytes old new taken None → AreQuicFrames bytes fs → AreSettled old new fs
acks_taken now bytes old new taken fs are reading =
    let all = all_settle now bytes old new taken None are refl in
    let among : (f : QuicFrame) → In f fs → In (written_form f) (map plain_of taken) = λ f h.
    subst (λ (gs : List QuicFrame). In (written_form f) gs) (frames_read now bytes old new taken fs are reading) (in_map written_form f fs h) in
    record {
      fewer = all.fewer;
      below = λ f n h covers. all.below (written_form f) n (among f h) (form_covers f n covers);
      gone = λ f n h covers. all.gone (written_form f) n (among f h) (form_covers f n covers);
    }
