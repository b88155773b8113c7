-- How a handshake stands to all that was done with it, with one datagram more that it handed out.
use Rattle.std.proofs.Common.{◌≡◌, ◌⊎◌, ℕ, zero, suc, ◌*◌, ◌<◌, ◌≤◌, ◌+◌, ◌-◌, ◌^◌, false, not, ◌&&◌, nat_lt, List, [], ◌∷◌, ◌++◌, length, drop, Option, Some, None, refl, sym, ap, subst, ◌∙◌, inl, inr, arith}
use Rattle.std.proofs.Math.Seq.{drop-append_seam}
use Rattle.std.proofs.lemmas.Bool.{ltb-false}
use Rattle.std.proofs.lemmas.List.{append-nil, length-append}
use Rattle.std.proofs.lemmas.List.Sums.{sum_by_push}
use Rattle.std.proofs.lemmas.Option.{same_Some}
use Rattle.std.specs.List.{AllByRecursion}
use Rattle.std.specs.Prelude.{IfSome, min, replicate}
use Rattle.qh_base.specs.declared.connection_error.ConnectionClose.{ConnectionClose}
use Rattle.qh_base.specs.declared.time.Moment.{Moment}
use Rattle.qh_frame.proofs.FramesWritten.{padding_frames}
use Rattle.qh_frame.specs.FrameBytes.{frame_bytes}
use Rattle.qh_frame.specs.Plain.{frame}
use Rattle.qh_handshake.proofs.FollowsOn.{IsNextSpace, next_space}
use Rattle.qh_handshake.proofs.FramesMade.{AreFramesOf, frames_made}
use Rattle.qh_handshake.proofs.OneInitial.{IsThat, is_only}
use Rattle.qh_handshake.specs.Follows.{Follows, HasInitial, IsGreetedWith, bytes_of}
use Rattle.qh_handshake.specs.Handshake.{IsHandshake, IsHeld, counted, is_limited}
use Rattle.qh_handshake.specs.Outgoing.{IsCloseMade, IsDatagramMade, close_frame, datagram_of, least_size, room, with_sent}
use Rattle.qh_handshake.specs.Written.{CanBeWritten}
use Rattle.qh_handshake.specs.declared.handshake.Handshake.{Handshake}
use Rattle.qh_handshake.specs.declared.initial_space.HelloState.TheVariants.{Held, Waits}
use Rattle.qh_handshake.specs.declared.initial_space.InitialSpace.{InitialSpace}
use Rattle.qh_hello.specs.Crypto.{PlainCrypto, came_at}
use Rattle.qh_hello.specs.declared.transport_parameters.TransportParameters.{TransportParameters}
use Rattle.qh_packet.specs.Initial.{bare_size, body_length, filled, is_short}
use Rattle.qh_packet.specs.LongHeader.{long_head}
use Rattle.qh_packet.specs.Packet.{low_bytes}
use Rattle.qh_packet.specs.Session.{MakesTags}
use Rattle.qh_recovery.specs.Accepted.{Remembers}
use Rattle.qh_spec.proofs.FrameLaws.{quic_frames_agree}
use Rattle.qh_spec.proofs.Members.{in_split}
use Rattle.qh_spec.proofs.PartLaws.{last_or_before}
use Rattle.qh_spec.proofs.TranscriptLaws.{handed_in-append, handed_out-append}
use Rattle.qh_spec.specs.Datagram.{Packet, HasPacket}
use Rattle.qh_spec.specs.FrameTypes as frame_types
use Rattle.qh_spec.specs.Greeted.{CarriesHello, HasCrypto, IsGreeted, crypto_frame}
use Rattle.qh_spec.specs.Link.{other}
use Rattle.qh_spec.specs.Lists.{In}
use Rattle.qh_spec.specs.QuicFrames.{QuicFrame, AreQuicFrames, IsQuicFrame, Num, Text}
use Rattle.qh_spec.specs.Varint.{varint}
use Rattle.qh_spec.specs.Transcript.{Act, HandedOut, handed_in, handed_out}
use Rattle.qh_spec.specs.declared.sides.Side.{Side}
use Rattle.qh_spec.specs.declared.sides.Side.TheVariants.{Server}
use Rattle.qh_spec.specs.declared.sides.Space.{Space}
use Rattle.qh_spec.specs.declared.sides.Space.TheVariants.{Initial}

-- ---- the datagram

-- a datagram of one packet of these frames, of which a CRYPTO frame is that of the whole hello
pub record IsOneMade (sealed : Side → Space → ℕ → List ℕ) (old : Handshake) (s : InitialSpace) (frames : List ℕ) (least size : ℕ) : Type 0 where
  pub space_is : old.space ≡ Some s
  pub allowed : is_limited old ≡ false
  pub number : s.next_number < 2 ^ 62
  pub size_is : size ≡ length (datagram_of sealed old s.next_number frames least)
  pub fits : size ≤ 1200
  pub ids : (length old.remote_id ≤ 20) × (length old.local_id ≤ 20)
  pub tag_length : length (sealed old.side Initial s.next_number) ≡ 32
  pub frames_are : AreFramesOf s (filled old.remote_id old.local_id old.token frames least)

pub all_in : (P : QuicFrame → Type 0) (fs : List QuicFrame) (f : QuicFrame) → AllByRecursion P fs → In f fs → P f
all_in P [] f all there = absurd there
all_in P (g ∷ fs) f all (inl e) = subst P e all.0
all_in P (g ∷ fs) f all (inr there) = all_in P fs f all.1 there

same_crypto : (from offset : ℕ) (payload bytes : List ℕ) → crypto_frame from payload ≡ crypto_frame offset bytes → (from ≡ offset) × (payload ≡ bytes)
same_crypto from offset payload bytes e =
    let values : Num from ∷ Text payload ∷ [] ≡ Num offset ∷ Text bytes ∷ [] = ap (λ (f : QuicFrame). f.values) e in
    (cc, cc)

-- a part is no longer than the whole
part_length : (size : ℕ) (a b c d e : List ℕ) → size ≡ length (a ++ (b ++ (c ++ (d ++ e)))) → length d ≤ size
part_length size a b c d e is =
    let first = length-append a (b ++ (c ++ (d ++ e))) in
    let second = length-append b (c ++ (d ++ e)) in
    let third = length-append c (d ++ e) in
    let last = length-append d e in
    omega (arith, is, first, second, third, last)

held_or_waits : Held ≡ Waits → ⊥
held_or_waits e = cc

same_datagram : (d e : List ℕ) → HandedOut d ≡ HandedOut e → d ≡ e
same_datagram d e same = cc

crypto_among : (id_length : ℕ) (xs : List (List ℕ)) (side : Side) (from : ℕ) (payload : List ℕ) (has : HasCrypto id_length xs side from payload) (ys : List (List ℕ)) → In has.of.datagram ys
    → HasCrypto id_length ys side from payload
crypto_among id_length xs side from payload has ys among = record {
  of = record { datagram = has.of.datagram; among = among; packet = has.of.packet; has = has.of.has; space_is = has.of.space_is; sender_is = has.of.sender_is };
  frame_among = has.frame_among;
}

one_out : (t : List Act) (d : List ℕ) → handed_out (t ++ HandedOut d ∷ []) ≡ handed_out t ++ d ∷ []
one_out t d = handed_out-append t (HandedOut d ∷ [])

none_in : (t : List Act) (d : List ℕ) → handed_in (t ++ HandedOut d ∷ []) ≡ handed_in t
none_in t d = handed_in-append t (HandedOut d ∷ []) ∙ append-nil (handed_in t)

pub out_or_last : (t : List Act) (d x : List ℕ) → In x (handed_out (t ++ HandedOut d ∷ [])) → In x (handed_out t) ⊎ In x (d ∷ [])
out_or_last t d x among = in_split x (handed_out t) (d ∷ []) (subst (λ (z : List (List ℕ)). In x z) (one_out t d) among)

module _ (sealed : Side → Space → ℕ → List ℕ) (old : Handshake) (s : InitialSpace) (frames : List ℕ) (least size : ℕ) (makes : MakesTags sealed) (whole : IsHandshake old)
    (one : IsOneMade sealed old s frames least size) where
  abbrev tag : List ℕ
  tag = sealed old.side Initial s.next_number

  abbrev datagram : List ℕ
  datagram = datagram_of sealed old s.next_number frames least

  abbrev all_frames : List ℕ
  all_frames = filled old.remote_id old.local_id old.token frames least

  few_frames : length all_frames ≤ 1200
  few_frames =
      let front = long_head 195 1 old.remote_id old.local_id ++ (varint (length old.token) ++ old.token) in
      let count = body_length (is_short old.remote_id old.local_id old.token frames least) (36 + length all_frames) in
      let low : length all_frames ≤ size = part_length size front count (low_bytes s.next_number) all_frames tag one.size_is in
      omega (arith, low, one.fits)

  can : CanBeWritten old.remote_id old.local_id old.token frames least tag
  can = record {
    short_destination = one.ids.0;
    short_source = one.ids.1;
    short_token = omega (arith, whole.token);
    short_frames = omega (arith, few_frames);
    whole_tag = one.tag_length;
  }

  pub only : (id_length : ℕ) (p : Packet) (x : List ℕ) → In x (datagram ∷ []) → HasPacket id_length p x → IsThat all_frames old.side s.next_number p
  only id_length p x (inl e) = is_only old.remote_id old.local_id old.token frames tag s.next_number least can old.side (makes old.side Initial s.next_number one.number) id_length p x (sym e)
  only id_length p x (inr none) = λ has. absurd none

  -- what a CRYPTO frame in it is
  crypto_here : (id_length : ℕ) (side : Side) (from : ℕ) (payload : List ℕ) → HasCrypto id_length (datagram ∷ []) side from payload → (from ≡ 0) × (payload ≡ s.hello) × (s.state ≡ Waits)
  crypto_here id_length side from payload has =
      let that = only id_length has.of.packet has.of.datagram has.of.among has.of.has in
      let are : AreQuicFrames all_frames has.of.packet.frames = that.3 in
      let same : one.frames_are.0 ≡ has.of.packet.frames = quic_frames_agree all_frames one.frames_are.0 has.of.packet.frames one.frames_are.1 are in
      let there : In (crypto_frame from payload) one.frames_are.0 = subst (λ (fs : List QuicFrame). In (crypto_frame from payload) fs) (sym same) has.frame_among in
      let it = all_in (λ (f : QuicFrame). f.kind ≡ frame_types.crypto → (f ≡ crypto_frame 0 s.hello) × (s.state ≡ Waits)) one.frames_are.0 (crypto_frame from payload) one.frames_are.2 there refl in
      let parts = same_crypto from 0 payload s.hello it.0 in
      (parts.0, parts.1, it.1)

  -- a hello that waits isn't held
  not_held : s.state ≡ Waits → (old.side ≡ Server) × (old.peer ≡ None) → ⊥
  not_held waits none =
      let held : IsHeld s = subst (λ (o : Option InitialSpace). IfSome o IsHeld) one.space_is (whole.held none.0 none.1) in
      held_or_waits (sym held.held ∙ waits)

  module _ (hello : List ℕ) (t : List Act) (p : Follows hello old t) where
    abbrev later : List Act
    later = t ++ HandedOut datagram ∷ []

    says_it : (id_length from : ℕ) (payload : List ℕ) → HasCrypto id_length (handed_out later) old.side from payload → (from ≡ 0) × (payload ≡ hello)
    says_it id_length from payload has = elim (out_or_last t datagram has.of.datagram has.of.among) [
      | inl before ↦ p.says id_length from payload (crypto_among id_length (handed_out later) old.side from payload has (handed_out t) before)
      | inr last ↦
          let it = crypto_here id_length old.side from payload (crypto_among id_length (handed_out later) old.side from payload has (datagram ∷ []) last) in
          elim (p.kept s one.space_is) [ inl none ↦ absurd (not_held it.2 none) | inr e ↦ (it.0, it.1 ∙ e) ]
    ]

    greeted_by : (peer : Option TransportParameters) → old.peer ≡ peer → old.side ≡ Server → s.state ≡ Waits → (id_length : ℕ) → IsGreeted id_length (handed_in t) (other old.side)
    greeted_by None is server waits id_length = absurd (not_held waits (server, is))
    greeted_by (Some q) is server waits id_length = let g = p.greeted q id_length is in (g.hello, g.carried)

    answers_it : (before after : List Act) (d : List ℕ) → later ≡ before ++ HandedOut d ∷ after → old.side ≡ Server
        → (id_length from : ℕ) (payload : List ℕ) → HasCrypto id_length (d ∷ []) old.side from payload → (own_length : ℕ) → IsGreeted own_length (handed_in before) (other old.side)
    answers_it before after d e server id_length from payload has own_length = elim (last_or_before t before after (HandedOut datagram) (HandedOut d) e) [
      | inl h ↦
          let same = same_datagram datagram d h.1 in
          let it = crypto_here id_length old.side from payload (subst (λ (z : List ℕ). HasCrypto id_length (z ∷ []) old.side from payload) (sym same) has) in
          subst (λ (z : List Act). IsGreeted own_length (handed_in z) (other old.side)) h.0 (greeted_by old.peer refl server it.2 own_length)
      | inr h ↦ p.answers before h.0 d h.1 server id_length from payload has own_length
    ]

    unsaid_it : old.side ≡ Server → old.peer ≡ None → (id_length from : ℕ) (payload : List ℕ) → HasCrypto id_length (handed_out later) old.side from payload → ⊥
    unsaid_it server none id_length from payload has = elim (out_or_last t datagram has.of.datagram has.of.among) [
      | inl before ↦ p.unsaid server none id_length from payload (crypto_among id_length (handed_out later) old.side from payload has (handed_out t) before)
      | inr last ↦ not_held (crypto_here id_length old.side from payload (crypto_among id_length (handed_out later) old.side from payload has (datagram ∷ []) last)).2 (server, none)
    ]

    once_it : (before after : List Act) (d : List ℕ) → later ≡ before ++ HandedOut d ∷ after
        → (first_length id_length m n : ℕ) → HasInitial first_length (handed_out before) old.side m → HasInitial id_length (d ∷ []) old.side n → m < n
    once_it before after d e first_length id_length m n earlier has = elim (last_or_before t before after (HandedOut datagram) (HandedOut d) e) [
      | inl h ↦
          let here = subst (λ (z : List ℕ). HasInitial id_length (z ∷ []) old.side n) (sym (same_datagram datagram d h.1)) has in
          let less = p.numbers s first_length m one.space_is (subst (λ (z : List Act). HasInitial first_length (handed_out z) old.side m) (sym h.0) earlier) in
          let that = only id_length here.packet here.datagram here.among here.has in
          omega (arith, less, that.2, here.number_is)
      | inr h ↦ p.once before h.0 d h.1 first_length id_length m n earlier has
    ]

    bytes_out : bytes_of (handed_out later) ≡ bytes_of (handed_out t) + length datagram
    bytes_out = ap bytes_of (one_out t datagram) ∙ sum_by_push (λ (d : List ℕ). length d) (handed_out t) datagram

    within : old.is_validated ≡ false → bytes_of (handed_out later) ≤ 3 * bytes_of (handed_in later)
    within unknown =
        let allowed : (not old.is_validated && nat_lt (min (2 ^ 64 - 1) (3 * old.bytes_received)) (old.bytes_sent + 1200)) ≡ false = one.allowed in
        let below = ltb-false (min (2 ^ 64 - 1) (3 * old.bytes_received)) (old.bytes_sent + 1200) (rw unknown at allowed) in
        let came = ap bytes_of (none_in t datagram) in
        omega (arith, below, came, bytes_out, p.received, p.sent, one.size_is, one.fits)

    below : (next : InitialSpace) → next.next_number ≡ s.next_number + 1 → (id_length number : ℕ) → HasInitial id_length (handed_out later) old.side number → number < next.next_number
    below next number_is id_length number has = elim (out_or_last t datagram has.datagram has.among) [
      | inl before ↦
          let less = p.numbers s id_length number one.space_is
          (record { datagram = has.datagram; among = before; packet = has.packet; has = has.has; space_is = has.space_is; sender_is = has.sender_is; number_is = has.number_is }) in
          omega (arith, less, number_is)
      | inr last ↦
          let that = only id_length has.packet has.datagram last has.has in
          omega (arith, that.2, has.number_is, number_is)
    ]

    -- with the next space, whose next number is one more
    pub one_follows : (next : InitialSpace) → next.hello ≡ s.hello → next.crypto ≡ s.crypto → next.dedup ≡ s.dedup → next.next_number ≡ s.next_number + 1 → Follows hello (with_sent old next size) later
    one_follows next hello_is crypto_is dedup_is number_is =
        let is = λ (x : InitialSpace) (there : Some next ≡ Some x). same_Some next x there in
        let came = none_in t datagram in
        let bytes = bytes_out in
        record {
          own = p.own;
          kept = λ x there. elim (p.kept s one.space_is) [ inl none ↦ inl none | inr e ↦ inr (ap (λ (z : InitialSpace). z.hello) (sym (is x there)) ∙ hello_is ∙ e) ];
          came = λ x k byte id_length there at.
              subst (λ (z : List (List ℕ)). CarriesHello id_length z (other old.side) k byte) (sym came)
              (p.came s k byte id_length one.space_is (ap (λ (c : PlainCrypto). came_at c k) (sym crypto_is ∙ ap (λ (z : InitialSpace). z.crypto) (is x there)) ∙ at));
          greeted = λ q id_length there. subst (λ (z : List (List ℕ)). IsGreetedWith id_length z (other old.side) q) (sym came) (p.greeted q id_length there);
          sourced = p.sourced;
          says = says_it;
          answers = answers_it;
          unsaid = unsaid_it;
          once = once_it;
          numbers = λ x id_length number there has. subst (λ (z : InitialSpace). number < z.next_number) (is x there) (below next number_is id_length number has);
          accepted = λ x there.
              let a = p.accepted s one.space_is in (
                a.0,
                subst (λ (z : InitialSpace). Remembers a.0 z.dedup) (is x there) (subst (λ (z : _). Remembers a.0 z) (sym dedup_is) a.1),
                λ number id_length among. subst (λ (z : List (List ℕ)). HasInitial id_length z (other old.side) number) (sym came) (a.2 number id_length among),
              );
          received = p.received ∙ ap (λ (z : List (List ℕ)). counted (bytes_of z)) (sym came);
          sent = omega (arith, p.sent, bytes, one.size_is);
          limit = within;
        }

-- ---- the two kinds of it

zeros : (s : InitialSpace) (n : ℕ) → AreFramesOf s (replicate n 0)
zeros s zero = ([], refl, tt)
zeros s (suc n) =
    let more = zeros s n in
    (frame frame_types.padding [] ∷ more.0, padding_frames 1 (replicate n 0) more.0 more.1, (λ crypto. absurd (omega (arith, crypto)), more.2))

close_frames : (s : InitialSpace) (close : ConnectionClose) (n : ℕ) → ((rest : List ℕ) → IsQuicFrame (frame_bytes (close_frame close) ++ rest) (close_frame close) rest)
    → AreFramesOf s (frame_bytes (close_frame close) ++ replicate n 0)
close_frames s close n back =
    let more = zeros s n in
    (close_frame close ∷ more.0, (replicate n 0, back (replicate n 0), more.1), (λ crypto. absurd (omega (arith, crypto)), more.2))

pub close_follows : (sealed : Side → Space → ℕ → List ℕ) (close : ConnectionClose) (before after hello : List ℕ) (old new : Handshake) (size : ℕ) (t : List Act)
    → MakesTags sealed → IsHandshake old → IsCloseMade sealed close old new before after size → Follows hello old t
    → Follows hello new (t ++ HandedOut (drop (length before) after) ∷ [])
close_follows sealed close before after hello old new size t makes whole m p =
    let frames = frame_bytes (close_frame close) in
    let least = least_size old false in
    let d = datagram_of sealed old m.space.next_number frames least in
    let one : IsOneMade sealed old m.space frames least size = record {
      space_is = m.space_is;
      allowed = m.allowed;
      number = m.number;
      size_is = m.size_is;
      fits = m.fits;
      ids = m.ids;
      tag_length = m.tag_length;
      frames_are = close_frames m.space close (least - (bare_size old.remote_id old.local_id old.token frames + 2)) m.read_back;
    } in
    let behind : drop (length before) after ≡ d = ap (λ (z : List ℕ). drop (length before) z) m.after_is ∙ drop-append_seam before d in
    subst (λ (z : List ℕ). Follows hello new (t ++ HandedOut z ∷ [])) (sym behind)
    (subst (λ (z : Handshake). Follows hello z (t ++ HandedOut d ∷ [])) (sym m.new_is)
    (one_follows sealed old m.space frames least size makes whole one hello t p (record m.space { next_number = m.space.next_number + 1 }) refl refl refl refl))

-- the datagram of what a space makes for a packet
pub one_made : (sealed : Side → Space → ℕ → List ℕ) (now : Moment) (before after : List ℕ) (old new : Handshake) (size : ℕ) → (m : IsDatagramMade sealed now old new before after size)
    → IsOneMade sealed old m.space m.frames (least_size old m.is_eliciting) size
one_made sealed now before after old new size m = record {
  space_is = m.space_is;
  allowed = m.allowed;
  number = m.number;
  size_is = m.size_is;
  fits = m.fits;
  ids = m.ids;
  tag_length = m.tag_length;
  frames_are = frames_made now (room old) m.space m.next m.frames m.is_eliciting m.made (least_size old m.is_eliciting - (bare_size old.remote_id old.local_id old.token m.frames + 2));
}

pub behind_made : (sealed : Side → Space → ℕ → List ℕ) (now : Moment) (before after : List ℕ) (old new : Handshake) (size : ℕ) → (m : IsDatagramMade sealed now old new before after size)
    → drop (length before) after ≡ datagram_of sealed old m.space.next_number m.frames (least_size old m.is_eliciting)
behind_made sealed now before after old new size m =
    ap (λ (z : List ℕ). drop (length before) z) m.after_is ∙ drop-append_seam before (datagram_of sealed old m.space.next_number m.frames (least_size old m.is_eliciting))

pub made_follows : (sealed : Side → Space → ℕ → List ℕ) (now : Moment) (before after hello : List ℕ) (old new : Handshake) (size : ℕ) (t : List Act)
    → MakesTags sealed → IsHandshake old → IsDatagramMade sealed now old new before after size → Follows hello old t
    → Follows hello new (t ++ HandedOut (drop (length before) after) ∷ [])
made_follows sealed now before after hello old new size t makes whole m p =
    let least = least_size old m.is_eliciting in
    let d = datagram_of sealed old m.space.next_number m.frames least in
    let one = one_made sealed now before after old new size m in
    let next : IsNextSpace m.space m.next = subst (λ (z : InitialSpace). IsNextSpace m.space z) (sym m.made.new_is) (next_space m.space m.made.packet m.is_eliciting _ _ now) in
    let behind = behind_made sealed now before after old new size m in
    subst (λ (z : List ℕ). Follows hello new (t ++ HandedOut z ∷ [])) (sym behind)
    (subst (λ (z : Handshake). Follows hello z (t ++ HandedOut d ∷ [])) (sym m.new_is)
    (one_follows sealed old m.space m.frames least size makes whole one hello t p m.next next.hello next.crypto next.dedup next.number))
