-- How a handshake stands to all that was done with it, with one datagram more that was handed in.
use Rattle.std.proofs.Common.{◌≡◌, ℕ, zero, suc, ◌<◌, ◌+◌, ◌-◌, ◌/◌, ◌==◌, cond, Bool, true, false, nat_lt, List, [], ◌∷◌, ◌++◌, length, Option, Some, None, refl, sym, ap, subst, ◌∙◌, inl, inr, arith}
use Rattle.std.proofs.lemmas.Bool.{both_ways, cases_Bool, ltb-false}
use Rattle.std.proofs.lemmas.List.{append-nil}
use Rattle.std.proofs.lemmas.List.Sums.{sum_by_push}
use Rattle.std.proofs.lemmas.Option.{none-some, same_Some}
use Rattle.std.specs.Prelude.{slice_get}
use Rattle.qh_base.specs.declared.connection_error.ConnectionClose.{ConnectionClose}
use Rattle.qh_base.specs.declared.connection_error.ConnectionError.{ConnectionError}
use Rattle.qh_base.specs.declared.time.Moment.{Moment}
use Rattle.qh_buffers.specs.Assembler.{byte_of, or_byte, to_give}
use Rattle.qh_buffers.specs.declared.assembler.Chunk.{Chunk}
use Rattle.qh_frame.specs.FrameAt.{Begins}
use Rattle.qh_frame.specs.Plain.{plain_of}
use Rattle.qh_frame.specs.WrittenForm.{ack_values, or_frame, written_form}
use Rattle.qh_frame.specs.declared.frame.Frame.{Frame}
use Rattle.qh_handshake.proofs.FollowsOn.{SpaceFollows, without_counts, loss_same, others_follow, same_both, same_by, same_follows, space_of}
use Rattle.qh_handshake.proofs.GoingOn.{unread_source}
use Rattle.qh_handshake.specs.Follows.{Follows, HasInitial, IsGreetedWith, IsItsHello, bytes_of}
use Rattle.qh_handshake.specs.Handshake.{dropping, ids_at, ids_used}
use Rattle.qh_handshake.specs.Incoming.{AreFramesTaken, ArePacketsTaken, Form, IsAccepted, IsDatagramTaken, IsHelloRead, IsHelloThere, IsInitialTaken, IsOpenedBy, IsPacketHandled, knowing, received}
use Rattle.qh_handshake.specs.Incoming.AreFramesTaken.{none as none_taken, more as more_taken, closed as closed_taken, refused as refused_taken}
use Rattle.qh_handshake.specs.Incoming.ArePacketsTaken.{done, more as one_more, ended as ended_by}
use Rattle.qh_handshake.specs.Incoming.IsDatagramTaken.{retry, mismatch, packets}
use Rattle.qh_handshake.specs.Incoming.IsHelloRead.{gone as gone_before, known, cut, refused, at_client, at_server}
use Rattle.qh_handshake.specs.Incoming.IsInitialTaken.{gone, dropped, ended, handled}
use Rattle.qh_handshake.specs.Incoming.IsPacketHandled.{repeated, empty, faulty, unnoted, taken}
use Rattle.qh_handshake.specs.Lost.{AreBegun, IsLost}
use Rattle.qh_handshake.specs.Lost.AreBegun.{here as here_begun, more as one_begun}
use Rattle.qh_handshake.specs.Lost.IsLost.{initials as initials_lost, retry as retry_lost}
use Rattle.qh_handshake.specs.Receiving.{IsFrameTaken, IsPieceTaken}
use Rattle.qh_handshake.specs.Receiving.IsFrameTaken.{padding, ping, ack, crypto, close}
use Rattle.qh_handshake.specs.declared.handshake.Handshake.{Handshake}
use Rattle.qh_handshake.specs.declared.initial_space.InitialSpace.{InitialSpace}
use Rattle.qh_hello.specs.Crypto.{came_at}
use Rattle.qh_hello.specs.Greetings.{greeting}
use Rattle.qh_hello.specs.declared.transport_parameters.TransportParameters.{TransportParameters}
use Rattle.qh_packet.proofs.Surveys.{frame_takes}
use Rattle.qh_packet.specs.Initial.{BeginsWithInitial}
use Rattle.qh_packet.specs.Session.{AcceptsTag, NamesTags}
use Rattle.qh_recovery.specs.Accepted.{Remembers}
use Rattle.qh_spec.proofs.FrameLaws.{quic_frame_agrees}
use Rattle.qh_spec.proofs.GreetedLaws.{frame_more, whole_more}
use Rattle.qh_spec.proofs.Members.{in_left, in_last}
use Rattle.qh_spec.proofs.PartLaws.{last_or_before}
use Rattle.qh_spec.proofs.TranscriptLaws.{handed_in-append, handed_out-append}
use Rattle.qh_spec.specs.Datagram.{Packet, HasPacket, IsInitialForm, IsInitialPacket, initial, later}
use Rattle.qh_spec.specs.Greeted.{CarriesHello, HasCrypto, HasFrameOf, crypto_frame}
use Rattle.qh_spec.specs.Hello.{hello_bytes, hello_of}
use Rattle.qh_spec.specs.HelloFaults.{OtherId}
use Rattle.qh_spec.specs.Link.{other}
use Rattle.qh_spec.specs.Lists.{In}
use Rattle.qh_spec.specs.QuicFrame.{StreamFrame as Run, has_bit}
use Rattle.qh_spec.specs.FrameViews.{stream_values}
use Rattle.qh_spec.specs.QuicFrames.{QuicFrame, AreQuicFrames}
use Rattle.qh_spec.specs.Transcript.{Act, HandedIn, HandedOut, handed_in, handed_out}
use Rattle.qh_spec.specs.declared.sides.Side.{Side}
use Rattle.qh_spec.specs.declared.sides.Side.TheVariants.{Client, Server}
use Rattle.qh_spec.specs.declared.sides.Space.TheVariants.{Initial}

-- ---- a datagram came

one_in : (t : List Act) (d : List ℕ) → handed_in (t ++ HandedIn d ∷ []) ≡ handed_in t ++ d ∷ []
one_in t d = handed_in-append t (HandedIn d ∷ [])

none_out : (t : List Act) (d : List ℕ) → handed_out (t ++ HandedIn d ∷ []) ≡ handed_out t
none_out t d = handed_out-append t (HandedIn d ∷ []) ∙ append-nil (handed_out t)

pub in_last_act : (t : List Act) (d : List ℕ) → In d (handed_in (t ++ HandedIn d ∷ []))
in_last_act t d = subst (λ (z : List (List ℕ)). In d z) (sym (one_in t d)) (in_last d (handed_in t))

in_before : (t : List Act) (d x : List ℕ) → In x (handed_in t) → In x (handed_in (t ++ HandedIn d ∷ []))
in_before t d x is = subst (λ (z : List (List ℕ)). In x z) (sym (one_in t d)) (in_left x (handed_in t) (d ∷ []) is)

not_out : (d e : List ℕ) → HandedIn d ≡ HandedOut e → ⊥
not_out d e same = cc

pub heard_follows : (hello : List ℕ) (h : Handshake) (t : List Act) (d : List ℕ) → Follows hello h t → Follows hello (received (length d) h) (t ++ HandedIn d ∷ [])
heard_follows hello h t d p =
    let before = handed_in t in
    let now = handed_in (t ++ HandedIn d ∷ []) in
    let among = in_before t d in
    let out = none_out t d in
    let bytes_in : bytes_of now ≡ bytes_of before + length d = ap bytes_of (one_in t d) ∙ sum_by_push (λ (x : List ℕ). length x) before d in
    let bytes_out = ap bytes_of out in
    record {
      own = p.own;
      kept = p.kept;
      came = λ s k byte id_length is there.
          let c = p.came s k byte id_length is there in
          record { from = c.from; payload = c.payload; has = frame_more id_length before now (other h.side) Initial (crypto_frame c.from c.payload) among c.has; starts = c.starts; byte_is = c.byte_is };
      greeted = λ q id_length is.
          let g = p.greeted q id_length is in
          record { hello = g.hello; name = g.name; carried = whole_more id_length before now (other h.side) g.hello among g.carried; says = g.says };
      sourced = p.sourced;
      says = λ id_length from payload has. p.says id_length from payload (subst (λ (z : List (List ℕ)). HasCrypto id_length z h.side from payload) out has);
      answers = λ front back datagram e. elim (last_or_before t front back (HandedIn d) (HandedOut datagram) e) [
        | inl last ↦ absurd (not_out d datagram last.1)
        | inr earlier ↦ p.answers front earlier.0 datagram earlier.1
      ];
      unsaid = λ server none id_length from payload has. p.unsaid server none id_length from payload (subst (λ (z : List (List ℕ)). HasCrypto id_length z h.side from payload) out has);
      once = λ front back datagram e. elim (last_or_before t front back (HandedIn d) (HandedOut datagram) e) [
        | inl last ↦ absurd (not_out d datagram last.1)
        | inr earlier ↦ p.once front earlier.0 datagram earlier.1
      ];
      numbers = λ s id_length number is has. p.numbers s id_length number is (subst (λ (z : List (List ℕ)). HasInitial id_length z h.side number) out has);
      accepted = λ s is.
          let a = p.accepted s is in (
            a.0,
            a.1,
            λ number id_length there.
                let has = a.2 number id_length there in
                record { datagram = has.datagram; among = among has.datagram has.among; packet = has.packet; has = has.has; space_is = has.space_is; sender_is = has.sender_is; number_is = has.number_is },
          );
      received = omega (arith, p.received, bytes_in);
      sent = omega (arith, p.sent, bytes_out);
      limit = λ unknown. let bound = p.limit unknown in omega (arith, bound, bytes_in, bytes_out);
    }

-- ---- a frame

stream_kind_is : (is_first fin : Bool) → ((10 + cond is_first 0 4 + cond fin 1 0) / 8 == 1) ≡ true
stream_kind_is true true = refl
stream_kind_is true false = refl
stream_kind_is false true = refl
stream_kind_is false false = refl

or_same : (o : Option Run) (q f : QuicFrame) → or_frame o q ≡ f → (f.kind / 8 == 1) ≡ false → q ≡ f
or_same None q f e plain = e
or_same (Some s) q f e plain =
    let streams : (f.kind / 8 == 1) ≡ true = ap (λ (f : QuicFrame). f.kind / 8 == 1) (sym e) ∙ stream_kind_is (s.offset == 0) s.fin in
    absurd (both_ways (f.kind / 8 == 1) plain streams)

form_same : (q f : QuicFrame) → written_form q ≡ f → (f.kind / 8 == 1) ≡ false → (f.kind == 2) ≡ false → (f.kind == 49) ≡ false → q ≡ f
form_same q f e plain no_ack no_datagram = elim (cases_Bool (q.kind / 8 == 1)) [
  | inl streams ↦ or_same (stream_values (has_bit 1 q.kind) q.values) q f (rw streams at e) plain
  | inr plain_type ↦ elim (cases_Bool (q.kind == 3)) [
    | inl acks ↦
        let form : record { kind = 2; values = ack_values q.values } ≡ f = rw (plain_type, acks) at e in
        absurd (both_ways (f.kind == 2) no_ack (ap (λ (f : QuicFrame). f.kind == 2) (sym form)))
    | inr not ↦ elim (cases_Bool (q.kind == 48)) [
      | inl datagram ↦
          let form : record { kind = 49; values = q.values } ≡ f = rw (plain_type, not, datagram) at e in
          absurd (both_ways (f.kind == 49) no_datagram (ap (λ (f : QuicFrame). f.kind == 49) (sym form)))
      | inr none ↦ rw (plain_type, not, none) at e
    ]
  ]
]

some_of : (b : Bool) (o : Option ℕ) (byte : ℕ) → cond b None o ≡ Some byte → (b ≡ false) × (o ≡ Some byte)
some_of true o byte e = absurd (none-some byte e)
some_of false o byte e = (refl, e)

-- what a frame begins is the first of the frames
pub first_is : (bytes rest : List ℕ) (form : QuicFrame) (fs : List QuicFrame) → Begins bytes form rest → AreQuicFrames bytes fs
    → (q : QuicFrame) × (more : List QuicFrame) × (fs ≡ q ∷ more) × (written_form q ≡ form) × AreQuicFrames rest more
first_is bytes rest form [] b are = absurd (omega (arith, frame_takes bytes rest form b, ap length are))
first_is bytes rest form (q ∷ more) b are =
    let one = quic_frame_agrees bytes b.frame q rest are.0 b.is are.1 in
    (q, more, refl, ap written_form (sym one.0) ∙ b.form_is, subst (λ (z : List ℕ). AreQuicFrames z more) (sym one.1) are.2)

module _ (hello : List ℕ) (side : Side) (peer : Option TransportParameters) (u : List Act) where
  abbrev FollowsOf : InitialSpace → Type 0
  FollowsOf s = SpaceFollows hello side peer s u

  -- a frame of the peer's came
  abbrev Came : QuicFrame → Type 0
  Came q = (id_length : ℕ) → HasFrameOf id_length (handed_in u) (other side) Initial q

  same : (old new : InitialSpace) → new ≡ old → FollowsOf old → FollowsOf new
  same old new e p = subst (λ (z : InitialSpace). FollowsOf z) (sym e) p

  carried_by : (piece : Chunk) (o : Option ℕ) (k byte id_length : ℕ) → Came (crypto_frame piece.offset piece.bytes) → (o ≡ Some byte → CarriesHello id_length (handed_in u) (other side) k byte)
      → or_byte o (byte_of piece k) ≡ Some byte → CarriesHello id_length (handed_in u) (other side) k byte
  carried_by piece (Some b) k byte id_length has before e = before e
  carried_by piece None k byte id_length has before e =
      let there = some_of (nat_lt k piece.offset) (slice_get piece.bytes (k - piece.offset)) byte e in
      record { from = piece.offset; payload = piece.bytes; has = has id_length; starts = ltb-false k piece.offset there.0; byte_is = there.1 }

  piece_in : (old new : InitialSpace) (piece : Chunk) → IsPieceTaken old new piece → Came (crypto_frame piece.offset piece.bytes) → FollowsOf old → FollowsOf new
  piece_in old new piece t has p = record {
    kept = elim p.kept [ inl none ↦ inl none | inr e ↦ inr (ap (λ (s : InitialSpace). s.hello) t.rest_is ∙ e) ];
    came = λ k byte id_length there. carried_by piece (came_at old.crypto k) k byte id_length has (p.came k byte id_length) (sym (t.taken k) ∙ there);
    numbers = λ id_length number there. subst (λ (n : ℕ). number < n) (ap (λ (s : InitialSpace). s.next_number) (sym t.rest_is)) (p.numbers id_length number there);
    accepted = (p.accepted.0, subst (λ (z : InitialSpace). Remembers p.accepted.0 z.dedup) (sym t.rest_is) p.accepted.1, p.accepted.2);
  }

  frame_in : (now : ℕ) (old new : InitialSpace) (f : Frame) (closed : Option ConnectionClose) (q : QuicFrame) → IsFrameTaken now old new f closed → written_form q ≡ plain_of f → Came q
      → FollowsOf old → FollowsOf new
  frame_in now old new f closed q (padding e) form has p = same old new e p
  frame_in now old new f closed q (ping e) form has p = same old new e p
  frame_in now old new f closed q (ack a r) form has p =
      let acked = same_by old r.mid _ r.mid_is (record { hello = refl; crypto = refl; number = refl; dedup = refl }) in
      same_follows hello side peer old new u (same_both old r.mid new acked (loss_same _ now r.mid new r.lost)) p
  frame_in now old new f closed q (crypto _ piece is t) form has p =
      let it = form_same q (crypto_frame piece.offset piece.bytes) (form ∙ is) refl refl refl in
      piece_in old new piece t (subst Came it has) p
  frame_in now old new f closed q (close _ code kind reason said is says e) form has p = same old new e p

  frames_in : (now : ℕ) (bytes : List ℕ) (old new : InitialSpace) (end : Option ConnectionError) (fs : List QuicFrame) → AreFramesTaken now bytes old new end → AreQuicFrames bytes fs
      → ((q : QuicFrame) → In q fs → Came q) → FollowsOf old → FollowsOf new
  frames_in now bytes old new end fs (none_taken _) are has p = p
  frames_in now bytes old new end fs (more_taken _ rest f _ mid _ _ begins fits one behind) are has p =
      let first = first_is bytes rest (plain_of f) fs begins are in
      frames_in now rest mid new end first.1 behind first.4 (λ q is. has q (subst (λ (z : List QuicFrame). In q z) (sym first.2) (inr is)))
      (frame_in now old mid f None first.0 one first.3 (has first.0 (subst (λ (z : List QuicFrame). In first.0 z) (sym first.2) (inl refl))) p)
  frames_in now bytes old new end fs (closed_taken _ rest f _ _ said begins fits one) are has p =
      let first = first_is bytes rest (plain_of f) fs begins are in
      frame_in now old new f (Some said) first.0 one first.3 (has first.0 (subst (λ (z : List QuicFrame). In first.0 z) (sym first.2) (inl refl))) p
  frames_in now bytes old new end fs (refused_taken _ rest f _ error begins named refusal) are has p = p

  -- ---- a packet

  accepted_in : (now : Moment) (number : ℕ) (is_eliciting : Bool) (old new : InitialSpace) → IsAccepted now number is_eliciting old new
      → ((id_length : ℕ) → HasInitial id_length (handed_in u) (other side) number) → FollowsOf old → FollowsOf new
  accepted_in now number is_eliciting old new a has p =
      let hello_is = ap (λ (s : InitialSpace). s.hello) a.rest_is in
      let crypto_is = ap (λ (s : InitialSpace). s.crypto) a.rest_is in
      record {
        kept = elim p.kept [ inl none ↦ inl none | inr e ↦ inr (hello_is ∙ e) ];
        came = λ k byte id_length there. p.came k byte id_length (ap (λ (c : _). came_at c k) (sym crypto_is) ∙ there);
        numbers = λ id_length n there. subst (λ (m : ℕ). n < m) (ap (λ (s : InitialSpace). s.next_number) (sym a.rest_is)) (p.numbers id_length n there);
        accepted = (
          number ∷ p.accepted.0,
          a.remembers p.accepted.0 p.accepted.1,
          λ n id_length there. elim there [
            | inl e ↦ subst (λ (m : ℕ). HasInitial id_length (handed_in u) (other side) m) e (has id_length)
            | inr before ↦ p.accepted.2 n id_length before
          ],
        );
      }

  -- a packet of the peer's with this number and these frames
  abbrev packet_of : (number : ℕ) → List QuicFrame → Packet
  packet_of number fs = record { space = Initial; sender = other side; number = number; frames = fs }

  packet_in : (now : Moment) (number : ℕ) (frames datagram : List ℕ) (old new : InitialSpace) (end : Option ConnectionError) → IsPacketHandled now number frames old new end
      → ((fs : List QuicFrame) → AreQuicFrames frames fs → (id_length : ℕ) → HasPacket id_length (packet_of number fs) datagram) → In datagram (handed_in u) → FollowsOf old → FollowsOf new
  packet_in now number frames datagram old new end (repeated none e) has among p = same old new e p
  packet_in now number frames datagram old new end (empty _ is_new none fault e) has among p = same old new e p
  packet_in now number frames datagram old new end (faulty _ kind is_new fault code e) has among p = same old new e p
  packet_in now number frames datagram old new end (unnoted _ is_eliciting is_new valid t e) has among p = same old new e p
  packet_in now number frames datagram old new end (taken mid is_eliciting _ is_new valid a t) has among p =
      frames_in now.0 frames mid new end valid.frames t valid.are
      (λ q there id_length. record {
        of = record { datagram = datagram; among = among; packet = _; has = has valid.frames valid.are id_length; space_is = refl; sender_is = refl };
        frame_among = there;
      })
      (accepted_in now number is_eliciting old mid a
      (λ id_length. record { datagram = datagram; among = among; packet = _; has = has valid.frames valid.are id_length; space_is = refl; sender_is = refl; number_is = refl }) p)

-- ---- the hello

get_front : (xs ys : List ℕ) (o b : ℕ) → slice_get xs o ≡ Some b → slice_get (xs ++ ys) o ≡ Some b
get_front [] ys o b e = cc
get_front (x ∷ xs) ys zero b e = e
get_front (x ∷ xs) ys (suc o) b e = get_front xs ys o b e

greeted_with : (hello name : List ℕ) (h : Handshake) (p : TransportParameters) (u : List Act) (id_length : ℕ) → IsHelloThere h name p → Follows hello h u → IsGreetedWith id_length (handed_in u) (other h.side) p
greeted_with hello name h p u id_length there follows = record {
  hello = there.read.hello;
  name = name;
  carried = record {
    bytes = there.front;
    is = there.read.is.is;
    all = λ k byte at.
        let stands : slice_get there.space.crypto.bytes k ≡ Some byte = ap (λ (z : List ℕ). slice_get z k) there.whole ∙ get_front there.front there.rest k byte at in
        follows.came there.space k byte id_length there.space_is (ap (λ (o : Option ℕ). or_byte o (to_give there.space.crypto.waiting k)) stands);
  };
  says = there.read.says;
}

-- a server's hello has no name
server_hello : (hello : List ℕ) (side : Side) (p : TransportParameters) → IsItsHello hello side p → side ≡ Server → hello ≡ hello_bytes (hello_of (greeting Server [] p))
server_hello hello side p own server =
    own.is ∙ ap (λ (name : List ℕ). hello_bytes (hello_of (greeting side name p))) (own.unnamed server) ∙ ap (λ (z : Side). hello_bytes (hello_of (greeting z [] p))) server

-- a hello that is read says the id that its packets came from
used_source : (side : Side) (original peer : List ℕ) (retry_id : Option (List ℕ)) → (ids_at side original peer retry_id).source ≡ peer
used_source Client original peer retry_id = refl
used_source Server original peer retry_id = refl

source_read : (h : Handshake) (name : List ℕ) (p : TransportParameters) → IsHelloThere h name p → p.initial_source_connection_id ≡ h.remote_id
source_read h name p there =
    let ids = there.read.is.keeps OtherId in
    same_Some p.initial_source_connection_id (ids_used h).source (sym there.read.says.source_id ∙ ids.source) ∙ used_source h.side h.original_id h.remote_id h.retry_id

sourced_by : (h : Handshake) (name : List ℕ) (p r : TransportParameters) → IsHelloThere h name p → h.knows_peer ≡ true → Some p ≡ Some r → (r.initial_source_connection_id ≡ h.remote_id) × (h.knows_peer ≡ true)
sourced_by h name p r there knows e = (subst (λ (z : TransportParameters). z.initial_source_connection_id ≡ h.remote_id) (same_Some p r e) (source_read h name p there), knows)

hello_in : (hello : List ℕ) (old new : Handshake) (learned : Option (List ℕ)) (end : Option ConnectionError) (u : List Act) → old.knows_peer ≡ true → IsHelloRead old new learned end → Follows hello old u
    → Follows hello new u
hello_in hello old new learned end u knows (gone_before none e) p = subst (λ (z : Handshake). Follows hello z u) (sym e) p
hello_in hello old new learned end u knows (known _ is e) p = subst (λ (z : Handshake). Follows hello z u) (sym e) p
hello_in hello old new learned end u knows (cut s is none e) p = subst (λ (z : Handshake). Follows hello z u) (sym e) p
hello_in hello old new learned end u knows (refused s front rest fault error is unread whole form has code e) p = subst (λ (z : Handshake). Follows hello z u) (sym e) p
hello_in hello old new learned end u knows (at_client name q there client e) p = subst (λ (z : Handshake). Follows hello z u) (sym e) (record {
  own = p.own;
  kept = λ s is. absurd (none-some s is);
  came = λ s k byte id_length is at. absurd (none-some s is);
  greeted = λ r id_length is. subst (λ (z : TransportParameters). IsGreetedWith id_length (handed_in u) (other old.side) z) (same_Some q r is) (greeted_with hello name old q u id_length there p);
  sourced = λ r is. sourced_by old name q r there knows is;
  says = p.says;
  answers = p.answers;
  unsaid = λ _ none. let z : Some q ≡ None = none in cc;
  once = p.once;
  numbers = λ s id_length number is has. absurd (none-some s is);
  accepted = λ s is. absurd (none-some s is);
  received = p.received;
  sent = p.sent;
  limit = p.limit;
})
hello_in hello old new learned end u knows (at_server s name q there server is e) p =
    let one = λ (next x : InitialSpace) (there : Some next ≡ Some x). same_Some next x there in
    subst (λ (z : Handshake). Follows hello z u) (sym e) (record {
      own = p.own;
      kept = λ x at. inr (ap (λ (z : InitialSpace). z.hello) (sym (one _ x at)) ∙ sym (server_hello hello old.side old.parameters p.own server));
      came = λ x k byte id_length at stands. p.came s k byte id_length is (ap (λ (z : InitialSpace). came_at z.crypto k) (one _ x at) ∙ stands);
      greeted = λ r id_length at. subst (λ (z : TransportParameters). IsGreetedWith id_length (handed_in u) (other old.side) z) (same_Some q r at) (greeted_with hello name old q u id_length there p);
      sourced = λ r is. sourced_by old name q r there knows is;
      says = p.says;
      answers = p.answers;
      unsaid = λ _ none. let z : Some q ≡ None = none in cc;
      once = p.once;
      numbers = λ x id_length number at has. subst (λ (z : InitialSpace). number < z.next_number) (one _ x at) (p.numbers s id_length number is has);
      accepted = λ x at. let a = p.accepted s is in (a.0, subst (λ (z : InitialSpace). Remembers a.0 z.dedup) (one _ x at) a.1, a.2);
      received = p.received;
      sent = p.sent;
      limit = p.limit;
    })

-- ---- an Initial packet

pub opened_is : (accepts : AcceptsTag) (h : Handshake) (s : InitialSpace) (f : Form) (number : ℕ) (front frames : List ℕ) (fs : List QuicFrame) → NamesTags accepts → IsOpenedBy accepts h s f number frames
    → IsInitialForm front f.first f.body → AreQuicFrames frames fs → IsInitialPacket front (record { space = Initial; sender = other h.side; number = number; frames = fs })
opened_is accepts h s f number front frames fs names by form are =
    let o = by.opened in
    record {
      number_bytes = o.number_bytes;
      frame_bytes = frames;
      tag = o.tag;
      form = subst (λ (n : ℕ). IsInitialForm front n (o.number_bytes ++ (frames ++ o.tag))) o.first_is (subst (λ (z : List ℕ). IsInitialForm front f.first z) o.whole form);
      some_number = o.some_number;
      short_number = o.short_number;
      content = record { space_is = refl; tagged = names (other h.side) Initial number o.tag o.is_number o.accepted; low = sym o.expanded.candidate.same_low; frames = are };
    }

module _ (hello : List ℕ) (accepts : AcceptsTag) (names : NamesTags accepts) (now : Moment) (datagram : List ℕ) (u : List Act) (among : In datagram (handed_in u)) where
  -- what these bytes have the datagram has
  abbrev IsRest : List ℕ → Type 0
  IsRest bytes = (id_length : ℕ) (p : Packet) → HasPacket id_length p bytes → HasPacket id_length p datagram

  pub known_in : (f : Form) (old : Handshake) (s mid : InitialSpace) (number : ℕ) (frames bytes destination behind : List ℕ) (end : Option ConnectionError)
      → BeginsWithInitial bytes f.first destination f.source f.token f.body behind → IsRest bytes → old.space ≡ Some s → IsOpenedBy accepts old s f number frames
      → IsPacketHandled now number frames s mid end → Follows hello old u → Follows hello (knowing old f.source mid) u
  known_in f old s mid number frames bytes destination behind end b rest is opened h p =
      let of = packet_in hello old.side old.peer u now number frames datagram s mid end h
      (λ fs are id_length. rest id_length _ (initial b.front behind bytes b.whole (opened_is accepts old s f number b.front frames fs names opened b.form are))) among (space_of hello old u s is p) in
      others_follow hello old u f.source old.retry_id old.token true (Some mid) (λ q is. let before = p.sourced q is in (before.0 ∙ sym (opened.source_is before.1), refl))
      (λ x there. subst (λ (z : InitialSpace). SpaceFollows hello old.side old.peer z u) (same_Some mid x there) of) p

  pub initial_in : (f : Form) (old new : Handshake) (bytes destination behind : List ℕ) (learned : Option (List ℕ)) (end : Option ConnectionError)
      → BeginsWithInitial bytes f.first destination f.source f.token f.body behind → IsRest bytes → IsInitialTaken accepts now f old new learned end → Follows hello old u → Follows hello new u
  initial_in f old new bytes destination behind learned end b rest (gone none e) p = subst (λ (z : Handshake). Follows hello z u) (sym e) p
  initial_in f old new bytes destination behind learned end b rest (dropped s is none e) p = subst (λ (z : Handshake). Follows hello z u) (sym e) p
  initial_in f old new bytes destination behind learned end b rest (ended s mid number frames error is opened h e) p =
      subst (λ (z : Handshake). Follows hello z u) (sym e) (known_in f old s mid number frames bytes destination behind (Some error) b rest is opened h p)
  initial_in f old new bytes destination behind learned end b rest (handled s mid number frames _ _ is opened h read) p =
      hello_in hello (knowing old f.source mid) new learned end u refl read (known_in f old s mid number frames bytes destination behind None b rest is opened h p)

  packets_in : (bytes left : List ℕ) (old new : Handshake) (learned : Option (List ℕ)) (end : Option ConnectionError) → IsRest bytes → ArePacketsTaken accepts now bytes left old new learned end
      → Follows hello old u → Follows hello new u
  packets_in bytes left old new learned end rest (done _ _ none) p = p
  packets_in bytes left old new learned end rest (one_more _ destination behind _ f _ mid _ first others _ b one t) p =
      packets_in behind left mid new others end (λ id_length q has. rest id_length q (later b.front behind bytes f.first f.body b.whole b.form has)) t
      (initial_in f old mid bytes destination behind first None b rest one p)
  packets_in bytes left old new learned end rest (ended_by _ destination behind f _ _ _ error b one) p = initial_in f old new bytes destination behind learned (Some error) b rest one p

  begun_in : (bytes left : List ℕ) (old new : Handshake) (learned : Option (List ℕ)) → IsRest bytes → AreBegun accepts now bytes left old new learned → Follows hello old u → Follows hello new u
  begun_in bytes left old new learned rest (here_begun _ _) p = p
  begun_in bytes left old new learned rest (one_begun _ destination behind _ f _ mid _ first others b one begun) p =
      begun_in behind left mid new others (λ id_length q has. rest id_length q (later b.front behind bytes f.first f.body b.whole b.form has)) begun
      (initial_in f old mid bytes destination behind first None b rest one p)

-- ---- the datagram

pub taken_follows : (accepts : AcceptsTag) (now : Moment) (datagram rest hello : List ℕ) (old new : Handshake) (retried learned : Option (List ℕ)) (end : Option ConnectionError) (t : List Act)
    → NamesTags accepts → IsDatagramTaken accepts now datagram old new rest retried learned end → Follows hello old t → Follows hello new (t ++ HandedIn datagram ∷ [])
taken_follows accepts now datagram rest hello old new retried learned end t names (retry s source token may is e) p =
    let u = t ++ HandedIn datagram ∷ [] in
    let h = received (length datagram) old in
    let heard = heard_follows hello old t datagram p in
    let of = same_follows hello old.side old.peer s _ u (record { hello = refl; crypto = refl; number = refl; dedup = refl }) (space_of hello h u s may.space heard) in
    subst (λ (z : Handshake). Follows hello z u) (sym e)
    (others_follow hello h u source (Some source) token old.knows_peer _ (λ q is. absurd (both_ways old.knows_peer may.unknown (heard.sourced q is).1))
    (λ x there. subst (λ (z : InitialSpace). SpaceFollows hello old.side old.peer z u) (same_Some _ x there) of) heard)
taken_follows accepts now datagram rest hello old new retried learned end t names (mismatch is e) p = subst (λ (z : Handshake). Follows hello z (t ++ HandedIn datagram ∷ [])) (sym e) (heard_follows hello old t datagram p)
taken_follows accepts now datagram rest hello old new retried learned end t names (packets _ _ _ no_retry no_mismatch taken_all) p =
    packets_in hello accepts names now datagram (t ++ HandedIn datagram ∷ []) (in_last_act t datagram) datagram rest (received (length datagram) old) new learned end (λ id_length q has. has) taken_all
    (heard_follows hello old t datagram p)

-- memory is wanting for it, and the space isn't used any more
pub lost_follows : (accepts : AcceptsTag) (now : Moment) (datagram hello : List ℕ) (old new : Handshake) (learned : Option (List ℕ)) (t : List Act) → NamesTags accepts
    → IsLost accepts now datagram old new learned → Follows hello old t → Follows hello (dropping new) (t ++ HandedIn datagram ∷ [])
lost_follows accepts now datagram hello old new learned t names (retry_lost s source token may is e) p =
    let u = t ++ HandedIn datagram ∷ [] in
    let h = received (length datagram) old in
    let heard = heard_follows hello old t datagram p in
    subst (λ (z : Handshake). Follows hello (dropping z) u) (sym e)
    (without_counts hello h u (others_follow hello h u h.remote_id h.retry_id h.token h.knows_peer None heard.sourced (λ s is. absurd (none-some s is)) heard))
lost_follows accepts now datagram hello old new learned t names (initials_lost _ no_retry no_mismatch lost) p =
    let u = t ++ HandedIn datagram ∷ [] in
    let mid = lost.mid in
    let before = begun_in hello accepts names now datagram u (in_last_act t datagram) datagram lost.rest (received (length datagram) old) mid learned (λ id_length q has. has) lost.begun
    (heard_follows hello old t datagram p) in
    subst (λ (z : Handshake). Follows hello (dropping z) u) (sym lost.left.rest_is)
    (without_counts hello (knowing mid lost.form.source lost.left.space) u
    (others_follow hello mid u lost.form.source mid.retry_id mid.token true None
    (λ q is. let known = before.sourced q is in (known.0 ∙ sym (unread_source accepts now lost.form mid lost.unread known.1), refl)) (λ s is. absurd (none-some s is)) before))
