-- How what a handshake sends stands once one datagram more was handed out.
use Rattle.std.proofs.Common.{◌≡◌, ℕ, ◌<◌, ◌≤◌, ◌+◌, ◌-◌, ◌^◌, false, List, [], ◌∷◌, ◌++◌, length, drop, Option, Some, refl, sym, ap, subst, ◌∙◌, inl, inr, arith}
use Rattle.std.proofs.Math.Seq.{drop-append_seam}
use Rattle.std.proofs.lemmas.List.{append-nil, length-append}
use Rattle.std.proofs.lemmas.Option.{same_Some}
use Rattle.std.specs.List.{AllByRecursion}
use Rattle.std.specs.Prelude.{IfSome}
use Rattle.qh_base.specs.declared.connection_error.ConnectionClose.{ConnectionClose}
use Rattle.qh_base.specs.declared.time.Moment.{Moment}
use Rattle.qh_frame.specs.FrameBytes.{frame_bytes}
use Rattle.qh_frame.specs.Range.{IsInRange}
use Rattle.qh_handshake.proofs.FramesHonest.{AreFit, close_fit, frames_fit}
use Rattle.qh_handshake.proofs.OneForm.{ids_agree}
use Rattle.qh_handshake.proofs.OneInitial.{is_only, is_there}
use Rattle.qh_handshake.proofs.SendsOn.{AcksCame, honest_later, same_acks}
use Rattle.qh_handshake.specs.Follows.{Follows, HasInitial}
use Rattle.qh_handshake.specs.Handshake.{IsHandshake, IsHeld}
use Rattle.qh_handshake.specs.InitialSpace.{IsInitialSpace}
use Rattle.qh_handshake.specs.Outgoing.{IsCloseMade, IsDatagramMade, close_frame, datagram_of, least_size, room, with_sent}
use Rattle.qh_handshake.specs.Sends.{IsHonestDatagram, IsHonestFrame, IsHonestPacket, Sends}
use Rattle.qh_handshake.specs.Written.{CanBeWritten}
use Rattle.qh_handshake.specs.declared.handshake.Handshake.{Handshake}
use Rattle.qh_handshake.specs.declared.initial_space.HelloState.TheVariants.{Held, Waits}
use Rattle.qh_handshake.specs.declared.initial_space.InitialSpace.{InitialSpace}
use Rattle.qh_packet.proofs.InitialForms.{written_form}
use Rattle.qh_packet.specs.Initial.{BeginsWithInitial, bare_size, body_length, filled, is_short}
use Rattle.qh_packet.specs.LongHeader.{long_head}
use Rattle.qh_packet.specs.Packet.{low_bytes}
use Rattle.qh_packet.specs.Session.{MakesTags}
use Rattle.qh_spec.proofs.Cuts.{halves}
use Rattle.qh_spec.proofs.FrameLaws.{quic_frames_agree}
use Rattle.qh_spec.proofs.PacketLaws.{forms_agree}
use Rattle.qh_spec.proofs.PartLaws.{last_or_before}
use Rattle.qh_spec.proofs.TranscriptLaws.{handed_in-append}
use Rattle.qh_spec.specs.Datagram.{Packet, HasPacket}
use Rattle.qh_spec.specs.Link.{other}
use Rattle.qh_spec.specs.QuicFrames.{QuicFrame, AreQuicFrames}
use Rattle.qh_spec.specs.Transcript.{Act, HandedOut, handed_in}
use Rattle.qh_spec.specs.Varint.{varint}
use Rattle.qh_spec.specs.declared.sides.Side.{Side}
use Rattle.qh_spec.specs.declared.sides.Space.{Space}
use Rattle.qh_spec.specs.declared.sides.Space.TheVariants.{Initial}

-- ---- the datagram

-- a part is no longer than the whole
part_length : (size : ℕ) (a b c d e : List ℕ) → size ≡ length (a ++ (b ++ (c ++ (d ++ e)))) → length d ≤ size
part_length size a b c d e is =
    let first = length-append a (b ++ (c ++ (d ++ e))) in
    let second = length-append b (c ++ (d ++ e)) in
    let third = length-append c (d ++ e) in
    let last = length-append d e in
    omega (arith, is, first, second, third, last)

held_or_waits : Held ≡ Waits → ⊥
held_or_waits e = cc

same_datagram : (d e : List ℕ) → HandedOut d ≡ HandedOut e → d ≡ e
same_datagram d e same = cc

none_in : (t : List Act) (d : List ℕ) → handed_in (t ++ HandedOut d ∷ []) ≡ handed_in t
none_in t d = handed_in-append t (HandedOut d ∷ []) ∙ append-nil (handed_in t)

-- the hello that waits is the one that is to be said
waiting_hello : (hello : List ℕ) (h : Handshake) (s : InitialSpace) (t : List Act) → IsHandshake h → h.space ≡ Some s → Follows hello h t → s.state ≡ Waits → s.hello ≡ hello
waiting_hello hello h s t whole is p waits = elim (p.kept s is) [
  | inl none ↦
      let held : IsHeld s = subst (λ (o : Option InitialSpace). IfSome o IsHeld) is (whole.held none.0 none.1) in
      absurd (held_or_waits (sym held.held ∙ waits))
  | inr e ↦ e
]

short_hello : (h : Handshake) (s : InitialSpace) → IsHandshake h → h.space ≡ Some s → length s.hello < 2 ^ 62
short_hello h s whole is = let space : IsInitialSpace s = subst (λ (o : Option InitialSpace). IfSome o IsInitialSpace) is whole.space in let short = space.short in omega (arith, short)

-- of each pair the first, and the second
firsts : (P Q : QuicFrame → Type 0) (fs : List QuicFrame) → AllByRecursion (λ (f : QuicFrame). P f × Q f) fs → AllByRecursion P fs
firsts P Q [] all = tt
firsts P Q (f ∷ fs) all = (all.0.0, firsts P Q fs all.1)

seconds : (P Q : QuicFrame → Type 0) (fs : List QuicFrame) → AllByRecursion (λ (f : QuicFrame). P f × Q f) fs → AllByRecursion Q fs
seconds P Q [] all = tt
seconds P Q (f ∷ fs) all = (all.0.1, seconds P Q fs all.1)

-- a datagram of one packet of these frames
pub record IsOneSent (sealed : Side → Space → ℕ → List ℕ) (old : Handshake) (s : InitialSpace) (frames : List ℕ) (least size : ℕ) : Type 0 where
  pub space_is : old.space ≡ Some s
  pub number : s.next_number < 2 ^ 62
  pub size_is : size ≡ length (datagram_of sealed old s.next_number frames least)
  pub fits : size ≤ 1200
  pub ids : (length old.remote_id ≤ 20) × (length old.local_id ≤ 20)
  pub tag_length : length (sealed old.side Initial s.next_number) ≡ 32

module _ (sealed : Side → Space → ℕ → List ℕ) (old : Handshake) (s : InitialSpace) (frames : List ℕ) (least size : ℕ) (makes : MakesTags sealed) (whole : IsHandshake old)
    (one : IsOneSent sealed old s frames least size) where
  abbrev tag : List ℕ
  tag = sealed old.side Initial s.next_number

  abbrev datagram : List ℕ
  datagram = datagram_of sealed old s.next_number frames least

  abbrev all_frames : List ℕ
  all_frames = filled old.remote_id old.local_id old.token frames least

  can : CanBeWritten old.remote_id old.local_id old.token frames least tag
  can =
      let front = long_head 195 1 old.remote_id old.local_id ++ (varint (length old.token) ++ old.token) in
      let count = body_length (is_short old.remote_id old.local_id old.token frames least) (36 + length all_frames) in
      let low : length all_frames ≤ size = part_length size front count (low_bytes s.next_number) all_frames tag one.size_is in
      record {
        short_destination = one.ids.0;
        short_source = one.ids.1;
        short_token = omega (arith, whole.token);
        short_frames = omega (arith, low, one.fits);
        whole_tag = one.tag_length;
      }

  -- its source id is that of the handshake's, and nothing is behind its packet
  from_own : (first : ℕ) (destination source token body behind : List ℕ) → BeginsWithInitial datagram first destination source token body behind → (source ≡ old.local_id) × (behind ≡ [])
  from_own first destination source token body behind b =
      let own = written_form old.remote_id old.local_id old.token all_frames tag [] s.next_number (is_short old.remote_id old.local_id old.token frames least)
      can.short_destination can.short_source can.short_token can.short_frames can.whole_tag in
      let e : own.front ++ [] ≡ b.front ++ behind = sym own.whole ∙ append-nil datagram ∙ b.whole in
      let all = forms_agree own.front [] b.front behind 195 first (low_bytes s.next_number ++ (all_frames ++ tag)) body own.form b.form e in
      let id = (ids_agree own.front [] b.front behind 195 first (low_bytes s.next_number ++ (all_frames ++ tag)) body own.form b.form e).0 in
      (sym b.source_is ∙ sym id ∙ own.source_is, sym all.2)

  module _ (hello : List ℕ) (t : List Act) (fit : AreFit hello (handed_in t) old.side all_frames) (p : Sends hello old t) where
    abbrev came : List (List ℕ)
    came = handed_in t

    packet_here : (id_length : ℕ) (q : Packet) → HasPacket id_length q datagram → IsHonestPacket hello came old.side q
    packet_here id_length q has =
        let that = is_only old.remote_id old.local_id old.token frames tag s.next_number least can old.side (makes old.side Initial s.next_number one.number) id_length q datagram refl has in
        let are : AreQuicFrames all_frames q.frames = that.3 in
        let same : fit.frames ≡ q.frames = quic_frames_agree all_frames fit.frames q.frames fit.are are in
        record {
          space_is = that.0;
          sender_is = that.1;
          some = λ none. fit.some (same ∙ none);
          in_range = subst (λ (fs : List QuicFrame). AllByRecursion IsInRange fs) same (firsts IsInRange (IsHonestFrame hello came old.side) fit.frames fit.fit);
          honest = subst (λ (fs : List QuicFrame). AllByRecursion (IsHonestFrame hello came old.side) fs) same (seconds IsInRange (IsHonestFrame hello came old.side) fit.frames fit.fit);
        }

    -- what stands between the number and the tag is these frames
    some_here : (first : ℕ) (destination source token body behind number_bytes frame_bytes tail : List ℕ) → BeginsWithInitial datagram first destination source token body behind
        → body ≡ number_bytes ++ (frame_bytes ++ tail) → first ≡ 191 + length number_bytes → length tail ≡ 32 → (fs : List QuicFrame) × AreQuicFrames frame_bytes fs
    some_here first destination source token body behind number_bytes frame_bytes tail b parts first_is tail_length =
        let own = written_form old.remote_id old.local_id old.token all_frames tag [] s.next_number (is_short old.remote_id old.local_id old.token frames least)
        can.short_destination can.short_source can.short_token can.short_frames can.whole_tag in
        let e : own.front ++ [] ≡ b.front ++ behind = sym own.whole ∙ append-nil datagram ∙ b.whole in
        let all = forms_agree own.front [] b.front behind 195 first (low_bytes s.next_number ++ (all_frames ++ tag)) body own.form b.form e in
        let cut = halves (low_bytes s.next_number) (all_frames ++ tag) number_bytes (frame_bytes ++ tail) (omega (arith, all.0, first_is)) (all.1 ∙ parts) in
        let len = ap length cut.1 in
        let own_tag : length tag ≡ 32 = one.tag_length in
        let same = halves all_frames tag frame_bytes tail (omega (arith, len, own_tag, tail_length, length-append all_frames tag, length-append frame_bytes tail)) cut.1 in
        (fit.frames, subst (λ (z : List ℕ). AreQuicFrames z fit.frames) same.0 fit.are)

    packet_there : (id_length : ℕ) → (q : Packet) × HasPacket id_length q datagram
    packet_there id_length =
        (_, is_there old.remote_id old.local_id old.token frames tag s.next_number least can old.side (makes old.side Initial s.next_number one.number) id_length fit.frames fit.are)

    -- with the next space, which has the same numbers to acknowledge
    pub one_sends : (next : InitialSpace) → next.acks.ranges ≡ s.acks.ranges → Sends hello (with_sent old next size) (t ++ HandedOut datagram ∷ [])
    one_sends next acks_are =
        let here : IsHonestDatagram hello came (with_sent old next size) datagram = record { has_one = packet_there; from = from_own; some = some_here; packets = packet_here } in
        let acked : AcksCame old.side next t = same_acks old.side s next t acks_are (λ number id_length there. p.acked s number id_length one.space_is there) in
        record {
          each = λ before after d e. elim (last_or_before t before after (HandedOut datagram) (HandedOut d) e) [
            | inl h ↦
                subst (λ (z : List ℕ). IsHonestDatagram hello (handed_in before) (with_sent old next size) z) (same_datagram datagram d h.1)
                (subst (λ (z : List Act). IsHonestDatagram hello (handed_in z) (with_sent old next size) datagram) h.0 here)
            | inr h ↦ honest_later hello (handed_in before) old (with_sent old next size) d (record { side = refl; id = refl }) (p.each before h.0 d h.1)
          ];
          acked = λ x number id_length is there.
              let it : AcksCame old.side x t = subst (λ (z : InitialSpace). AcksCame old.side z t) (same_Some next x is) acked in
              subst (λ (z : List (List ℕ)). HasInitial id_length z (other old.side) number) (sym (none_in t datagram)) (it number id_length there);
        }

-- ---- the two kinds of it

pub close_sends : (sealed : Side → Space → ℕ → List ℕ) (close : ConnectionClose) (before after hello : List ℕ) (old new : Handshake) (size : ℕ) (t : List Act)
    → MakesTags sealed → IsHandshake old → IsCloseMade sealed close old new before after size → Sends hello old t
    → Sends hello new (t ++ HandedOut (drop (length before) after) ∷ [])
close_sends sealed close before after hello old new size t makes whole m p =
    let frames = frame_bytes (close_frame close) in
    let least = least_size old false in
    let d = datagram_of sealed old m.space.next_number frames least in
    let one : IsOneSent sealed old m.space frames least size = record {
      space_is = m.space_is;
      number = m.number;
      size_is = m.size_is;
      fits = m.fits;
      ids = m.ids;
      tag_length = m.tag_length;
    } in
    let fit = close_fit hello (handed_in t) old.side close (least - (bare_size old.remote_id old.local_id old.token frames + 2)) m.read_back in
    let behind : drop (length before) after ≡ d = ap (λ (z : List ℕ). drop (length before) z) m.after_is ∙ drop-append_seam before d in
    subst (λ (z : List ℕ). Sends hello new (t ++ HandedOut z ∷ [])) (sym behind)
    (subst (λ (z : Handshake). Sends hello z (t ++ HandedOut d ∷ [])) (sym m.new_is)
    (one_sends sealed old m.space frames least size makes whole one hello t fit p (record m.space { next_number = m.space.next_number + 1 }) refl))

pub made_sends : (sealed : Side → Space → ℕ → List ℕ) (now : Moment) (before after hello : List ℕ) (old new : Handshake) (size : ℕ) (t : List Act)
    → MakesTags sealed → IsHandshake old → IsDatagramMade sealed now old new before after size → Follows hello old t → Sends hello old t
    → Sends hello new (t ++ HandedOut (drop (length before) after) ∷ [])
made_sends sealed now before after hello old new size t makes whole m follows p =
    let least = least_size old m.is_eliciting in
    let d = datagram_of sealed old m.space.next_number m.frames least in
    let one : IsOneSent sealed old m.space m.frames least size = record {
      space_is = m.space_is;
      number = m.number;
      size_is = m.size_is;
      fits = m.fits;
      ids = m.ids;
      tag_length = m.tag_length;
    } in
    let fit = frames_fit hello (handed_in t) old.side now (room old) m.space m.next m.frames m.is_eliciting m.made (least - (bare_size old.remote_id old.local_id old.token m.frames + 2))
    (waiting_hello hello old m.space t whole m.space_is follows) (short_hello old m.space whole m.space_is) (λ number id_length there. p.acked m.space number id_length m.space_is there) in
    let behind : drop (length before) after ≡ d = ap (λ (z : List ℕ). drop (length before) z) m.after_is ∙ drop-append_seam before d in
    subst (λ (z : List ℕ). Sends hello new (t ++ HandedOut z ∷ [])) (sym behind)
    (subst (λ (z : Handshake). Sends hello z (t ++ HandedOut d ∷ [])) (sym m.new_is)
    (one_sends sealed old m.space m.frames least size makes whole one hello t fit p m.next (ap (λ (z : InitialSpace). z.acks.ranges) m.made.new_is)))
