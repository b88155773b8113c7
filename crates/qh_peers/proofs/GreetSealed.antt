-- Each datagram of one Initial packet that an end hands out has its tag, and four bytes of its number.
use Rattle.std.proofs.Common.{◌≡◌, ℕ, ◌+◌, ◌<◌, ◌≤◌, ◌^◌, Bool, List, [], ◌∷◌, ◌++◌, length, drop, sym, ap, subst, ◌∙◌, inl, inr, arith, append-nil, length-append}
use Rattle.std.proofs.Math.Seq.{drop-append_seam}
use Rattle.qh_base.specs.declared.path.Transmit.{Transmit}
use Rattle.qh_base.specs.declared.time.Moment.{Moment}
use Rattle.qh_conn.specs.Outgoing.{IsDataTransmitted, IsTransmitted}
use Rattle.qh_conn.specs.declared.connection.Connection.{Connection}
use Rattle.qh_converse.proofs.ShakeLaws.{short_behind}
use Rattle.qh_converse.proofs.ShortDatagrams.{short_made}
use Rattle.qh_frame.specs.FrameBytes.{frame_bytes}
use Rattle.qh_handshake.proofs.FollowsOut.{out_or_last}
use Rattle.qh_handshake.proofs.OneForm.{ids_agree}
use Rattle.qh_handshake.specs.Handshake.{IsHandshake}
use Rattle.qh_handshake.specs.Outgoing.{close_frame, datagram_of, least_size}
use Rattle.qh_handshake.specs.declared.handshake.Handshake.{Handshake}
use Rattle.qh_packet.proofs.InitialForms.{written_form}
use Rattle.qh_packet.specs.Initial.{body_length, filled, initial_bytes, is_short}
use Rattle.qh_packet.specs.LongHeader.{long_head}
use Rattle.qh_packet.specs.Packet.{low_bytes}
use Rattle.qh_packet.specs.Session.{SealsTag}
use Rattle.qh_peers.specs.Greets.{AreInitialsSealed, IsInitialSealed}
use Rattle.qh_spec.proofs.TranscriptLaws.{handed_out-append}
use Rattle.qh_spec.specs.Datagram.{IsInitialForm}
use Rattle.qh_spec.specs.Lists.{In}
use Rattle.qh_spec.specs.Parted.{IsInitialAlone, IsShort}
use Rattle.qh_spec.specs.Transcript.{Act, HandedOut, handed_out}
use Rattle.qh_spec.specs.Varint.{varint}
use Rattle.qh_spec.specs.declared.sides.Side.{Side}
use Rattle.qh_spec.specs.declared.sides.Side.TheVariants.{Server}
use Rattle.qh_spec.specs.declared.sides.Space.TheVariants.{Initial}

-- ---- a datagram

written_sealed : (sealed : SealsTag) (sender : Side) (destination source token frames d : List ℕ) (number : ℕ) (is_wide : Bool) → length destination ≤ 20 → length source ≤ 20 → length token < 2 ^ 14
    → 36 + length frames < 2 ^ 14 → length (sealed sender Initial number) ≡ 32 → number < 2 ^ 62 → (sender ≡ Server → token ≡ [])
    → d ≡ initial_bytes destination source token number is_wide frames (sealed sender Initial number) → IsInitialSealed sealed sender d
written_sealed sealed sender destination source token frames d number is_wide fits_d fits_s fits_t fits_f size is_number none is =
    let tag : List ℕ = sealed sender Initial number in
    let body : List ℕ = low_bytes number ++ (frames ++ tag) in
    let b = written_form destination source token frames tag [] number is_wide fits_d fits_s fits_t fits_f size in
    let whole : b.front ≡ d = sym (append-nil b.front) ∙ sym b.whole ∙ append-nil (initial_bytes destination source token number is_wide frames tag) ∙ sym is in
    let form : IsInitialForm d 195 body = subst (λ (z : List ℕ). IsInitialForm z 195 body) whole b.form in
    let ids = ids_agree d [] b.front [] 195 195 body body form b.form (append-nil d ∙ sym whole ∙ sym (append-nil b.front)) in
    record { number = number; frames = frames; is_number = is_number; form = form; untokened = λ server. ids.1 ∙ b.token_is ∙ none server }

-- a part is no longer than the whole
part_length : (size : ℕ) (a b c d e : List ℕ) → size ≡ length (a ++ (b ++ (c ++ (d ++ e)))) → length d ≤ size
part_length size a b c d e is =
    let first = length-append a (b ++ (c ++ (d ++ e))) in
    let second = length-append b (c ++ (d ++ e)) in
    let third = length-append c (d ++ e) in
    let last = length-append d e in
    omega (arith, is, first, second, third, last)

made_sealed : (sealed : SealsTag) (h : Handshake) (frames d : List ℕ) (number least size : ℕ) → IsHandshake h → number < 2 ^ 62 → (length h.remote_id ≤ 20) × (length h.local_id ≤ 20)
    → size ≡ length (datagram_of sealed h number frames least) → size ≤ 1200 → length (sealed h.side Initial number) ≡ 32 → d ≡ datagram_of sealed h number frames least → IsInitialSealed sealed h.side d
made_sealed sealed h frames d number least size whole is_number ids size_is fits tag_length is =
    let all : List ℕ = filled h.remote_id h.local_id h.token frames least in
    let wide = is_short h.remote_id h.local_id h.token frames least in
    let front : List ℕ = long_head 195 1 h.remote_id h.local_id ++ (varint (length h.token) ++ h.token) in
    let few : length all ≤ size = part_length size front (body_length wide (36 + length all)) (low_bytes number) all (sealed h.side Initial number) size_is in
    let token = whole.token in
    written_sealed sealed h.side h.remote_id h.local_id h.token all d number wide ids.0 ids.1 (omega (arith, token)) (omega (arith, few, fits)) tag_length is_number (λ server. (whole.server server).1) is

module _ {S : Type 0} where
  data_short : (sealed : SealsTag) (now : Moment) (old new : Connection S) (before after : List ℕ) (t : Transmit) → IsDataTransmitted sealed now old new before after t → IsShort (drop (length before) after)
  data_short sealed now old new before after t (IsDataTransmitted.of_core made _ _ _) = short_made sealed now old.core new.core before after t made
  data_short sealed now old new before after t (IsDataTransmitted.control sent is _ _ _ _) = short_made sealed now old.core new.core before after sent.transmit is.made
  data_short sealed now old new before after t (IsDataTransmitted.datagrams sent frames core _ _ is _ _ _) = short_made sealed now old.core core before after sent.transmit is.made

  transmitted_sealed : (sealed : SealsTag) (now : Moment) (old new : Connection S) (before after : List ℕ) (t : Transmit) → IsHandshake old.handshake → IsTransmitted sealed now old new before after t
      → IsInitialAlone (drop (length before) after) → IsInitialSealed sealed old.handshake.side (drop (length before) after)
  transmitted_sealed sealed now old new before after t whole (IsTransmitted.initial _ made _ _) alone =
      let x = datagram_of sealed old.handshake made.space.next_number made.frames (least_size old.handshake made.is_eliciting) in
      made_sealed sealed old.handshake made.frames (drop (length before) after) made.space.next_number (least_size old.handshake made.is_eliciting) t.size whole made.number made.ids made.size_is made.fits made.tag_length
      (ap (λ (z : List ℕ). drop (length before) z) made.after_is ∙ drop-append_seam before x)
  transmitted_sealed sealed now old new before after t whole (IsTransmitted.close _ _ said _ _ _ made _ _) alone =
      let x = datagram_of sealed old.handshake made.space.next_number (frame_bytes (close_frame said)) (least_size old.handshake _) in
      made_sealed sealed old.handshake (frame_bytes (close_frame said)) (drop (length before) after) made.space.next_number _ t.size whole made.number made.ids made.size_is made.fits made.tag_length
      (ap (λ (z : List ℕ). drop (length before) z) made.after_is ∙ drop-append_seam before x)
  transmitted_sealed sealed now old new before after t whole (IsTransmitted.data_packet _ _ sent) alone =
      let d : List ℕ = drop (length before) after in
      absurd (short_behind d (data_short sealed now old new before after t sent) d [] alone.body alone.first (sym (append-nil d)) alone.is)

-- ---- all of them

one_more : (sealed : SealsTag) (side : Side) (t : List Act) (d : List ℕ) → (IsInitialAlone d → IsInitialSealed sealed side d) → AreInitialsSealed sealed side t → AreInitialsSealed sealed side (t ++ HandedOut d ∷ [])
one_more sealed side t d this are x i alone = elim (out_or_last t d x i) [
  | inl earlier ↦ are x earlier alone
  | inr last ↦ elim last [
    | inl same ↦ subst (λ (z : List ℕ). IsInitialSealed sealed side z) same (this (subst (λ (z : List ℕ). IsInitialAlone z) (sym same) alone))
    | inr none ↦ absurd none
  ]
]

pub none_sealed : (sealed : SealsTag) (side : Side) → AreInitialsSealed sealed side []
none_sealed sealed side d i alone = absurd i

pub quiet_sealed : (sealed : SealsTag) (side : Side) (t more : List Act) → handed_out more ≡ [] → AreInitialsSealed sealed side t → AreInitialsSealed sealed side (t ++ more)
quiet_sealed sealed side t more none are d i alone =
    let same : handed_out (t ++ more) ≡ handed_out t = handed_out-append t more ∙ ap (λ (z : List (List ℕ)). handed_out t ++ z) none ∙ append-nil (handed_out t) in
    are d (subst (λ (z : List (List ℕ)). In d z) same i) alone

pub sent_sealed : {S : Type 0} (sealed : SealsTag) (now : Moment) (before after : List ℕ) (transmit : Transmit) (c new : Connection S) (t : List Act) → IsHandshake c.handshake → c.core.side ≡ c.handshake.side
    → IsTransmitted sealed now c new before after transmit → AreInitialsSealed sealed c.core.side t → AreInitialsSealed sealed c.core.side (t ++ HandedOut (drop (length before) after) ∷ [])
sent_sealed sealed now before after transmit c new t whole side sent are =
    one_more sealed c.core.side t (drop (length before) after)
    (λ alone. subst (λ (s : Side). IsInitialSealed sealed s (drop (length before) after)) (sym side) (transmitted_sealed sealed now c new before after transmit whole sent alone)) are
