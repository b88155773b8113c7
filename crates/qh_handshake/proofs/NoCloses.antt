-- What a handshake makes by itself doesn't close (RFC 9000, section 19.19).
use Rattle.std.proofs.Common.{◌≡◌, ℕ, ◌≤◌, ◌+◌, ◌-◌, List, [], ◌∷◌, ◌++◌, length, drop, sym, ap, subst, ◌∙◌, inl, inr, arith}
use Rattle.std.proofs.lemmas.List.{append-nil}
use Rattle.std.specs.List.{AllByRecursion}
use Rattle.qh_base.specs.declared.time.Moment.{Moment}
use Rattle.qh_handshake.proofs.FollowsOut.{all_in, behind_made, one_made, only, out_or_last}
use Rattle.qh_handshake.proofs.FramesMade.{each_made}
use Rattle.qh_handshake.specs.Handshake.{IsHandshake}
use Rattle.qh_handshake.specs.Outgoing.{IsDatagramMade, datagram_of, least_size, room}
use Rattle.qh_handshake.specs.Sends.{IsClose, NeverCloses}
use Rattle.qh_handshake.specs.declared.handshake.Handshake.{Handshake}
use Rattle.qh_packet.specs.Initial.{bare_size, filled}
use Rattle.qh_packet.specs.Session.{MakesTags}
use Rattle.qh_spec.proofs.FrameLaws.{quic_frames_agree}
use Rattle.qh_spec.proofs.GreetedLaws.{frame_more}
use Rattle.qh_spec.proofs.TranscriptLaws.{handed_out-append}
use Rattle.qh_spec.specs.Lists.{In}
use Rattle.qh_spec.specs.QuicFrames.{QuicFrame, AreQuicFrames}
use Rattle.qh_spec.specs.Transcript.{Act, HandedOut, handed_out, out_of}
use Rattle.qh_spec.specs.declared.sides.Side.{Side}
use Rattle.qh_spec.specs.declared.sides.Space.{Space}
use Rattle.qh_spec.specs.declared.sides.Space.TheVariants.{Initial}

pub fresh_silent : (side : Side) → NeverCloses side []
fresh_silent side = λ id_length f has closes. absurd has.of.among

pub fewer_silent : (side : Side) (t u : List Act) → ((d : List ℕ) → In d (handed_out u) → In d (handed_out t)) → NeverCloses side t → NeverCloses side u
fewer_silent side t u among never = λ id_length f has closes. never id_length f (frame_more id_length (handed_out u) (handed_out t) side Initial f among has) closes

pub unsaid_silent : (side : Side) (act : Act) (t : List Act) → out_of act ≡ [] → NeverCloses side t → NeverCloses side (t ++ act ∷ [])
unsaid_silent side act t none never =
    let same : handed_out (t ++ act ∷ []) ≡ handed_out t =
    handed_out-append t (act ∷ []) ∙ ap (λ (z : List (List ℕ)). handed_out t ++ (z ++ [])) none ∙ append-nil (handed_out t) in
    fewer_silent side t (t ++ act ∷ []) (λ d is. subst (λ (z : List (List ℕ)). In d z) same is) never

-- PADDING, PING, ACK and CRYPTO are the frames of the first seven types
abbrev IsEarly : QuicFrame → Type 0
IsEarly f = f.kind ≤ 6

none_early : (f : QuicFrame) → f.kind ≤ 6 → IsClose f → ⊥
none_early f early (inl e) = omega (arith, early, e)
none_early f early (inr e) = omega (arith, early, e)

pub made_silent : (sealed : Side → Space → ℕ → List ℕ) (now : Moment) (before after : List ℕ) (old new : Handshake) (size : ℕ) (t : List Act) → MakesTags sealed → IsHandshake old
    → IsDatagramMade sealed now old new before after size → NeverCloses old.side t → NeverCloses old.side (t ++ HandedOut (drop (length before) after) ∷ [])
made_silent sealed now before after old new size t makes whole m never =
    let least = least_size old m.is_eliciting in
    let d = datagram_of sealed old m.space.next_number m.frames least in
    let bytes = filled old.remote_id old.local_id old.token m.frames least in
    let one = one_made sealed now before after old new size m in
    let all : (fs : List QuicFrame) × AreQuicFrames bytes fs × AllByRecursion IsEarly fs = each_made now (room old) m.space m.next m.frames m.is_eliciting m.made IsEarly
    (record { padding = omega arith; ping = omega arith; ack = λ f kind. omega (arith, kind); crypto = λ waits. omega arith }) (least - (bare_size old.remote_id old.local_id old.token m.frames + 2)) in
    λ id_length f has closes. elim (out_or_last t (drop (length before) after) has.of.datagram has.of.among) [
      | inl earlier ↦ never id_length f (record {
        of = record { datagram = has.of.datagram; among = earlier; packet = has.of.packet; has = has.of.has; space_is = has.of.space_is; sender_is = has.of.sender_is };
        frame_among = has.frame_among;
      }) closes
      | inr last ↦
          let here = subst (λ (z : List ℕ). In has.of.datagram (z ∷ [])) (behind_made sealed now before after old new size m) last in
          let that = only sealed old m.space m.frames least size makes whole one id_length has.of.packet has.of.datagram here has.of.has in
          let same : all.0 ≡ has.of.packet.frames = quic_frames_agree bytes all.0 has.of.packet.frames all.1 that.3 in
          none_early f (all_in IsEarly all.0 f all.2 (subst (λ (fs : List QuicFrame). In f fs) (sym same) has.frame_among)) closes
    ]
