-- No frame that an honest peer sends is refused (RFC 9000, sections 12.4, 13.1 and 19).
use Rattle.std.proofs.Common.{◌≡◌, ℕ, ◌<◌, ◌≤◌, ◌+◌, ◌==◌, cond, Bool, true, false, List, [], ◌∷◌, length, Option, Some, None, refl, sym, ap, subst, ◌∙◌, arith}
use Rattle.std.specs.Prelude.{◌||◌}
use Rattle.std.specs.List.{AllByRecursion}
use Rattle.std.proofs.lemmas.Bool.{both_ways, le-leb, lt-ltb}
use Rattle.std.proofs.lemmas.Option.{none-some}
use Rattle.qh_base.specs.declared.connection_error.ConnectionClose.{ConnectionClose}
use Rattle.qh_base.specs.declared.connection_error.ConnectionError.{ConnectionError}
use Rattle.qh_base.specs.declared.connection_error.ConnectionError.TheVariants.{TransportError as Fault}
use Rattle.qh_base.specs.declared.time.Moment.{Moment}
use Rattle.qh_base.specs.declared.transport_error.TransportError.{TransportError}
use Rattle.qh_frame.specs.FrameAt.{Begins, HasNoFrame}
use Rattle.qh_frame.specs.Plain.{frame, plain_of, ranges_of}
use Rattle.qh_frame.specs.Range.{IsInRange}
use Rattle.qh_frame.specs.WrittenForm.{written_form}
use Rattle.qh_frame.specs.declared.frame.Frame.{Frame}
use Rattle.qh_frame.specs.declared.frame.Frame.TheVariants as kind
use Rattle.qh_handshake.specs.Follows.{HasInitial}
use Rattle.qh_handshake.specs.Incoming.{AreFramesTaken, IsPacketHandled}
use Rattle.qh_handshake.specs.Incoming.AreFramesTaken.{none as none_taken, more as more_taken, closed as closed_taken, refused as refused_taken}
use Rattle.qh_handshake.specs.Incoming.IsPacketHandled.{repeated, empty, faulty, unnoted, taken}
use Rattle.qh_handshake.specs.Receiving.{IsFrameTaken, IsRefusal, Refusal, frame_refusal}
use Rattle.qh_handshake.specs.Receiving.IsFrameTaken.{padding, ping, ack, crypto, close}
use Rattle.qh_handshake.specs.Sends.{IsHonestFrame}
use Rattle.qh_handshake.specs.Sends.IsHonestFrame.{padding as padding_sent, ping as ping_sent, ack as ack_sent, crypto as crypto_sent, close as close_sent}
use Rattle.qh_handshake.specs.declared.initial_space.InitialSpace.{InitialSpace}
use Rattle.qh_handshake.specs.declared.receiving.SpaceFault.TheVariants.{Transport}
use Rattle.qh_packet.proofs.Surveys.{frame_takes}
use Rattle.qh_packet.specs.Frames.{BeginWithFrames}
use Rattle.qh_packet.specs.Frames.BeginWithFrames.{none as at_end, more as behind_one}
use Rattle.qh_spec.proofs.AckRows.{greatest_in}
use Rattle.qh_spec.proofs.FrameLaws.{quic_frame_agrees, quic_frames_agree}
use Rattle.qh_spec.specs.Acknowledged.{Covers}
use Rattle.qh_spec.specs.Greeted.{crypto_frame}
use Rattle.qh_spec.specs.Link.{other}
use Rattle.qh_spec.specs.QuicFrames.{QuicFrame, Value, Num, Text, Nums, AreQuicFrames}
use Rattle.qh_spec.specs.declared.sides.Dir.TheVariants.{Bi, Uni}
use Rattle.qh_spec.specs.declared.sides.Side.{Side}

-- ---- which frames aren't refused

abbrev may : ℕ → Bool
may kind = kind == 0 || (kind == 1 || (kind == 2 || (kind == 6 || kind == 28)))

abbrev end_of : List Value → ℕ
end_of (Num offset ∷ Text payload ∷ rest) = offset + length payload
end_of _ = 0

-- the form has a type that an Initial packet may have, an ACK's greatest is below the next number, and CRYPTO bytes end before the limit
record IsFine (next : ℕ) (f : QuicFrame) : Type 0 where
  kind_is : may f.kind ≡ true
  acks : (greatest delay : ℕ) (ranges : List ℕ) → f ≡ frame 2 (Num greatest ∷ Num delay ∷ Nums ranges ∷ []) → greatest < next
  ends : (offset : ℕ) (payload : List ℕ) → f ≡ crypto_frame offset payload → offset + length payload ≤ 16384

streams_not : (is_first fin : Bool) → may (10 + cond is_first 0 4 + cond fin 1 0) ≡ false
streams_not true true = refl
streams_not true false = refl
streams_not false true = refl
streams_not false false = refl

other_kind : {A : Type 0} (k : ℕ) → may k ≡ false → may k ≡ true → A
other_kind k e f = absurd (both_ways (may k) e f)

not_refused : (s : InitialSpace) (f : Frame) → IsFine s.next_number (plain_of f) → frame_refusal s f ≡ None
not_refused s kind.Padding p = refl
not_refused s kind.Ping p = refl
not_refused s (kind.Ack a) p = rw (lt-ltb a.greatest s.next_number (p.acks a.greatest a.delay (ranges_of a) refl)) refl
not_refused s (kind.Crypto offset payload) p = rw (le-leb (offset + length payload.now) 16384 (p.ends offset payload.now refl)) refl
not_refused s (kind.ConnectionClose code type reason) p = refl
not_refused s (kind.ResetStream id code size) p = other_kind 4 refl p.kind_is
not_refused s (kind.StopSending id code) p = other_kind 5 refl p.kind_is
not_refused s (kind.NewToken token) p = other_kind 7 refl p.kind_is
not_refused s (kind.Stream t) p = absurd (both_ways _ (streams_not (t.offset == 0) t.fin) p.kind_is)
not_refused s (kind.MaxData limit) p = other_kind 16 refl p.kind_is
not_refused s (kind.MaxStreamData id limit) p = other_kind 17 refl p.kind_is
not_refused s (kind.MaxStreams Bi count) p = other_kind 18 refl p.kind_is
not_refused s (kind.MaxStreams Uni count) p = other_kind 19 refl p.kind_is
not_refused s (kind.DataBlocked limit) p = other_kind 20 refl p.kind_is
not_refused s (kind.StreamDataBlocked id limit) p = other_kind 21 refl p.kind_is
not_refused s (kind.StreamsBlocked Bi count) p = other_kind 22 refl p.kind_is
not_refused s (kind.StreamsBlocked Uni count) p = other_kind 23 refl p.kind_is
not_refused s (kind.NewConnectionId sequence prior id token) p = other_kind 24 refl p.kind_is
not_refused s (kind.RetireConnectionId sequence) p = other_kind 25 refl p.kind_is
not_refused s (kind.PathChallenge bytes) p = other_kind 26 refl p.kind_is
not_refused s (kind.PathResponse bytes) p = other_kind 27 refl p.kind_is
not_refused s (kind.ApplicationClose code reason) p = other_kind 29 refl p.kind_is
not_refused s kind.HandshakeDone p = other_kind 30 refl p.kind_is
not_refused s (kind.Datagram payload has_length) p = other_kind 49 refl p.kind_is

-- ---- an honest frame is one of these

plainly : (next : ℕ) (f : QuicFrame) → may f.kind ≡ true → (f.kind ≡ 2 → ⊥) → (f.kind ≡ 6 → ⊥) → IsFine next f
plainly next f may_be no_ack no_crypto = record {
  kind_is = may_be;
  acks = λ greatest delay ranges e. absurd (no_ack (ap (λ (f : QuicFrame). f.kind) e));
  ends = λ offset payload e. absurd (no_crypto (ap (λ (f : QuicFrame). f.kind) e));
}

module _ (hello : List ℕ) (came : List (List ℕ)) (side : Side) (next : ℕ) (short : length hello ≤ 512) (used : (number : ℕ) → HasInitial 0 came (other side) number → number < next) where
  ack_fine : (f : QuicFrame) → f.kind ≡ 2 → ((number : ℕ) → Covers f number → (id_length : ℕ) → HasInitial id_length came (other side) number) → IsInRange f → IsFine next f
  ack_fine f kind_is covered in_range = record {
    kind_is = ap may kind_is;
    acks = λ greatest delay ranges e.
        let ranged : IsInRange (frame 2 (Num greatest ∷ Num delay ∷ Nums ranges ∷ [])) = subst IsInRange e in_range in
        let covers : Covers (frame 2 (Num greatest ∷ Num delay ∷ Nums ranges ∷ [])) greatest = (refl, greatest_in greatest ranges ranged) in
        used greatest (covered greatest (subst (λ (z : QuicFrame). Covers z greatest) (sym e) covers) 0);
    ends = λ offset payload e. absurd (omega (arith, kind_is, ap (λ (f : QuicFrame). f.kind) e));
  }

  ack_same : (f : QuicFrame) → f.kind ≡ 2 → written_form f ≡ f
  ack_same f kind_is = rw kind_is refl

  honest_fine : (q : QuicFrame) → IsInRange q → IsHonestFrame hello came side q → IsFine next (written_form q)
  honest_fine q in_range padding_sent = plainly next _ refl (λ e. omega (arith, e)) (λ e. omega (arith, e))
  honest_fine q in_range ping_sent = plainly next _ refl (λ e. omega (arith, e)) (λ e. omega (arith, e))
  honest_fine q in_range (ack_sent f kind_is covered) = subst (IsFine next) (sym (ack_same f kind_is)) (ack_fine f kind_is covered in_range)
  honest_fine q in_range crypto_sent = record {
    kind_is = refl;
    acks = λ greatest delay ranges e. absurd (omega (arith, ap (λ (f : QuicFrame). f.kind) e));
    ends = λ offset payload e. omega (arith, short, ap (λ (f : QuicFrame). end_of f.values) e);
  }
  honest_fine q in_range (close_sent c) = plainly next _ refl (λ e. omega (arith, e)) (λ e. omega (arith, e))

  -- ---- the frames of a packet

  keeps_number : (now : ℕ) (old new : InitialSpace) (f : Frame) (closed : Option ConnectionClose) → IsFrameTaken now old new f closed → new.next_number ≡ old.next_number
  keeps_number now old new f closed (padding e) = ap (λ (s : InitialSpace). s.next_number) e
  keeps_number now old new f closed (ping e) = ap (λ (s : InitialSpace). s.next_number) e
  keeps_number now old new f closed (ack a r) = ap (λ (s : InitialSpace). s.next_number) r.lost.rest_is ∙ ap (λ (s : InitialSpace). s.next_number) r.mid_is
  keeps_number now old new f closed (crypto _ piece is t) = ap (λ (s : InitialSpace). s.next_number) t.rest_is
  keeps_number now old new f closed (close _ code type reason said is says e) = ap (λ (s : InitialSpace). s.next_number) e

  no_refusal : (e : TransportError) (o : Option Refusal) → o ≡ None → IsRefusal (Transport e) o → ⊥
  no_refusal e None is h = h
  no_refusal e (Some r) is h = none-some r (sym is)

  first_fine : (s : InitialSpace) (bytes rest : List ℕ) (f : Frame) (fs : List QuicFrame) → s.next_number ≡ next → Begins bytes (plain_of f) rest → AreQuicFrames bytes fs
      → AllByRecursion IsInRange fs → AllByRecursion (IsHonestFrame hello came side) fs → IsFine s.next_number (plain_of f)
  first_fine s bytes rest f [] same b are ranged honest = absurd (omega (arith, frame_takes bytes rest (plain_of f) b, ap length are))
  first_fine s bytes rest f (q ∷ qs) same b are ranged honest =
      let one = quic_frame_agrees bytes b.frame q rest are.0 b.is are.1 in
      let form : written_form q ≡ plain_of f = ap written_form (sym one.0) ∙ b.form_is in
      subst (λ (n : ℕ). IsFine n (plain_of f)) (sym same) (subst (IsFine next) form (honest_fine q ranged.0 honest.0))

  frames_fine : (now : ℕ) (bytes : List ℕ) (s new : InitialSpace) (end : Option ConnectionError) (e : TransportError) (fs : List QuicFrame) → s.next_number ≡ next
      → AreFramesTaken now bytes s new end → end ≡ Some (Fault e) → AreQuicFrames bytes fs → AllByRecursion IsInRange fs → AllByRecursion (IsHonestFrame hello came side) fs → ⊥
  frames_fine now bytes s new end e fs same (none_taken _) is are ranged honest = none-some (Fault e) is
  frames_fine now bytes s new end e [] same (more_taken _ rest f _ mid _ _ begins fits one behind) is are ranged honest = absurd (omega (arith, frame_takes bytes rest (plain_of f) begins, ap length are))
  frames_fine now bytes s new end e (q ∷ qs) same (more_taken _ rest f _ mid _ _ begins fits one behind) is are ranged honest =
      let first = quic_frame_agrees bytes begins.frame q rest are.0 begins.is are.1 in
      frames_fine now rest mid new end e qs (keeps_number now s mid f None one ∙ same) behind is (subst (λ (z : List ℕ). AreQuicFrames z qs) (sym first.1) are.2) ranged.1 honest.1
  frames_fine now bytes s new end e fs same (closed_taken _ rest f _ _ said begins fits one) is are ranged honest = cc
  frames_fine now bytes s new end e fs same (refused_taken _ rest f _ error begins named refusal) is are ranged honest =
      no_refusal error (frame_refusal s f) (not_refused s f (first_fine s bytes rest f fs same begins are ranged honest)) refusal

  -- ---- the packet

  none_faulty : (bytes rest : List ℕ) (fs : List QuicFrame) → BeginWithFrames bytes rest → HasNoFrame rest → (rest ≡ [] → ⊥) → AreQuicFrames bytes fs → AllByRecursion IsInRange fs → ⊥
  none_faulty bytes rest [] (at_end _) never some are ranged = some are
  none_faulty bytes rest (q ∷ qs) (at_end _) never some are ranged = never q are.0 are.1 ranged.0
  none_faulty bytes rest [] (behind_one _ mid _ f is in_range behind) never some are ranged =
      omega (arith, frame_takes bytes mid (written_form f) (record { frame = f; is = is; in_range = in_range; form_is = refl }), ap length are)
  none_faulty bytes rest (q ∷ qs) (behind_one _ mid _ f is in_range behind) never some are ranged =
      let one = quic_frame_agrees bytes f q mid are.0 is are.1 in
      none_faulty mid rest qs behind never some (subst (λ (z : List ℕ). AreQuicFrames z qs) (sym one.1) are.2) ranged.1

  -- a packet of such frames is no fault
  pub packet_fine : (now : Moment) (number : ℕ) (frames : List ℕ) (s new : InitialSpace) (end : Option ConnectionError) (e : TransportError) (fs : List QuicFrame) → s.next_number ≡ next
      → IsPacketHandled now number frames s new end → end ≡ Some (Fault e) → AreQuicFrames frames fs → (fs ≡ [] → ⊥) → AllByRecursion IsInRange fs
      → AllByRecursion (IsHonestFrame hello came side) fs → ⊥
  packet_fine now number frames s new end e fs same (repeated old is_same) is are some ranged honest = none-some (Fault e) is
  packet_fine now number frames s new end e fs same (empty _ is_new none fault is_same) is are some ranged honest = some (quic_frames_agree frames fs [] are none)
  packet_fine now number frames s new end e fs same (faulty _ kind is_new fault code is_same) is are some ranged honest =
      none_faulty frames fault.rest fs fault.behind fault.none fault.some are ranged
  packet_fine now number frames s new end e fs same (unnoted error is_eliciting is_new valid t is_same) is are some ranged honest =
      frames_fine now.0 frames s s (Some (Fault error)) e fs same (refused_taken frames t.rest t.frame s error t.begins t.named_so t.refusal) is are ranged honest
  packet_fine now number frames s new end e fs same (taken mid is_eliciting _ is_new valid a t) is are some ranged honest =
      frames_fine now.0 frames mid new end e fs (ap (λ (s : InitialSpace). s.next_number) a.rest_is ∙ same) t is are ranged honest
