-- A close that is written is read back.
use Rattle.std.proofs.Common.{◌≡◌, ℕ, ◌+◌, ◌-◌, ◌<◌, ◌≤◌, ◌^◌, List, [], ◌∷◌, ◌++◌, length, Option, Some, None, replicate, refl, sym, ap, ◌∙◌, arith, subst, length-append}
use Rattle.std.proofs.lemmas.List.{append-nil}
use Rattle.qh_base.specs.declared.transport_error.TransportError.{TransportError}
use Rattle.qh_frame.proofs.FramesWritten.{is_put, varint_short}
use Rattle.qh_frame.specs.FrameBytes.{IsPut, frame_bytes, values_bytes}
use Rattle.qh_packet.proofs.InitialForms.{written_form}
use Rattle.qh_packet.specs.Initial.{BeginsWithInitial, bare_size, filled, is_short}
use Rattle.qh_packet.specs.Packet.{low_bytes}
use Rattle.qh_packet.specs.Session.{MakesTags, SealsTag}
use Rattle.qh_spec.proofs.PacketLaws.{tag_length}
use Rattle.qh_spec.specs.Datagram.{IsInitialForm, IsInitialPacket}
use Rattle.qh_spec.specs.QuicFrames.{AreQuicFrames, IsQuicFrame, Number, Counted, shape_of}
use Rattle.qh_spec.specs.Varint.{varint}
use Rattle.qh_spec.specs.declared.sides.Side.TheVariants.{Server}
use Rattle.qh_spec.specs.declared.sides.Space.TheVariants.{Initial}
use Rattle.qh_stateless.specs.Close.{bounded, close_bytes, close_frame, fault_type}

close_shape : shape_of 28 ≡ Some (Number ∷ Number ∷ Counted ∷ [])
unfolding shape_of
close_shape = refl

bounded_is : (n : ℕ) → bounded n < 2 ^ 62
bounded_is n = omega arith

fault_is : (o : Option ℕ) → fault_type o < 2 ^ 62
fault_is None = omega arith
fault_is (Some kind) = bounded_is kind

-- the frame, written behind nothing
frame_put : (e : TransportError) → length e.reason ≤ 128 → IsPut [] (varint 28 ++ values_bytes (Number ∷ Number ∷ Counted ∷ []) (close_frame e).values) (close_frame e) 153
frame_put e reason =
    let a = bounded_is e.code.0 in
    let b = fault_is e.frame in
    let size : 1 + length (values_bytes (Number ∷ Number ∷ Counted ∷ []) (close_frame e).values) ≤ 153 = omega (
      arith,
      length-append (varint (bounded e.code.0)) (varint (fault_type e.frame) ++ ((varint (length e.reason) ++ e.reason) ++ [])),
      length-append (varint (fault_type e.frame)) ((varint (length e.reason) ++ e.reason) ++ []),
      length-append (varint (length e.reason) ++ e.reason) [],
      length-append (varint (length e.reason)) e.reason,
      varint_short (bounded e.code.0),
      varint_short (fault_type e.frame),
      varint_short (length e.reason),
      reason,
    ) in
    is_put [] (varint 28 ++ values_bytes (Number ∷ Number ∷ Counted ∷ []) (close_frame e).values) 28 (Number ∷ Number ∷ Counted ∷ []) (close_frame e).values 153 (omega arith) close_shape
    (a, (b, (omega (arith, reason), tt))) refl size

-- no PADDING
not_filled : (d s t f : List ℕ) → filled d s t f 0 ≡ f
not_filled d s t f =
    let none : 0 - (bare_size d s t f + 2) ≡ 0 = omega arith in
    ap (λ (n : ℕ). f ++ replicate n 0) none ∙ append-nil f

module _ (sealed : SealsTag) (d s : List ℕ) (e : TransportError) (short_d : length d ≤ 20) (short_s : length s ≤ 20) (reason : length e.reason ≤ 128) (makes : MakesTags sealed) where
  abbrev frames : List ℕ
  frames = frame_bytes (close_frame e)

  abbrev tag : List ℕ
  tag = sealed Server Initial 0

  pub close_form : (rest : List ℕ) → BeginsWithInitial (close_bytes sealed d s e ++ rest) 195 d s [] (low_bytes 0 ++ (frames ++ tag)) rest
  close_form rest =
      let put = frame_put e reason in
      let size = put.size in
      let same = not_filled d s [] frames in
      let long = ap length same in
      let whole : length tag ≡ 32 = tag_length tag Server Initial 0 (makes Server Initial 0 (omega arith)) in
      subst (λ (z : List ℕ). BeginsWithInitial (close_bytes sealed d s e ++ rest) 195 d s [] (low_bytes 0 ++ (z ++ tag)) rest) same
      (written_form d s [] (filled d s [] frames 0) tag rest 0 (is_short d s [] frames 0) short_d short_s (omega arith) (omega (arith, long, size)) whole)

  are_frames : AreQuicFrames frames (close_frame e ∷ [])
  are_frames = ([], subst (λ (z : List ℕ). IsQuicFrame z (close_frame e) []) (append-nil frames) ((frame_put e reason).is []), refl)

  pub close_packet : IsInitialPacket (close_bytes sealed d s e) (record { space = Initial; sender = Server; number = 0; frames = close_frame e ∷ [] })
  close_packet =
      let begins = close_form [] in
      let form : IsInitialForm (close_bytes sealed d s e) 195 (low_bytes 0 ++ (frames ++ tag)) =
      subst (λ (z : List ℕ). IsInitialForm z 195 (low_bytes 0 ++ (frames ++ tag))) (sym (append-nil begins.front) ∙ sym begins.whole ∙ append-nil (close_bytes sealed d s e)) begins.form in
      record {
        number_bytes = low_bytes 0;
        frame_bytes = frames;
        tag = tag;
        form = form;
        some_number = omega arith;
        short_number = omega arith;
        content = record { space_is = refl; tagged = makes Server Initial 0 (omega arith); low = refl; frames = are_frames };
      }
