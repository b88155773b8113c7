-- The frames that a space makes for a packet are honest, and their values are in range.
use Rattle.std.proofs.Common.{◌≡◌, ℕ, zero, suc, ◌<◌, ◌≤◌, ◌+◌, ◌-◌, ◌^◌, nat_lt, nat_le, Bool, true, false, ◌&&◌, List, [], ◌∷◌, ◌++◌, length, Some, refl, sym, ap, subst, ◌∙◌, arith, append_assoc}
use Rattle.std.proofs.lemmas.List.{length-append}
use Rattle.std.specs.List.{AllByRecursion}
use Rattle.std.specs.Prelude.{MatchBool, replicate}
use Rattle.qh_base.specs.declared.connection_error.ConnectionClose.{ConnectionClose}
use Rattle.qh_base.specs.declared.time.Moment.{Moment}
use Rattle.qh_buffers.specs.Ranges.{PlainRange, has}
use Rattle.qh_frame.proofs.FramesWritten.{padding_frames, written_frame}
use Rattle.qh_frame.specs.AckWritten.{AreApart, AreBelow, ack_frame, gaps}
use Rattle.qh_frame.specs.FrameBytes.{frame_bytes}
use Rattle.qh_frame.specs.Plain.{frame}
use Rattle.qh_frame.specs.Range.{IsInRange}
use Rattle.qh_frame.specs.declared.ack.AckRange.{AckRange}
use Rattle.qh_handshake.proofs.PacketMade.{bears_if}
use Rattle.qh_handshake.specs.Follows.{HasInitial}
use Rattle.qh_handshake.specs.Outgoing.{close_frame}
use Rattle.qh_handshake.specs.Sending.{IsPacketMade, bytes_if, hello_frame_bytes, hello_if, is_waiting, ping_bytes, writes_hello}
use Rattle.qh_handshake.specs.Sends.{IsHonestFrame}
use Rattle.qh_handshake.specs.Sends.IsHonestFrame.{padding, ping, ack, crypto, close}
use Rattle.qh_handshake.specs.declared.initial_space.HelloFrame.{HelloFrame}
use Rattle.qh_handshake.specs.declared.initial_space.HelloState.{HelloState}
use Rattle.qh_handshake.specs.declared.initial_space.HelloState.TheVariants.{Held, Waits, Out, Acked}
use Rattle.qh_handshake.specs.declared.initial_space.InitialSpace.{InitialSpace}
use Rattle.qh_recovery.specs.PendingAcks.{IsAckPut}
use Rattle.qh_spec.specs.Acknowledged.{AreRanges}
use Rattle.qh_spec.specs.Greeted.{crypto_frame}
use Rattle.qh_spec.specs.Link.{other}
use Rattle.qh_spec.specs.QuicFrames.{QuicFrame, AreQuicFrames, IsQuicFrame, shape_of}
use Rattle.qh_spec.specs.declared.sides.Side.{Side}

-- ---- values in range

ranges_fit : (greatest least : ℕ) (more : List AckRange) → least ≤ greatest → AreBelow least more → AreRanges greatest ((greatest - least) ∷ gaps least more)
ranges_fit greatest least [] low below = omega (arith, low)
ranges_fit greatest least (r ∷ more) low below =
    let first = below.0 in
    let apart = below.1 in
    (r.greatest, omega (arith, low, apart), ranges_fit r.greatest r.least more first below.2)

ack_fits : (ranges : List AckRange) → AreApart ranges → IsInRange (ack_frame 0 ranges)
ack_fits [] apart = absurd apart
ack_fits (r ∷ more) apart = ranges_fit r.greatest r.least more apart.0 apart.2

ack_kind : (rs : List AckRange) → (ack_frame 0 rs).kind ≡ 2
ack_kind [] = refl
ack_kind (r ∷ rs) = refl

-- ---- the frames of one packet

ping_shape : shape_of 1 ≡ Some []
unfolding shape_of
ping_shape = refl

waits_where : (state : HelloState) (fits : Bool) → is_waiting state && fits ≡ true → state ≡ Waits
waits_where Waits fits e = refl
waits_where Held fits e = cc
waits_where Out fits e = cc
waits_where Acked fits e = cc

-- an honest frame with values in range
abbrev pub IsFit : (hello : List ℕ) → (came : List (List ℕ)) → Side → QuicFrame → Type 0
IsFit hello came side f = IsInRange f × IsHonestFrame hello came side f

-- the bytes are such frames, at least one
pub record AreFit (hello : List ℕ) (came : List (List ℕ)) (side : Side) (bytes : List ℕ) : Type 0 where
  pub frames : List QuicFrame
  pub are : AreQuicFrames bytes frames
  pub fit : AllByRecursion (IsFit hello came side) frames
  pub some : frames ≡ [] → ⊥

module _ (hello : List ℕ) (came : List (List ℕ)) (side : Side) where
  -- the bytes are such frames
  abbrev AreAll : List ℕ → Type 0
  AreAll bytes = (fs : List QuicFrame) × AreQuicFrames bytes fs × AllByRecursion (IsFit hello came side) fs

  -- the bytes are read as the frame, whatever follows
  abbrev IsReadAs : List ℕ → QuicFrame → Type 0
  IsReadAs bytes f = (rest : List ℕ) → IsQuicFrame (bytes ++ rest) f rest

  one_more : (f : QuicFrame) (bytes rest : List ℕ) → IsReadAs bytes f → IsFit hello came side f → AreAll rest → AreAll (bytes ++ rest)
  one_more f bytes rest reads is more = (f ∷ more.0, (rest, reads rest, more.1), (is, more.2))

  zeros : (n : ℕ) → AreAll (replicate n 0)
  zeros zero = ([], refl, tt)
  zeros (suc n) =
      let more = zeros n in
      (frame 0 [] ∷ more.0, padding_frames 1 (replicate n 0) more.0 more.1, ((tt, padding), more.2))

  ping_more : (is_due : Bool) (rest : List ℕ) → AreAll rest → AreAll (bytes_if is_due ping_bytes ++ rest)
  ping_more true rest more = one_more (frame 1 []) ping_bytes rest (λ after. written_frame 1 [] [] after (omega arith) ping_shape tt) (tt, ping) more
  ping_more false rest more = more

  ack_more : (is_due : Bool) (ranges : List PlainRange) (bytes rest : List ℕ) → MatchBool is_due (IsAckPut ranges [] bytes) (bytes ≡ [])
      → ((number id_length : ℕ) → has ranges number ≡ true → HasInitial id_length came (other side) number) → AreAll rest → AreAll (bytes ++ rest)
  ack_more true ranges bytes rest put acked more =
      let fit : IsFit hello came side (ack_frame 0 put.ranges) =
      (ack_fits put.ranges put.are_acked.apart, ack (ack_frame 0 put.ranges) (ack_kind put.ranges) (λ number covered id_length. acked number id_length ((put.covers number).0 covered))) in
      subst (λ (z : List ℕ). AreAll (z ++ rest)) (sym put.is_put.whole) (one_more (ack_frame 0 put.ranges) _ rest put.is_put.is fit more)
  ack_more false ranges bytes rest none acked more = subst (λ (z : List ℕ). AreAll (z ++ rest)) (sym none) more

  hello_more : (own : List ℕ) (writes : Bool) (items : List HelloFrame) (rest : List ℕ) → (writes ≡ true → own ≡ hello) → length own < 2 ^ 62 → items ≡ hello_if writes
      → (nat_lt 0 (length items) ≡ true → IsReadAs (hello_frame_bytes own) (crypto_frame 0 own)) → AreAll rest → AreAll (bytes_if writes (hello_frame_bytes own) ++ rest)
  hello_more own true items rest is short items_are back more =
      let honest : IsHonestFrame hello came side (crypto_frame 0 own) = subst (λ (z : List ℕ). IsHonestFrame hello came side (crypto_frame 0 z)) (sym (is refl)) crypto in
      one_more (crypto_frame 0 own) (hello_frame_bytes own) rest (back (bears_if true items items_are)) (omega (arith, short), honest) more
  hello_more own false items rest is short items_are back more = more

  -- a close, and PADDING behind it
  pub close_fit : (c : ConnectionClose) (n : ℕ) → IsReadAs (frame_bytes (close_frame c)) (close_frame c) → AreFit hello came side (frame_bytes (close_frame c) ++ replicate n 0)
  close_fit c n back =
      let more = zeros n in
      record { frames = close_frame c ∷ more.0; are = (replicate n 0, back (replicate n 0), more.1); fit = ((tt, close c), more.2); some = λ none. cc }

  module _ (now : Moment) (room : ℕ) (old new : InitialSpace) (frames : List ℕ) (is_eliciting : Bool) (made : IsPacketMade now room old new [] frames is_eliciting) where
    abbrev ping_due : List ℕ
    ping_due = bytes_if old.is_ping_due ping_bytes

    abbrev left : ℕ
    left = room - (length made.out_mid - 0)

    abbrev writes : Bool
    writes = writes_hello old (left - length ping_due)

    abbrev own : List ℕ
    own = bytes_if writes (hello_frame_bytes old.hello)

    joined : (rest : List ℕ) → made.out_mid ++ (ping_due ++ (own ++ rest)) ≡ frames ++ rest
    joined rest =
        ap (λ (z : List ℕ). made.out_mid ++ z) (sym (append_assoc ping_due own rest)) ∙ sym (append_assoc made.out_mid (ping_due ++ own) rest)
        ∙ ap (λ (z : List ℕ). z ++ rest) (sym made.whole)

    -- of a space whose hello, where it waits, is this, and whose numbers came
    pub frames_fit : (count : ℕ) → (old.state ≡ Waits → old.hello ≡ hello) → length old.hello < 2 ^ 62
        → ((number id_length : ℕ) → has old.acks.ranges number ≡ true → HasInitial id_length came (other side) number) → AreFit hello came side (frames ++ replicate count 0)
    frames_fit count is short acked =
        let waits = waits_where old.state (nat_le (17 + length old.hello) (left - length ping_due)) in
        let last = hello_more old.hello writes made.packet.frames.items (replicate count 0) (λ e. is (waits e)) short made.hello_is made.read_back (zeros count) in
        let all = ack_more old.acks.is_due old.acks.ranges made.out_mid (ping_due ++ (own ++ replicate count 0)) made.ack acked (ping_more old.is_ping_due (own ++ replicate count 0) last) in
        let are : AreQuicFrames (frames ++ replicate count 0) all.0 = subst (λ (z : List ℕ). AreQuicFrames z all.0) (joined (replicate count 0)) all.1 in
        record {
          frames = all.0;
          are = are;
          fit = all.2;
          some = λ none.
              let empty : frames ++ replicate count 0 ≡ [] = subst (λ (fs : List QuicFrame). AreQuicFrames (frames ++ replicate count 0) fs) none are in
              omega (arith, ap length empty, length-append frames (replicate count 0), made.some);
        }
