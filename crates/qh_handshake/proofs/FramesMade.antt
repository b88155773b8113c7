-- The frames that a space makes for a packet are read back: PADDING, PING, ACK, and a CRYPTO frame of the whole hello.
use Rattle.std.proofs.Common.{◌≡◌, ℕ, zero, suc, ◌+◌, ◌-◌, nat_lt, nat_le, Bool, true, false, ◌&&◌, List, [], ◌∷◌, ◌++◌, length, Some, refl, sym, ap, subst, ◌∙◌, arith, append_assoc}
use Rattle.std.specs.List.{AllByRecursion}
use Rattle.std.specs.Prelude.{MatchBool, replicate}
use Rattle.qh_base.specs.declared.time.Moment.{Moment}
use Rattle.qh_buffers.specs.Ranges.{PlainRange}
use Rattle.qh_frame.proofs.FramesWritten.{padding_frames, written_frame}
use Rattle.qh_frame.specs.AckWritten.{ack_frame}
use Rattle.qh_frame.specs.Plain.{frame}
use Rattle.qh_frame.specs.declared.ack.AckRange.{AckRange}
use Rattle.qh_handshake.proofs.PacketMade.{bears_if}
use Rattle.qh_handshake.specs.Sending.{IsPacketMade, bytes_if, hello_frame_bytes, hello_if, is_waiting, ping_bytes, writes_hello}
use Rattle.qh_handshake.specs.Written.{HaveOnlyHello}
use Rattle.qh_handshake.specs.declared.initial_space.HelloFrame.{HelloFrame}
use Rattle.qh_handshake.specs.declared.initial_space.HelloState.{HelloState}
use Rattle.qh_handshake.specs.declared.initial_space.HelloState.TheVariants.{Held, Waits, Out, Acked}
use Rattle.qh_handshake.specs.declared.initial_space.InitialSpace.{InitialSpace}
use Rattle.qh_recovery.specs.PendingAcks.{IsAckPut}
use Rattle.qh_spec.specs.FrameTypes as frame_types
use Rattle.qh_spec.specs.Greeted.{crypto_frame}
use Rattle.qh_spec.specs.QuicFrames.{QuicFrame, AreQuicFrames, IsQuicFrame, shape_of}

-- the bytes are frames, and a CRYPTO frame among them is that of the whole hello of this space
abbrev pub AreFramesOf : InitialSpace → List ℕ → Type 0
AreFramesOf s bytes = (fs : List QuicFrame) × AreQuicFrames bytes fs × HaveOnlyHello s fs

-- what holds of PADDING, of PING, of each ACK, and of the CRYPTO frame of the space's hello that waits
pub record IsOfEach (s : InitialSpace) (P : QuicFrame → Type 0) : Type 0 where
  pub padding : P (frame frame_types.padding [])
  pub ping : P (frame frame_types.ping [])
  pub ack : (f : QuicFrame) → f.kind ≡ frame_types.ack → P f
  pub crypto : s.state ≡ Waits → P (crypto_frame 0 s.hello)

-- the bytes are read as the frame, whatever follows
abbrev IsReadAs : List ℕ → QuicFrame → Type 0
IsReadAs bytes f = (rest : List ℕ) → IsQuicFrame (bytes ++ rest) f rest

ping_shape : shape_of 1 ≡ Some []
unfolding shape_of
ping_shape = refl

ack_kind : (rs : List AckRange) → (ack_frame 0 rs).kind ≡ 2
ack_kind [] = refl
ack_kind (r ∷ rs) = refl

waits_where : (state : HelloState) (fits : Bool) → is_waiting state && fits ≡ true → state ≡ Waits
waits_where Waits fits e = refl
waits_where Held fits e = cc
waits_where Out fits e = cc
waits_where Acked fits e = cc

module _ (s : InitialSpace) (P : QuicFrame → Type 0) (of : IsOfEach s P) where
  -- the bytes are frames of which this holds
  abbrev AreAll : List ℕ → Type 0
  AreAll bytes = (fs : List QuicFrame) × AreQuicFrames bytes fs × AllByRecursion P fs

  one_more : (f : QuicFrame) (bytes rest : List ℕ) → IsReadAs bytes f → P f → AreAll rest → AreAll (bytes ++ rest)
  one_more f bytes rest reads is more = (f ∷ more.0, (rest, reads rest, more.1), (is, more.2))

  -- ---- PADDING, PING and ACK

  zeros : (n : ℕ) → AreAll (replicate n 0)
  zeros zero = ([], refl, tt)
  zeros (suc n) =
      let more = zeros n in
      (frame frame_types.padding [] ∷ more.0, padding_frames 1 (replicate n 0) more.0 more.1, (of.padding, more.2))

  ping_more : (is_due : Bool) (rest : List ℕ) → AreAll rest → AreAll (bytes_if is_due ping_bytes ++ rest)
  ping_more true rest more = one_more (frame frame_types.ping []) ping_bytes rest (λ after. written_frame 1 [] [] after (omega arith) ping_shape tt) of.ping more
  ping_more false rest more = more

  ack_more : (is_due : Bool) (ranges : List PlainRange) (bytes rest : List ℕ) → MatchBool is_due (IsAckPut ranges [] bytes) (bytes ≡ []) → AreAll rest → AreAll (bytes ++ rest)
  ack_more true ranges bytes rest put more =
      subst (λ (z : List ℕ). AreAll (z ++ rest)) (sym put.is_put.whole) (one_more (ack_frame 0 put.ranges) _ rest put.is_put.is (of.ack (ack_frame 0 put.ranges) (ack_kind put.ranges)) more)
  ack_more false ranges bytes rest none more = subst (λ (z : List ℕ). AreAll (z ++ rest)) (sym none) more

  -- ---- the hello

  hello_more : (writes : Bool) (items : List HelloFrame) (rest : List ℕ) → (writes ≡ true → s.state ≡ Waits) → items ≡ hello_if writes
      → (nat_lt 0 (length items) ≡ true → IsReadAs (hello_frame_bytes s.hello) (crypto_frame 0 s.hello)) → AreAll rest → AreAll (bytes_if writes (hello_frame_bytes s.hello) ++ rest)
  hello_more true items rest waits is back more = one_more (crypto_frame 0 s.hello) (hello_frame_bytes s.hello) rest (back (bears_if true items is)) (of.crypto (waits refl)) more
  hello_more false items rest waits is back more = more

-- ---- all of them

module _ (now : Moment) (room : ℕ) (old new : InitialSpace) (frames : List ℕ) (is_eliciting : Bool) (made : IsPacketMade now room old new [] frames is_eliciting) where
  abbrev ping : List ℕ
  ping = bytes_if old.is_ping_due ping_bytes

  abbrev left : ℕ
  left = room - (length made.out_mid - 0)

  abbrev writes : Bool
  writes = writes_hello old (left - length ping)

  abbrev hello : List ℕ
  hello = bytes_if writes (hello_frame_bytes old.hello)

  joined : (rest : List ℕ) → made.out_mid ++ (ping ++ (hello ++ rest)) ≡ frames ++ rest
  joined rest =
      ap (λ (z : List ℕ). made.out_mid ++ z) (sym (append_assoc ping hello rest)) ∙ sym (append_assoc made.out_mid (ping ++ hello) rest)
      ∙ ap (λ (z : List ℕ). z ++ rest) (sym made.whole)

  -- what holds of each such frame holds of all that are made, with PADDING behind them
  pub each_made : (P : QuicFrame → Type 0) → IsOfEach old P → (padding : ℕ) → (fs : List QuicFrame) × AreQuicFrames (frames ++ replicate padding 0) fs × AllByRecursion P fs
  each_made P of padding =
      let last = hello_more old P of writes made.packet.frames.items (replicate padding 0) (waits_where old.state (nat_le (17 + length old.hello) (left - length ping))) made.hello_is made.read_back
      (zeros old P of padding) in
      subst (λ (z : List ℕ). (fs : List QuicFrame) × AreQuicFrames z fs × AllByRecursion P fs) (joined (replicate padding 0))
      (ack_more old P of old.acks.is_due old.acks.ranges made.out_mid (ping ++ (hello ++ replicate padding 0)) made.ack (ping_more old P of old.is_ping_due (hello ++ replicate padding 0) last))

  pub frames_made : (padding : ℕ) → AreFramesOf old (frames ++ replicate padding 0)
  frames_made padding = each_made (λ (f : QuicFrame). f.kind ≡ frame_types.crypto → (f ≡ crypto_frame 0 old.hello) × (old.state ≡ Waits)) (record {
    padding = λ crypto. absurd (omega (arith, crypto));
    ping = λ crypto. absurd (omega (arith, crypto));
    ack = λ f kind crypto. absurd (omega (arith, kind, crypto));
    crypto = λ waits crypto. (refl, waits);
  }) padding
