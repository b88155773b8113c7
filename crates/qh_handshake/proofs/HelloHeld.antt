-- A hello stays what it is while packets and frames come, and one that is held stays so.
use Rattle.std.proofs.Common.{◌≡◌, ℕ, Bool, true, false, ◌||◌, [], ◌∷◌, if◌then◌else◌, Option, Some, refl, sym, ap, ◌∙◌, inl, inr, subst}
use Rattle.std.specs.List.{All}
use Rattle.std.proofs.lemmas.Bool.{cases_Bool}
use Rattle.std.proofs.lemmas.List.Elements.{All-head, All-tail}
use Rattle.qh_base.specs.declared.connection_error.ConnectionClose.{ConnectionClose}
use Rattle.qh_frame.specs.declared.frame.Frame.{Frame}
use Rattle.qh_frame.specs.declared.frame.Frame.TheVariants as kind
use Rattle.qh_handshake.specs.Handshake.{KeepsHello}
use Rattle.qh_handshake.specs.Receiving.{IsFrameTaken, IsLossTaken, KeepsAfter, KeepsCrypto, again}
use Rattle.qh_handshake.specs.Receiving.IsFrameTaken.{padding, ping, ack, crypto, close}
use Rattle.qh_handshake.specs.Settled.{AreTaken, IsHelloOut, Packets, any_bears, bears_hello}
use Rattle.qh_handshake.specs.declared.initial_space.HelloFrame.{HelloFrame}
use Rattle.qh_handshake.specs.declared.initial_space.HelloState.{HelloState}
use Rattle.qh_handshake.specs.declared.initial_space.HelloState.TheVariants.{Held, Waits, Out, Acked}
use Rattle.qh_handshake.specs.declared.initial_space.InitialSpace.{InitialSpace}
use Rattle.qh_handshake.specs.declared.receiving.SpaceFault.{SpaceFault}
use Rattle.qh_handshake.specs.declared.receiving.SpaceFault.TheVariants.{Transport, Memory}
use Rattle.qh_recovery.specs.SentPackets.{packet_at}
use Rattle.qh_recovery.specs.declared.sent_packets.SentPacket.{SentPacket}

-- what is taken out of packets of which none bears the hello doesn't either
none_taken : (P : ℕ → SentPacket HelloFrame → Type 0) (old taken : Packets) → All (λ e. (packet_at old e.0 ≡ Some e.1) × P e.0 e.1) taken → (IsHelloOut old → ⊥) → any_bears taken ≡ false
none_taken P old [] all none = refl
none_taken P old (e ∷ taken) all none = elim (cases_Bool (bears_hello e.1)) [
  | inl bears ↦
      let first = All-head (λ e. (packet_at old e.0 ≡ Some e.1) × P e.0 e.1) e taken all in
      absurd (none (record { number = e.0; packet = e.1; is_out = first.0; bears = bears }))
  | inr other ↦ ap (λ (b : Bool). b || any_bears taken) other ∙ none_taken P old taken (All-tail (λ e. (packet_at old e.0 ≡ Some e.1) × P e.0 e.1) e taken all) none
]

-- what is left doesn't either
none_left : (P : ℕ → SentPacket HelloFrame → Type 0) (old new taken : Packets) → AreTaken P old new taken → (IsHelloOut old → ⊥) → IsHelloOut new → ⊥
none_left P old new taken packets none out =
    none (record { number = out.number; packet = out.packet; is_out = ((packets.left out.number out.packet).0 out.is_out).0; bears = out.bears })

-- where it changes, it isn't held
released_if : (b : Bool) (next state : HelloState) → (next ≡ Held → state ≡ Held) → (if b then next else state) ≡ Held → state ≡ Held
released_if true next state never e = never e
released_if false next state never e = e

-- it stays held if packets are taken out, whatever becomes of it if one of these bears it
still_kept : (P : ℕ → SentPacket HelloFrame → Type 0) (old new : InitialSpace) (taken : Packets) (next : HelloState) → AreTaken P old.sent new.sent taken
    → new.state ≡ (if any_bears taken then next else old.state) → (next ≡ Held → old.state ≡ Held) → new.hello ≡ old.hello → KeepsHello old new
still_kept P old new taken next packets is never hello = record {
  hello = hello;
  held = λ held.
      let none = none_taken P old.sent taken packets.are_so held.none_out in
      record { held = is ∙ ap (λ (b : Bool). if b then next else old.state) none ∙ held.held; none_out = none_left P old.sent new.sent taken packets held.none_out };
  released = λ e. released_if (any_bears taken) next old.state never (sym is ∙ e);
}

again_held : (state : HelloState) → again state ≡ Held → state ≡ Held
again_held Held e = e
again_held Waits e = e
again_held Out e = absurd (cc)
again_held Acked e = e

acked_held : (state : HelloState) → Acked ≡ Held → state ≡ Held
acked_held state e = absurd (cc)

pub chain : (a b c : InitialSpace) → KeepsHello a b → KeepsHello b c → KeepsHello a c
chain a b c first second = record { hello = second.hello ∙ first.hello; held = λ held. second.held (first.held held); released = λ e. first.released (second.released e) }

pub loss_keeps : (largest now : ℕ) (old new : InitialSpace) → IsLossTaken largest now old new → KeepsHello old new
loss_keeps largest now old new lost =
    still_kept _ old new lost.taken (again old.state) lost.packets (ap (λ (s : InitialSpace). s.state) lost.rest_is) (again_held old.state) (ap (λ (s : InitialSpace). s.hello) lost.rest_is)

same_keeps : (old new : InitialSpace) → new.state ≡ old.state → new.sent ≡ old.sent → new.hello ≡ old.hello → KeepsHello old new
same_keeps old new state sent hello = record {
  hello = hello;
  held = λ held. record { held = state ∙ held.held; none_out = λ out. held.none_out (subst (λ (es : Packets). IsHelloOut es) sent out) };
  released = λ e. sym state ∙ e;
}

pub one_keeps : (old new : InitialSpace) → new ≡ old → KeepsHello old new
one_keeps old new is = same_keeps old new (ap (λ (s : InitialSpace). s.state) is) (ap (λ (s : InitialSpace). s.sent) is) (ap (λ (s : InitialSpace). s.hello) is)

-- all but this is as it was
crypto_keeps : (old new : InitialSpace) → new ≡ record old { crypto = new.crypto } → KeepsHello old new
crypto_keeps old new is = same_keeps old new (ap (λ (s : InitialSpace). s.state) is) (ap (λ (s : InitialSpace). s.sent) is) (ap (λ (s : InitialSpace). s.hello) is)

pub frame_keeps : (now : ℕ) (old new : InitialSpace) (f : Frame) (closed : Option ConnectionClose) → IsFrameTaken now old new f closed → KeepsHello old new
frame_keeps now old new f closed (padding is) = one_keeps old new is
frame_keeps now old new f closed (ping is) = one_keeps old new is
frame_keeps now old new f closed (ack a r) =
    let is = r.mid_is in
    chain old r.mid new (still_kept _ old r.mid r.taken Acked r.packets (ap (λ (s : InitialSpace). s.state) is) (acked_held old.state) (ap (λ (s : InitialSpace). s.hello) is)) (loss_keeps _ now r.mid new r.lost)
frame_keeps now old new f closed (crypto _ piece is p) = crypto_keeps old new p.rest_is
frame_keeps now old new f closed (close _ code frame_type reason said is says same) = one_keeps old new same

piece_keeps : (old new : InitialSpace) (f : Frame) → KeepsCrypto old new f → KeepsHello old new
piece_keeps old new (kind.Crypto offset payload) (inl same) = one_keeps old new same
piece_keeps old new (kind.Crypto offset payload) (inr kept) = crypto_keeps old new kept.0
piece_keeps old new kind.Padding kept = one_keeps old new kept
piece_keeps old new kind.Ping kept = one_keeps old new kept
piece_keeps old new (kind.Ack a) kept = one_keeps old new kept
piece_keeps old new (kind.ResetStream id code size) kept = one_keeps old new kept
piece_keeps old new (kind.StopSending id code) kept = one_keeps old new kept
piece_keeps old new (kind.NewToken token) kept = one_keeps old new kept
piece_keeps old new (kind.Stream stream) kept = one_keeps old new kept
piece_keeps old new (kind.MaxData limit) kept = one_keeps old new kept
piece_keeps old new (kind.MaxStreamData id limit) kept = one_keeps old new kept
piece_keeps old new (kind.MaxStreams dir count) kept = one_keeps old new kept
piece_keeps old new (kind.DataBlocked limit) kept = one_keeps old new kept
piece_keeps old new (kind.StreamDataBlocked id limit) kept = one_keeps old new kept
piece_keeps old new (kind.StreamsBlocked dir count) kept = one_keeps old new kept
piece_keeps old new (kind.NewConnectionId sequence prior id token) kept = one_keeps old new kept
piece_keeps old new (kind.RetireConnectionId sequence) kept = one_keeps old new kept
piece_keeps old new (kind.PathChallenge bytes) kept = one_keeps old new kept
piece_keeps old new (kind.PathResponse bytes) kept = one_keeps old new kept
piece_keeps old new (kind.ConnectionClose code frame reason) kept = one_keeps old new kept
piece_keeps old new (kind.ApplicationClose code reason) kept = one_keeps old new kept
piece_keeps old new kind.HandshakeDone kept = one_keeps old new kept
piece_keeps old new (kind.Datagram payload has_length) kept = one_keeps old new kept

-- a frame that isn't taken
pub fault_keeps : (fault : SpaceFault) (old new : InitialSpace) (f : Frame) → KeepsAfter fault old new f → KeepsHello old new
fault_keeps (Transport e) old new f kept = one_keeps old new kept
fault_keeps Memory old new f kept = piece_keeps old new f kept
