-- What holds of a handshake still holds once its space changed: a hello that is held stays so.
use Rattle.std.proofs.Common.{◌≡◌, ◌⊎◌, ℕ, ◌+◌, ◌-◌, ◌<◌, ◌^◌, Bool, true, false, nat_le, nat_lt, ◌&&◌, List, [], ◌∷◌, ◌++◌, length, Option, Some, None, refl, sym, ap, subst, ◌∙◌, inl, inr}
use Rattle.std.specs.Prelude.{IfSome, cond}
use Rattle.std.proofs.lemmas.Bool.{both_ways}
use Rattle.std.proofs.lemmas.Option.{none-some, same_Some}
use Rattle.qh_base.specs.declared.time.Moment.{Moment}
use Rattle.qh_handshake.proofs.HelloHeld.{chain, loss_keeps, one_keeps}
use Rattle.qh_handshake.proofs.PacketMade.{bears_if}
use Rattle.qh_handshake.specs.Handshake.{IsHandshake, IsHeld, IsSaid, KeepsHello}
use Rattle.qh_handshake.specs.InitialSpace.{IsInitialSpace}
use Rattle.qh_handshake.specs.Moments.{AreLostByAge, IsProbed}
use Rattle.qh_handshake.specs.Moments.AreLostByAge.{due as some_lost, not_yet as no_loss}
use Rattle.qh_handshake.specs.Moments.IsProbed.{due as some_probe, not_yet as no_probe}
use Rattle.qh_handshake.specs.Sending.{IsPacketMade, bytes_if, counted, is_waiting, ping_bytes}
use Rattle.qh_handshake.specs.Settled.{Packets, bears_hello}
use Rattle.qh_handshake.specs.Timers.{with_probe}
use Rattle.qh_handshake.specs.declared.handshake.Handshake.{Handshake}
use Rattle.qh_handshake.specs.declared.initial_space.HelloFrame.{HelloFrame}
use Rattle.qh_handshake.specs.declared.initial_space.HelloState.{HelloState}
use Rattle.qh_handshake.specs.declared.initial_space.HelloState.TheVariants.{Held, Waits, Out, Acked}
use Rattle.qh_handshake.specs.declared.initial_space.InitialSpace.{InitialSpace}
use Rattle.qh_handshake.specs.declared.sending.MadePacket.{MadePacket}
use Rattle.qh_hello.specs.Greetings.{greeting}
use Rattle.qh_recovery.specs.PendingAcks.{PlainPendingAcks}
use Rattle.qh_recovery.specs.SentPackets.{packet_at}
use Rattle.qh_recovery.specs.declared.sent_packets.SentPacket.{SentPacket}
use Rattle.qh_spec.specs.Hello.{hello_bytes, hello_of}
use Rattle.qh_spec.specs.declared.sides.Side.TheVariants.{Server}

-- ---- a packet more

is_it : (here : Bool) (p : SentPacket HelloFrame) (q : SentPacket HelloFrame) → cond here (Some p) None ≡ Some q → p ≡ q
is_it true p q e = same_Some p q e
is_it false p q e = absurd (none-some q e)

here_or_there : (here : Bool) (p packet q : SentPacket HelloFrame) (all es : Option (SentPacket HelloFrame)) → (all ≡ Some q → (es ≡ Some q) ⊎ (packet ≡ q)) → cond here (Some p) all ≡ Some q
    → (cond here (Some p) es ≡ Some q) ⊎ (packet ≡ q)
here_or_there true p packet q all es rest e = inl e
here_or_there false p packet q all es rest e = rest e

-- what is out was out before, or is the last packet
out_before : (es : Packets) (number : ℕ) (packet : SentPacket HelloFrame) (k : ℕ) (q : SentPacket HelloFrame) → packet_at (es ++ (number, packet) ∷ []) k ≡ Some q → (packet_at es k ≡ Some q) ⊎ (packet ≡ q)
out_before [] number packet k q there = inr (is_it _ packet q there)
out_before (e ∷ es) number packet k q there = here_or_there _ e.1 packet q _ (packet_at es k) (out_before es number packet k q) there

counted_held : (s : InitialSpace) (packet : SentPacket HelloFrame) (is_eliciting : Bool) (acks : PlainPendingAcks) (now : Moment) → bears_hello packet ≡ false → IsHeld s
    → IsHeld (record (counted s packet is_eliciting false) { acks = acks; last_active = now })
counted_held s packet true acks now bare held = record {
  held = held.held;
  none_out = λ out. elim (out_before s.sent s.next_number packet out.number out.packet out.is_out) [
    | inl before ↦ held.none_out (record { number = out.number; packet = out.packet; is_out = before; bears = out.bears })
    | inr same ↦ both_ways (bears_hello packet) bare (ap bears_hello same ∙ out.bears)
  ];
}
counted_held s packet false acks now bare held = record { held = held.held; none_out = held.none_out }

-- it is the same hello, and isn't held if it wasn't
counted_hello : (s : InitialSpace) (packet : SentPacket HelloFrame) (is_eliciting has_hello : Bool) → (counted s packet is_eliciting has_hello).hello ≡ s.hello
counted_hello s packet true has_hello = refl
counted_hello s packet false has_hello = refl

counted_released : (s : InitialSpace) (packet : SentPacket HelloFrame) (is_eliciting has_hello : Bool) → (counted s packet is_eliciting has_hello).state ≡ Held → s.state ≡ Held
counted_released s packet true true e = absurd (cc)
counted_released s packet true false e = e
counted_released s packet false has_hello e = e

-- a packet that is made doesn't bear a hello that is held
made_keeps : (now : Moment) (room : ℕ) (old new : InitialSpace) (before after : List ℕ) (is_eliciting : Bool) → IsPacketMade now room old new before after is_eliciting → KeepsHello old new
made_keeps now room old new before after is_eliciting made =
    let left = room - (length made.out_mid - length before) - length (bytes_if old.is_ping_due ping_bytes) in
    let bears = nat_lt 0 (length made.packet.frames.items) in
    record {
      hello = ap (λ (s : InitialSpace). s.hello) made.new_is ∙ counted_hello old made.packet is_eliciting bears;
      held = λ held.
          let bare : bears_hello made.packet ≡ false = bears_if _ made.packet.frames.items made.hello_is ∙ ap (λ (s : HelloState). is_waiting s && nat_le (17 + length old.hello) left) held.held in
          subst IsHeld (sym (made.new_is ∙ ap (λ (b : Bool). record (counted old made.packet is_eliciting b) { acks = record old.acks { is_due = false }; last_active = now }) bare))
          (counted_held old made.packet is_eliciting (record old.acks { is_due = false }) now bare held);
      released = λ e. counted_released old made.packet is_eliciting bears (sym (ap (λ (s : InitialSpace). s.state) made.new_is) ∙ e);
    }

-- ---- what is due is done

lost_keeps : (now : ℕ) (old new : InitialSpace) → AreLostByAge now old new → KeepsHello old new
lost_keeps now old new (some_lost m largest at before acked lost) = loss_keeps largest now old new lost
lost_keeps now old new (no_loss later e) = one_keeps old new e

waits_held : (state : HelloState) → Waits ≡ Held → state ≡ Held
waits_held state e = absurd (cc)

out_held : (state : HelloState) → state ≡ Out → state ≡ Held → Waits ≡ Held
out_held state out held = absurd (cc)

probe_keeps : (state : HelloState) (s : InitialSpace) → s.state ≡ state → KeepsHello s (with_probe state s)
probe_keeps Out s is = record { hello = refl; held = λ held. record { held = out_held s.state is held.held; none_out = held.none_out }; released = waits_held s.state }
probe_keeps Waits s is = record { hello = refl; held = λ held. record { held = held.held; none_out = held.none_out }; released = λ e. e }
probe_keeps Held s is = record { hello = refl; held = λ held. record { held = held.held; none_out = held.none_out }; released = λ e. e }
probe_keeps Acked s is = record { hello = refl; held = λ held. record { held = held.held; none_out = held.none_out }; released = λ e. e }

probed_keeps : (now : ℕ) (h : Handshake) (old new : InitialSpace) → IsProbed now h old new → KeepsHello old new
probed_keeps now h old new (some_probe m at before queued) = subst (λ (s : InitialSpace). KeepsHello old s) (sym queued) (probe_keeps old.state old refl)
probed_keeps now h old new (no_probe later e) = one_keeps old new e

-- ---- the handshake

-- a hello that was said stays so
pub said_kept : (hello : List ℕ) (s next : InitialSpace) → KeepsHello s next → IsSaid hello s → IsSaid hello next
said_kept hello s next keeps said = record { released = λ e. said.released (keeps.released e); hello_is = keeps.hello ∙ said.hello_is }

-- with another space
pub with_space : (h : Handshake) (s next : InitialSpace) (sent : ℕ) → IsHandshake h → h.space ≡ Some s → IsInitialSpace next → KeepsHello s next
    → IsHandshake (record h { space = Some next; bytes_sent = sent })
with_space h s next sent whole is space keeps = record {
  space = space;
  token = whole.token;
  source = whole.source;
  origin = whole.origin;
  validated = whole.validated;
  server = whole.server;
  greeted = λ client some. absurd (none-some s (sym (whole.greeted client some) ∙ is));
  held = λ server none. keeps.held (subst (λ (o : Option InitialSpace). IfSome o IsHeld) is (whole.held server none));
  said = λ server some. said_kept _ s next keeps (subst (λ (o : Option InitialSpace). IfSome o (IsSaid (hello_bytes (hello_of (greeting Server [] h.parameters))))) is (whole.said server some));
}

-- once a packet was made
pub made_whole : (now : Moment) (room : ℕ) (h : Handshake) (s next : InitialSpace) (before after : List ℕ) (sent : ℕ) (o : Option MadePacket) (made : MadePacket) → o ≡ Some made
    → IfSome o (λ m. (m.number ≡ s.next_number) × (m.number < 2 ^ 62) × IsPacketMade now room s next before after m.is_ack_eliciting)
    → IsInitialSpace next → IsHandshake h → h.space ≡ Some s → IsHandshake (record h { space = Some next; bytes_sent = sent })
made_whole now room h s next before after sent None made e is space whole there = absurd (none-some made e)
made_whole now room h s next before after sent (Some m) made e is space whole there = with_space h s next sent whole there space (made_keeps now room s next before after m.is_ack_eliciting is.2)

-- once what was due is done
pub timed_whole : (now : ℕ) (h : Handshake) (s mid next : InitialSpace) → AreLostByAge now s mid → IsProbed now h mid next → IsInitialSpace next → IsHandshake h → h.space ≡ Some s
    → IsHandshake (record h { space = Some next })
timed_whole now h s mid next lost probed space whole is = with_space h s next h.bytes_sent whole is space (chain s mid next (lost_keeps now s mid lost) (probed_keeps now h mid next probed))
