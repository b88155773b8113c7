-- What holds of the Initial space still holds once packets are acknowledged or lost.
use Rattle.std.proofs.Common.{◌≡◌, ℕ, Bool, true, false, ◌||◌, ◌<◌, ◌≤◌, ◌^◌, [], ◌∷◌, length, if◌then◌else◌, Option, Some, None, refl, sym, ap, ◌∙◌, inl, inr, arith, subst}
use Rattle.std.proofs.lemmas.Bool.{both_ways}
use Rattle.std.proofs.lemmas.Option.{same_Some}
use Rattle.qh_frame.specs.declared.ack.Ack.{Ack}
use Rattle.qh_handshake.specs.InitialSpace.{IsInitialSpace}
use Rattle.qh_handshake.specs.Receiving.{IsAckReceived, IsLossTaken, again, greatest_of}
use Rattle.qh_handshake.specs.Settled.{AreTaken, IsHelloOut, Packets, any_bears, bears_hello}
use Rattle.qh_handshake.specs.declared.initial_space.HelloFrame.{HelloFrame}
use Rattle.qh_handshake.specs.declared.initial_space.HelloState.{HelloState}
use Rattle.qh_handshake.specs.declared.initial_space.HelloState.TheVariants.{Held, Waits, Out, Acked}
use Rattle.qh_handshake.specs.declared.initial_space.InitialSpace.{InitialSpace}
use Rattle.qh_recovery.specs.SentPackets.{IsNext, IsReordered}
use Rattle.qh_recovery.specs.declared.paths.RttEstimator.{RttEstimator}
use Rattle.qh_recovery.specs.declared.sent_packets.SentPacket.{SentPacket}
use Rattle.qh_spec.specs.Lists.{In}

or_true : (b : Bool) → (b || true) ≡ true
or_true true = refl
or_true false = refl

-- one of them bears the hello
bears_in : (es : Packets) (k : ℕ) (q : SentPacket HelloFrame) → In (k, q) es → bears_hello q ≡ true → any_bears es ≡ true
bears_in [] k q there bears = absurd there
bears_in (e ∷ es) k q (inl same) bears = ap (λ (b : Bool). b || any_bears es) (ap (λ (d : ℕ × SentPacket HelloFrame). bears_hello d.1) same ∙ bears)
bears_in (e ∷ es) k q (inr there) bears = ap (λ (b : Bool). bears_hello e.1 || b) (bears_in es k q there bears) ∙ or_true (bears_hello e.1)

-- if none of the packets that went bore the hello, the packet that bears it is still out
hello_left : (P : ℕ → SentPacket HelloFrame → Type 0) (old new taken : Packets) → AreTaken P old new taken → any_bears taken ≡ false → IsHelloOut old → IsHelloOut new
hello_left P old new taken packets none out = record {
  number = out.number;
  packet = out.packet;
  is_out = (packets.left out.number out.packet).1
      (out.is_out, λ is_so. both_ways (any_bears taken) none (bears_in taken out.number out.packet (packets.all out.number out.packet out.is_out is_so) out.bears));
  bears = out.bears;
}

-- if packets only went, those that are left have numbers below the next one
next_left : (P : ℕ → SentPacket HelloFrame → Type 0) (number : ℕ) (old new taken : Packets) → AreTaken P old new taken → IsNext number old → IsNext number new
next_left P number old new taken packets next k q there = next k q ((packets.left k q).0 there).0

-- a hello that is still out wasn't acknowledged
out_unless_acked : (b : Bool) (state : HelloState) → (if b then Acked else state) ≡ Out → (b ≡ false) × (state ≡ Out)
out_unless_acked true state e = absurd (cc)
out_unless_acked false state e = (refl, e)

-- nor lost
out_unless_lost : (b : Bool) (state : HelloState) → (if b then again state else state) ≡ Out → (b ≡ false) × (state ≡ Out)
out_unless_lost true Held e = absurd (cc)
out_unless_lost true Waits e = absurd (cc)
out_unless_lost true Out e = absurd (cc)
out_unless_lost true Acked e = absurd (cc)
out_unless_lost false state e = (refl, e)

greatest_below : (acked : Option ℕ) (number next : ℕ) → ((n : ℕ) → acked ≡ Some n → n < next) → number < next → greatest_of acked number < next
greatest_below None number next below is_below = is_below
greatest_below (Some largest) number next below is_below =
    let first = below largest refl in
    omega (arith, first, is_below)

-- What holds of a space before what is lost is lost: all but that none is lost by its number.
pub record IsNearSpace (s : InitialSpace) : Type 0 where
  pub out : s.state ≡ Out → IsHelloOut s.sent
  pub next : IsNext s.next_number s.sent
  pub bound : s.next_number ≤ 2 ^ 62
  pub acked : (n : ℕ) → s.largest_acked ≡ Some n → n < s.next_number
  pub due : s.acks.is_due ≡ true → 0 < length s.acks.ranges
  pub short : length s.hello ≤ 512

pub near_space : (s : InitialSpace) → IsInitialSpace s → IsNearSpace s
near_space s space = record { out = space.out; next = space.next; bound = space.bound; acked = space.acked; due = space.due; short = space.short }

-- once an ACK is taken, before what is lost is
acked_space : (P : ℕ → SentPacket HelloFrame → Type 0) (old mid : InitialSpace) (taken : Packets) (greatest : ℕ) (rtt : RttEstimator) (pto_count : ℕ) → AreTaken P old.sent mid.sent taken
    → mid ≡ record old { sent = mid.sent; state = (if any_bears taken then Acked else old.state); rtt = rtt; largest_acked = Some (greatest_of old.largest_acked greatest); pto_count = pto_count }
    → greatest < old.next_number → IsInitialSpace old → IsNearSpace mid
acked_space P old mid taken greatest rtt pto_count packets is below space =
    let acked_is = ap (λ (s : InitialSpace). s.largest_acked) is in
    let number_is = ap (λ (s : InitialSpace). s.next_number) is in
    record {
      out = λ e.
          let was = out_unless_acked (any_bears taken) old.state (sym (ap (λ (s : InitialSpace). s.state) is) ∙ e) in
          hello_left P old.sent mid.sent taken packets was.0 (space.out was.1);
      next = subst (λ (n : ℕ). IsNext n mid.sent) (sym number_is) (next_left P old.next_number old.sent mid.sent taken packets space.next);
      bound = rw number_is space.bound;
      acked = λ n e. subst (λ (m : ℕ). m < mid.next_number) (same_Some (greatest_of old.largest_acked greatest) n (sym acked_is ∙ e))
          (rw number_is (greatest_below old.largest_acked greatest old.next_number space.acked below));
      due = rw (ap (λ (s : InitialSpace). s.acks) is) space.due;
      short = rw (ap (λ (s : InitialSpace). s.hello) is) space.short;
    }

-- once what is lost by now is lost
pub lost_space : (largest now : ℕ) (old new : InitialSpace) → IsLossTaken largest now old new → old.largest_acked ≡ Some largest → IsNearSpace old → IsInitialSpace new
lost_space largest now old new lost acked space =
    let is = lost.rest_is in
    let number_is = ap (λ (s : InitialSpace). s.next_number) is in
    let acked_is = ap (λ (s : InitialSpace). s.largest_acked) is in
    let left = lost.packets in
    record {
      out = λ e.
          let was = out_unless_lost (any_bears lost.taken) old.state (sym (ap (λ (s : InitialSpace). s.state) is) ∙ e) in
          hello_left _ old.sent new.sent lost.taken left was.0 (space.out was.1);
      next = subst (λ (n : ℕ). IsNext n new.sent) (sym number_is) (next_left _ old.next_number old.sent new.sent lost.taken left space.next);
      bound = rw number_is space.bound;
      acked = λ n e. rw number_is (space.acked n (sym acked_is ∙ e));
      in_order = λ n e k q there late. ((left.left k q).0 there).1 (inl (subst (λ (m : ℕ). IsReordered m k q) (sym (same_Some largest n (sym (acked_is ∙ acked) ∙ e))) late));
      due = rw (ap (λ (s : InitialSpace). s.acks) is) space.due;
      short = rw (ap (λ (s : InitialSpace). s.hello) is) space.short;
    }

-- once an ACK was taken
pub received_space : (now : ℕ) (old new : InitialSpace) (a : Ack) → IsAckReceived now old new a → a.greatest < old.next_number → IsInitialSpace old → IsInitialSpace new
received_space now old new a received below space =
    lost_space (greatest_of old.largest_acked a.greatest) now received.mid new received.lost (ap (λ (s : InitialSpace). s.largest_acked) received.mid_is)
    (acked_space _ old received.mid received.taken a.greatest _ _ received.packets received.mid_is below space)
