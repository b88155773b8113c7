-- How what a handshake sends stands at first, and once something passed by itself.
use Rattle.std.proofs.Common.{◌≡◌, ℕ, true, false, List, [], ◌∷◌, ◌++◌, length, Some, refl, sym, ap, subst, ◌∙◌, arith}
use Rattle.std.proofs.lemmas.Bool.{both_ways}
use Rattle.std.proofs.lemmas.Option.{none-some, same_Some}
use Rattle.qh_base.specs.declared.time.Moment.{Moment}
use Rattle.qh_buffers.specs.Ranges.{PlainRange, has}
use Rattle.qh_handshake.specs.Handshake.{dropping}
use Rattle.qh_handshake.specs.Follows.{HasInitial, IsFresh}
use Rattle.qh_handshake.specs.Moments.{AreLostByAge, IsProbed, IsTimedOut}
use Rattle.qh_handshake.specs.Moments.AreLostByAge.{due as some_lost, not_yet as no_loss}
use Rattle.qh_handshake.specs.Moments.IsProbed.{due as some_probe, not_yet as no_probe}
use Rattle.qh_handshake.specs.Moments.IsTimedOut.{gone, recovery}
use Rattle.qh_handshake.specs.Outgoing.{IsCloseUnsent, IsUnsent}
use Rattle.qh_handshake.specs.Outgoing.IsCloseUnsent.{same as close_unchanged, used as number_used}
use Rattle.qh_handshake.specs.Outgoing.IsUnsent.{same as unchanged, lost as packet_lost}
use Rattle.qh_handshake.specs.Receiving.{IsLossTaken}
use Rattle.qh_handshake.specs.Sends.{IsHonestDatagram, IsHonestPacket, Sends}
use Rattle.qh_handshake.specs.Timers.{with_probe}
use Rattle.qh_handshake.specs.declared.handshake.Handshake.{Handshake}
use Rattle.qh_handshake.specs.declared.initial_space.HelloState.{HelloState}
use Rattle.qh_handshake.specs.declared.initial_space.HelloState.TheVariants.{Held, Waits, Out, Acked}
use Rattle.qh_handshake.specs.declared.initial_space.InitialSpace.{InitialSpace}
use Rattle.qh_spec.specs.Link.{other}
use Rattle.qh_spec.specs.Transcript.{Act, HandedOut, handed_in}
use Rattle.qh_spec.specs.declared.sides.Side.{Side}

-- the numbers that a space has to acknowledge came
abbrev pub AcksCame : Side → InitialSpace → List Act → Type 0
AcksCame side s t = (number id_length : ℕ) → has s.acks.ranges number ≡ true → HasInitial id_length (handed_in t) (other side) number

-- the same of the space of a handshake, if there is one
abbrev pub AckedCame : Handshake → List Act → Type 0
AckedCame h t = (s : InitialSpace) → h.space ≡ Some s → AcksCame h.side s t

pub same_acks : (side : Side) (old new : InitialSpace) (t : List Act) → new.acks.ranges ≡ old.acks.ranges → AcksCame side old t → AcksCame side new t
same_acks side old new t e p = λ number id_length there. p number id_length (ap (λ (rs : List PlainRange). has rs number) (sym e) ∙ there)

-- the handshake is at the same end of the connection
pub record IsSameEnd (old new : Handshake) : Type 0 where
  pub side : new.side ≡ old.side
  pub id : new.local_id ≡ old.local_id

-- what was handed out is honest of the handshake as it is later, too
pub honest_later : (hello : List ℕ) (came : List (List ℕ)) (old new : Handshake) (d : List ℕ) → IsSameEnd old new → IsHonestDatagram hello came old d → IsHonestDatagram hello came new d
honest_later hello came old new d same p = record {
  has_one = p.has_one;
  from = λ first destination source token body behind begins.
      let it = p.from first destination source token body behind begins in
      (it.0 ∙ sym same.id, it.1);
  some = p.some;
  packets = λ id_length q has. subst (λ (side : Side). IsHonestPacket hello came side q) (sym same.side) (p.packets id_length q has);
}

-- without another datagram
pub sends_on : (hello : List ℕ) (old new : Handshake) (t : List Act) → IsSameEnd old new → AckedCame new t → Sends hello old t → Sends hello new t
sends_on hello old new t same acked p = record {
  each = λ before after datagram e. honest_later hello (handed_in before) old new datagram same (p.each before after datagram e);
  acked = λ s number id_length is there. acked s is number id_length there;
}

pub acked_of : (hello : List ℕ) (h : Handshake) (t : List Act) (s : InitialSpace) → h.space ≡ Some s → Sends hello h t → AcksCame h.side s t
acked_of hello h t s is p = λ number id_length there. p.acked s number id_length is there

-- ---- before the first datagram

not_empty : (before after : List Act) (datagram : List ℕ) → [] ≡ before ++ HandedOut datagram ∷ after → ⊥
not_empty [] after d e = let l : 0 ≡ length (HandedOut d ∷ after) = ap length e in omega (arith, l)
not_empty (b ∷ before) after d e = let l : 0 ≡ length (b ∷ (before ++ HandedOut d ∷ after)) = ap length e in omega (arith, l)

pub fresh_sends : (hello : List ℕ) (h : Handshake) → IsFresh hello h → Sends hello h []
fresh_sends hello h f = record {
  each = λ before after datagram e. absurd (not_empty before after datagram e);
  acked = λ s number id_length is there.
      let one : f.space ≡ s = same_Some f.space s (sym f.space_is ∙ is) in
      let none : has s.acks.ranges number ≡ false = ap (λ (z : InitialSpace). has z.acks.ranges number) (sym one) ∙ ap (λ (a : _). has a.ranges number) f.unused.acks in
      absurd (both_ways (has s.acks.ranges number) none there);
}

-- ---- the space is dropped, or discarded

pub dropped_sends : (hello : List ℕ) (h : Handshake) (t : List Act) → Sends hello h t → Sends hello (dropping h) t
dropped_sends hello h t p = sends_on hello h (dropping h) t (record { side = refl; id = refl }) (λ s is. absurd (none-some s is)) p

pub discarded_sends : (hello : List ℕ) (h : Handshake) (t : List Act) → Sends hello h t → Sends hello (record (dropping h) { is_validated = true }) t
discarded_sends hello h t p = sends_on hello h (record (dropping h) { is_validated = true }) t (record { side = refl; id = refl }) (λ s is. absurd (none-some s is)) p

-- ---- memory is wanting for a datagram, or a packet number is used up by a close that isn't handed out

-- with a space that has the same numbers to acknowledge
used_sends : (hello : List ℕ) (old : Handshake) (s next : InitialSpace) (t : List Act) → old.space ≡ Some s → next.acks.ranges ≡ s.acks.ranges → Sends hello old t
    → Sends hello (record old { space = Some next }) t
used_sends hello old s next t is same p =
    let kept = same_acks old.side s next t same (acked_of hello old t s is p) in
    sends_on hello old (record old { space = Some next }) t (record { side = refl; id = refl })
    (λ x there. subst (λ (z : InitialSpace). AcksCame old.side z t) (same_Some next x there) kept) p

pub unsent_sends : (now : Moment) (hello : List ℕ) (old new : Handshake) (t : List Act) → IsUnsent now old new → Sends hello old t → Sends hello new t
unsent_sends now hello old new t (unchanged e) p = subst (λ (z : Handshake). Sends hello z t) (sym e) p
unsent_sends now hello old new t (packet_lost s next frames is_eliciting is allowed number made e) p =
    subst (λ (z : Handshake). Sends hello z t) (sym e) (used_sends hello old s next t is (ap (λ (z : InitialSpace). z.acks.ranges) made.new_is) p)

pub close_unsent_sends : (hello : List ℕ) (old new : Handshake) (t : List Act) → IsCloseUnsent old new → Sends hello old t → Sends hello new t
close_unsent_sends hello old new t (close_unchanged e) p = subst (λ (z : Handshake). Sends hello z t) (sym e) p
close_unsent_sends hello old new t (number_used s is allowed number e) p = subst (λ (z : Handshake). Sends hello z t) (sym e) (used_sends hello old s _ t is refl p)

-- ---- what is due is done

pub loss_acks : (largest now : ℕ) (old new : InitialSpace) → IsLossTaken largest now old new → new.acks.ranges ≡ old.acks.ranges
loss_acks largest now old new lost = ap (λ (z : InitialSpace). z.acks.ranges) lost.rest_is

lost_acks : (now : ℕ) (old new : InitialSpace) → AreLostByAge now old new → new.acks.ranges ≡ old.acks.ranges
lost_acks now old new (some_lost m largest at before acked lost) = loss_acks largest now old new lost
lost_acks now old new (no_loss later e) = ap (λ (z : InitialSpace). z.acks.ranges) e

probe_acks : (state : HelloState) (s : InitialSpace) → (with_probe state s).acks.ranges ≡ s.acks.ranges
probe_acks Out s = refl
probe_acks Waits s = refl
probe_acks Held s = refl
probe_acks Acked s = refl

probed_acks : (now : ℕ) (h : Handshake) (old new : InitialSpace) → IsProbed now h old new → new.acks.ranges ≡ old.acks.ranges
probed_acks now h old new (some_probe m at before queued) = ap (λ (z : InitialSpace). z.acks.ranges) queued ∙ probe_acks old.state old
probed_acks now h old new (no_probe later e) = ap (λ (z : InitialSpace). z.acks.ranges) e

pub timed_out_sends : (now : ℕ) (hello : List ℕ) (old new : Handshake) (t : List Act) → IsTimedOut now old new → Sends hello old t → Sends hello new t
timed_out_sends now hello old new t (gone none e) p = subst (λ (z : Handshake). Sends hello z t) (sym e) p
timed_out_sends now hello old new t (recovery s mid next is lost probed e) p =
    subst (λ (z : Handshake). Sends hello z t) (sym e) (used_sends hello old s next t is (probed_acks now old mid next probed ∙ lost_acks now s mid lost) p)
