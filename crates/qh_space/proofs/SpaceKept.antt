-- What holds of a space still holds once packets are acknowledged or lost.
use Rattle.std.proofs.Common.{◌≡◌, ℕ, List, Option, None, arith, ◌<◌, ◌≤◌, ◌^◌, true, length, Some, refl, sym, ap, ◌∙◌, inl, subst}
use Rattle.qh_loss.specs.Owed.{AreOwed}
use Rattle.qh_loss.specs.Settled.{AreTaken}
use Rattle.qh_recovery.specs.SentPackets.{IsNext, IsReordered}
use Rattle.qh_recovery.specs.declared.sent_packets.SentPacket.{SentPacket}
use Rattle.qh_streams.specs.declared.frames.SentFrame.{SentFrame}
use Rattle.qh_space.specs.Receiving.{IsLossTaken, greatest_of}
use Rattle.qh_space.specs.Space.{IsSpace}
use Rattle.qh_space.specs.declared.data_space.DataSpace.{DataSpace}
use Rattle.std.proofs.lemmas.Option.{same_Some}

-- if packets only went, those that are left have numbers below the next one
pub next_left : (P : ℕ → SentPacket SentFrame → Type 0) (number : ℕ) (old new taken : List (ℕ × SentPacket SentFrame)) → AreTaken P old new taken → IsNext number old → IsNext number new
next_left P number old new taken packets next k q there = next k q ((packets.left k q).0 there).0

-- once what is lost by now is lost
pub lost_space : (largest now : ℕ) (old new : DataSpace) → IsLossTaken largest now old new → AreOwed new.streams new.sent
    → old.largest_acked ≡ Some largest → largest < old.next_number → IsNext old.next_number old.sent → old.next_number ≤ 2 ^ 62 → (old.acks.is_due ≡ true → 0 < length old.acks.ranges) → IsSpace new
lost_space largest now old new taken owed acked below next bound due =
    let number_is = ap (λ (s : DataSpace). s.next_number) taken.rest_is in
    let acked_is = ap (λ (s : DataSpace). s.largest_acked) taken.rest_is ∙ acked in
    let acks_is = ap (λ (s : DataSpace). s.acks) taken.rest_is in
    let left = taken.lost.packets in
    record {
      owed = owed;
      next = subst (λ (n : ℕ). IsNext n new.sent) (sym number_is) (next_left _ old.next_number old.sent new.sent _ left next);
      bound = subst (λ (n : ℕ). n ≤ 2 ^ 62) (sym number_is) bound;
      acked = λ n is. subst (λ (m : ℕ). m < new.next_number) (same_Some largest n (sym acked_is ∙ is)) (rw number_is below);
      in_order = λ n is k q there reordered. ((left.left k q).0 there).1 (inl (subst (λ (m : ℕ). IsReordered m k q) (sym (same_Some largest n (sym acked_is ∙ is))) reordered));
      due = rw acks_is due;
    }

pub greatest_below : (acked : Option ℕ) (number next : ℕ) → ((n : ℕ) → acked ≡ Some n → n < next) → number < next → greatest_of acked number < next
greatest_below None number next below is_below = is_below
greatest_below (Some largest) number next below is_below =
    let first = below largest refl in
    omega (arith, first, is_below)
