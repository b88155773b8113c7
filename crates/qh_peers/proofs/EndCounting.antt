-- A datagram that counts by all that came counts by what came to the end of the 1-RTT packets.
use Rattle.std.proofs.Common.{◌≡◌, ℕ, List, [], ◌∷◌, refl, ◌∙◌, inl}
use Rattle.qh_conduct.specs.Restarting.{IsCounting}
use Rattle.qh_spec.proofs.PartLaws.{ends_has, part_in}
use Rattle.qh_spec.specs.Greeted.{HasPacketOf}
use Rattle.qh_spec.specs.Parted.{IsPartOf}
use Rattle.qh_spec.specs.Transcript.{Act, handed_in}
use Rattle.qh_spec.specs.declared.sides.Side.{Side}
use Rattle.qh_spec.specs.declared.sides.Space.TheVariants.{Data}

pub part_counting : (k : ℕ) (sender : Side) (part t : List Act) (d : List ℕ) → IsPartOf part t → IsCounting k sender (handed_in t) d → IsCounting k sender (handed_in part) d
part_counting k sender part t d p i = record {
  packet = i.packet;
  has = i.has;
  space_is = i.space_is;
  sender_is = i.sender_is;
  small = i.small;
  above = λ n has.
      let e = part_in part t p has.datagram has.among in
      i.above n (record {
        datagram = e.datagram;
        among = e.among;
        packet = has.packet;
        has = ends_has k has.packet has.datagram e.datagram e.ends has.has;
        space_is = has.space_is;
        sender_is = has.sender_is;
        number_is = has.number_is;
      });
}

-- it has a 1-RTT packet
pub counting_has : (k : ℕ) (sender side : Side) (before : List (List ℕ)) (d : List ℕ) → sender ≡ side → IsCounting k sender before d → HasPacketOf k (d ∷ []) side Data
counting_has k sender side before d same i = record { datagram = d; among = inl refl; packet = i.packet; has = i.has; space_is = i.space_is; sender_is = i.sender_is ∙ same }
