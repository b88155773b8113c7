-- What comes to an end beside what the other handed out concerns neither its handshake nor the end of its 1-RTT packets.
use Rattle.std.proofs.Common.{◌⊎◌, inl, inr, ℕ, List, sym, subst}
use Rattle.qh_converse.proofs.ShakeLaws.{shake_in, shake_out, short_behind}
use Rattle.qh_converse.specs.Linked.{ComesFrom, IsOfNoEnd}
use Rattle.qh_converse.specs.Parts.{IsShakeOf}
use Rattle.qh_handshake.specs.Incoming.{IsBehind}
use Rattle.qh_spec.proofs.PartLaws.{end_of_part, part_in}
use Rattle.qh_spec.specs.Lists.{In}
use Rattle.qh_spec.specs.Parted.{AreShort, CameFrom, EndsWith, here, behind, IsPartOf, IsShort}
use Rattle.qh_spec.specs.Transcript.{Act, handed_in, handed_out}

-- what is of no end doesn't end with what begins with a short header
pub ends_in_none : (tail d : List ℕ) → IsOfNoEnd d → IsShort tail → EndsWith tail d → ⊥
ends_in_none tail d none short (here _ e) = none.1 (subst (λ (z : List ℕ). IsShort z) (sym e) short)
ends_in_none tail d none short (behind front more _ first body e form _) = none.0 front more body first e form

-- what came to an end was handed out by its peer, or is of no end, and the peer's part begins with short headers, so it is of the parts
pub part_comes : (uc tc up tp : List Act) → IsPartOf uc tc → IsPartOf up tp → AreShort up → ComesFrom tc tp → CameFrom uc up
part_comes uc tc up tp pc pp short comes x i =
    let e = part_in uc tc pc x i in
    elim (comes e.datagram e.among) [
      | inl out ↦ end_of_part up tp x e.datagram pp short out e.ends e.short
      | inr none ↦ absurd (ends_in_none x e.datagram none e.short e.ends)
    ]

-- what came to the handshake was handed out by the peer's, or no Initial packet begins it
pub shake_comes : (uc tc up tp : List Act) → IsShakeOf uc tc → IsShakeOf up tp → ComesFrom tc tp → (d : List ℕ) → In d (handed_in uc) → In d (handed_out up) ⊎ IsBehind d
shake_comes uc tc up tp sc sp comes d i =
    elim (comes d (subst (λ (z : List (List ℕ)). In d z) (shake_in uc tc sc) i)) [
      | inl out ↦ elim (shake_out up tp sp d out) [ inl h ↦ inl h | inr s ↦ inr (short_behind d s) ]
      | inr none ↦ inr none.0
    ]
