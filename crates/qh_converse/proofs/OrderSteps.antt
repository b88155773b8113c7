-- How the order of a handshake goes on.
use Rattle.std.proofs.Common.{◌≡◌, inl, inr, ℕ, List, [], ◌∷◌, ◌++◌, refl, sym, ◌∙◌, subst}
use Rattle.qh_converse.proofs.ShakeLaws.{AreQuiet, all_quiet, handed_in_still, not_out}
use Rattle.qh_spec.proofs.HandshakeOrderLaws.{act_orders, order_sent}
use Rattle.qh_spec.proofs.PartLaws.{alone_has_none}
use Rattle.qh_spec.specs.Datagram.{HasPacket}
use Rattle.qh_spec.specs.Greeted.{GreetsInOrder, HasCrypto, HasGreetedInOrder, HasPacketOf, IsGreeted}
use Rattle.qh_spec.specs.HandshakeOrder.{Orders, Progress}
use Rattle.qh_spec.specs.Link.{other}
use Rattle.qh_spec.specs.Parted.{IsInitialAlone}
use Rattle.qh_spec.specs.Transcript.{Act, HandedOut, handed_in}
use Rattle.qh_spec.specs.declared.sides.Side.{Side}
use Rattle.qh_spec.specs.declared.sides.Side.TheVariants.{Server}
use Rattle.qh_spec.specs.declared.sides.Space.TheVariants.{Data}

-- an end whose handshake is as far as before
pub same_orders : (own peer : ℕ) (old new : Progress) (t : List Act) → new.side ≡ old.side → new.is_greeted ≡ old.is_greeted → new.has_heard ≡ old.has_heard → Orders own peer old t
    → Orders own peer new t
same_orders own peer old new t side greeted heard p = record {
  greeted = λ e. subst (λ (s : Side). IsGreeted own (handed_in t) (other s)) (sym side) (p.greeted (sym greeted ∙ e));
  heard = λ e. subst (λ (s : Side). HasPacketOf own (handed_in t) (other s) Data) (sym side) (p.heard (sym heard ∙ e));
  order = subst (λ (s : Side). HasGreetedInOrder own peer s t) (sym side) p.order;
}

pub quiet_orders : (own peer : ℕ) (h : Progress) (acts t : List Act) → AreQuiet acts → Orders own peer h t → Orders own peer h (t ++ acts)
quiet_orders own peer h acts t q p =
    all_quiet (λ (_ whole : List Act). Orders own peer h whole) (λ _ whole a quiet o. act_orders own peer h whole a (not_out a quiet) o) acts [] t q p

-- a datagram is handed out that may be
pub sent_orders : (own peer : ℕ) (h : Progress) (t : List Act) (d : List ℕ) → GreetsInOrder own peer h.side (handed_in t) d → Orders own peer h t → Orders own peer h (t ++ HandedOut d ∷ [])
sent_orders own peer h t d may p =
    let still : handed_in t ≡ handed_in (t ++ HandedOut d ∷ []) = sym (handed_in_still t (HandedOut d) refl) in
    record {
      greeted = λ e. subst (λ (z : List (List ℕ)). IsGreeted own z (other h.side)) still (p.greeted e);
      heard = λ e. subst (λ (z : List (List ℕ)). HasPacketOf own z (other h.side) Data) still (p.heard e);
      order = order_sent own peer h.side t d may p.order;
    }

-- one Initial packet has no 1-RTT packet
pub alone_has_no_data : (k : ℕ) (d : List ℕ) (s : Side) → IsInitialAlone d → HasPacketOf k (d ∷ []) s Data → ⊥
alone_has_no_data k d s alone p =
    elim p.among [ inl e ↦ alone_has_none k p.packet d alone (subst (λ (z : List ℕ). HasPacket k p.packet z) (sym e) p.has) p.space_is | inr n ↦ n ]

-- one Initial packet is handed out, by a server with its hello only once it was greeted
pub alone_orders : (own peer : ℕ) (h : Progress) (t : List Act) (d : List ℕ) → IsInitialAlone d
    → (h.side ≡ Server → (from : ℕ) (payload : List ℕ) → HasCrypto peer (d ∷ []) h.side from payload → IsGreeted own (handed_in t) (other h.side))
    → Orders own peer h t → Orders own peer h (t ++ HandedOut d ∷ [])
alone_orders own peer h t d alone answers p = sent_orders own peer h t d (record {
  greeted = λ has. absurd (alone_has_no_data peer d h.side alone has);
  connected = λ _ has. absurd (alone_has_no_data peer d h.side alone has);
  answers = answers;
}) p
