-- What an end's part of its 1-RTT packets means, read with ids as long as those of its peer.
use Rattle.std.proofs.Common.{◌≡◌, ℕ, true, false, List, [], ◌∷◌, ◌++◌, length, Option, Some, None, refl, sym, ap, subst, ◌∙◌}
use Rattle.std.specs.Prelude.{is_some}
use Rattle.qh_converse.specs.Converses.{IsBegun, IsPeerLength}
use Rattle.qh_converse.specs.Settled.{peer_limits}
use Rattle.qh_core.specs.Follows.{IsWithinLimits}
use Rattle.qh_core.specs.Inner.{is_open}
use Rattle.qh_core.specs.Made.{AcceptsTags, MakesTagsOf}
use Rattle.qh_core.specs.declared.inner.Inner.{Inner}
use Rattle.qh_handshake.specs.declared.handshake.Handshake.{Handshake}
use Rattle.qh_hello.specs.declared.transport_parameters.TransportParameters.{TransportParameters}
use Rattle.qh_spec.specs.Lawful.{Lawful}
use Rattle.qh_spec.specs.Transcript.{Act, HandedOut}
use Rattle.qh_spec.specs.declared.sides.Side.{Side}

nothing_lawful : (side : Side) (own n : ℕ) → Lawful side own n []
nothing_lawful side own n = record {
  sent_byte = λ stream offset byte c. absurd c.has.among;
  sent_end = λ stream end c. absurd c.has.among;
  read_byte = λ stream at bytes k byte there is. absurd there;
  read_end = λ stream is. let z : false ≡ true = is in cc;
}

no_split : (u v : List Act) (a : Act) → [] ≡ u ++ a ∷ v → ⊥
no_split [] v a e = cc
no_split (b ∷ u) v a e = cc

module _ {S : Type 0} (accepts : AcceptsTags S) (sealed : MakesTagsOf S) (h : Handshake) (c : Inner S) (part : List Act) (up : is_open c.state ≡ true) (b : IsBegun accepts sealed h c part) where
  lawful_when : (o : Option TransportParameters) → h.peer ≡ o → (n : ℕ) → IsPeerLength h n → Lawful c.side (length c.local_id) (length c.remote_id) part → Lawful c.side (length c.local_id) n part
  lawful_when None is n long l = subst (λ (t : List Act). Lawful c.side (length c.local_id) n t) (sym (b.not_yet is)) (nothing_lawful c.side (length c.local_id) n)
  lawful_when (Some p) is n long l =
      subst (λ (k : ℕ). Lawful c.side (length c.local_id) k part) ((b.settled p is up).there ∙ sym (long (ap is_some is))) l

  -- it keeps the laws of an end; before it was greeted it did nothing
  pub part_lawful : (n : ℕ) → IsPeerLength h n → Lawful c.side (length c.local_id) (length c.remote_id) part → Lawful c.side (length c.local_id) n part
  part_lawful n long l = lawful_when h.peer refl n long l

  -- its limits are those of the hello
  abbrev IsWithinHello : List Act → List ℕ → Type 0
  IsWithinHello before d = (p : TransportParameters) × (h.peer ≡ Some p) × (c.config.peer ≡ peer_limits p) × IsWithinLimits (length c.local_id) (length h.remote_id) c.side c.config before d

  within_when : (o : Option TransportParameters) → h.peer ≡ o → (front back before : List Act) (d : List ℕ) → part ≡ front ++ HandedOut d ∷ back
      → IsWithinLimits (length c.local_id) (length c.remote_id) c.side c.config before d → IsWithinHello before d
  within_when None is front back before d e w = absurd (no_split front back (HandedOut d) (sym (b.not_yet is) ∙ e))
  within_when (Some p) is front back before d e w =
      let s = b.settled p is up in (p, is, s.limits, subst (λ (k : ℕ). IsWithinLimits (length c.local_id) k c.side c.config before d) s.there w)

  pub within_hello : (front back before : List Act) (d : List ℕ) → part ≡ front ++ HandedOut d ∷ back → IsWithinLimits (length c.local_id) (length c.remote_id) c.side c.config before d → IsWithinHello before d
  within_hello front back before d e w = within_when h.peer refl front back before d e w
