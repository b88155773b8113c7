-- A datagram is opened in one way.
use Rattle.std.proofs.Common.{◌≡◌, ℕ, Bool, List, length, sym, subst, ◌∙◌}
use Rattle.qh_core.proofs.ExpectedNumbers.{one_expected}
use Rattle.qh_core.specs.Receiving.{HasContent, HasWhatOpens, IsOpenedBy}
use Rattle.qh_core.specs.declared.inner.Inner.{Inner}
use Rattle.qh_packet.proofs.Packets.{same_parts}
use Rattle.qh_recovery.proofs.PacketNumbers.{meant_once}
use Rattle.qh_recovery.specs.PacketNumber.{IsExpanded}
use Rattle.qh_spec.specs.Packet.{be_value}
use Rattle.qh_spec.specs.QuicFrames.{QuicFrame, AreQuicFrames}
use Rattle.qh_spec.specs.declared.sides.Side.{Side}
use Rattle.qh_spec.specs.declared.sides.Space.{Space}

module _ {S : Type 0} (accepts : Side → Space → ℕ → List ℕ → Bool) (c : Inner S) (datagram : List ℕ) where
  one_opened : (m n : ℕ) (front bytes : List ℕ) → IsOpenedBy accepts c datagram m front → IsOpenedBy accepts c datagram n bytes → (m ≡ n) × (front ≡ bytes)
  one_opened m n front bytes p q =
      let same = same_parts (length c.local_id) p.is.packet q.is.packet p.is.is.fits q.is.is.fits (sym p.is.is.whole ∙ q.is.is.whole) in
      let expected = one_expected c.space p.expected q.expected p.is_expected q.is_expected in
      let moved : IsExpanded q.expected (be_value q.is.packet.number) (length q.is.packet.number) m =
      subst (λ (e : ℕ). IsExpanded e (be_value q.is.packet.number) (length q.is.packet.number) m) expected
      (subst (λ (b : List ℕ). IsExpanded p.expected (be_value b) (length b) m) same.number p.is.expanded) in
      (meant_once q.expected (be_value q.is.packet.number) (length q.is.packet.number) m n moved q.is.expanded, sym p.is.frames_are ∙ same.frames ∙ q.is.frames_are)

  -- where the packet that it opens is there, each is
  pub has_opened : (number : ℕ) (bytes : List ℕ) → IsOpenedBy accepts c datagram number bytes → ((frames : List QuicFrame) → AreQuicFrames bytes frames → HasContent c datagram number frames)
      → HasWhatOpens accepts c datagram
  has_opened number bytes opened has n others frames other are =
      let same = one_opened n number others bytes other opened in
      subst (λ (m : ℕ). HasContent c datagram m frames) (sym same.0) (has frames (subst (λ (b : List ℕ). AreQuicFrames b frames) same.1 are))
