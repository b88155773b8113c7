-- A datagram of 1-RTT packets begins with a short header.
use Rattle.std.proofs.Common.{◌≡◌, ℕ, List, length, drop, sym, ap, subst, ◌∙◌, arith}
use Rattle.std.proofs.Math.Seq.{drop-append_seam}
use Rattle.qh_base.specs.declared.path.Transmit.{Transmit}
use Rattle.qh_base.specs.declared.time.Moment.{Moment}
use Rattle.qh_core.specs.Sending.{IsDatagramMade, datagram_of}
use Rattle.qh_core.specs.declared.inner.Inner.{Inner}
use Rattle.qh_spec.specs.Parted.{IsShort}
use Rattle.qh_spec.specs.declared.sides.Side.{Side}
use Rattle.qh_spec.specs.declared.sides.Space.{Space}

module _ {S : Type 0} where
  short_datagram : (sealed : Side → Space → ℕ → List ℕ) (c : Inner S) (frames : List ℕ) → IsShort (datagram_of sealed c frames)
  short_datagram sealed c frames = (omega arith, omega arith)

  pub short_made : (sealed : Side → Space → ℕ → List ℕ) (now : Moment) (old new : Inner S) (before after : List ℕ) (transmit : Transmit) → IsDatagramMade sealed now old new before after transmit
      → IsShort (drop (length before) after)
  short_made sealed now old new before after transmit made =
      let d = datagram_of sealed old made.bytes.frames in
      let behind : drop (length before) after ≡ d = ap (λ (z : List ℕ). drop (length before) z) made.bytes.after_is ∙ drop-append_seam before d in
      subst (λ (z : List ℕ). IsShort z) (sym behind) (short_datagram sealed old made.bytes.frames)
