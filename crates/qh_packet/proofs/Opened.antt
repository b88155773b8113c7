-- The body of an Initial packet has one reading.
use Rattle.std.proofs.Common.{◌≡◌, ℕ, ◌+◌, ◌<◌, ◌^◌, true, Bool, List, ◌++◌, length, sym, ap, ◌∙◌, arith, subst, length-append}
use Rattle.qh_recovery.specs.PacketNumber.{IsExpanded}
use Rattle.qh_spec.specs.declared.sides.Side.{Side}
use Rattle.qh_spec.specs.declared.sides.Space.{Space}
use Rattle.qh_spec.specs.declared.sides.Space.TheVariants.{Initial}
use Rattle.qh_spec.specs.Packet.{be_value}
use Rattle.qh_spec.proofs.Cuts.{halves}
use Rattle.qh_packet.specs.Initial.{IsBody}
use Rattle.qh_packet.specs.Packet.{IsInitialOpened}

-- what is told of the body's parts where it is opened
pub record HasBodyParts (accepts : Side → Space → ℕ → List ℕ → Bool) (sender : Side) (expected : ℕ) (number_bytes frame_bytes tag : List ℕ) (number : ℕ) (frames : List ℕ) : Type 0 where
  pub expanded : IsExpanded expected (be_value number_bytes) (length number_bytes) number
  pub is_number : number < 2 ^ 62
  pub accepted : accepts sender Initial number tag ≡ true
  pub frames_are : frame_bytes ≡ frames

pub body_parts : (accepts : Side → Space → ℕ → List ℕ → Bool) (sender : Side) (expected first : ℕ) (body number_bytes frame_bytes tag : List ℕ) (number : ℕ) (frames : List ℕ)
    → IsBody first body number_bytes frame_bytes tag → IsInitialOpened accepts sender expected first body number frames → HasBodyParts accepts sender expected number_bytes frame_bytes tag number frames
body_parts accepts sender expected first body number_bytes frame_bytes tag number frames b q =
    let widths : length number_bytes ≡ length q.number_bytes = omega (arith, b.first_is, q.first_is) in
    let n = halves number_bytes (frame_bytes ++ tag) q.number_bytes (frames ++ q.tag) widths (sym b.whole ∙ q.whole) in
    let sizes : length frame_bytes + length tag ≡ length frames + length q.tag = sym (length-append frame_bytes tag) ∙ ap length n.1 ∙ length-append frames q.tag in
    let f = halves frame_bytes tag frames q.tag (omega (arith, b.tag_length, q.tag_length, sizes)) n.1 in
    record {
      expanded = subst (λ (z : List ℕ). IsExpanded expected (be_value z) (length z) number) (sym n.0) q.expanded;
      is_number = q.is_number;
      accepted = ap (λ (t : List ℕ). accepts sender Initial number t) f.1 ∙ q.accepted;
      frames_are = f.0;
    }
