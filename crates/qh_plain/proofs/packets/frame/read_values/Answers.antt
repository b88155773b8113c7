use Rattle.std.proofs.Common.{List, subst}
use Rattle.std.specs.Prelude.{map}
use Rattle.qh_spec.specs.QuicFrames.{Part}
use Rattle.qh_plain.specs.Packets.{part_of}
use Rattle.qh_plain.proofs.FrameReads.{next_value, values_found, ValuesRead, no_parts_left}
use Rattle.qh_plain.proofs.packets.frame.read_values.Goals as goal

pub loop-part-preserved : goal.loop-part-preserved
loop-part-preserved c =
    rw c.in_ok-push.ensures.items (
    next_value c.args.shape.now c.loop-part.part-index _ c.args.bytes.now c.loop-part.rest.now c.in-Some.after.now c.in-Some.value c.loop-part.values.items c.loop-part-test.true
    (rw c.in-Some.is at c.in_ok-value.ensures.found) c.loop-part.invariant
    )

pub returns-clause-found : goal.returns-clause-found
returns-clause-found c =
    values_found (map part_of c.args.shape.now) c.args.bytes.now c.loop-part.rest.now c.loop-part.values.items
    (subst (λ (z : List Part). ValuesRead (map part_of c.args.shape.now) z c.args.bytes.now c.loop-part.rest.now c.loop-part.values.items)
    (no_parts_left c.args.shape.now c.loop-part.part-index c.loop-part-test.false) c.loop-part.invariant)
