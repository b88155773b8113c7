use Rattle.qh_plain.proofs.ValueReads.{no_ranges}
use Rattle.qh_plain.proofs.packets.value.ranges.Goals as goal

pub returns-in_default-clause-none : goal.returns-in_default-clause-none
returns-in_default-clause-none c = no_ranges c.args.bytes.now c.in_default.ensures.none
