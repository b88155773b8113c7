use Rattle.qh_plain.proofs.ValueReads.{only_numbers, only_ranges}
use Rattle.qh_plain.proofs.packets.value.Part.read.Goals as goal

pub returns-in_default-read_number-clause-none : goal.returns-in_default-read_number-clause-none
returns-in_default-read_number-clause-none c = rw c.in-Number.is (only_numbers c.args.bytes.now c.in_default-read_number.ensures.none)

pub returns-in_default-2-clause-none : goal.returns-in_default-2-clause-none
returns-in_default-2-clause-none c =
    rw c.in-Ranges.is (only_ranges c.args.bytes.now (rw c.in_default-2.is at c.in_ok-numbers-in-Ranges.ensures.none))
