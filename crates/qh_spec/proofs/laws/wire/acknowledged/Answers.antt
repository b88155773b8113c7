use Rattle.qh_spec.proofs.AckRows.{ranges_bound, greatest_in, ack_is, ack_covers, ack_covers_only, ack_ranges, no_ranges}
use Rattle.qh_spec.proofs.laws.wire.acknowledged.Goals as goal

pub returns-clause-bound : goal.returns-clause-bound
returns-clause-bound c = ranges_bound

pub returns-clause-greatest : goal.returns-clause-greatest
returns-clause-greatest c = greatest_in

pub returns-clause-row : goal.returns-clause-row
returns-clause-row c = ack_is

pub returns-clause-covers : goal.returns-clause-covers
returns-clause-covers c = ack_covers

pub returns-clause-covers_only : goal.returns-clause-covers_only
returns-clause-covers_only c = ack_covers_only

pub returns-clause-ranges_row : goal.returns-clause-ranges_row
returns-clause-ranges_row c = ack_ranges

pub returns-clause-near_ranges_row : goal.returns-clause-near_ranges_row
returns-clause-near_ranges_row c = no_ranges
