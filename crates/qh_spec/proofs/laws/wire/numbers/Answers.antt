use Rattle.qh_spec.proofs.Varints.{varint_spelled, one_form}
use Rattle.qh_spec.proofs.WireNumbers.{varint_rows, no_varint}
use Rattle.qh_spec.proofs.laws.wire.numbers.Goals as goal

pub returns-clause-shortest : goal.returns-clause-shortest
returns-clause-shortest c = varint_spelled

pub returns-clause-prefix_free : goal.returns-clause-prefix_free
returns-clause-prefix_free c = one_form

pub returns-clause-rows : goal.returns-clause-rows
returns-clause-rows c = varint_rows

pub returns-clause-near_row : goal.returns-clause-near_row
returns-clause-near_row c = no_varint
