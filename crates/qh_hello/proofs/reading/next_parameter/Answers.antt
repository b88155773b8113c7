use Rattle.qh_base.proofs.CountedBytes.{at_none}
use Rattle.qh_hello.proofs.Readings.{no_id, no_value}
use Rattle.qh_hello.proofs.reading.next_parameter.Goals as goal

pub returns-in_err-id-clause-none : goal.returns-in_err-id-clause-none
returns-in_err-id-clause-none c = at_none c.from_residual.result (no_id c.args.bytes.now c.in_err-id.ensures.none)

pub returns-in_err-value-clause-none : goal.returns-in_err-value-clause-none
returns-in_err-value-clause-none c = at_none c.from_residual-in_err-value.result (no_value c.args.bytes.now c.in_ok-id.rest.now c.in_ok-id.id c.in_ok-id.ensures.found c.in_err-value.ensures.none)
