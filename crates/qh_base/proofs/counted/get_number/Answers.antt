use Rattle.qh_base.proofs.CountedBytes.{at_none, no_number}
use Rattle.qh_base.proofs.counted.get_number.Goals as goal

pub returns-in_err-value-clause-none : goal.returns-in_err-value-clause-none
returns-in_err-value-clause-none c = at_none c.from_residual.result (no_number c.args.bytes.now c.in_err-value.ensures.none)
