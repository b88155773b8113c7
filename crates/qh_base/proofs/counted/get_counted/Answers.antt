use Rattle.qh_base.proofs.CountedBytes.{at_none, no_count}
use Rattle.qh_base.proofs.counted.get_counted.Goals as goal

pub returns-in_err-length-clause-none : goal.returns-in_err-length-clause-none
returns-in_err-length-clause-none c = at_none c.from_residual.result (no_count c.args.bytes.now c.in_err-length.ensures.none)
