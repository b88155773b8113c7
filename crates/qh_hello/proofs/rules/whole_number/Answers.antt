use Rattle.qh_hello.proofs.Keeping.{no_whole, bytes_behind}
use Rattle.qh_base.proofs.CountedBytes.{at_none}
use Rattle.qh_hello.proofs.rules.whole_number.Goals as goal

pub returns-in_err-value-clause-none : goal.returns-in_err-value-clause-none
returns-in_err-value-clause-none c = at_none c.from_residual.result (no_whole c.args.bytes.now c.in_err-value.ensures.none)

pub returns-then-size-bytes-clause-none : goal.returns-then-size-bytes-clause-none
returns-then-size-bytes-clause-none c = bytes_behind c.args.bytes.now _ _ c.in_ok-value.ensures.found.0 c.in_ok-value.ensures.found.1 c.if-size-bytes.true
