use Rattle.qh_script.proofs.Decimals.{no_number_below}
use Rattle.qh_script.proofs.line.numbers.read_below.Goals as goal

pub returns-else-number-end : goal.returns-else-number-end
returns-else-number-end c = no_number_below c.args.text.now c.in_ok-number.number c.args.end c.in_ok-number.ensures c.if-number-end.false
