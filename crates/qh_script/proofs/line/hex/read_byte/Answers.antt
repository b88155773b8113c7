use Rattle.qh_script.proofs.Hex.{no_pair_high, no_pair_low}
use Rattle.qh_script.proofs.line.hex.read_byte.Goals as goal

pub returns-in_err-high : goal.returns-in_err-high
returns-in_err-high c = rw (c.from_residual.ensures) (no_pair_high c.args.text.now c.in_err-high.ensures)

pub returns-in_err-low : goal.returns-in_err-low
returns-in_err-low c = rw (c.from_residual-in_err-low.ensures) (no_pair_low c.args.text.now c.in_err-low.ensures)
