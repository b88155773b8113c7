use Rattle.qh_script.proofs.Upsets.{no_forge, no_forge_alone, no_forge_round, no_forge_side}
use Rattle.qh_script.proofs.line.upsets.split_forge.Goals as goal

pub returns-in_err-round : goal.returns-in_err-round
returns-in_err-round c = rw (c.from_residual.ensures) (no_forge c.args.text.now c.in_err-round.ensures)

pub returns-in_err-side : goal.returns-in_err-side
returns-in_err-side c =
    rw (c.from_residual-in_err-side.ensures) (no_forge_alone c.args.text.now c.in_ok-round.round.now c.in_ok-round.behind.now c.in_ok-round.ensures c.in_err-side.ensures)

pub returns-in_err-round-2 : goal.returns-in_err-round-2
returns-in_err-round-2 c =
    rw (c.from_residual-in_err-round-2.ensures) (no_forge_round c.args.text.now c.in_ok-round.round.now c.in_ok-round.behind.now c.in_ok-round.ensures c.in_err-round-2.ensures)

pub returns-in_err-side-2 : goal.returns-in_err-side-2
returns-in_err-side-2 c =
    rw (c.from_residual-in_err-side-2.ensures)
    (no_forge_side c.args.text.now c.in_ok-round.round.now c.in_ok-round.behind.now c.in_ok-side.side.now c.in_ok-side.hex.now c.in_ok-round.ensures c.in_ok-side.ensures c.in_err-side-2.ensures)
