use Rattle.qh_script.specs.Line.{upset_word}
use Rattle.qh_script.proofs.Arguments.{no_disturb, disturb_tells}
use Rattle.qh_script.proofs.line.arguments.read_disturbance.Goals as goal

pub returns-in_err-disturbance : goal.returns-in_err-disturbance
returns-in_err-disturbance c =
    rw (c.from_residual.ensures) (no_disturb c.args.kind c.args.text.now c.in_err-disturbance.ensures)

pub returns : goal.returns
returns c =
    disturb_tells (upset_word c.args.kind) c.args.text.now c.in_ok-disturbance.disturbance c.in_ok-disturbance.ensures
