use Rattle.qh_script.proofs.Upsets.{no_late, no_late_select, no_late_rounds, no_late_many}
use Rattle.qh_script.proofs.line.upsets.split_late.Goals as goal

pub returns-in_err-select : goal.returns-in_err-select
returns-in_err-select c = rw (c.from_residual.ensures) (no_late c.args.text.now c.in_err-select.ensures)

pub returns-in_err-which : goal.returns-in_err-which
returns-in_err-which c =
    rw (c.from_residual-in_err-which.ensures) (no_late_select c.args.text.now c.in_ok-select.select.now c.in_ok-select.rounds.now c.in_ok-select.ensures c.in_err-which.ensures)

pub returns-in_err-rounds : goal.returns-in_err-rounds
returns-in_err-rounds c =
    rw (c.from_residual-in_err-rounds.ensures) (no_late_rounds c.args.text.now c.in_ok-select.select.now c.in_ok-select.rounds.now c.in_ok-select.ensures c.in_err-rounds.ensures)

pub returns-then-rounds-gt-MAX_ROUNDS : goal.returns-then-rounds-gt-MAX_ROUNDS
returns-then-rounds-gt-MAX_ROUNDS c =
    no_late_many c.args.text.now c.in_ok-select.select.now c.in_ok-select.rounds.now c.in_ok-rounds.rounds c.in_ok-select.ensures c.in_ok-rounds.ensures.0 c.if-rounds-gt-MAX_ROUNDS.true
