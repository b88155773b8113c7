use Rattle.std.proofs.Common.{sym, ◌∙◌}
use Rattle.qh_qpack.proofs.RowsNamed.{list_found, list_passed}
use Rattle.qh_qpack.proofs.static_.rows_in.Goals as goal

pub returns-then-first_has : goal.returns-then-first_has
returns-then-first_has c =
    list_found c.args.names.now c.loop-rows.rows-index c.args.name.now c.loop-rows-test.true (sym c.first_has.ensures ∙ c.if-first_has.true) c.loop-rows.invariant

pub loop-rows-preserved : goal.loop-rows-preserved
loop-rows-preserved c =
    list_passed c.args.names.now c.loop-rows.rows-index c.args.name.now c.loop-rows-test.true (sym c.first_has.ensures ∙ c.if-first_has.false) c.loop-rows.invariant
