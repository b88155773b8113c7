use Rattle.std.proofs.Common.{[], ◌∷◌, ◌++◌, sym, ◌∙◌}
use Rattle.qh_qpack.specs.Lines.{line_field}
use Rattle.qh_qpack.proofs.SectionsRead.{all_within, refuses}
use Rattle.qh_qpack.proofs.decoder.fault_of_rest.Goals as goal

pub loop-rest-preserved : goal.loop-rest-preserved
loop-rest-preserved c section fields r =
    let on = c.loop-rest.invariant section fields r in
    (on.0 ++ line_field c.in-Ok.field-0-0 ∷ [], c.in-Ok.ensures.takes section on.0 on.1)

pub returns-in-Err : goal.returns-in-Err
returns-in-Err c section fields r =
    let on = c.loop-rest.invariant section fields r in
    refuses c.args.max_size section c.in-Err.fault (c.in-Err.ensures.takes section on.0 on.1)

pub returns : goal.returns
returns c section fields r =
    let on = c.loop-rest.invariant section fields r in
    all_within c.args.max_size section c.loop-rest.rest.now on.0 c.loop-rest.size (sym c.is_empty.ensures ∙ c.loop-rest-test.false) on.1
