use Rattle.std.proofs.Common.{sym, ◌∙◌}
use Rattle.qh_hello.proofs.Walks.{behind_more, behind_all, behind_cut}
use Rattle.qh_hello.proofs.walk.are_parameters.Goals as goal

pub loop-front-preserved : goal.loop-front-preserved
loop-front-preserved c = behind_more c.args.bytes.now c.loop-front.rest.now c.in-Some.front.rest.now _ c.loop-front.invariant c.in-Some.ensures.found

pub returns-clause-yes : goal.returns-clause-yes
returns-clause-yes c e = behind_all c.args.bytes.now c.loop-front.rest.now c.loop-front.invariant (sym e ∙ c.is_empty.ensures)

pub returns-clause-no_others : goal.returns-clause-no_others
returns-clause-no_others c e = behind_cut c.args.bytes.now c.loop-front.rest.now c.loop-front.invariant (sym e ∙ c.is_empty.ensures) c.in_default.ensures.none
