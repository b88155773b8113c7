use Rattle.std.proofs.Common.{take, below_more}
use Rattle.std.proofs.lemmas.List.{take_more}
use Rattle.qh_grammar.proofs.authority.is_authority.Goals as goal

pub loop-b-preserved : goal.loop-b-preserved
loop-b-preserved c =
    let text = c.args.text.now in
    let i = c.loop-b.b-index in
    let step = c.in-Some.ensures (take i text) c.loop-b.invariant.1 in
    (below_more _ _ c.loop-b.invariant.0 step.0, rw (take_more text i 0 c.loop-b-test.true) step.1)
