use Rattle.std.proofs.Common.{◌≡◌, ◌+◌, ◌∙◌, ℕ, suc, ap, arith}
use Rattle.qh_quinn.proofs.WaitingLists.{nudged_front, nudged_more, nudged_past}
use Rattle.qh_quinn.specs.Waiting.{nudged_at}
use Rattle.qh_quinn.proofs.waiting.nudge_all.Goals as goal

pub loop-at-preserved : goal.loop-at-preserved
loop-at-preserved c =
    let at = c.loop-at.at in
    let e : suc at ≡ at + 1 = omega arith in
    c.nudge.ensures ∙ ap (nudged_at at) c.loop-at.invariant ∙ nudged_more at c.args.waiting.now ∙ ap (λ (k : ℕ). nudged_front k c.args.waiting.now) e

pub returns : goal.returns
returns c = c.loop-at.invariant ∙ nudged_past c.loop-at.at c.args.waiting.now (omega (arith, c.loop-at-test.false))
