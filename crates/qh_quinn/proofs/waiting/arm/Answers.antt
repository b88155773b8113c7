use Rattle.qh_quinn.proofs.Heard.{armed_heard}
use Rattle.qh_quinn.proofs.WaitingLists.{armed_same, others_set}
use Rattle.qh_quinn.proofs.waiting.arm.Goals as goal

pub returns-clause-same : goal.returns-clause-same
returns-clause-same c = armed_same c.args.waiting.now c.args.at c.index-waiting-at.result _ _

pub returns-clause-heard : goal.returns-clause-heard
returns-clause-heard c = armed_heard c.args.waiting.now c.args.at _ c.args.cx.now c.register-pending.new.self.lacks_waker c.requires c.register-pending.ensures.left

pub returns-clause-others : goal.returns-clause-others
returns-clause-others c = λ k isnt. others_set c.args.waiting.now c.args.at k _ isnt
