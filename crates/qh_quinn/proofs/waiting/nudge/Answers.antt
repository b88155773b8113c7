use Rattle.qh_quinn.proofs.WaitingLists.{kept_at, nudged_set}
use Rattle.qh_quinn.proofs.waiting.nudge.Goals as goal

pub returns-in-HandshakeData : goal.returns-in-HandshakeData
returns-in-HandshakeData c = nudged_set c.args.waiting.now c.args.at c.index-waiting-at.result _ c.requires c.in-HandshakeData.is

pub returns-in_default : goal.returns-in_default
returns-in_default c = kept_at c.args.waiting.now c.args.at _ c.in_default.not-HandshakeData
