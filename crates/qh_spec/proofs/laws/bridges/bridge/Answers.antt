use Rattle.qh_spec.proofs.Bridge.{crossed, bridge}
use Rattle.qh_spec.proofs.laws.bridges.bridge.Goals as goal

pub returns-clause-bytes : goal.returns-clause-bytes
returns-clause-bytes c = crossed

pub returns-clause-message : goal.returns-clause-message
returns-clause-message c = bridge
