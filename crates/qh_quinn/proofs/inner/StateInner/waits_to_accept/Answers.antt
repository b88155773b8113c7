use Rattle.qh_quinn.proofs.Settling.{to_accept}
use Rattle.qh_quinn.proofs.inner.StateInner.waits_to_accept.Goals as goal

pub returns : goal.returns
returns g c = to_accept c.args.self.now c.args.dir c.can_accept.result c.requires.state c.requires.none c.can_accept.ensures
