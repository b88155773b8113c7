use Rattle.qh_quinn.proofs.Settling.{to_open}
use Rattle.qh_quinn.proofs.inner.StateInner.waits_to_open.Goals as goal

pub returns : goal.returns
returns g c = to_open c.args.self.now c.args.dir c.can_open.result c.requires.state c.requires.none c.can_open.ensures
