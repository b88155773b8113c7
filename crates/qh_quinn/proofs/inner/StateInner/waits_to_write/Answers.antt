use Rattle.qh_quinn.proofs.Settling.{to_write}
use Rattle.qh_quinn.proofs.inner.StateInner.waits_to_write.Goals as goal

pub returns : goal.returns
returns g c = to_write c.args.self.now c.args.id.0 c.is_write_blocked.result c.requires.state c.requires.none c.is_write_blocked.ensures
