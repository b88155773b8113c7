use Rattle.qh_quinn.proofs.Settling.{for_datagram}
use Rattle.qh_quinn.proofs.inner.StateInner.waits_for_datagram.Goals as goal

pub returns : goal.returns
returns g c = for_datagram c.args.self.now c.has_incoming.result c.requires.state c.requires.none c.has_incoming.ensures
