use Rattle.qh_quinn.proofs.RecvEnds.{releases}
use Rattle.qh_quinn.proofs.inner.StateInner.end_reader.Goals as goal

pub returns-clause-changed : goal.returns-clause-changed
returns-clause-changed g c = releases c.args.id.0 c.args.self.now c.release.new.self c.requires c.release.ensures
