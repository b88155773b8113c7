use Rattle.qh_quinn.proofs.HalfEnds.{stop_told, stop_untold}
use Rattle.qh_quinn.proofs.inner.StateInner.stop_code.Goals as goal

pub returns-in-Code : goal.returns-in-Code
returns-in-Code g c = stop_told c.args.self.now c.args.id c.stopped-told.result c.in-Code.code c.in-Code.is c.stopped-told.ensures

pub returns : goal.returns
returns g c = stop_untold c.args.self.now c.args.id c.stopped-told.result c.requires.unlost c.in_default.not-Code c.stopped-told.ensures
