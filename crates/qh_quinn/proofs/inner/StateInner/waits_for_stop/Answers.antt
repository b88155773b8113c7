use Rattle.std.proofs.Common.{None, Some}
use Rattle.qh_quinn.proofs.Settling.{for_stop, no_stop}
use Rattle.qh_quinn.proofs.inner.StateInner.waits_for_stop.Goals as goal

pub returns-in-Ok-None : goal.returns-in-Ok-None
returns-in-Ok-None g c = for_stop c.args.self.now c.args.id.0 None c.requires.state c.requires.none c.in-Ok-None.ensures.ok.1 (rw c.in-Ok-None.field-0-is at c.in-Ok-None.ensures.code)

pub returns-in-Ok-Some : goal.returns-in-Ok-Some
returns-in-Ok-Some g c = for_stop c.args.self.now c.args.id.0 (Some c.in-Ok-Some.code) c.requires.state c.requires.none c.in-Ok-Some.ensures.ok.1 (rw c.in-Ok-Some.field-0-is at c.in-Ok-Some.ensures.code)

pub returns-in-Err : goal.returns-in-Err
returns-in-Err g c = no_stop c.args.self.now c.args.id.0 c.requires.state c.requires.none c.in-Err.ensures.code
