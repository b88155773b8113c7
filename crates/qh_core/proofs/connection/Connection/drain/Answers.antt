use Rattle.qh_core.proofs.Turned.{drained_whole, turned_end, turned_follows}
use Rattle.qh_core.specs.Made.IsTurned.{draining}
use Rattle.qh_core.proofs.connection.Connection.drain.Goals as goal

pub invariant_of-self : goal.invariant_of-self
invariant_of-self g c = drained_whole c.args.now c.args.error c.self.inside.inner c.drain.new.self c.self.invariant c.requires.named c.drain.ensures

pub returns-clause-follows : goal.returns-clause-follows
returns-clause-follows g c = λ t f. turned_follows c.self.inside.inner c.drain.new.self (draining c.args.now c.args.error (rw c.self.view_is c.requires.lives) c.requires.named c.drain.ensures) c.self.invariant t (rw c.self.view_is f)

pub returns-clause-same_end : goal.returns-clause-same_end
returns-clause-same_end g c = rw (← c.self.view_is) (turned_end c.self.inside.inner c.drain.new.self (draining c.args.now c.args.error (rw c.self.view_is c.requires.lives) c.requires.named c.drain.ensures))
