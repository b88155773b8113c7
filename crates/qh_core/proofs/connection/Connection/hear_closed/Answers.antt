use Rattle.qh_core.proofs.Turned.{heard_whole, turned_end, turned_follows}
use Rattle.qh_core.specs.Made.IsTurned.{closed_heard}
use Rattle.qh_core.proofs.connection.Connection.hear_closed.Goals as goal

pub invariant_of-self : goal.invariant_of-self
invariant_of-self g c = heard_whole c.args.brings_close c.self.inside.inner c.hear_closed.new.self c.self.invariant c.hear_closed.ensures

pub returns-clause-follows : goal.returns-clause-follows
returns-clause-follows g c = λ t f. turned_follows c.self.inside.inner c.hear_closed.new.self (closed_heard c.args.brings_close (rw c.self.view_is c.requires.closed) c.hear_closed.ensures) c.self.invariant t (rw c.self.view_is f)

pub returns-clause-same_end : goal.returns-clause-same_end
returns-clause-same_end g c = rw (← c.self.view_is) (turned_end c.self.inside.inner c.hear_closed.new.self (closed_heard c.args.brings_close (rw c.self.view_is c.requires.closed) c.hear_closed.ensures))

pub returns-clause-heard : goal.returns-clause-heard
returns-clause-heard g c = rw (← c.self.view_is) c.hear_closed.ensures
