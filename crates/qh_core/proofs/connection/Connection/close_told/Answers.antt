use Rattle.qh_core.proofs.Turned.{told_whole, turned_end, turned_follows}
use Rattle.qh_core.specs.Made.IsTurned.{close_told}
use Rattle.qh_core.proofs.connection.Connection.close_told.Goals as goal

pub invariant_of-self : goal.invariant_of-self
invariant_of-self g c = told_whole c.self.inside.inner c.close_told.new.self c.self.invariant c.close_told.ensures

pub returns-clause-follows : goal.returns-clause-follows
returns-clause-follows g c = λ t f. turned_follows c.self.inside.inner c.close_told.new.self (close_told c.close_told.ensures) c.self.invariant t (rw c.self.view_is f)

pub returns-clause-same_end : goal.returns-clause-same_end
returns-clause-same_end g c = rw (← c.self.view_is) (turned_end c.self.inside.inner c.close_told.new.self (close_told c.close_told.ensures))
