use Rattle.qh_core.proofs.Turned.{log_whole, turned_end, turned_follows}
use Rattle.qh_core.specs.Made.IsTurned.{items_taken}
use Rattle.qh_core.proofs.connection.Connection.take_items.Goals as goal

pub invariant_of-self : goal.invariant_of-self
invariant_of-self g c = log_whole c.self.inside.inner c.take_items.new.self _ c.self.invariant c.take_items.ensures.rest

pub returns-clause-follows : goal.returns-clause-follows
returns-clause-follows g c = λ t f. turned_follows c.self.inside.inner c.take_items.new.self (items_taken c.take_items.ensures.rest) c.self.invariant t (rw c.self.view_is f)

pub returns-clause-same_end : goal.returns-clause-same_end
returns-clause-same_end g c = rw (← c.self.view_is) (turned_end c.self.inside.inner c.take_items.new.self (items_taken c.take_items.ensures.rest))
