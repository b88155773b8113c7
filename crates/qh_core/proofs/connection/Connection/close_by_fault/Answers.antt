use Rattle.qh_core.proofs.Ends.{faulted_whole}
use Rattle.qh_core.proofs.Turned.{turned_end, turned_follows}
use Rattle.qh_core.specs.Made.IsTurned.{faulted}
use Rattle.qh_core.proofs.connection.Connection.close_by_fault.Goals as goal

pub invariant_of-self : goal.invariant_of-self
invariant_of-self g c = faulted_whole c.args.now c.args.error c.self.inside.inner c.close_by_fault.new.self c.self.invariant c.close_by_fault.ensures

pub returns-clause-follows : goal.returns-clause-follows
returns-clause-follows g c = λ t f. turned_follows c.self.inside.inner c.close_by_fault.new.self (faulted c.args.now c.args.error (rw c.self.view_is c.requires.lives) c.close_by_fault.ensures) c.self.invariant t (rw c.self.view_is f)

pub returns-clause-same_end : goal.returns-clause-same_end
returns-clause-same_end g c = rw (← c.self.view_is) (turned_end c.self.inside.inner c.close_by_fault.new.self (faulted c.args.now c.args.error (rw c.self.view_is c.requires.lives) c.close_by_fault.ensures))
