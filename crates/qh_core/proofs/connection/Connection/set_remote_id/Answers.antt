use Rattle.qh_core.proofs.Turned.{renamed_whole, turned_end, turned_follows}
use Rattle.qh_core.specs.Made.IsTurned.{renamed}
use Rattle.qh_core.proofs.connection.Connection.set_remote_id.Goals as goal

pub invariant_of-self : goal.invariant_of-self
invariant_of-self g c = renamed_whole c.self.inside.inner c.set_remote_id.new.self c.args.id c.self.invariant c.set_remote_id.ensures

pub returns-clause-follows : goal.returns-clause-follows
returns-clause-follows g c = λ t f. turned_follows c.self.inside.inner c.set_remote_id.new.self (renamed c.args.id (rw c.self.view_is c.requires.same_length) c.set_remote_id.ensures) c.self.invariant t (rw c.self.view_is f)

pub returns-clause-same_end : goal.returns-clause-same_end
returns-clause-same_end g c = rw (← c.self.view_is) (turned_end c.self.inside.inner c.set_remote_id.new.self (renamed c.args.id (rw c.self.view_is c.requires.same_length) c.set_remote_id.ensures))
