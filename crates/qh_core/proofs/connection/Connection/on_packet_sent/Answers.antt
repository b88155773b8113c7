use Rattle.qh_core.proofs.Turned.{idle_whole, turned_end, turned_follows}
use Rattle.qh_core.specs.Made.IsTurned.{packet_sent}
use Rattle.qh_core.proofs.connection.Connection.on_packet_sent.Goals as goal

pub invariant_of-self : goal.invariant_of-self
invariant_of-self g c = idle_whole c.self.inside.inner c.on_packet_sent.new.self _ c.self.invariant c.on_packet_sent.ensures

pub returns-clause-follows : goal.returns-clause-follows
returns-clause-follows g c = λ t f. turned_follows c.self.inside.inner c.on_packet_sent.new.self (packet_sent c.args.now c.on_packet_sent.ensures) c.self.invariant t (rw c.self.view_is f)

pub returns-clause-same_end : goal.returns-clause-same_end
returns-clause-same_end g c = rw (← c.self.view_is) (turned_end c.self.inside.inner c.on_packet_sent.new.self (packet_sent c.args.now c.on_packet_sent.ensures))
