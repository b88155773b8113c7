use Rattle.std.proofs.Common.{ap, refl}
use Rattle.qh_conn.specs.Incoming.{IsRestarted}
use Rattle.qh_conn.proofs.InHears.{self_made}
use Rattle.qh_core.proofs.MadeEnds.{turned_made}
use Rattle.qh_core.specs.Made.IsTurned.{packet_accepted}
use Rattle.qh_conn.proofs.connection.Connection.restart.Goals as goal

pub returns-then-has_heard-clause-restarted : goal.returns-then-has_heard-clause-restarted
returns-then-has_heard-clause-restarted g c = λ before known.
    IsRestarted.heard (c.has_heard.ensures.yes before known c.if-has_heard.true) (ap (λ z. record c.args.self.now { core = z }) c.on_packet_accepted.ensures.value)

pub returns-else-has_heard-clause-restarted : goal.returns-else-has_heard-clause-restarted
returns-else-has_heard-clause-restarted g c = λ before known. IsRestarted.quiet (c.has_heard.ensures.no before known c.if-has_heard.false) refl

pub returns-then-has_heard-clause-made : goal.returns-then-has_heard-clause-made
returns-then-has_heard-clause-made g c =
    turned_made c.args.self.now.core c.on_packet_accepted.new.self (packet_accepted c.args.now c.on_packet_accepted.ensures.value) c.on_packet_accepted.ensures.follows c.on_packet_accepted.ensures.same_end

pub returns-else-has_heard-clause-made : goal.returns-else-has_heard-clause-made
returns-else-has_heard-clause-made g c = self_made c.args.self.now.core
