use Rattle.qh_core.proofs.Following.{close_follows}
use Rattle.qh_core.proofs.connection.Connection.close.Goals as goal

pub returns-clause-follows : goal.returns-clause-follows
returns-clause-follows g c = λ t f. close_follows c.self.inside.inner c.close.new.self c.args.now _ _ t c.close.ensures.closed c.close.ensures.kept c.self.invariant (rw c.self.view_is f)
