use Rattle.qh_conn.proofs.Same.{close_stays, same_core}
use Rattle.qh_conn.proofs.connection.Connection.close.Goals as goal

pub returns-clause-same : goal.returns-clause-same
returns-clause-same g c = λ key. same_core key c.args.self.now c.close.new.self (close_stays c.args.now _ _ c.args.self.now.core c.close.new.self c.close.ensures.closed c.close.ensures.kept)
