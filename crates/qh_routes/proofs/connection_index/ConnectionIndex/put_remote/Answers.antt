use Rattle.qh_routes.proofs.Changes.{at_err}
use Rattle.qh_routes.proofs.Places.{lacks, maps_of, put, slot_of_remotes}
use Rattle.qh_routes.proofs.connection_index.ConnectionIndex.put_remote.Goals as goal

pub invariant_of-self-2 : goal.invariant_of-self-2
invariant_of-self-2 c =
    (put slot_of_remotes (maps_of c.self.inside) c.self.invariant c.self.view_is c.insert.new.self.entries c.in_ok-insert.ensures.ordered c.args.address c.args.handle (λ e. cc) (λ e. cc) c.in_ok-insert.ensures.updates.0).1

pub returns-clause-added : goal.returns-clause-added
returns-clause-added c =
    (put slot_of_remotes (maps_of c.self.inside) c.self.invariant c.self.view_is c.insert.new.self.entries c.in_ok-insert.ensures.ordered c.args.address c.args.handle (λ e. cc) (λ e. cc) c.in_ok-insert.ensures.updates.0).0

pub returns-in_err-insert-clause-fresh : goal.returns-in_err-insert-clause-fresh
returns-in_err-insert-clause-fresh c = at_err c.from_residual.result (lacks slot_of_remotes (maps_of c.self.inside) c.self.invariant c.self.view_is c.args.address c.in_err-insert.ensures.absent)
