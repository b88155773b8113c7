use Rattle.std.proofs.Common.{◌≢◌, ◌∙◌, [], sym}
use Rattle.qh_routes.proofs.Membership.{nonempty}
use Rattle.qh_routes.proofs.Keys.{issued_exact}
use Rattle.qh_routes.proofs.Changes.{at_err}
use Rattle.qh_routes.proofs.Places.{lacks, maps_of, put, slot_of_ids}
use Rattle.qh_routes.proofs.connection_index.ConnectionIndex.insert_id.Goals as goal

pub invariant_of-self-2 : goal.invariant_of-self-2
invariant_of-self-2 c =
    let n : [] ≢ c.args.id = λ e. nonempty c.args.id (sym c.is_empty.ensures ∙ c.if-is_empty.false) (sym e) in
    (put slot_of_ids (maps_of c.self.inside) c.self.invariant c.self.view_is c.insert.new.self.entries c.in_ok-insert.ensures.unique c.args.id c.args.handle (λ e. n (issued_exact [] c.args.id e)) (λ e. cc) c.in_ok-insert.ensures.updates.0).1

pub returns-clause-added : goal.returns-clause-added
returns-clause-added c = λ some.
    let n : [] ≢ c.args.id = λ e. nonempty c.args.id (sym c.is_empty.ensures ∙ c.if-is_empty.false) (sym e) in
    (put slot_of_ids (maps_of c.self.inside) c.self.invariant c.self.view_is c.insert.new.self.entries c.in_ok-insert.ensures.unique c.args.id c.args.handle (λ e. n (issued_exact [] c.args.id e)) (λ e. cc) c.in_ok-insert.ensures.updates.0).0

pub returns-in_err-insert-clause-fresh : goal.returns-in_err-insert-clause-fresh
returns-in_err-insert-clause-fresh c = at_err c.from_residual.result (lacks slot_of_ids (maps_of c.self.inside) c.self.invariant c.self.view_is c.args.id c.in_err-insert.ensures.absent)
