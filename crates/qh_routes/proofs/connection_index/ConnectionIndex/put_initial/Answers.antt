use Rattle.std.proofs.Common.{◌≢◌, ◌∙◌, [], sym}
use Rattle.qh_routes.proofs.Membership.{nonempty}
use Rattle.qh_routes.proofs.Keys.{initial_exact}
use Rattle.qh_routes.proofs.Changes.{at_err}
use Rattle.qh_routes.proofs.Places.{lacks, maps_of, put, slot_of_initials}
use Rattle.qh_routes.proofs.connection_index.ConnectionIndex.put_initial.Goals as goal

pub invariant_of-self-2 : goal.invariant_of-self-2
invariant_of-self-2 c =
    let n : [] ≢ c.args.dst_cid = λ e. nonempty c.args.dst_cid (sym c.is_empty.ensures ∙ c.if-is_empty.false) (sym e) in
    (put slot_of_initials (maps_of c.self.inside) c.self.invariant c.self.view_is c.insert.new.self.entries c.in_ok-insert.ensures.ordered c.args.dst_cid c.args.target (λ e. cc) (λ e. n (initial_exact [] c.args.dst_cid e)) c.in_ok-insert.ensures.updates.0).1

pub returns-clause-added : goal.returns-clause-added
returns-clause-added c = λ some.
    let n : [] ≢ c.args.dst_cid = λ e. nonempty c.args.dst_cid (sym c.is_empty.ensures ∙ c.if-is_empty.false) (sym e) in
    (put slot_of_initials (maps_of c.self.inside) c.self.invariant c.self.view_is c.insert.new.self.entries c.in_ok-insert.ensures.ordered c.args.dst_cid c.args.target (λ e. cc) (λ e. n (initial_exact [] c.args.dst_cid e)) c.in_ok-insert.ensures.updates.0).0

pub returns-in_err-insert-clause-fresh : goal.returns-in_err-insert-clause-fresh
returns-in_err-insert-clause-fresh c = at_err c.from_residual.result (lacks slot_of_initials (maps_of c.self.inside) c.self.invariant c.self.view_is c.args.dst_cid c.in_err-insert.ensures.absent)
