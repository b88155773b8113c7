use Rattle.std.proofs.Common.{[], ◌∷◌, true, false}
use Rattle.qh_routes.specs.Routes.{initial}
use Rattle.qh_routes.proofs.Routing.{by_first, routed_first, routed_then}
use Rattle.qh_routes.proofs.connection_index.ConnectionIndex.id_of.Goals as goal

pub returns-then-not-is_first : goal.returns-then-not-is_first
returns-then-not-is_first c = by_first c.args.self.now c.args.id.now c.args.is_first false c.issued_of.result c.if-not-is_first.true c.issued_of.ensures

pub returns-in-Some : goal.returns-in-Some
returns-in-Some c = by_first c.args.self.now c.args.id.now c.args.is_first true _ c.if-not-is_first.false (routed_first (rw c.in-Some.is at c.issued_of-2.ensures) (initial c.args.id.now ∷ []))

pub returns-in-None : goal.returns-in-None
returns-in-None c =
    by_first c.args.self.now c.args.id.now c.args.is_first true _ c.if-not-is_first.false (routed_then (rw c.in-None.is at c.issued_of-2.ensures) (initial c.args.id.now ∷ []) c.first_of.result c.first_of.ensures)
