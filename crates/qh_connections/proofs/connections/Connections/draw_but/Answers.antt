use Rattle.std.proofs.Common.{rules, sym}
use Rattle.qh_connections.proofs.Fresh.{fresh_but, none_but}
use Rattle.qh_connections.proofs.connections.Connections.draw_but.Goals as goal

pub returns-clause-fresh : goal.returns-clause-fresh
returns-clause-fresh g c = rw (sym c.self.view_is) (fresh_but c.self.inside.index c.args.other.now _ (λ id a. search rules) (λ id a. search rules) _ _ c.fresh_id.result c.fresh_id.ensures.fresh)

pub returns-clause-none : goal.returns-clause-none
returns-clause-none g c = rw (sym c.self.view_is) (λ e. none_but c.self.inside.index c.args.other.now _ (λ id a. search rules) (λ id a. search rules) _ _ (c.fresh_id.ensures.none e))
