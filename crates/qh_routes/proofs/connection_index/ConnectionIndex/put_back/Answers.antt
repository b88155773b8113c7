use Rattle.std.proofs.Common.{◌≡◌, Some, ◌∙◌, sym, subst}
use Rattle.qh_routes.proofs.Both.{put_done}
use Rattle.qh_routes.proofs.Membership.{nonempty}
use Rattle.qh_routes.specs.Routes.{IsAdded, initial}
use Rattle.qh_routes.specs.declared.connection_index.RouteDatagramTo.{RouteDatagramTo}
use Rattle.qh_routes.specs.declared.connection_index.RouteDatagramTo.TheVariants.{Connection}
use Rattle.qh_routes.proofs.connection_index.ConnectionIndex.put_back.Goals as goal

pub returns-in-Some-clause-some : goal.returns-in-Some-clause-some
returns-in-Some-clause-some c t b id server is some =
    let h : Some c.in-Some.target ≡ Some t = sym c.in-Some.is ∙ some in
    let same : c.in-Some.target ≡ t = cc in
    let added = put_done c.put_initial.result c.put_initial.ensures.added c.put_initial.ensures.fresh (λ none. none (Connection c.args.handle) (c.requires b id server is)) in
    subst (λ (z : RouteDatagramTo). IsAdded (initial c.args.init_cid) z c.args.self.now c.put_initial.new.self) same (added (nonempty c.args.init_cid (sym c.is_empty.ensures ∙ c.if-is_empty.false)))
