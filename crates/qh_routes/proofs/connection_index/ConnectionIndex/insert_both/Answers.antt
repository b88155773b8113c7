use Rattle.std.proofs.Common.{sym, subst}
use Rattle.qh_spec.specs.Lists.{In}
use Rattle.qh_routes.proofs.Both.{first_led, put_back_same}
use Rattle.qh_routes.specs.Routes.{IsFirstAdded, Routes, initial}
use Rattle.qh_routes.specs.declared.connection_index.RouteDatagramTo.TheVariants.{Connection}
use Rattle.qh_routes.proofs.connection_index.ConnectionIndex.insert_both.Goals as goal

pub put_back-requires : goal.put_back-requires
put_back-requires c b id server is =
    subst (λ (r : Routes). In (initial c.args.init_cid, Connection c.args.handle) r) (sym c.in-Err.ensures.unchanged)
    (first_led c.args.side c.args.init_cid c.args.handle c.args.self.now c.insert_first.new.self c.in_ok-insert_first.ensures.added b id server is)

pub returns-in-Err-clause-unchanged : goal.returns-in-Err-clause-unchanged
returns-in-Err-clause-unchanged c = put_back_same c.args.side c.args.init_cid c.args.handle c.first_of-earlier.result c.args.self.now c.insert_conn.new.self c.put_back.new.self c.keys_are_distinct.ensures.distinct
    c.first_of-earlier.ensures
    (subst (λ (r : Routes). IsFirstAdded c.args.side c.args.init_cid (Connection c.args.handle) c.args.self.now r) (sym c.in-Err.ensures.unchanged) c.in_ok-insert_first.ensures.added)
    c.put_back.ensures.client c.put_back.ensures.empty c.put_back.ensures.none c.put_back.ensures.some
