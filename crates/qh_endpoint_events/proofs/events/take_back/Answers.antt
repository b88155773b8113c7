use Rattle.std.proofs.Common.{◌≡◌, ◌-◌, ap, ◌∙◌, refl, arith, is_some}
use Rattle.qh_connections.specs.Connections.{meta_at, without_last}
use Rattle.qh_routes.specs.ConnectionMeta.{PlainMeta}
use Rattle.qh_endpoint_events.proofs.Issuing.{present, same_meta}
use Rattle.qh_endpoint_events.proofs.TakingBack.{all_taken, none_taken, one_taken}
use Rattle.qh_endpoint_events.proofs.events.take_back.Goals as goal

pub loop-init : goal.loop-init
loop-init g c = record {
  live = c.requires.live;
  some = λ m is. omega (arith, c.requires.some m is);
  taken = none_taken g.G.ConnectionIdGenerator.given g.G.ConnectionIdGenerator.cid_len g.G.ConnectionIdGenerator.validates c.args.handle c.args.connections.now c.args.count;
  ids = refl;
}

pub loop-preserved : goal.loop-preserved
loop-preserved g c =
    let p = present (meta_at c.loop.connections c.args.handle) c.loop.invariant.live in
    let put = c.take_back.ensures.meta p.0 p.1 in
    record {
      live = ap is_some put.there;
      some = λ m is.
          let same : p.0.cids_issued - 1 ≡ m.cids_issued = ap (λ (q : PlainMeta). q.cids_issued) (same_meta (meta_at c.take_back.new.self c.args.handle) (without_last p.0) m put.there is) in
          omega (arith, same, c.loop.invariant.some p.0 p.1, c.loop-test.true);
      taken = one_taken g.G.ConnectionIdGenerator.given g.G.ConnectionIdGenerator.cid_len g.G.ConnectionIdGenerator.validates c.args.handle c.args.connections.now c.loop.connections c.take_back.new.self c.args.count c.loop.counter c.loop.invariant.taken (omega (arith, c.loop-test.true)) c.take_back.ensures.back;
      ids = c.take_back.ensures.ids ∙ c.loop.invariant.ids;
    }

pub returns-clause-back : goal.returns-clause-back
returns-clause-back g c = all_taken g.G.ConnectionIdGenerator.given g.G.ConnectionIdGenerator.cid_len g.G.ConnectionIdGenerator.validates c.args.handle c.args.connections.now c.loop.connections c.args.count c.loop.counter c.loop.invariant.taken (omega (arith, c.loop-test.false))
