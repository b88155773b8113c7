use Rattle.std.proofs.Common.{◌∙◌, refl}
use Rattle.qh_generator.proofs.Tries.{first_fresh, one_tried}
use Rattle.std.specs.Fn.{FnReturnsAt}
use Rattle.qh_generator.proofs.fresh.fresh_id.Goals as goal

pub loop-preserved : goal.loop-preserved
loop-preserved g c =
    let i = c.loop.invariant in
    let e = c.generate_cid-id.ensures in (
      i.0,
      one_tried (FnReturnsAt g.F.Fn c.args.is_issued) (g.G.ConnectionIdGenerator.given c.args.ids.now) (g.G.ConnectionIdGenerator.given c.loop.ids) (g.G.ConnectionIdGenerator.given c.generate_cid-id.new.self) c.loop.counter c.generate_cid-id.result
          i.1 e.given (record { shown = _; shows = refl; says = record { met = c.if-not-is_issued.ensures } }),
      e.same_len ∙ i.2,
      λ id v. e.kept id (i.3 id v),
    )

pub returns-then-not-is_issued-clause-fresh : goal.returns-then-not-is_issued-clause-fresh
returns-then-not-is_issued-clause-fresh g c =
    first_fresh (FnReturnsAt g.F.Fn c.args.is_issued) (g.G.ConnectionIdGenerator.given c.args.ids.now) (g.G.ConnectionIdGenerator.given c.loop.ids) (g.G.ConnectionIdGenerator.given c.generate_cid-id.new.self) c.loop.counter c.generate_cid-id.result
    c.loop.invariant.1 c.loop-test.true c.generate_cid-id.ensures.given (record { shown = _; shows = refl; says = record { met = c.if-not-is_issued.ensures } })
