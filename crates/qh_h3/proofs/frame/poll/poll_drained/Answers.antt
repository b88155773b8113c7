use Rattle.std.proofs.Common.{rules, ◌≡◌, ◌<◌, refl, sym, arith, subst, None}
use Rattle.futures.specs.declared.task.Poll.TheVariants.{Ready, Pending}
use Rattle.qh_h3.specs.Buffers.{held_of}
use Rattle.qh_h3.proofs.Draining.{at_first, yields, came, waits, fails, ends}
use Rattle.qh_h3.proofs.frame.poll.poll_drained.Goals as goal

pub loop-budget-init : goal.loop-budget-init
loop-budget-init g c =
    let R = g.R.Stream in
    record {
      so_far = at_first c.args.budget.now (R.received c.args.stream.now c.args.at.now) (R.counts c.args.stream.now c.args.at.now) (held_of c.args.buffer.now) (held_of c.clear.new.self) c.clear.ensures.held;
      more = c.clear.ensures.more;
      sent = refl;
      id = refl;
      kept = λ fact h. h;
    }

pub returns-then-budget-eq0-clause-drained : goal.returns-then-budget-eq0-clause-drained
returns-then-budget-eq0-clause-drained g c =
    rw c.yield_now.ensures.pending (yields _ _ _ _ c.loop-budget.invariant.so_far (omega (arith, c.if-budget-eq0.true)))

pub returns-in-Pending-clause-drained : goal.returns-in-Pending-clause-drained
returns-in-Pending-clause-drained g c = waits _ _ _ _ c.loop-budget.invariant.so_far _ _ _ c.in-Pending.ensures.piece

pub returns-in-Ready-Err-clause-drained : goal.returns-in-Ready-Err-clause-drained
returns-in-Ready-Err-clause-drained g c =
    fails _ _ _ _ c.loop-budget.invariant.so_far _ _ _ c.in-Ready-Err.e (rw c.in-Ready-Err.field-0-is at c.in-Ready-Err.ensures.piece)

pub loop-budget-preserved : goal.loop-budget-preserved
loop-budget-preserved g c =
    let k = c.in-Ready-Ok-true.ensures in
    record {
      so_far = came _ _ _ _ c.loop-budget.invariant.so_far _ _ _ _ _ c.clear-in-Ready-Ok-true.ensures.held (omega (arith, c.if-budget-eq0.false)) (rw (c.in-Ready-Ok-true.field-0-is, c.in-Ready-Ok-true.field-0-0-test) at k.piece);
      more = c.clear-in-Ready-Ok-true.ensures.more;
      sent = search rules;
      id = search rules;
      kept = λ fact h. k.kept fact (c.loop-budget.invariant.kept fact h);
    }

pub returns-in-Ready-Ok-false-clause-drained : goal.returns-in-Ready-Ok-false-clause-drained
returns-in-Ready-Ok-false-clause-drained g c =
    ends _ _ _ _ c.loop-budget.invariant.so_far _ _ _ (rw (c.in-Ready-Ok-false.field-0-is, c.in-Ready-Ok-false.field-0-0-test) at c.in-Ready-Ok-false.ensures.piece)
