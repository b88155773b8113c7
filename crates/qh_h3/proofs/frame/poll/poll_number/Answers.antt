use Rattle.std.proofs.Common.{rules, ◌≡◌, ◌<◌, refl, sym, arith, subst, None}
use Rattle.futures.specs.declared.task.Poll.TheVariants.{Ready, Pending}
use Rattle.qh_h3.specs.Buffers.{held_of}
use Rattle.qh_h3.proofs.Typing.{at_first, found, halted, short, yields, came, waits, fails, ends}
use Rattle.qh_h3.proofs.frame.poll.poll_number.Goals as goal

pub loop-e-init : goal.loop-e-init
loop-e-init g c =
    let R = g.R.Stream in
    record {
      so_far = at_first c.args.budget.now (R.received c.args.stream.now c.args.at.now) (R.counts c.args.stream.now c.args.at.now) (held_of c.args.buffer.now);
      sent = refl;
      id = refl;
      kept = λ fact h. h;
    }

pub returns-in-Err-clause-typed : goal.returns-in-Err-clause-typed
returns-in-Err-clause-typed g c = halted _ _ _ _ c.loop-e.invariant.so_far c.in-Err.e (held_of c.number.new.self) c.in-Err.ensures.look

pub returns-in-Ok-Some-clause-typed : goal.returns-in-Ok-Some-clause-typed
returns-in-Ok-Some-clause-typed g c =
    found _ _ _ _ c.loop-e.invariant.so_far c.in-Ok-Some.number (held_of c.number.new.self) (rw c.in-Ok-Some.field-0-is at c.in-Ok-Some.ensures.look)

pub returns-then-budget-eq0-clause-typed : goal.returns-then-budget-eq0-clause-typed
returns-then-budget-eq0-clause-typed g c =
    let s = short _ _ _ _ c.loop-e.invariant.so_far (held_of c.number.new.self) (rw c.in-Ok-None.field-0-is at c.in-Ok-None.ensures.look) in
    rw c.yield_now.ensures.pending (yields _ _ _ _ s.0 s.1 (omega (arith, c.if-budget-eq0.true)))

pub returns-in-Pending-clause-typed : goal.returns-in-Pending-clause-typed
returns-in-Pending-clause-typed g c =
    let s = short _ _ _ _ c.loop-e.invariant.so_far (held_of c.number.new.self) (rw c.in-Ok-None.field-0-is at c.in-Ok-None.ensures.look) in
    waits _ _ _ _ s.0 _ _ _ s.1 c.in-Pending.ensures.piece

pub returns-in-Ready-Err-clause-typed : goal.returns-in-Ready-Err-clause-typed
returns-in-Ready-Err-clause-typed g c =
    let s = short _ _ _ _ c.loop-e.invariant.so_far (held_of c.number.new.self) (rw c.in-Ok-None.field-0-is at c.in-Ok-None.ensures.look) in
    fails _ _ _ _ s.0 _ _ _ c.in-Ready-Err.e s.1 (rw c.in-Ready-Err.field-0-is at c.in-Ready-Err.ensures.piece)

pub loop-e-preserved : goal.loop-e-preserved
loop-e-preserved g c =
    let s = short _ _ _ _ c.loop-e.invariant.so_far (held_of c.number.new.self) (rw c.in-Ok-None.field-0-is at c.in-Ok-None.ensures.look) in
    let k = c.in-Ready-Ok-true.ensures in
    record {
      so_far = came _ _ _ _ s.0 _ _ _ _ (omega (arith, c.if-budget-eq0.false)) (rw (c.in-Ready-Ok-true.field-0-is, c.in-Ready-Ok-true.field-0-0-test) at k.piece);
      sent = search rules;
      id = search rules;
      kept = λ fact h. k.kept fact (c.loop-e.invariant.kept fact h);
    }

pub returns-in-Ready-Ok-false-clause-typed : goal.returns-in-Ready-Ok-false-clause-typed
returns-in-Ready-Ok-false-clause-typed g c =
    let s = short _ _ _ _ c.loop-e.invariant.so_far (held_of c.number.new.self) (rw c.in-Ok-None.field-0-is at c.in-Ok-None.ensures.look) in
    ends _ _ _ _ s.0 _ _ _ s.1 (rw (c.in-Ready-Ok-false.field-0-is, c.in-Ready-Ok-false.field-0-0-test) at c.in-Ready-Ok-false.ensures.piece)
