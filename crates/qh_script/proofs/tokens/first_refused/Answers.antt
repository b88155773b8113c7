use Rattle.std.proofs.Common.{arith, rules}
use Rattle.qh_script.proofs.TokensBehind.{behind_none, behind_more, behind_all, behind_refused}
use Rattle.qh_script.proofs.tokens.first_refused.Goals as goal

pub loop-rest-init : goal.loop-rest-init
loop-rest-init c = record { room = omega arith; seen = λ s h. behind_none c.args.text.now s h }

pub loop-rest-preserved : goal.loop-rest-preserved
loop-rest-preserved c =
    let shorter = c.cut_line.ensures.shorter in
    let room = c.loop-rest.invariant.room in
    record {
      room = omega arith;
      seen = λ s h.
          behind_more c.args.text.now c.loop-rest.rest.now c.cut_line.result.0.now c.cut_line.result.1.now s c.loop-rest.count (c.loop-rest.invariant.seen s h)
          c.cut_line.ensures.cut c.cut_line.ensures.shorter (c.is_taken_behind.ensures.taken c.if-not-is_taken_behind.false);
    }

pub returns-then-not-is_taken_behind-clause-lines : goal.returns-then-not-is_taken_behind-clause-lines
returns-then-not-is_taken_behind-clause-lines c = λ s h.
    behind_refused c.args.text.now c.loop-rest.rest.now c.cut_line.result.0.now c.cut_line.result.1.now s c.loop-rest.count (c.loop-rest.invariant.seen s h)
    c.cut_line.ensures.cut (c.is_taken_behind.ensures.refused c.if-not-is_taken_behind.true)

pub returns-clause-lines : goal.returns-clause-lines
returns-clause-lines c = λ s h. behind_all c.args.text.now c.loop-rest.rest.now s c.loop-rest.count (c.loop-rest.invariant.seen s h) (search rules)
