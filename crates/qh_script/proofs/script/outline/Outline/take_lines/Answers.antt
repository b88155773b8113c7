use Rattle.std.proofs.Common.{arith, rules}
use Rattle.qh_script.proofs.Judging.{outlined_none, outlined_more, outlined_all, outlined_refused}
use Rattle.qh_script.proofs.script.outline.Outline.take_lines.Goals as goal

pub loop-rest-init : goal.loop-rest-init
loop-rest-init c = record { room = omega arith; seen = λ s h. outlined_none c.args.text.now s c.args.self.now h }

pub loop-rest-preserved : goal.loop-rest-preserved
loop-rest-preserved c =
    let shorter = c.cut_line.ensures.shorter in
    let room = c.loop-rest.invariant.room in
    record {
      room = omega arith;
      seen = λ s h.
          outlined_more c.args.text.now c.loop-rest.rest.now c.cut_line.result.0.now c.cut_line.result.1.now s c.loop-rest.self c.take_line.new.self
          c.loop-rest.count (c.loop-rest.invariant.seen s h) c.cut_line.ensures.cut c.cut_line.ensures.shorter
          (λ t g. c.take_line.ensures.taken c.if-not-take_line.false t g);
    }

pub returns-then-not-take_line-clause-refused : goal.returns-then-not-take_line-clause-refused
returns-then-not-take_line-clause-refused c = λ s h.
    outlined_refused c.args.text.now c.loop-rest.rest.now c.cut_line.result.0.now c.cut_line.result.1.now s c.loop-rest.self
    c.loop-rest.count (c.loop-rest.invariant.seen s h) c.cut_line.ensures.cut (λ t u g. c.take_line.ensures.refused c.if-not-take_line.true t u g)

pub returns-clause-taken : goal.returns-clause-taken
returns-clause-taken c = λ s h.
    outlined_all c.args.text.now c.loop-rest.rest.now s c.loop-rest.self c.loop-rest.count (c.loop-rest.invariant.seen s h) (search rules)
