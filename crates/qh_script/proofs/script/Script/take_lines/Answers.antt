use Rattle.qh_spec.specs.Script.{IsTaken}
use Rattle.qh_script.proofs.Reading.{seen_more}
use Rattle.qh_script.proofs.script.Script.take_lines.Goals as goal

pub loop-rest-preserved : goal.loop-rest-preserved
loop-rest-preserved c =
    seen_more IsTaken c.args.text.now c.loop-rest.rest.now c.cut_line.result.0.now c.cut_line.result.1.now c.args.self.now c.loop-rest.self c.take_line.new.self
    c.loop-rest.count c.loop-rest.invariant c.cut_line.ensures.cut c.cut_line.ensures.shorter c.in-Ok.ensures.taken
