use Rattle.qh_spec.specs.TokenScript.{IsTaken}
use Rattle.qh_script.proofs.Reading.{seen_more}
use Rattle.qh_script.proofs.TokensBehind.{fault_at}
use Rattle.qh_script.proofs.tokens.Reading.take_lines.Goals as goal

pub loop-rest-preserved : goal.loop-rest-preserved
loop-rest-preserved c =
    seen_more IsTaken c.args.text.now c.loop-rest.rest.now c.cut_line.result.0.now c.cut_line.result.1.now c.args.self.now c.loop-rest.self c.take_line.new.self
    c.loop-rest.count c.loop-rest.invariant c.cut_line.ensures.cut c.cut_line.ensures.shorter c.in-Ok.ensures.taken

pub returns-in-Err-Memory-clause-refused : goal.returns-in-Err-Memory-clause-refused
returns-in-Err-Memory-clause-refused c =
    fault_at c.args.text.now c.loop-rest.rest.now c.cut_line.result.0.now c.cut_line.result.1.now c.args.self.now c.loop-rest.self
    c.loop-rest.count c.fault_behind.result c.loop-rest.invariant c.cut_line.ensures.cut c.cut_line.ensures.shorter
    (rw c.in-Err-Memory.field-0-is at c.in-Err-Memory.ensures.refused) c.fault_behind.ensures
