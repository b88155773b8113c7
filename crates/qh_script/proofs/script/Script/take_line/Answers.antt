use Rattle.qh_script.proofs.Taking.{line_made, line_unmade}
use Rattle.qh_script.proofs.script.Script.take_line.Goals as goal

pub apply-requires : goal.apply-requires
apply-requires c = c.in-Some.ensures.some

pub returns-in-Some-clause-taken : goal.returns-in-Some-clause-taken
returns-in-Some-clause-taken c =
    line_made c.apply.result c.args.text.now c.in-Some.line c.args.self.now c.apply.new.self c.in-Some.ensures c.apply.ensures.taken

pub returns-in-Some-clause-refused : goal.returns-in-Some-clause-refused
returns-in-Some-clause-refused c =
    line_unmade c.apply.result c.args.text.now c.in-Some.line c.args.self.now c.in-Some.ensures c.apply.ensures.refused
