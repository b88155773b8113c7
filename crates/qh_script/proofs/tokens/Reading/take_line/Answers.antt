use Rattle.qh_script.specs.Tokens.{line_of}
use Rattle.qh_script.proofs.TokensBehind.{line_untaken}
use Rattle.qh_script.proofs.tokens.Reading.take_line.Goals as goal

pub returns-in-Some-clause-refused : goal.returns-in-Some-clause-refused
returns-in-Some-clause-refused c =
    line_untaken c.apply.result c.args.text.now (line_of c.in-Some.line) c.args.self.now c.in-Some.ensures c.apply.ensures.refused
