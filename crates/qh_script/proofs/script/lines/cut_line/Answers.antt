use Rattle.qh_script.proofs.FirstLines.{ended_cut, unended_cut}
use Rattle.qh_script.proofs.script.lines.cut_line.Goals as goal

pub returns-then-end-text-clause-cut : goal.returns-then-end-text-clause-cut
returns-then-end-text-clause-cut c =
    ended_cut c.args.text.now c.line_len-end.result c.if-end-text.true c.line_len-end.ensures.before c.line_len-end.ensures.found

pub returns-else-end-text-clause-cut : goal.returns-else-end-text-clause-cut
returns-else-end-text-clause-cut c = unended_cut c.args.text.now c.line_len-end.result c.requires c.if-end-text.false c.line_len-end.ensures.before
