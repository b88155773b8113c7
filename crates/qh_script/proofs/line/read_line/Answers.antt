use Rattle.std.proofs.Common.{rules}
use Rattle.qh_script.proofs.ReadLines.{empty_stands, no_line_spaceless, no_line_word, line_stands}
use Rattle.qh_script.proofs.line.read_line.Goals as goal

pub returns-then-is_empty : goal.returns-then-is_empty
returns-then-is_empty c = empty_stands c.args.text.now (search rules)

pub returns-in_err-word : goal.returns-in_err-word
returns-in_err-word c = rw (c.from_residual.ensures) (no_line_spaceless c.args.text.now (search rules) c.in_err-word.ensures)

pub returns-in_err-keyword : goal.returns-in_err-keyword
returns-in_err-keyword c =
    rw (c.from_residual-in_err-keyword.ensures)
    (no_line_word c.args.text.now c.in_ok-word.word.now c.in_ok-word.behind.now (search rules) c.in_ok-word.ensures c.in_err-keyword.ensures)

pub returns : goal.returns
returns c =
    line_stands c.args.text.now c.in_ok-word.word.now c.in_ok-word.behind.now c.in_ok-keyword.keyword c.read_argument.result (search rules)
    c.in_ok-word.ensures c.in_ok-keyword.ensures c.read_argument.ensures
