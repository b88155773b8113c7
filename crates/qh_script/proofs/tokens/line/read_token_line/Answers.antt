use Rattle.std.proofs.Common.{rules}
use Rattle.qh_script.proofs.TokenLines.{empty_line, no_line_word}
use Rattle.qh_script.proofs.tokens.line.read_token_line.Goals as goal

pub returns-then-is_empty : goal.returns-then-is_empty
returns-then-is_empty c = empty_line c.args.text.now (search rules)

pub returns : goal.returns
returns c =
    no_line_word c.args.text.now c.in_ok-word.word.now c.in_ok-word.behind.now (search rules) c.in_ok-word.ensures (search rules) (search rules)
