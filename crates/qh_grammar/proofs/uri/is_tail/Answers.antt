use Rattle.std.proofs.Common.{◌<◌, length, rules}
use Rattle.qh_grammar.proofs.Tails.{empty_tail, tail_of_path, path_tested}
use Rattle.qh_grammar.proofs.uri.is_tail.Goals as goal

pub returns-then-is_empty : goal.returns-then-is_empty
returns-then-is_empty c = (λ _. empty_tail c.args.text.now (search rules), λ _. c.if-is_empty.true)

pub returns-else-is_empty : goal.returns-else-is_empty
returns-else-is_empty c =
    let some : 0 < length c.args.text.now = search rules in (
      λ yes. tail_of_path c.args.text.now c.requires some (c.is_path_input.ensures.yes yes),
      path_tested c.args.text.now c.is_path_input.result some c.is_path_input.ensures.no,
    )
