use Rattle.std.proofs.Common.{rules}
use Rattle.qh_streams.proofs.streams.opening.insert_ranges.Goals as goal

pub returns-then-is_err-clause-err : goal.returns-then-is_err-clause-err
returns-then-is_err-clause-err c =
    (c.withdraw_range.ensures.before c.args.send.now c.args.limit c.in_ok-insert_range.ensures.sorted c.requires.send c.in_ok-insert_range.ensures.ok, search rules)
