use Rattle.std.proofs.Common.{rules, ◌<◌, ◌^◌}
use Rattle.endpoint_rows.proofs.Counts.{first_taken}
use Rattle.endpoint_rows.proofs.kit.RowIdsConnectionIdGenerator.validate.Goals as goal

pub returns-else-not-self-clause-own : goal.returns-else-not-self-clause-own
returns-else-not-self-clause-own c =
    let s = c.args.self.now in
    let fits : s.mark < 2 ^ 8 = search rules in
    first_taken s.is_strict s.len s.mark s.given s.whole fits
