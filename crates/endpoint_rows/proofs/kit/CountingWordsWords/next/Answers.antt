use Rattle.std.proofs.Common.{rules, ◌<◌, ◌^◌}
use Rattle.endpoint_rows.proofs.Counts.{more_words}
use Rattle.endpoint_rows.proofs.kit.CountingWordsWords.next.Goals as goal

pub returns : goal.returns
returns c =
    let given = c.args.self.now.given in
    let fits : given < 2 ^ 64 = search rules in
    more_words given c.saturating_add-self.result fits c.saturating_add-self.ensures
