use Rattle.std.proofs.Common.{◌∙◌}
use Rattle.qh_qpack.proofs.NamesTold.{by_length, rows_told}
use Rattle.qh_qpack.proofs.static_.rows_named.Goals as goal

pub returns : goal.returns
unfolding by_length
returns c = c.rows_of.ensures ∙ rows_told c.args.name.now
