use Rattle.qh_stateless.proofs.Resets.{is_shorter, long_length, reset_end, reset_first, short_length}
use Rattle.qh_stateless.proofs.reset.stateless_resets.Goals as goal

pub returns-clause-shorter : goal.returns-clause-shorter
returns-clause-shorter c = is_shorter

pub returns-clause-short : goal.returns-clause-short
returns-clause-short c = short_length

pub returns-clause-long : goal.returns-clause-long
returns-clause-long c = long_length

pub returns-clause-first : goal.returns-clause-first
returns-clause-first c = reset_first

pub returns-clause-token : goal.returns-clause-token
returns-clause-token c = reset_end
