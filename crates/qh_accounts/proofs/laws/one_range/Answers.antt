use Rattle.qh_accounts.proofs.OneRange.{no_range, one_range}
use Rattle.qh_accounts.proofs.laws.one_range.Goals as goal

pub returns-clause-none : goal.returns-clause-none
returns-clause-none c = no_range

pub returns-clause-one : goal.returns-clause-one
returns-clause-one c = λ rs start end apart some same. one_range start end some rs apart same
