use Rattle.qh_book.proofs.Single.{one_replayed, one_with, replayed_joined, replayed_prefix}
use Rattle.qh_book.proofs.laws.at_most_one_book.Goals as goal

pub returns-clause-step : goal.returns-clause-step
returns-clause-step g c = λ b m n e. one_with b m n e.call e.reply e.items

pub returns-clause-history : goal.returns-clause-history
returns-clause-history g c = one_replayed

pub returns-clause-joined : goal.returns-clause-joined
returns-clause-joined g c = replayed_joined

pub returns-clause-prefix : goal.returns-clause-prefix
returns-clause-prefix g c = replayed_prefix
