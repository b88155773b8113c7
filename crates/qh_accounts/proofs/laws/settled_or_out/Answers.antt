use Rattle.qh_accounts.proofs.SettledOrOut.{byte_out, end_out, reset_out}
use Rattle.qh_accounts.proofs.laws.settled_or_out.Goals as goal

pub returns-clause-bytes : goal.returns-clause-bytes
returns-clause-bytes c = byte_out

pub returns-clause-ends : goal.returns-clause-ends
returns-clause-ends c = end_out

pub returns-clause-resets : goal.returns-clause-resets
returns-clause-resets c = reset_out
