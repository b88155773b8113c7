use Rattle.qh_owing.proofs.LedgerNumbers.{sent_lengths, sent_numbers}
use Rattle.qh_owing.proofs.keeping.sent_once.Goals as goal

pub returns-clause-numbers : goal.returns-clause-numbers
returns-clause-numbers c = sent_numbers

pub returns-clause-lengths : goal.returns-clause-lengths
returns-clause-lengths c = sent_lengths
