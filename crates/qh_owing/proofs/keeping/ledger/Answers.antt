use Rattle.qh_owing.proofs.LedgerCalls.{ledger_fresh, ledger_made, ledger_open, ledger_sent}
use Rattle.qh_owing.proofs.keeping.ledger.Goals as goal

pub returns-clause-fresh : goal.returns-clause-fresh
returns-clause-fresh g c = ledger_fresh

pub returns-clause-made : goal.returns-clause-made
returns-clause-made g c = ledger_made

pub returns-clause-open : goal.returns-clause-open
returns-clause-open g c = ledger_open

pub returns-clause-sent : goal.returns-clause-sent
returns-clause-sent g c = ledger_sent
