use Rattle.qh_history.proofs.Runs.{dropped, handed, taken}
use Rattle.qh_history.proofs.datagrams.datagrams_carry.Goals as goal

pub returns-clause-came : goal.returns-clause-came
returns-clause-came c = taken

pub returns-clause-dropped : goal.returns-clause-dropped
returns-clause-dropped c = dropped

pub returns-clause-sent : goal.returns-clause-sent
returns-clause-sent c = handed
