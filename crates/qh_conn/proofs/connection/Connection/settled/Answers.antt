use Rattle.qh_conn.proofs.Noted.{any_err}
use Rattle.qh_conn.proofs.connection.Connection.settled.Goals as goal

pub returns-then-is_err-clause-same : goal.returns-then-is_err-clause-same
returns-then-is_err-clause-same g c = any_err _ c.args.taken (c.fail.ensures.same g.S.Session.key)

pub returns-then-is_err-clause-log : goal.returns-then-is_err-clause-log
returns-then-is_err-clause-log g c = any_err _ c.args.taken c.fail.ensures.log

pub returns-then-is_err-clause-failed : goal.returns-then-is_err-clause-failed
returns-then-is_err-clause-failed g c = any_err _ c.args.taken c.fail.ensures.failed
