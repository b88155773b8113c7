use Rattle.qh_script.specs.Tokens.{limits_of, token_of}
use Rattle.qh_script.proofs.TokensBehind.{empty_taken, look_taken, log_untaken}
use Rattle.qh_script.proofs.tokens.is_taken_behind.Goals as goal

pub returns-in-Empty-clause-taken : goal.returns-in-Empty-clause-taken
returns-in-Empty-clause-taken c = λ _. empty_taken c.args.text.now (rw c.in-Empty.is at c.in-Some.ensures)

pub returns-in-Look-clause-taken : goal.returns-in-Look-clause-taken
returns-in-Look-clause-taken c = λ _. look_taken c.args.text.now (token_of c.in-Look.field-0) (rw c.in-Look.is at c.in-Some.ensures)

pub returns-in-Log-clause-refused : goal.returns-in-Log-clause-refused
returns-in-Log-clause-refused c = λ _. log_untaken c.args.text.now (limits_of c.in-Log.field-0) (rw c.in-Log.is at c.in-Some.ensures)
