use Rattle.qh_spec.proofs.HelloLaws.{hello_agrees, hello_written, hello_read_back}
use Rattle.qh_spec.proofs.laws.hellos.reading.Goals as goal

pub returns-clause-one : goal.returns-clause-one
returns-clause-one c = hello_agrees

pub returns-clause-written : goal.returns-clause-written
returns-clause-written c = hello_written

pub returns-clause-read_back : goal.returns-clause-read_back
returns-clause-read_back c = hello_read_back
