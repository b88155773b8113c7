use Rattle.qh_roles.proofs.HandlerSteps.{acted_quiet}
use Rattle.qh_roles.proofs.ServerCares.{answered_on}
use Rattle.qh_roles.proofs.server.serve.Goals as goal

pub returns-in-Some-clause-settled : goal.returns-in-Some-clause-settled
returns-in-Some-clause-settled g c = answered_on c.answer.result c.args.stream.0 c.args.connection.now.space.streams c.answer.ensures.going

pub returns-in-None-clause-quiet : goal.returns-in-None-clause-quiet
returns-in-None-clause-quiet g c = acted_quiet c.args.stream.0 c.args.connection.now c.give_up.new.connection c.give_up.ensures.acted
