use Rattle.qh_core.specs.Follows.{finish_acts}
use Rattle.qh_roles.proofs.Calling.{finish_behaves, same_by_fault}
use Rattle.qh_roles.proofs.Going.{went_on}
use Rattle.qh_roles.proofs.outgoing.finish.Goals as goal

pub returns-clause-follows : goal.returns-clause-follows
returns-clause-follows g c = λ start before t w.
    went_on start before c.args.connection.now c.finish.new.self t (finish_acts c.args.stream.0 c.finish.result) w
    (c.made.ensures.finish c.args.stream.0 c.finish.result c.args.connection.now c.finish.new.self c.finish.ensures.ok
    (same_by_fault _ c.finish.result c.args.connection.now c.finish.new.self c.finish.ensures.fault) c.finish.ensures.follows)
    (finish_behaves c.args.stream.0 c.args.connection.now c.finish.new.self t c.finish.result
    (λ step rest follows. c.behaves.ensures.finished c.args.stream.0 c.args.connection.now c.finish.new.self t step rest follows w.behaves) c.finish.ensures.ok c.finish.ensures.fault (c.finish.ensures.follows t w.behaves.follows) w.behaves)
