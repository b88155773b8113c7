use Rattle.qh_core.specs.Follows.{write_acts}
use Rattle.qh_roles.proofs.Calling.{write_behaves}
use Rattle.qh_roles.proofs.Going.{went_on}
use Rattle.qh_roles.proofs.StepLaws.{write_pushes}
use Rattle.qh_roles.proofs.outgoing.push.Goals as goal

pub returns-clause-pushes : goal.returns-clause-pushes
returns-clause-pushes g c = λ start before t w.
    write_pushes start before c.args.stream.0 c.args.bytes.now c.write.result c.write.new.self t
    (went_on start before c.args.connection.now c.write.new.self t (write_acts c.args.stream.0 c.args.bytes.now c.write.result) w
    (c.made.ensures.write c.args.stream.0 c.args.bytes.now c.write.result c.args.connection.now c.write.new.self c.write.ensures.ok c.write.ensures.taken c.write.ensures.fault c.write.ensures.follows)
    (write_behaves c.args.stream.0 c.args.connection.now c.write.new.self t c.args.bytes.now c.write.result
    (λ count bytes open_now unfaulted step rest follows. c.behaves.ensures.wrote c.args.stream.0 count bytes c.args.connection.now c.write.new.self t open_now unfaulted step rest follows w.behaves)
    (λ fault refused follows. c.behaves.ensures.unwritten c.args.stream.0 fault c.args.connection.now c.write.new.self t refused follows w.behaves)
    c.write.ensures.ok c.write.ensures.taken c.write.ensures.fault (c.write.ensures.follows t w.behaves.follows)))
