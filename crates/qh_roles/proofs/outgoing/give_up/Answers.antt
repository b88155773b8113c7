use Rattle.qh_core.specs.Follows.{reset_by_acts}
use Rattle.qh_roles.proofs.Calling.{reset_alone, reset_behaves, same_on_error}
use Rattle.qh_roles.proofs.Going.{went_on}
use Rattle.qh_roles.proofs.outgoing.give_up.Goals as goal

pub returns-clause-acted : goal.returns-clause-acted
returns-clause-acted g c = λ start before t w.
    let acts = reset_by_acts c.args.stream.0 c.number_of.result c.reset-refused.result in
    let alone = reset_alone c.args.stream.0 c.number_of.result c.reset-refused.result in (
      acts,
      alone.0,
      alone.1,
      went_on start before c.args.connection.now c.reset-refused.new.self t acts w
          (c.made.ensures.reset c.args.stream.0 c.number_of.result c.reset-refused.result c.args.connection.now c.reset-refused.new.self c.reset-refused.ensures.ok
          (same_on_error _ c.reset-refused.result c.args.connection.now c.reset-refused.new.self c.reset-refused.ensures.fault) c.reset-refused.ensures.follows)
          (reset_behaves c.args.stream.0 c.args.connection.now c.reset-refused.new.self t c.number_of.result c.reset-refused.result
          (λ step rest follows. c.behaves.ensures.reset c.args.stream.0 c.number_of.result c.args.connection.now c.reset-refused.new.self t step rest follows w.behaves) c.reset-refused.ensures.ok c.reset-refused.ensures.fault
          (c.reset-refused.ensures.follows t w.behaves.follows) w.behaves),
    )
