use Rattle.qh_pair.proofs.EndTicks.{ticked_by}
use Rattle.qh_pair.proofs.ends.run_timers.Goals as goal

pub returns : goal.returns
returns c =
    let e = c.handle_timeout.ensures in
    ticked_by c.handle_timeout.result c.honest_ends.ensures.timed c.can_greet.ensures.timed c.args.now.0 c.args.end.now c.handle_timeout.new.self c.requires.bound e.same e.whole e.stands e.ok e.err
