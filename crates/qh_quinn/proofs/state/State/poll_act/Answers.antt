use Rattle.qh_quinn.proofs.state.State.poll_act.Goals as goal

pub returns-in-Some-clause-others : goal.returns-in-Some-clause-others
returns-in-Some-clause-others g c = rw (← c.self.view_is) c.polled_kept.ensures.others
