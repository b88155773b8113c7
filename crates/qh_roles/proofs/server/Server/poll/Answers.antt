use Rattle.qh_roles.proofs.server.Server.poll.Goals as goal

pub returns-clause-forgets_none : goal.returns-clause-forgets_none
returns-clause-forgets_none g c = rw (← c.self.view_is) c.advance.ensures.forgets_none
