use Rattle.qh_quinn.proofs.Acts.{fits, plain_acts, plain_ready, unpolled}
use Rattle.qh_quinn.proofs.inner.StateInner.plain.Goals as goal

pub returns-clause-acted : goal.returns-clause-acted
returns-clause-acted g c =
    plain_acts c.pending_registers.ensures.registers c.args.call c.answered.result c.args.self.now c.answered.new.self (unpolled c.args.call c.requires.unpolled) c.requires.state c.answered.ensures.value

pub returns-clause-ready : goal.returns-clause-ready
returns-clause-ready g c =
    plain_ready c.pending_registers.ensures.registers c.args.call c.answered.result c.args.self.now c.answered.new.self (unpolled c.args.call c.requires.unpolled) c.requires.state c.answered.ensures.value

pub returns-clause-fits : goal.returns-clause-fits
returns-clause-fits g c =
    fits c.replies_fit.ensures c.args.call c.answered.result c.args.self.now c.answered.new.self c.requires.no_turn c.requires.state c.answered.ensures.fits c.answered.ensures.value
