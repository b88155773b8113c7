use Rattle.std.proofs.Common.{refl}
use Rattle.qh_core.proofs.ControlMade.{control_sent}
use Rattle.qh_core.proofs.inner.Inner.transmit_control.Goals as goal

pub returns-in_default-appended-clause-none : goal.returns-in_default-appended-clause-none
returns-in_default-appended-clause-none g c = λ _. c.in-Ok.ensures.none c.in_default-appended.is

pub returns-clause-some : goal.returns-clause-some
returns-clause-some g c =
    control_sent (g.S.Session.sealed c.args.self.now.session) c.args.now c.args.self.now c.append_control.new.self c.args.buf.now.items c.append_control.new.buf.items c.args.frames.now c.in-Some.size c.in-Some.count
    c.args.self.now.space.next_number c.count.new.self (rw c.in-Some.is at c.in-Ok.ensures.some) c.append_control.ensures.counts c.count.ensures refl
