use Rattle.std.proofs.Common.{refl}
use Rattle.qh_spec.specs.declared.link.Event.TheVariants.{Sent, Fault}
use Rattle.qh_link.proofs.Events.{moments_stay}
use Rattle.qh_link.proofs.script.ScriptLinkLink.send.Goals as goal

pub returns-then-fails_next-clause-moments : goal.returns-then-fails_next-clause-moments
returns-then-fails_next-clause-moments c = rw c.in_ok-fail.ensures.ok (moments_stay c.args.self.now.events Fault refl)

pub returns-clause-moments : goal.returns-clause-moments
returns-clause-moments c = rw c.in_ok-carry.ensures.ok (moments_stay c.args.self.now.events (Sent c.args.from c.args.datagram.now) refl)
