use Rattle.qh_recovery.proofs.Window.{next_is}
use Rattle.qh_recovery.proofs.spaces.dedup.Dedup.next_expected.Goals as goal

pub returns-clause-next : goal.returns-clause-next
returns-clause-next c = rw (← c.self.view_is) (λ accepted memory. next_is accepted c.self.inside.received memory c.next_of.result c.next_of.ensures.next)
