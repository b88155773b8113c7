use Rattle.qh_recovery.proofs.Window.{greatest_option, greatest_bound}
use Rattle.qh_recovery.proofs.spaces.dedup.Dedup.greatest.Goals as goal

pub returns-clause-greatest : goal.returns-clause-greatest
returns-clause-greatest c =
    rw (← c.self.view_is) (λ accepted memory. greatest_option c.max.result accepted c.self.inside.received memory c.max.ensures)

pub returns-clause-bound : goal.returns-clause-bound
returns-clause-bound c = greatest_bound c.max.result c.self.inside.received c.self.invariant c.max.ensures
