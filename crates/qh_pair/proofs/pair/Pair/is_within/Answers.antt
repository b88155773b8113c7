use Rattle.qh_pair.proofs.PairFirst.{held_few}
use Rattle.qh_pair.proofs.pair.Pair.is_within.Goals as goal

pub returns : goal.returns
returns c = rw (← c.self.view_is) (held_few _ _ c.self.invariant.1.places)
