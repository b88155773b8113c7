use Rattle.qh_lock.proofs.Orders.{ascends_on}
use Rattle.qh_lock.proofs.laws.own_places_ascend.Goals as goal

pub returns : goal.returns
returns c = ascends_on
