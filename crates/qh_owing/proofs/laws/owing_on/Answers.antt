use Rattle.qh_owing.proofs.OwingMade.{made_owes}
use Rattle.qh_owing.proofs.laws.owing_on.Goals as goal

pub returns : goal.returns
returns g c = made_owes
