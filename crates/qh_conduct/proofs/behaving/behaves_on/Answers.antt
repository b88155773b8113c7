use Rattle.qh_conduct.proofs.BehavingMade.{made_on}
use Rattle.qh_conduct.proofs.behaving.behaves_on.Goals as goal

pub returns : goal.returns
returns g c = made_on
