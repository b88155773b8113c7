use Rattle.qh_core.proofs.Turned.{session_follows}
use Rattle.qh_core.proofs.laws.other_session.Goals as goal

pub returns : goal.returns
returns g c = record { follows = session_follows }
