use Rattle.qh_endpoint.proofs.Accepts.{taken_or_cut}
use Rattle.qh_endpoint.proofs.accepting.hand.Goals as goal

pub returns-clause-handed : goal.returns-clause-handed
returns-clause-handed g c = let e = c.handle_datagram.ensures in record { taken = taken_or_cut _ _ _ _ _ c.handle_datagram.result e.ok e.wanting e.err e.over e.unread; carries = e.carries; same = e.same }
