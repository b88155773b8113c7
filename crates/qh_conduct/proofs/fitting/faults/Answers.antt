use Rattle.qh_conduct.proofs.ReachFaults.{datagram_fault}
use Rattle.qh_conduct.proofs.fitting.faults.Goals as goal

pub returns : goal.returns
returns g c = record { fault = datagram_fault }
