use Rattle.qh_arrival.proofs.PacketsTaken.{new_taken, repeated_came}
use Rattle.qh_arrival.proofs.taking.taken.Goals as goal

pub returns-clause-new : goal.returns-clause-new
returns-clause-new g c = new_taken

pub returns-clause-repeated : goal.returns-clause-repeated
returns-clause-repeated g c = repeated_came
