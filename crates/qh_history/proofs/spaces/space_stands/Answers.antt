use Rattle.qh_history.proofs.Arrivals as arrival
use Rattle.qh_history.proofs.Made.{made_stands}
use Rattle.qh_history.proofs.spaces.space_stands.Goals as goal

pub returns-clause-frame : goal.returns-clause-frame
returns-clause-frame c = arrival.frame_stands

pub returns-clause-lost : goal.returns-clause-lost
returns-clause-lost c = arrival.lost_stands

pub returns-clause-probe : goal.returns-clause-probe
returns-clause-probe c = arrival.probe_stands

pub returns-clause-made : goal.returns-clause-made
returns-clause-made c = made_stands
