use Rattle.qh_history.proofs.WithinLimits as within
use Rattle.qh_history.proofs.SameEnd as same
use Rattle.qh_history.proofs.limits.space_keeps_within.Goals as goal

pub returns-clause-fresh : goal.returns-clause-fresh
returns-clause-fresh c = within.fresh

pub returns-clause-frame : goal.returns-clause-frame
returns-clause-frame c = within.frame

pub returns-clause-lost : goal.returns-clause-lost
returns-clause-lost c = within.lost

pub returns-clause-probe : goal.returns-clause-probe
returns-clause-probe c = within.probe

pub returns-clause-made : goal.returns-clause-made
returns-clause-made c = within.made

pub returns-clause-frame_end : goal.returns-clause-frame_end
returns-clause-frame_end c = same.frame

pub returns-clause-lost_end : goal.returns-clause-lost_end
returns-clause-lost_end c = same.lost

pub returns-clause-probe_end : goal.returns-clause-probe_end
returns-clause-probe_end c = same.probe

pub returns-clause-made_end : goal.returns-clause-made_end
returns-clause-made_end c = same.made
