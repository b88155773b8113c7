use Rattle.qh_conduct.proofs.FilledFrames.{fresh_filled, made_filled, quiet_filled}
use Rattle.qh_conduct.proofs.filled.fills.Goals as goal

pub returns-clause-fresh : goal.returns-clause-fresh
returns-clause-fresh g c = fresh_filled

pub returns-clause-quiet : goal.returns-clause-quiet
returns-clause-quiet g c = quiet_filled

pub returns-clause-made : goal.returns-clause-made
returns-clause-made g c = made_filled
