use Rattle.qh_spec.proofs.Echoes.{echoes_told}
use Rattle.qh_spec.proofs.laws.reports.echoes.Goals as goal

pub returns : goal.returns
returns c = echoes_told
