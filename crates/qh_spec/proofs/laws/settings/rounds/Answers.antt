use Rattle.std.proofs.Common.{refl}
use Rattle.qh_spec.specs.Config.{default_config}
use Rattle.qh_spec.proofs.laws.settings.rounds.Goals as goal

pub returns-clause-default : goal.returns-clause-default
unfolding default_config
returns-clause-default c = refl
