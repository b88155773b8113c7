use Rattle.std.proofs.Common.{refl}
use Rattle.qh_spec.specs.Config.{default_config}
use Rattle.qh_script.proofs.config.default_with.Goals as goal

pub returns : goal.returns
unfolding default_config
returns c = refl
