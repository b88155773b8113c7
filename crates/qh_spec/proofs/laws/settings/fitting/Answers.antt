use Rattle.std.proofs.Common.{rules}
use Rattle.qh_spec.specs.Config.{default_config}
use Rattle.qh_spec.proofs.ScriptRows.{default_fits}
use Rattle.qh_spec.proofs.laws.settings.fitting.Goals as goal

pub returns-clause-default : goal.returns-clause-default
returns-clause-default c = default_fits

pub returns-clause-endless : goal.returns-clause-endless
unfolding default_config
returns-clause-endless c = record {
  sizes = search rules;
  ids = search rules;
  versions = search rules;
  times = search rules;
  windows = search rules;
  attempts = search rules;
}

pub returns-clause-short_lived : goal.returns-clause-short_lived
unfolding default_config
returns-clause-short_lived c = record {
  sizes = search rules;
  ids = search rules;
  versions = search rules;
  times = search rules;
  windows = search rules;
  attempts = search rules;
}
