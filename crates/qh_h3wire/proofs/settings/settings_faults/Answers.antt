use Rattle.qh_h3wire.proofs.SettingsRead.{means_or_fault, no_fault_means, one_settings_fault}
use Rattle.qh_h3wire.proofs.settings.settings_faults.Goals as goal

pub returns-clause-one : goal.returns-clause-one
returns-clause-one c = one_settings_fault

pub returns-clause-none : goal.returns-clause-none
returns-clause-none c payload s means e = means_or_fault payload s e means

pub returns-clause-means : goal.returns-clause-means
returns-clause-means c = no_fault_means
