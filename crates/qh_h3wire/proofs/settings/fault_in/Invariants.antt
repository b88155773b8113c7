use Rattle.std.proofs.Common.{◌-◌, length}
use Rattle.qh_h3wire.proofs.SettingsFaults.{Passes}
use Rattle.qh_h3wire.proofs.settings.fault_in.Given as goal

-- the entries so far aren't at fault
abbrev pub invariant-loop-at : goal.invariant-loop-at
invariant-loop-at l = Passes l.payload l.at

abbrev pub decreases-loop-at : goal.decreases-loop-at
decreases-loop-at l = length l.payload - l.at
