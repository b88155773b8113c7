use Rattle.std.proofs.Common.{length}
use Rattle.qh_h3wire.specs.SettingsReading.{IsReading}
use Rattle.qh_h3wire.proofs.settings.Settings.read.Given as goal

abbrev pub invariant-loop-rest : goal.invariant-loop-rest
invariant-loop-rest l = IsReading l.payload l.rest l.reading

abbrev pub decreases-loop-rest : goal.decreases-loop-rest
decreases-loop-rest l = length l.rest
