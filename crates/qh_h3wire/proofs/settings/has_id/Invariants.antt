use Rattle.std.proofs.Common.{List, length}
use Rattle.qh_base.proofs.Varints.{IsBytes}
use Rattle.qh_h3wire.specs.Settings.{Entry, AreEntries}
use Rattle.qh_h3wire.proofs.SettingsFaults.{Left}
use Rattle.qh_h3wire.proofs.settings.has_id.Given as goal

abbrev pub invariant-loop-entry : goal.invariant-loop-entry
invariant-loop-entry l = IsBytes l.rest × ((es : List Entry) → AreEntries l.entries es → Left l.rest l.id es)

abbrev pub decreases-loop-entry : goal.decreases-loop-entry
decreases-loop-entry l = length l.rest
