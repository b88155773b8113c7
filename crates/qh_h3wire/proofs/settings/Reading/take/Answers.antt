use Rattle.std.proofs.Common.{sym, ◌∙◌}
use Rattle.qh_h3wire.proofs.SettingsReading.{taken}
use Rattle.qh_h3wire.proofs.settings.Reading.take.Goals as goal

pub returns : goal.returns
returns c front read =
    let e = c.in-Ok-true.ensures in
    taken front c.args.self.now (record { seen = c.insert.new.self; settings = c.set.new.self }) _ read e.updates.0 (sym c.in-Ok-true.field-0-test ∙ e.added) (sym c.own_fault.ensures ∙ c.in_default.is) c.set.ensures
