use Rattle.std.proofs.Common.{length, ap, arith}
use Rattle.qh_h3wire.proofs.Growing.{at_ok}
use Rattle.qh_h3wire.proofs.SettingsWritten.{settings_short}
use Rattle.qh_h3wire.specs.SettingsValue.{plain_of}
use Rattle.qh_h3wire.proofs.settings.Settings.encode.Goals as goal

pub returns-clause-short : goal.returns-clause-short
returns-clause-short c = at_ok _ (settings_short (plain_of c.args.self.now) c.requires (let same = ap length c.as_slice.ensures.value in let fits = c.as_slice.ensures.fits in omega arith))
