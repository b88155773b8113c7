use Rattle.std.proofs.Common.{arith}
use Rattle.qh_h3wire.proofs.SettingsFrames.{settings_whole, settings_refused}
use Rattle.qh_h3wire.proofs.frame.read_settings.Goals as goal

pub returns-in-Ok : goal.returns-in-Ok
returns-in-Ok c = settings_whole c.args.payload.now c.in-Ok.settings c.in-Ok.ensures

pub returns-in-Err : goal.returns-in-Err
returns-in-Err c = rw c.from.ensures (settings_refused c.args.payload.now c.in-Err.error (λ i. omega (arith, c.type_inv.payload i)) c.in-Err.ensures)
