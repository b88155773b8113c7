use Rattle.std.proofs.Common.{refl}
use Rattle.qh_spec.specs.ScriptLine as says
use Rattle.qh_script.proofs.script.Script.disturb.Goals as goal

pub returns : goal.returns
returns c =
    let upset = c.in_ok-upset.upset in
    (says.Disturb upset, (upset, c.in_ok-upset.ensures, refl), c.in_ok-push_upset.ensures)
