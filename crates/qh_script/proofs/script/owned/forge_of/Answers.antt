use Rattle.std.proofs.Common.{refl}
use Rattle.qh_script.proofs.Upsets.{same_forged}
use Rattle.qh_script.proofs.script.owned.forge_of.Goals as goal

pub returns : goal.returns
returns c =
    let a = c.requires.1 in
    let bytes = c.in_ok-bytes.bytes in
    let is = c.in_ok-bytes.ensures in
    (bytes, same_forged c.args.hex.now c.requires.0 bytes a is, refl)
