use Rattle.std.proofs.Common.{◌<◌, length, rules}
use Rattle.qh_script.proofs.Upsets.{not_forgeable_empty, not_forgeable_long, forgeable, has_bytes}
use Rattle.qh_script.proofs.line.upsets.is_forgeable.Goals as goal

pub returns-then-is_empty : goal.returns-then-is_empty
returns-then-is_empty c = (λ t. absurd cc, λ h. absurd (not_forgeable_empty c.args.hex.now (search rules) h))

pub returns-then-hex : goal.returns-then-hex
returns-then-hex c = (λ t. absurd cc, λ h. absurd (not_forgeable_long c.args.hex.now (search rules) h))

pub returns : goal.returns
returns c =
    let some : 0 < length c.args.hex.now = search rules in
    (λ t. forgeable c.args.hex.now some (search rules) (c.is_hex.ensures.0 t), λ h. c.is_hex.ensures.1 (has_bytes c.args.hex.now h))
