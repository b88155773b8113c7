use Rattle.std.proofs.Common.{rules}
use Rattle.qh_script.proofs.Hex.{no_hex, hex_more}
use Rattle.qh_script.proofs.line.hex.is_hex.Goals as goal

pub returns-in_default : goal.returns-in_default
returns-in_default c =
    (λ t. absurd cc, λ h. absurd (no_hex c.args.text.now c.loop-rest.rest.now c.loop-rest.invariant.0 (search rules) c.loop-rest.invariant.1 c.in_default.ensures h.0 h.1))

pub loop-rest-preserved : goal.loop-rest-preserved
loop-rest-preserved c =
    let p = c.loop-rest.invariant in
    (_, hex_more c.args.text.now c.loop-rest.rest.now p.0 _ p.1 c.in-Some.ensures)
