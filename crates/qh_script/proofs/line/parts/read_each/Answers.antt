use Rattle.std.proofs.Common.{◌≡◌, codes, refl, rules}
use Rattle.qh_spec.specs.ScriptLine.{each}
use Rattle.qh_script.proofs.line.parts.read_each.Goals as goal

pub returns : goal.returns
returns c =
    let n = c.in_ok-number.ensures in
    let w : c.args.word.now ≡ codes "each" = search rules in
    each c.in_ok-number.number (rw (w, n.0.0) refl) n.1 n.2
