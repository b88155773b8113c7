use Rattle.std.proofs.Common.{◌≡◌, codes, refl, rules}
use Rattle.qh_spec.specs.ScriptLine as says
use Rattle.qh_spec.specs.ScriptLine.{grease}
use Rattle.qh_script.proofs.Arguments.{no_grease}
use Rattle.qh_script.proofs.line.arguments.read_grease.Goals as goal

pub returns-then-eq : goal.returns-then-eq
returns-then-eq c =
    let same : c.args.text.now ≡ codes "off" = search rules in
    record { meant = says.GreaseOff; is = refl; only = λ l e. rw e (grease refl same) }

pub returns-else-eq : goal.returns-else-eq
returns-else-eq c = no_grease c.args.text.now (search rules)
