use Rattle.std.proofs.Common.{◌≡◌, codes, refl, rules}
use Rattle.qh_spec.specs.ScriptLine as says
use Rattle.qh_spec.specs.ScriptLine.{retry}
use Rattle.qh_script.proofs.Arguments.{no_retry}
use Rattle.qh_script.proofs.line.arguments.read_retry.Goals as goal

pub returns-then-eq : goal.returns-then-eq
returns-then-eq c =
    let same : c.args.text.now ≡ codes "on" = search rules in
    record { meant = says.RetryOn; is = refl; only = λ l e. rw e (retry refl same) }

pub returns-else-eq : goal.returns-else-eq
returns-else-eq c = no_retry c.args.text.now (search rules)
