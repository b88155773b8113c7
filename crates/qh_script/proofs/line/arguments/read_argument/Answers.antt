use Rattle.std.proofs.Common.{refl}
use Rattle.qh_spec.specs.ScriptLine as says
use Rattle.qh_spec.specs.ScriptLine.{body}
use Rattle.qh_script.proofs.line.arguments.read_argument.Goals as goal

pub returns-in-Body : goal.returns-in-Body
returns-in-Body c =
    rw (c.in-Body.is) (record { meant = says.Body c.args.text.now; is = refl; only = λ l e. rw e (body refl) })
