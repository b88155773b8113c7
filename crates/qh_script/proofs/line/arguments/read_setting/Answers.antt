use Rattle.std.proofs.Common.{refl}
use Rattle.qh_spec.specs.ScriptLine as says
use Rattle.qh_spec.specs.ScriptLine.{set}
use Rattle.qh_script.proofs.Arguments.{no_setting}
use Rattle.qh_script.proofs.line.arguments.read_setting.Goals as goal

pub returns-in_err-number : goal.returns-in_err-number
returns-in_err-number c =
    rw (c.from_residual.ensures) (no_setting c.args.setting c.args.text.now (rw (c.number_end.ensures) at c.in_err-number.ensures))

pub returns : goal.returns
returns c =
    let n = c.in_ok-number.ensures in
    record {
      meant = says.Set c.args.setting c.in_ok-number.number;
      is = refl;
      only = λ l e. rw e (set c.args.setting c.in_ok-number.number refl n.0.0 (rw (c.number_end.ensures) at n.1));
    }
