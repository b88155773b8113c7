use Rattle.std.proofs.Common.{refl}
use Rattle.qh_spec.specs.declared.link.Upset.TheVariants as does
use Rattle.qh_spec.specs.ScriptLine.{fail}
use Rattle.qh_script.proofs.Upsets.{no_fail_upset}
use Rattle.qh_script.proofs.line.upsets.read_fail.Goals as goal

pub returns-in_err-number : goal.returns-in_err-number
returns-in_err-number c = rw (c.from_residual.ensures) (no_fail_upset c.args.text.now c.in_err-number.ensures)

pub returns : goal.returns
returns c =
    let n = c.in_ok-number.ensures in
    record {
      meant = does.Fail c.in_ok-number.number;
      is = refl;
      only = λ u e. rw e (fail c.in_ok-number.number refl n.0.0 n.1 n.2);
    }
