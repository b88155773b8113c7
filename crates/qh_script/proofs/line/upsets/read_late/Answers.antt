use Rattle.std.proofs.Common.{refl}
use Rattle.qh_spec.specs.declared.link.Upset.TheVariants as does
use Rattle.qh_spec.specs.ScriptLine.{late}
use Rattle.qh_script.proofs.Upsets.{no_late_upset}
use Rattle.qh_script.proofs.line.upsets.read_late.Goals as goal

pub returns-in_err-which : goal.returns-in_err-which
returns-in_err-which c = rw (c.from_residual.ensures) (no_late_upset c.args.text.now c.in_err-which.ensures)

pub returns : goal.returns
returns c =
    let l = c.in_ok-which.ensures in
    record {
      meant = does.Late c.in_ok-which.which c.in_ok-which.rounds;
      is = refl;
      only = λ u e. rw e (late l.select c.in_ok-which.which c.in_ok-which.rounds refl l.is l.which_is l.from l.to);
    }
