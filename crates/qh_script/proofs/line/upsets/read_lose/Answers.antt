use Rattle.std.proofs.Common.{refl}
use Rattle.qh_spec.specs.declared.link.Upset.TheVariants as does
use Rattle.qh_spec.specs.ScriptLine.{lose}
use Rattle.qh_script.proofs.Upsets.{no_lose_upset}
use Rattle.qh_script.proofs.line.upsets.read_lose.Goals as goal

pub returns-in_err-which : goal.returns-in_err-which
returns-in_err-which c = rw (c.from_residual.ensures) (no_lose_upset c.args.text.now c.in_err-which.ensures)

pub returns : goal.returns
returns c =
    record {
      meant = does.Lose c.in_ok-which.which;
      is = refl;
      only = λ u e. rw e (lose c.in_ok-which.which refl c.in_ok-which.ensures);
    }
