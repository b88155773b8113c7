use Rattle.std.proofs.Common.{refl, arith}
use Rattle.qh_spec.specs.ScriptLine as says
use Rattle.qh_spec.specs.ScriptLine.{fill}
use Rattle.qh_script.proofs.Arguments.{no_fill}
use Rattle.qh_script.proofs.line.arguments.read_fill.Goals as goal

pub returns-in_err-len : goal.returns-in_err-len
returns-in_err-len c = rw (c.from_residual.ensures) (no_fill c.args.text.now c.in_err-len.ensures)

pub returns : goal.returns
returns c =
    let n = c.in_ok-len.ensures in
    record {
      meant = says.Fill c.in_ok-len.len;
      is = refl;
      only = λ l e. rw e (fill c.in_ok-len.len refl n.0.0 (omega (arith, n.1)));
    }
