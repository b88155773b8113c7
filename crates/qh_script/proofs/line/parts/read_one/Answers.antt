use Rattle.qh_spec.specs.ScriptLine.{one}
use Rattle.qh_script.proofs.line.parts.read_one.Goals as goal

pub returns : goal.returns
returns c = let n = c.in_ok-number.ensures in one c.in_ok-number.number n.0.0 n.1 n.2
