use Rattle.qh_spec.proofs.LineLaws.{line_one}
use Rattle.qh_spec.proofs.laws.scripts.lines.Goals as goal

pub returns : goal.returns
returns c = record { one_line = line_one }
