use Rattle.qh_message.proofs.Spelled.{no_section}
use Rattle.qh_message.proofs.read.lines_in.Goals as goal

pub returns-in_default : goal.returns-in_default
returns-in_default c = record { found = tt; none = λ fields is. no_section c.args.section.now c.in-Err.error fields c.in_default.not-Memory c.in-Err.ensures.refused is }
