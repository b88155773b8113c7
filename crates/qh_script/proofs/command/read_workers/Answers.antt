use Rattle.qh_spec.specs.Words.{workers}
use Rattle.qh_script.proofs.Decimals.{two_words}
use Rattle.qh_script.proofs.command.read_workers.Goals as goal

pub returns-in_ok-read_count-in-workers : goal.returns-in_ok-read_count-in-workers
returns-in_ok-read_count-in-workers c =
    let k = c.in_ok-read_count-in-workers.ensures in
    workers c.in_ok-read_count-in-workers.field-0 (two_words _ _ _ _ c.in-workers.is k.0.0) k.1 k.2
