use Rattle.qh_shown.proofs.Logs.{noted_logging, noted_shows, started_logging, started_shows, taken_logging, taken_shows}
use Rattle.qh_shown.proofs.driving.log_shown.Goals as goal

pub returns-clause-taken : goal.returns-clause-taken
returns-clause-taken g c = taken_shows

pub returns-clause-noted : goal.returns-clause-noted
returns-clause-noted g c = noted_shows

pub returns-clause-started : goal.returns-clause-started
returns-clause-started g c = started_shows

pub returns-clause-logging : goal.returns-clause-logging
returns-clause-logging g c = λ k. (taken_logging k, noted_logging k, started_logging k)
