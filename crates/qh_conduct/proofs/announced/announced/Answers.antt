use Rattle.qh_conduct.proofs.AnnouncedMeans.{is_readable, sends_as_announced}
use Rattle.qh_conduct.proofs.DatagramsKept.{made_stands}
use Rattle.qh_conduct.proofs.AnnouncedCalls.{called, event_stands, none_sent, polled, timed_out, told_drained}
use Rattle.qh_conduct.proofs.AnnouncedFirst.{failed_announced, first_announced}
use Rattle.qh_conduct.proofs.announced.announced.Goals as goal

pub returns-clause-fresh : goal.returns-clause-fresh
returns-clause-fresh g c = first_announced

pub returns-clause-failed : goal.returns-clause-failed
returns-clause-failed g c = failed_announced

pub returns-clause-event : goal.returns-clause-event
returns-clause-event g c = event_stands

pub returns-clause-none : goal.returns-clause-none
returns-clause-none g c = none_sent

pub returns-clause-timeout : goal.returns-clause-timeout
returns-clause-timeout g c = timed_out

pub returns-clause-called : goal.returns-clause-called
returns-clause-called g c = called

pub returns-clause-polled : goal.returns-clause-polled
returns-clause-polled g c = polled

pub returns-clause-drained : goal.returns-clause-drained
returns-clause-drained g c = told_drained

pub returns-clause-made : goal.returns-clause-made
returns-clause-made g c = made_stands

pub returns-clause-means : goal.returns-clause-means
returns-clause-means g c = sends_as_announced

pub returns-clause-readable : goal.returns-clause-readable
returns-clause-readable g c = is_readable
