use Rattle.std.proofs.lemmas.Slice.Eq.{bytes_eq-Decides}
use Rattle.qh_conduct.proofs.ReachConnections as law
use Rattle.qh_conduct.proofs.reaching.reached.Goals as goal

pub returns-clause-fresh : goal.returns-clause-fresh
returns-clause-fresh g c = law.fresh_law

pub returns-clause-acts : goal.returns-clause-acts
returns-clause-acts g c = law.acts_law

pub returns-clause-event : goal.returns-clause-event
returns-clause-event g c = law.event_law

pub returns-clause-failed : goal.returns-clause-failed
returns-clause-failed g c = law.failed_law

pub returns-clause-made : goal.returns-clause-made
returns-clause-made g c = law.made_law

pub returns-clause-none : goal.returns-clause-none
returns-clause-none g c = law.none_law

pub returns-clause-timeout : goal.returns-clause-timeout
returns-clause-timeout g c = law.timeout_law

pub returns-clause-polled : goal.returns-clause-polled
returns-clause-polled g c = law.polled_law

pub returns-clause-told : goal.returns-clause-told
returns-clause-told g c = law.told_law

pub returns-clause-closed : goal.returns-clause-closed
returns-clause-closed g c = law.closed_law

pub returns-clause-opened : goal.returns-clause-opened
returns-clause-opened g c = law.opened_law

pub returns-clause-accepted : goal.returns-clause-accepted
returns-clause-accepted g c = law.accepted_law

pub returns-clause-read : goal.returns-clause-read
returns-clause-read g c = law.read_law

pub returns-clause-unread : goal.returns-clause-unread
returns-clause-unread g c = law.unread_law

pub returns-clause-stopped : goal.returns-clause-stopped
returns-clause-stopped g c = law.stopped_law

pub returns-clause-told_reset : goal.returns-clause-told_reset
returns-clause-told_reset g c = law.told_reset_law

pub returns-clause-written : goal.returns-clause-written
returns-clause-written g c = law.written_law

pub returns-clause-unwritten : goal.returns-clause-unwritten
returns-clause-unwritten g c = law.unwritten_law

pub returns-clause-concurrent : goal.returns-clause-concurrent
returns-clause-concurrent g c = law.concurrent_law

pub returns-clause-window : goal.returns-clause-window
returns-clause-window g c = law.window_law

pub returns-clause-untouched : goal.returns-clause-untouched
returns-clause-untouched g c = law.untouched_law

pub returns-clause-means : goal.returns-clause-means
returns-clause-means g c = law.means_law

pub returns-clause-plain : goal.returns-clause-plain
returns-clause-plain g c = λ key_id short from space number tag bound same. record {
  key_id = key_id;
  short = short;
  bound = bound;
  is = (bytes_eq-Decides tag _).0 same;
}
