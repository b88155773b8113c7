use Rattle.qh_book.proofs.ShownKept.{change_same, datagram_step_same, datagrams_kept, items_change, kept_cloned, kept_closed, kept_connected, kept_handle, kept_lost, kept_registered, kept_settled, other_datagrams, setting_change, stream_step_same, streams_kept}
use Rattle.qh_book.proofs.shown.kept_shown.Goals as goal

pub returns-clause-streams : goal.returns-clause-streams
returns-clause-streams g c = λ s notes b c. streams_kept s b c

pub returns-clause-datagrams : goal.returns-clause-datagrams
returns-clause-datagrams g c = datagrams_kept

pub returns-clause-registered : goal.returns-clause-registered
returns-clause-registered g c = kept_registered

pub returns-clause-settled : goal.returns-clause-settled
returns-clause-settled g c = kept_settled

pub returns-clause-cloned : goal.returns-clause-cloned
returns-clause-cloned g c = kept_cloned

pub returns-clause-ended : goal.returns-clause-ended
returns-clause-ended g c = kept_handle

pub returns-clause-closed : goal.returns-clause-closed
returns-clause-closed g c = kept_closed

pub returns-clause-lost : goal.returns-clause-lost
returns-clause-lost g c = kept_lost

pub returns-clause-connected : goal.returns-clause-connected
returns-clause-connected g c = kept_connected

pub returns-clause-came : goal.returns-clause-came
returns-clause-came g c = λ payload b. other_datagrams b _ _ _

pub returns-clause-sent : goal.returns-clause-sent
returns-clause-sent g c = λ count b. other_datagrams b _ _ _

pub returns-clause-bounded : goal.returns-clause-bounded
returns-clause-bounded g c = λ most b. other_datagrams b _ _ _

pub returns-clause-items : goal.returns-clause-items
returns-clause-items g c = items_change

pub returns-clause-set : goal.returns-clause-set
returns-clause-set g c = setting_change

pub returns-clause-changed : goal.returns-clause-changed
returns-clause-changed g c = change_same

pub returns-clause-read : goal.returns-clause-read
returns-clause-read g c = datagram_step_same

pub returns-clause-written : goal.returns-clause-written
returns-clause-written g c = stream_step_same
