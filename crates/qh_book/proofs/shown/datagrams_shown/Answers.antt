use Rattle.qh_book.proofs.ShownDatagrams.{datagram_came, datagram_pushed, datagram_queued, datagram_read, datagrams_bounded, datagrams_emptied, datagrams_first, datagrams_sent}
use Rattle.qh_book.proofs.shown.datagrams_shown.Goals as goal

pub returns-clause-first : goal.returns-clause-first
returns-clause-first g c = datagrams_first

pub returns-clause-came : goal.returns-clause-came
returns-clause-came g c = datagram_came

pub returns-clause-sent : goal.returns-clause-sent
returns-clause-sent g c = datagrams_sent

pub returns-clause-bounded : goal.returns-clause-bounded
returns-clause-bounded g c = datagrams_bounded

pub returns-clause-emptied : goal.returns-clause-emptied
returns-clause-emptied g c = datagrams_emptied

pub returns-clause-read : goal.returns-clause-read
returns-clause-read g c = datagram_read _

pub returns-clause-queued : goal.returns-clause-queued
returns-clause-queued g c = datagram_queued _

pub returns-clause-pushed : goal.returns-clause-pushed
returns-clause-pushed g c = datagram_pushed _
