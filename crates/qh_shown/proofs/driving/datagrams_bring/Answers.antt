use Rattle.qh_shown.proofs.Datagrams.{datagram_brings}
use Rattle.qh_shown.proofs.driving.datagrams_bring.Goals as goal

pub returns : goal.returns
returns g c = λ v now datagram old new was is logging handled. datagram_brings c.books_show.ensures v now datagram old new was logging handled
