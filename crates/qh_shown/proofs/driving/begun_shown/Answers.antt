use Rattle.qh_shown.proofs.Begins.{begun_on, handshake_brings, logged_on, new_begun, new_logged}
use Rattle.qh_shown.proofs.driving.begun_shown.Goals as goal

pub returns-clause-new : goal.returns-clause-new
returns-clause-new g c = λ config side session local_id remote_id addresses now k first config_is unconnected due early unread control. new_begun c.books_show.ensures config side session local_id remote_id addresses now k first config_is due early control

pub returns-clause-brings : goal.returns-clause-brings
returns-clause-brings g c = begun_on c.books_show.ensures

pub returns-clause-started : goal.returns-clause-started
returns-clause-started g c = λ config side session local_id remote_id addresses now k first config_is unconnected due early unread control. new_logged c.books_show.ensures config side session local_id remote_id addresses now k first config_is due early unread control

pub returns-clause-logged : goal.returns-clause-logged
returns-clause-logged g c = logged_on c.books_show.ensures

pub returns-clause-handshake : goal.returns-clause-handshake
returns-clause-handshake g c = handshake_brings c.books_show.ensures
