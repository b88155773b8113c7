use Rattle.qh_core.proofs.Turned.{heard_taken, heard_whole}
use Rattle.qh_core.proofs.inner.Inner.take_closed.Goals as goal

pub returns-clause-taken : goal.returns-clause-taken
returns-clause-taken g c = λ now.
    heard_taken (g.S.Session.accepts c.args.self.now.session) now c.args.datagram.now c.args.self.now c.hear_closed.new.self c.brings_close-brings_close.result
    c.brings_close-brings_close.ensures.yes c.brings_close-brings_close.ensures.no c.hear_closed.ensures

pub returns-clause-connection : goal.returns-clause-connection
returns-clause-connection g c = heard_whole c.brings_close-brings_close.result c.args.self.now c.hear_closed.new.self c.requires.whole c.hear_closed.ensures
