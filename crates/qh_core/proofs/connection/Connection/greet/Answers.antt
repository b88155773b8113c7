use Rattle.qh_core.proofs.Following.{first_follows}
use Rattle.qh_core.proofs.connection.Connection.greet.Goals as goal

pub returns-clause-follows : goal.returns-clause-follows
returns-clause-follows g c = first_follows c.greet.new.self _ c.greet.ensures.space.datagrams c.greet.ensures.space.no_half c.greet.ensures.unused c.greet.ensures.received c.greet.ensures.connection
