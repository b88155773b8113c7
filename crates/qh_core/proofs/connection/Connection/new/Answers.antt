use Rattle.std.proofs.Common.{sym, ap, ◌∙◌}
use Rattle.qh_core.proofs.Following.{first_follows}
use Rattle.qh_core.proofs.connection.Connection.new.Goals as goal

pub returns-clause-follows : goal.returns-clause-follows
returns-clause-follows g c = first_follows c.new.result _ (c.new.ensures.space.datagrams ∙ ap (λ i. i.config.datagram_receive) (sym c.new.ensures.value)) c.new.ensures.space.no_half c.new.ensures.unused c.new.ensures.received c.new.ensures.connection
