use Rattle.std.proofs.Common.{rules}
use Rattle.qh_datagrams.proofs.Rooms.{newest-push}
use Rattle.qh_datagrams.proofs.datagrams.DatagramState.received.Goals as goal

pub returns-clause-ok : goal.returns-clause-ok
returns-clause-ok c = rw (newest-push c.args.most c.args.self.now.incoming c.args.payload c.requires) (search rules)
