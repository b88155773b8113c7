use Rattle.std.proofs.Common.{sym}
use Rattle.qh_halves.proofs.PendingSeats.{first_is}
use Rattle.qh_halves.proofs.pending.PendingStreamsQueue.first.Goals as goal

pub returns : goal.returns
returns c = rw (sym c.self.view_is) (first_is c.self.inside.seats.entries c.self.inside.ids c.self.inside.tree c.self.invariant c.first.result c.first.ensures)
