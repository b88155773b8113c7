use Rattle.qh_quinn.proofs.Payloads.{read_fits}
use Rattle.qh_quinn.proofs.inner.StateInner.payload_room.Goals as goal

pub returns-in-Read-clause-enough : goal.returns-in-Read-clause-enough
returns-in-Read-clause-enough g c = λ r new made. read_fits c.args.self.now new c.in-Read.id c.in-Read.max_length c.longest.result c.in-Read.is_ordered r c.longest.ensures.enough (rw c.in-Read.is at made)
