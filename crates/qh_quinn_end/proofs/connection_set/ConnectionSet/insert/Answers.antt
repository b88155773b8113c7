use Rattle.std.proofs.Common.{arith, ap, sym}
use Rattle.qh_quinn_end.proofs.Sets.{inserts}
use Rattle.qh_quinn_end.specs.Sets.{PlainSet}
use Rattle.qh_quinn_end.proofs.connection_set.ConnectionSet.insert.Goals as goal

pub returns-clause-ok : goal.returns-clause-ok
returns-clause-ok c = inserts c.self.inside.numbers.items c.grow.new.numbers.items c.args.handle c.self.inside.count c.in-Some.number c.self.inside.events.items c.args.self.now.events (ap (λ (s : PlainSet). s.events) (sym c.self.view_is)) c.self.invariant c.grow.ensures.same (omega (arith, c.in_ok-grow.ensures.long)) (omega arith)
