use Rattle.std.proofs.Common.{arith}
use Rattle.qh_roles.proofs.StepLaws.{finish_writes, unfinished_writes}
use Rattle.qh_roles.proofs.outgoing.Outgoing.end.Goals as goal

pub returns-in-Ok-clause-writes : goal.returns-in-Ok-clause-writes
returns-in-Ok-clause-writes g c = rw (← c.self.view_is) (λ start before t f w.
    finish_writes start before (record { stream = c.self.inside.stream.0; bytes = c.self.inside.bytes.items; taken = c.self.inside.taken }) c.finish.new.connection t
    (omega (arith, c.len.ensures, c.if-self-len.false)) (c.in-Ok.ensures.follows start before t f) w)

pub returns-in-Err-clause-writes : goal.returns-in-Err-clause-writes
returns-in-Err-clause-writes g c = rw (← c.self.view_is) (λ start before t f w.
    unfinished_writes start before (record { stream = c.self.inside.stream.0; bytes = c.self.inside.bytes.items; taken = c.self.inside.taken }) c.finish.new.connection t
    (c.in-Err.ensures.follows start before t f) w)
