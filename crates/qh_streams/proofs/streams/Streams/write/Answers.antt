use Rattle.std.proofs.Common.{refl}
use Rattle.qh_streams.proofs.StreamsKept.{send_kept, send_step, send_stays_out}
use Rattle.qh_streams.proofs.streams.Streams.write.Goals as goal

pub invariant_of-self : goal.invariant_of-self
invariant_of-self c = send_kept c.self.invariant (send_step c.in-Ok.ensures.ok) refl

pub returns-in-Ok-clause-keeps_out : goal.returns-in-Ok-clause-keeps_out
returns-in-Ok-clause-keeps_out c = rw (← c.self.view_is) (send_stays_out c.self.invariant c.write.new.self c.write.ensures.spans)
