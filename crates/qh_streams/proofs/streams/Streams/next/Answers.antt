use Rattle.std.proofs.Common.{refl}
use Rattle.qh_streams.proofs.StreamsKept.{recv_kept, recv_step, recv_stays_out}
use Rattle.qh_streams.proofs.streams.Streams.next.Goals as goal

pub invariant_of-self : goal.invariant_of-self
invariant_of-self c = recv_kept c.self.invariant (recv_step c.next-result.ensures.answer) refl

pub returns-clause-answer : goal.returns-clause-answer
returns-clause-answer c = rw (c.count_closed.ensures.halves.1, ← c.self.view_is) c.next-result.ensures.answer

pub returns-clause-lacks : goal.returns-clause-lacks
returns-clause-lacks c = rw (← c.self.view_is) c.next-result.ensures.lacks

pub returns-clause-keeps_out : goal.returns-clause-keeps_out
returns-clause-keeps_out c = λ f out. c.count_closed.ensures.keeps_out f (recv_stays_out c.self.invariant c.next-result.new.self f (rw (← c.self.view_is) at out))
