use Rattle.std.proofs.Common.{◌≡◌, refl, subst, sym, true}
use Rattle.qh_streams.specs.Streams.{PlainStreams, is_live}
use Rattle.qh_streams.proofs.StreamsKept.{readable_live, recv_kept, recv_read, recv_stays_out, recv_unread}
use Rattle.qh_streams.proofs.streams.Streams.read.Goals as goal

pub invariant_of-self : goal.invariant_of-self
invariant_of-self c = recv_kept c.self.invariant (recv_read c.read-result.ensures.answer) refl

pub returns-clause-answer : goal.returns-clause-answer
returns-clause-answer c = rw (c.count_closed.ensures.halves.1, ← c.self.view_is) c.read-result.ensures.answer

pub returns-clause-memory : goal.returns-clause-memory
returns-clause-memory c = λ wanting.
    let live = subst (λ (s : PlainStreams). true ≡ is_live s c.args.id.0) (sym c.self.view_is) (readable_live c.args.self.now c.args.id.0 c.args.ordered c.requires) in
    rw (← c.self.view_is) (recv_unread c.read-result.new.self c.args.id.0 true c.count_closed.ensures.value (c.read-result.ensures.memory wanting) live)

pub returns-clause-lacks : goal.returns-clause-lacks
returns-clause-lacks c = rw (← c.self.view_is) c.read-result.ensures.lacks

pub returns-clause-keeps_out : goal.returns-clause-keeps_out
returns-clause-keeps_out c = λ f out. c.count_closed.ensures.keeps_out f (recv_stays_out c.self.invariant c.read-result.new.self f (rw (← c.self.view_is) at out))
