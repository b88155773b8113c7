use Rattle.std.proofs.Common.{refl}
use Rattle.qh_streams.proofs.StreamsKept.{recv_kept, recv_step, recv_stays_out, recv_closed}
use Rattle.qh_streams.proofs.streams.Streams.stop.Goals as goal

pub invariant_of-self-2 : goal.invariant_of-self-2
invariant_of-self-2 c = recv_kept c.self.invariant (recv_step c.in_ok-stop.ensures.ok) refl

pub returns-clause-ok : goal.returns-clause-ok
returns-clause-ok c =
    let live = rw (← c.self.view_is) at c.is_live-was_live.ensures in
    rw (← c.self.view_is)
    (rw c.count_closed.ensures.halves.1 c.in_ok-stop.ensures.ok, recv_closed c.self.invariant c.stop.new.self c.args.id.0 c.is_live-was_live.result _ c.count_closed.ensures.value c.count_closed.ensures.halves.1 live)

pub returns-clause-keeps_out : goal.returns-clause-keeps_out
returns-clause-keeps_out c = λ f out. c.count_closed.ensures.keeps_out f (recv_stays_out c.self.invariant c.stop.new.self f (rw (← c.self.view_is) at out))
