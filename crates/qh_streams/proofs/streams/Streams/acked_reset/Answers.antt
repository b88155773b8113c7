use Rattle.std.proofs.Common.{refl, ◌∙◌}
use Rattle.qh_streams.proofs.StreamsKept.{send_kept, send_settled, send_out}
use Rattle.qh_streams.proofs.StreamsSettled.{seen, is_reset_acked}
use Rattle.qh_streams.proofs.streams.Streams.acked_reset.Goals as goal

pub invariant_of-self : goal.invariant_of-self
invariant_of-self c = send_kept c.self.invariant (send_settled c.ack_reset.ensures.settled) refl

pub returns-clause-acked : goal.returns-clause-acked
returns-clause-acked c frame =
    rw (← c.self.view_is)
    (is_reset_acked (seen c.self.inside) c.count_closed.new.self c.ack_reset.new.self c.args.id frame c.ack_reset.result c.ack_reset.ensures.settled
    (c.count_closed.ensures.value ∙ rw (c.is_live-was_live.ensures, ← c.self.view_is) refl))

pub returns-clause-keeps_out : goal.returns-clause-keeps_out
returns-clause-keeps_out c f out =
    let s = seen c.self.inside in
    c.count_closed.ensures.keeps_out f (send_out s (record s { send = c.ack_reset.new.self }) c.ack_reset.ensures.spans refl f (rw (← c.self.view_is) at out))
