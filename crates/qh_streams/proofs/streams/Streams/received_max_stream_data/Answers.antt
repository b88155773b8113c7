use Rattle.std.proofs.Common.{refl, sym, ◌∙◌}
use Rattle.qh_streams.proofs.StreamsKept.{send_kept, send_out}
use Rattle.qh_streams.proofs.StreamsSettled.{seen, stepped}
use Rattle.qh_streams.proofs.StreamsReceived.{at_ok, is_limit_received}
use Rattle.qh_streams.proofs.streams.Streams.received_max_stream_data.Goals as goal

pub invariant_of-self : goal.invariant_of-self
invariant_of-self c = send_kept c.self.invariant (stepped c.received_max_stream_data.ensures.value) refl

pub returns-clause-ok : goal.returns-clause-ok
returns-clause-ok c =
    let noted = rw (← c.self.view_is) at (at_ok c.note_unblocked.result (sym c.is_err.ensures.value ∙ c.if-is_err.false) c.note_unblocked.ensures.ok) in
    is_limit_received c.args.self.now c.arrive.new.self (seen c.self.inside) c.received_max_stream_data.new.self c.args.id c.args.limit c.in_ok-arrived.ensures.ok noted.0 noted.1
    c.received_max_stream_data.ensures.value

pub returns-clause-keeps_out : goal.returns-clause-keeps_out
returns-clause-keeps_out c f out =
    let s = seen c.self.inside in
    send_out s (record s { send = c.received_max_stream_data.new.self }) c.received_max_stream_data.ensures.spans refl f
    (rw (← c.self.view_is) at (c.note_unblocked.ensures.keeps_out f (c.in_ok-arrived.ensures.keeps_out f out)))
