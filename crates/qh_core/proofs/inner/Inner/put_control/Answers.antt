use Rattle.std.proofs.Common.{arith}
use Rattle.qh_core.proofs.ControlMade.{control_kept, control_put}
use Rattle.qh_core.proofs.inner.Inner.put_control.Goals as goal

pub returns-clause-some : goal.returns-clause-some
returns-clause-some g c = λ some.
    let open_now = c.requires.open in
    control_put c.args.now c.args.self.now c.restart_idle.new.self c.on_packet_sent.new.self _ c.len-were_out.result c.len-were_out.ensures c.in_ok-on_packet_sent.ensures.ok c.restart_idle.ensures
    c.args.frames.now c.args.out.now.items c.put_control.new.out.items c.args.room c.in_ok-count.count c.requires.room c.requires.wide c.in_ok-count.ensures.count some c.in_ok-count.ensures.put c.requires.frames c.in_ok-count.ensures.read_back
    (omega (arith)) open_now.0 open_now.1 open_now.2 c.requires.number

pub returns-clause-connection : goal.returns-clause-connection
returns-clause-connection g c =
    control_kept c.args.now c.args.self.now c.restart_idle.new.self c.on_packet_sent.new.self _ c.len-were_out.result c.len-were_out.ensures c.in_ok-on_packet_sent.ensures.ok c.restart_idle.ensures
    c.requires.whole c.requires.open.0 c.in_ok-on_packet_sent.ensures.space
