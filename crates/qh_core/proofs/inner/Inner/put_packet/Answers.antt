use Rattle.std.proofs.Common.{arith, sym, ◌∙◌}
use Rattle.qh_core.proofs.DatagramMade.{packet_kept, packet_put}
use Rattle.qh_core.proofs.inner.Inner.put_packet.Goals as goal

pub returns-clause-some : goal.returns-clause-some
returns-clause-some g c = λ some.
    packet_put c.args.now c.args.self.now c.restart_idle.new.self c.write_packet.new.self c.args.out.now.items c.write_packet.new.out.items _ c.args.room c.len-were_out.result c.requires.room (omega arith) c.len-were_out.ensures c.restart_idle.ensures
    c.in_ok-number.number c.requires.open c.in_ok-number.ensures.some (sym c.is_some.ensures ∙ some)

pub returns-clause-connection : goal.returns-clause-connection
returns-clause-connection g c =
    packet_kept c.args.now c.args.self.now c.restart_idle.new.self c.write_packet.new.self c.args.out.now.items c.write_packet.new.out.items _ c.args.room c.len-were_out.result c.requires.room (omega arith) c.len-were_out.ensures c.restart_idle.ensures
    c.in_ok-number.number c.requires.whole c.requires.open c.in_ok-number.ensures.some (λ none. (c.in_ok-number.ensures.none none).1) c.in_ok-number.ensures.space
