use Rattle.std.proofs.Common.{sym, refl}
use Rattle.qh_recovery.proofs.SentLists.{last_is}
use Rattle.qh_recovery.proofs.sent_packets.SentPackets.last_sent.Goals as goal

pub returns : goal.returns
returns g c =
    let said = c.in_ok-packet.ensures in
    rw (sym c.self.view_is) (record {
      number = c.in_ok-packet.field-0-0.now;
      packet = c.in_ok-packet.packet.now;
      is_last = last_is c.self.inside.packets.entries c.in_ok-packet.field-0-0.now c.in_ok-packet.packet.now said.value said.greatest;
      is_then = refl;
    })
