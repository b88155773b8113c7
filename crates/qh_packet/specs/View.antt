-- The code's packets without where they lie in memory.
use Rattle.qh_packet.specs.declared.packet.ShortPacket.{ShortPacket}
use Rattle.qh_spec.specs.Packet.{ShortPacket as PlainPacket}

abbrev pub packet_of : ShortPacket → PlainPacket
packet_of p = record { destination = p.destination.now; number = p.number.now; frames = p.frames.now; tag = p.tag.now }
