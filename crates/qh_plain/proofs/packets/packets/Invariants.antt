use Rattle.std.proofs.Common.{length}
use Rattle.qh_plain.proofs.PacketReads.{PacketsRead}
use Rattle.qh_plain.proofs.packets.packets.Given as goal

abbrev pub invariant-loop-form : goal.invariant-loop-form
invariant-loop-form l = PacketsRead l.id_length l.datagram l.rest l.packets.items

abbrev pub decreases-loop-form : goal.decreases-loop-form
decreases-loop-form l = length l.rest
