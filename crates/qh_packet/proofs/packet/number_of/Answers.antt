use Rattle.std.proofs.Common.{arith}
use Rattle.qh_packet.proofs.Packets.{read_small}
use Rattle.qh_packet.proofs.packet.number_of.Goals as goal

pub returns-clause-bound : goal.returns-clause-bound
returns-clause-bound c =
    read_small c.args.bytes.now c.loop-byte.byte-index c.loop-byte.number c.requires c.loop-byte-test.false c.loop-byte.invariant.0
    (λ i. omega (arith, c.type_inv.bytes i))
