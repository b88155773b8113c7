use Rattle.std.proofs.Common.{sym, arith}
use Rattle.qh_recovery.proofs.SentLists.{taken_bytes, taken_frames}
use Rattle.qh_recovery.proofs.sent_packets.SentPackets.take.Goals as goal

pub overflow_sub-self : goal.overflow_sub-self
overflow_sub-self g c =
    let sum = taken_bytes c.self.inside.packets.entries c.args.number c.in_ok-packet.packet (sym c.in_ok-packet.ensures.value) in
    omega (arith, sum, c.self.invariant.0)

pub overflow_sub-self-2 : goal.overflow_sub-self-2
overflow_sub-self-2 g c =
    let count = taken_frames c.self.inside.packets.entries c.args.number c.in_ok-packet.packet (sym c.in_ok-packet.ensures.value) in
    omega (arith, count, c.self.invariant.1, c.len.ensures, c.in_ok-packet.packet.frames.ok.0)

pub invariant_of-self-2 : goal.invariant_of-self-2
invariant_of-self-2 g c =
    let sum = taken_bytes c.self.inside.packets.entries c.args.number c.in_ok-packet.packet (sym c.in_ok-packet.ensures.value) in
    let count = taken_frames c.self.inside.packets.entries c.args.number c.in_ok-packet.packet (sym c.in_ok-packet.ensures.value) in
    rw c.remove.ensures.entries (omega (arith, sum, c.self.invariant.0), omega (arith, count, c.self.invariant.1, c.len.ensures, c.in_ok-packet.packet.frames.ok.0))
