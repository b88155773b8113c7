use Rattle.std.proofs.Common.{arith}
use Rattle.qh_frame.proofs.FramesWritten.{varint_short}
use Rattle.qh_packet.proofs.initial.length_size.Goals as goal

pub returns-clause-bound : goal.returns-clause-bound
returns-clause-bound c = omega (arith, c.size.ensures, varint_short c.from_u32.result)
