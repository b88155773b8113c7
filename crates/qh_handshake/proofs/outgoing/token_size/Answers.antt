use Rattle.std.proofs.Common.{arith}
use Rattle.qh_frame.proofs.FramesWritten.{varint_short}
use Rattle.qh_handshake.proofs.outgoing.token_size.Goals as goal

pub overflow_add-result : goal.overflow_add-result
overflow_add-result c = omega (arith, c.size.ensures, varint_short c.from_u32.result, c.requires)

pub returns-clause-short : goal.returns-clause-short
returns-clause-short c = omega (arith, c.size.ensures, varint_short c.from_u32.result, c.requires)
