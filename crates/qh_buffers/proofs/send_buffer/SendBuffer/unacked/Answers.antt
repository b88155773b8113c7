use Rattle.std.proofs.Common.{arith}
use Rattle.qh_buffers.proofs.Segments.{length-held, joined_order}
use Rattle.qh_buffers.proofs.send_buffer.SendBuffer.unacked.Goals as goal

pub overflow_sub-result : goal.overflow_sub-result
overflow_sub-result c = joined_order c.self.inside.segments.items c.self.inside.start c.self.inside.end c.self.invariant.joined

pub returns : goal.returns
returns c = rw (← c.self.view_is) (omega (arith, length-held c.self.inside.segments.items c.self.inside.start c.self.inside.end c.self.invariant.joined))
