use Rattle.qh_buffers.proofs.Segments.{none_held}
use Rattle.qh_buffers.proofs.send_buffer.SendBuffer.is_fully_acked.Goals as goal

pub returns : goal.returns
returns c = rw (← c.self.view_is) (none_held c.self.inside.segments.items c.self.inside.start c.self.inside.end c.self.invariant.joined)
