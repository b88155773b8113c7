use Rattle.std.proofs.Common.{sym}
use Rattle.qh_buffers.proofs.Segments.{length-held}
use Rattle.qh_buffers.proofs.send_buffer.SendBuffer.offset.Goals as goal

pub returns : goal.returns
returns c = rw (← c.self.view_is) (sym (length-held c.self.inside.segments.items c.self.inside.start c.self.inside.end c.self.invariant.joined))
