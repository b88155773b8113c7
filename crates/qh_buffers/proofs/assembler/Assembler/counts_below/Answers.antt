use Rattle.qh_buffers.proofs.RangeCounts.{count_bound}
use Rattle.qh_buffers.proofs.assembler.Assembler.counts_below.Goals as goal

pub returns : goal.returns
returns c = rw (← c.self.view_is) (count_bound c.self.inside.given c.args.end c.self.invariant.apart (rw (← c.self.view_is) at c.requires))
