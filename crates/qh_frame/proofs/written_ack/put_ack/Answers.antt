use Rattle.qh_frame.proofs.AcksWritten.{ack_covers}
use Rattle.qh_frame.proofs.written_ack.put_ack.Goals as goal

pub returns-clause-covers : goal.returns-clause-covers
returns-clause-covers c = λ n. ack_covers c.args.delay n c.args.ranges.now c.requires
