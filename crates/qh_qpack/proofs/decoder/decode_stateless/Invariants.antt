use Rattle.std.proofs.Common.{length}
use Rattle.qh_qpack.specs.SectionReading.{LinesRead}
use Rattle.qh_qpack.proofs.decoder.decode_stateless.Given as goal

abbrev pub invariant-loop-rest : goal.invariant-loop-rest
invariant-loop-rest l = LinesRead l.max_size l.bytes l.rest l.fields.items l.mem_size

abbrev pub decreases-loop-rest : goal.decreases-loop-rest
decreases-loop-rest l = length l.rest
