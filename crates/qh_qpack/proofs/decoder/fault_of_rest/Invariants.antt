use Rattle.std.proofs.Common.{length}
use Rattle.qh_qpack.proofs.SectionsRead.{ReadsOn}
use Rattle.qh_qpack.proofs.decoder.fault_of_rest.Given as goal

abbrev pub invariant-loop-rest : goal.invariant-loop-rest
invariant-loop-rest l = ReadsOn l.max_size l.bytes l.read l.rest l.size

abbrev pub decreases-loop-rest : goal.decreases-loop-rest
decreases-loop-rest l = length l.rest
