use Rattle.std.proofs.Common.{refl}
use Rattle.qh_streams.proofs.StreamsKept.{by_result, recv_kept, recv_step, recv_same}
use Rattle.qh_streams.proofs.streams.Streams.begin_read.Goals as goal

pub invariant_of-self : goal.invariant_of-self
invariant_of-self c = recv_kept c.self.invariant (by_result c.begin_read.result (λ _ e. recv_step (rw e at c.begin_read.ensures.ok).1) (λ _ e. recv_same (rw e at c.begin_read.ensures.fault).1)) refl
