use Rattle.std.proofs.Common.{refl}
use Rattle.qh_streams.proofs.StreamsKept.{by_result, send_kept, send_step, send_same}
use Rattle.qh_streams.proofs.streams.Streams.finish.Goals as goal

pub invariant_of-self : goal.invariant_of-self
invariant_of-self c = send_kept c.self.invariant (by_result c.finish.result (λ _ e. send_step (rw e at c.finish.ensures.ok)) (λ _ e. send_same (rw e at c.finish.ensures.fault).1)) refl
