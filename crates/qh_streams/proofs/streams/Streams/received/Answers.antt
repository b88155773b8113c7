use Rattle.std.proofs.Common.{refl, ap}
use Rattle.qh_halves.specs.SendHalves.{PlainSendHalves}
use Rattle.qh_streams.specs.Streams.IsReceived.{max_data}
use Rattle.qh_streams.proofs.StreamsKept.{send_kept, send_halves_same}
use Rattle.qh_streams.proofs.streams.Streams.received.Goals as goal

pub invariant_of-self : goal.invariant_of-self
invariant_of-self c = send_kept c.self.invariant (send_halves_same (ap (λ (s : PlainSendHalves). s.halves) c.received_max_data.ensures.value)) refl

pub returns-in-MaxData-clause-ok : goal.returns-in-MaxData-clause-ok
returns-in-MaxData-clause-ok c = rw (c.in-MaxData.is, ← c.self.view_is) (max_data c.in-MaxData.limit (rw c.received_max_data.ensures.value refl))
