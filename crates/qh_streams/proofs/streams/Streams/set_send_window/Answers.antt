use Rattle.std.proofs.Common.{refl, ap}
use Rattle.qh_halves.specs.SendHalves.{PlainSendHalves}
use Rattle.qh_streams.proofs.StreamsKept.{send_kept, send_halves_same}
use Rattle.qh_streams.proofs.streams.Streams.set_send_window.Goals as goal

pub invariant_of-self : goal.invariant_of-self
invariant_of-self c = send_kept c.self.invariant (send_halves_same (ap (λ (s : PlainSendHalves). s.halves) c.set_send_window.ensures)) refl
