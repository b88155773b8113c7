use Rattle.std.proofs.Common.{refl, inl}
use Rattle.qh_recovery.proofs.sent_packets.SentPackets.take_lost.Goals as goal

pub returns-in_err-number-clause-none : goal.returns-in_err-number-clause-none
returns-in_err-number-clause-none g c e = (c.in_err-number.ensures.none refl, refl)

pub returns-in_err-number-clause-near : goal.returns-in_err-number-clause-near
returns-in_err-number-clause-near g c e = λ k q there far. c.in_err-number.ensures.none refl k q there (inl far)
