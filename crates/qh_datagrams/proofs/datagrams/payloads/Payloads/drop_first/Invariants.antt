use Rattle.std.proofs.Common.{◌≡◌, drop}
use Rattle.qh_datagrams.proofs.datagrams.payloads.Payloads.drop_first.Given as goal

abbrev pub invariant-loop : goal.invariant-loop
invariant-loop l = l.self ≡ drop l.counter l.fn.self
