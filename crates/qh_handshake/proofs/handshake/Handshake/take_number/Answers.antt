use Rattle.std.proofs.Common.{Option, sym, ap}
use Rattle.qh_handshake.specs.Outgoing.IsCloseKept.{exhausted}
use Rattle.qh_handshake.specs.declared.initial_space.InitialSpace.{InitialSpace}
use Rattle.qh_handshake.proofs.handshake.Handshake.take_number.Goals as goal

pub returns-then-number-eq-PACKET_NUMBERS-clause-none : goal.returns-then-number-eq-PACKET_NUMBERS-clause-none
returns-then-number-eq-PACKET_NUMBERS-clause-none c = λ _. (
  ap (λ (o : Option InitialSpace). record c.args.self.now { space = o }) (sym c.in-Some.is),
  exhausted c.in-Some.space c.in-Some.is c.if-number-eq-PACKET_NUMBERS.true,
)
