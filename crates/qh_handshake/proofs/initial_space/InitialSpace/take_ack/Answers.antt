use Rattle.std.proofs.Common.{◌≡◌, ℕ, ◌∙◌, Some, ap, arith}
use Rattle.qh_handshake.specs.Receiving.{greatest_of}
use Rattle.qh_handshake.specs.declared.initial_space.InitialSpace.{InitialSpace}
use Rattle.qh_handshake.proofs.SpaceKept.{received_space}
use Rattle.qh_handshake.proofs.initial_space.InitialSpace.take_ack.Goals as goal

pub returns-clause-ok : goal.returns-clause-ok
returns-clause-ok c =
    let old = c.args.self.now in
    let measured = rw c.into_inner-greatest.ensures.value at c.measure.ensures in
    let did = rw measured at c.acknowledge.ensures in
    let largest = greatest_of old.largest_acked c.args.ack.now.greatest in
    let largest_is : c.greatest_of-largest.result ≡ largest = (rw did.2 at c.greatest_of-largest.ensures) ∙ ap (λ (n : ℕ). greatest_of old.largest_acked n) c.into_inner-greatest.ensures.value in
    record {
      mid = record c.acknowledge.new.self { largest_acked = Some largest };
      taken = did.0;
      packets = did.1;
      mid_is = ap (λ (s : InitialSpace). record s { largest_acked = Some largest }) did.2;
      lost = rw largest_is at c.lose.ensures;
    }

pub returns-clause-space : goal.returns-clause-space
returns-clause-space c =
    received_space c.args.now.0 c.args.self.now c.lose.new.self c.args.ack.now (returns-clause-ok c) (omega (arith, c.if-greatest-self.false, c.into_inner-greatest.ensures.value)) c.requires
