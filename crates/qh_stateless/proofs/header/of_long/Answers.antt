use Rattle.std.proofs.Common.{refl, sym}
use Rattle.qh_stateless.proofs.Headers.{token_cut}
use Rattle.qh_stateless.proofs.header.of_long.Goals as goal

pub returns-in-None-clause-fault : goal.returns-in-None-clause-fault
returns-in-None-clause-fault c = λ n grease datagram h.
    token_cut n c.args.versions.now grease datagram c.args.long.now.first c.args.long.now.version c.args.long.now.destination.now c.args.long.now.source.now c.args.long.now.rest.now h
    (c.if-version-eq0.false, c.if-not-lists.ensures.0 refl) (sym c.in-Initial.ensures) c.in-None.ensures.none
