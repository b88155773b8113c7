use Rattle.std.proofs.Common.{ℕ, List, subst}
use Rattle.qh_handshake.proofs.Retried.{is_true, same_listed}
use Rattle.qh_handshake.proofs.handshake.Handshake.is_mismatch.Goals as goal
use Rattle.qh_packet.specs.VersionNegotiation.{versions_in}
use Rattle.qh_spec.specs.Lists.{In}

pub returns-in-Some-clause-no : goal.returns-in-Some-clause-no
returns-in-Some-clause-no c = λ e m.
    let packet = c.in-Some.packet in
    let same = same_listed c.args.datagram.now packet.destination.now packet.source.now packet.listed.now m.destination m.source m.listed c.in-Some.ensures.found m.is in
    m.unlisted (subst (λ (n : ℕ). In n (versions_in m.listed)) c.number.ensures
    (subst (λ (l : List ℕ). In c.number.result (versions_in l)) same (c.lists.ensures.0 (is_true c.lists.result e))))

pub returns-in-None-clause-no : goal.returns-in-None-clause-no
returns-in-None-clause-no c = λ _ m. c.in-None.ensures.none m.destination m.source m.listed m.is
