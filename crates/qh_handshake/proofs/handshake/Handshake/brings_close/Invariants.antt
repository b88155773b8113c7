use Rattle.std.proofs.Common.{length}
use Rattle.qh_handshake.proofs.CloseDatagrams.{IsSought}
use Rattle.qh_handshake.proofs.handshake.Handshake.brings_close.Given as goal

abbrev pub invariant-loop-form : goal.invariant-loop-form
invariant-loop-form g l = IsSought (g.S.Session.accepts l.session) l.self l.datagram l.rest

abbrev pub decreases-loop-form : goal.decreases-loop-form
decreases-loop-form g l = length l.rest
