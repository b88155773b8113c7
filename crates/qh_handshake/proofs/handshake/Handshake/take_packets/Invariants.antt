use Rattle.std.proofs.Common.{length}
use Rattle.qh_handshake.proofs.InitialsCome.{AreInitialsSoFar, view_of}
use Rattle.qh_handshake.proofs.handshake.Handshake.take_packets.Given as goal

abbrev pub invariant-loop-form : goal.invariant-loop-form
invariant-loop-form g l = AreInitialsSoFar (view_of g.S.Session.name g.S.Session.knows g.S.Session.key g.S.Session.sealed g.S.Session.accepts) l.now l.bytes l.rest l.fn.self l.self l.fn.session l.session

abbrev pub decreases-loop-form : goal.decreases-loop-form
decreases-loop-form g l = length l.rest
