use Rattle.std.proofs.Common.{[], None, Some, drop, inr, length, refl}
use Rattle.qh_handshake.proofs.DatagramsCome.{mismatched, nothing_left, packets_err, packets_lost, packets_ok, retried, retried_lost}
use Rattle.qh_handshake.proofs.InitialsCome.{view_of}
use Rattle.qh_handshake.proofs.handshake.Handshake.handle_datagram.Goals as goal

pub returns-in-Some-clause-ok : goal.returns-in-Some-clause-ok
returns-in-Some-clause-ok g c =
    let datagram = c.args.datagram.now in (
      Some c.in-Some.new.source,
      None,
      retried (g.S.Session.accepts c.args.session.now) c.args.now datagram _ c.args.self.now c.try_again.new.self c.saturating_add-self.result c.in-Some.new.source c.in-Some.new.token
          (rw c.in-Some.is at c.in-Ok.ensures.some) c.saturating_add-self.ensures c.try_again.ensures.restarted (nothing_left (length datagram) (drop (length datagram) datagram)),
      (c.rekey.ensures.value, c.rekey.ensures.name_kept, c.rekey.ensures.knows_kept),
    )

pub returns-then-is_mismatch-clause-err : goal.returns-then-is_mismatch-clause-err
returns-then-is_mismatch-clause-err g c =
    inr (
      [],
      None,
      mismatched (g.S.Session.accepts c.args.session.now) c.args.now c.args.datagram.now c.args.self.now c.saturating_add-self.result
          (c.is_mismatch-is_mismatch.ensures.yes c.if-is_mismatch.true) c.saturating_add-self.ensures,
      refl,
    )

pub returns-clause-ok : goal.returns-clause-ok
returns-clause-ok g c =
    packets_ok (view_of g.S.Session.name g.S.Session.knows g.S.Session.key g.S.Session.sealed g.S.Session.accepts) c.args.now c.args.datagram.now c.args.self.now c.take_packets.new.self c.saturating_add-self.result
    c.args.session.now c.take_packets.new.session (c.in-Ok.ensures.none c.in_default-retry.is) (c.is_mismatch-is_mismatch.ensures.no c.if-is_mismatch.false) c.saturating_add-self.ensures
    (λ rest. rest.now) c.take_packets.result c.take_packets.ensures.ok

pub returns-clause-err : goal.returns-clause-err
returns-clause-err g c =
    packets_err (view_of g.S.Session.name g.S.Session.knows g.S.Session.key g.S.Session.sealed g.S.Session.accepts) c.args.now c.args.datagram.now c.args.self.now c.take_packets.new.self c.saturating_add-self.result
    c.args.session.now c.take_packets.new.session (c.in-Ok.ensures.none c.in_default-retry.is) (c.is_mismatch-is_mismatch.ensures.no c.if-is_mismatch.false) c.saturating_add-self.ensures
    c.take_packets.result c.take_packets.ensures.err

pub returns-clause-wanting : goal.returns-clause-wanting
returns-clause-wanting g c =
    packets_lost (view_of g.S.Session.name g.S.Session.knows g.S.Session.key g.S.Session.sealed g.S.Session.accepts) c.args.now c.args.datagram.now c.args.self.now c.take_packets.new.self c.saturating_add-self.result
    c.args.session.now c.take_packets.new.session (c.in-Ok.ensures.none c.in_default-retry.is) (c.is_mismatch-is_mismatch.ensures.no c.if-is_mismatch.false) c.saturating_add-self.ensures
    c.take_packets.result c.take_packets.ensures.wanting

pub returns-in_default-clause-wanting : goal.returns-in_default-clause-wanting
returns-in_default-clause-wanting g c = λ _. (
  None,
  retried_lost (g.S.Session.accepts c.args.session.now) c.args.now c.args.datagram.now c.args.self.now c.saturating_add-self.result c.in_default.ensures.wanting c.saturating_add-self.ensures,
  refl,
)
