use Rattle.std.proofs.Common.{refl, ap, ◌∙◌}
use Rattle.qh_conn.proofs.CoreLog.{polled_log}
use Rattle.qh_conn.proofs.OutWhole.{handshake_whole}
use Rattle.qh_converse.proofs.MidDatagram.{stays}
use Rattle.qh_core.proofs.MadeEnds.{poll_made}
use Rattle.qh_core.specs.Inner.{is_open}
use Rattle.qh_conn.proofs.connection.Connection.poll_core.Goals as goal

pub returns-in-Some-clause-stands : goal.returns-in-Some-clause-stands
returns-in-Some-clause-stands g c = λ accepts sealed hello t p.
    let old = c.args.self.now in
    stays accepts sealed hello old.handshake old.core c.poll.new.self old.is_connected t
    (poll_made c.poll.result old.core c.poll.new.self c.poll.ensures.told c.poll.ensures.follows c.poll.ensures.same_end) p

pub returns-in-Some-clause-whole : goal.returns-in-Some-clause-whole
returns-in-Some-clause-whole g c =
    let old = c.args.self.now in
    handshake_whole old old.handshake c.poll.new.self c.requires c.requires.sound.handshake refl refl refl (λ e. e) c.poll.ensures.same_end (λ shut. ap is_open c.poll.ensures.kept.3 ∙ shut) (polled_log _ old.core c.poll.new.self c.poll.ensures.told)

pub returns-in-None-clause-stands : goal.returns-in-None-clause-stands
returns-in-None-clause-stands g c = λ accepts sealed hello t p.
    let old = c.args.self.now in
    stays accepts sealed hello old.handshake old.core c.poll.new.self old.is_connected t
    (poll_made c.poll.result old.core c.poll.new.self c.poll.ensures.told c.poll.ensures.follows c.poll.ensures.same_end) p

pub returns-in-None-clause-whole : goal.returns-in-None-clause-whole
returns-in-None-clause-whole g c =
    let old = c.args.self.now in
    handshake_whole old old.handshake c.poll.new.self c.requires c.requires.sound.handshake refl refl refl (λ e. e) c.poll.ensures.same_end (λ shut. ap is_open c.poll.ensures.kept.3 ∙ shut) (polled_log _ old.core c.poll.new.self c.poll.ensures.told)
