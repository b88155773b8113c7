use Rattle.std.proofs.Common.{◌≡◌, false, rules, true}
use Rattle.std.proofs.lemmas.Result.{on_err_weaker}
use Rattle.qh_conn.proofs.InFed.{settled_stands}
use Rattle.qh_conn.proofs.InTake.{closed_by, opened_by}
use Rattle.qh_core.specs.Inner.{is_open}
use Rattle.qh_conn.proofs.LogKept.{counted_goes, ended_by}
use Rattle.qh_conn.proofs.SameParts.{closing_same, settled_same}
use Rattle.qh_conn.proofs.Same.{both_same, same_counted}
use Rattle.qh_conn.specs.declared.connection.Connection.{Connection}
use Rattle.qh_conn.proofs.Over.{over_by, unread_by}
use Rattle.qh_conn.proofs.connection.Connection.handle_datagram.Goals as goal

pub returns-then-is_closed-clause-ok : goal.returns-then-is_closed-clause-ok
returns-then-is_closed-clause-ok g c =
    let shut : is_open c.args.self.now.core.state ≡ false = search rules in
    closed_by _ c.args.now c.args.datagram.now c.args.self.now c.hear_closed.new.self c.count.new.stats c.count.ensures shut c.hear_closed.ensures.heard

pub returns-clause-ok : goal.returns-clause-ok
returns-clause-ok g c =
    let up : is_open c.args.self.now.core.state ≡ true = search rules in
    opened_by _ c.args.now c.args.datagram.now c.args.self.now c.take-taken.new.self c.settled.new.self c.count.new.stats c.take-taken.result c.settled.result c.count.ensures c.settled.ensures.value up c.take-taken.ensures.ok c.settled.ensures.ok

pub returns-then-is_closed-clause-carries : goal.returns-then-is_closed-clause-carries
returns-then-is_closed-clause-carries g c = λ named hello t p. c.hear_closed.ensures.carries named hello t p

pub returns-clause-carries : goal.returns-clause-carries
returns-clause-carries g c = λ named hello t p.
    settled_stands g.S.Session.accepts g.S.Session.sealed c.take-taken.result hello c.take-taken.new.self c.settled.new.self _ (c.take-taken.ensures.carries named hello t p) c.settled.ensures.ok c.settled.ensures.fails

pub returns-then-is_closed-clause-same : goal.returns-then-is_closed-clause-same
returns-then-is_closed-clause-same g c =
    let self = c.args.self.now in
    let counted : Connection _ = record self { udp_rx = c.count.new.stats } in
    both_same g.S.Session.key self counted c.hear_closed.new.self (same_counted g.S.Session.key self self.udp_tx c.count.new.stats)
    (closing_same _ c.args.now c.args.datagram.now counted c.hear_closed.new.self c.hear_closed.ensures.heard)

pub returns-clause-same : goal.returns-clause-same
returns-clause-same g c =
    let self = c.args.self.now in
    let counted : Connection _ = record self { udp_rx = c.count.new.stats } in
    both_same g.S.Session.key self counted c.settled.new.self (same_counted g.S.Session.key self self.udp_tx c.count.new.stats)
    (settled_same g.S.Session.key c.take-taken.result counted c.take-taken.new.self c.settled.new.self c.take-taken.ensures.same c.take-taken.ensures.lost c.settled.ensures.ok c.settled.ensures.same)

pub returns-clause-log : goal.returns-clause-log
returns-clause-log g c =
    let self = c.args.self.now in
    let taken = c.take-taken in
    ended_by taken.result c.settled.result self taken.new.self c.settled.new.self c.settled.ensures.value c.requires.current
    (on_err_weaker taken.result (λ goes. (goes.0, counted_goes goes.0 self c.count.new.stats taken.new.self goes.1)) taken.ensures.log) c.settled.ensures.log

pub returns-clause-unread : goal.returns-clause-unread
returns-clause-unread g c =
    unread_by _ c.args.now c.args.datagram.now c.args.self.now c.take-taken.new.self c.settled.new.self c.count.new.stats c.take-taken.result c.settled.result c.count.ensures c.settled.ensures.value
    c.take-taken.ensures.unread c.settled.ensures.failed

pub returns-clause-over : goal.returns-clause-over
returns-clause-over g c =
    over_by _ g.S.Session.key c.args.now c.args.datagram.now c.args.self.now c.settled.new.self c.settled.result (returns-clause-same g c) (returns-clause-log g c) (returns-clause-unread g c)
