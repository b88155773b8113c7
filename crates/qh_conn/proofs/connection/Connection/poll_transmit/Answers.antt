use Rattle.std.proofs.Common.{[]}
use Rattle.qh_conn.proofs.Over.{closing_over, failing_over, not_both, still_closing}
use Rattle.qh_conn.proofs.Same.{both_same, same_dropped}
use Rattle.qh_conn.proofs.connection.Connection.poll_transmit.Goals as goal

pub returns-in_default-clause-same : goal.returns-in_default-clause-same
returns-in_default-clause-same g c =
    let mid = c.transmit.new.self in
    both_same g.S.Session.key c.args.self.now _ c.fail.new.self (both_same g.S.Session.key c.args.self.now mid _ c.transmit.ensures.same (same_dropped g.S.Session.key mid)) (c.fail.ensures.same g.S.Session.key)

pub returns-in_default-clause-closing : goal.returns-in_default-clause-closing
returns-in_default-clause-closing g c = λ shut early. absurd (not_both c.args.self.now shut early (c.is_closing-is_closing.ensures.no c.if-is_closing.false))

pub returns-in_default-clause-over : goal.returns-in_default-clause-over
returns-in_default-clause-over g c =
    failing_over g.S.Session.key c.args.now c.args.self.now c.transmit.new.self c.fail.new.self c.in_default.ensures.unsent c.fail.ensures.failed (returns-in_default-clause-same g c)
    (c.fail.ensures.log c.args.self.now [] c.requires.current c.in_default.ensures.log)

pub returns-in_default-clause-unsent : goal.returns-in_default-clause-unsent
returns-in_default-clause-unsent g c = (c.transmit.new.self, c.in_default.ensures.unsent, λ _. c.fail.ensures.failed)

pub returns-then-is_closing-clause-closing : goal.returns-then-is_closing-clause-closing
returns-then-is_closing-clause-closing g c = still_closing c.args.now c.args.self.now c.transmit.new.self c.in_default.ensures.unsent

pub returns-then-is_closing-clause-unsent : goal.returns-then-is_closing-clause-unsent
returns-then-is_closing-clause-unsent g c =
    let yes_ = c.is_closing-is_closing.ensures.yes c.if-is_closing.true in
    (c.transmit.new.self, c.in_default.ensures.unsent, λ ends. absurd (not_both c.args.self.now yes_.0 yes_.1 ends))

pub returns-then-is_closing-clause-over : goal.returns-then-is_closing-clause-over
returns-then-is_closing-clause-over g c = closing_over g.S.Session.key c.args.now c.args.self.now c.transmit.new.self c.in_default.ensures.unsent c.transmit.ensures.same c.in_default.ensures.log
