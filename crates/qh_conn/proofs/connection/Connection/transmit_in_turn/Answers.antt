use Rattle.std.proofs.Common.{◌∙◌, true}
use Rattle.qh_conn.proofs.OutStill.{both_still, carries_after, control_held, data_after, none_of, stays_still}
use Rattle.qh_conn.proofs.Same.{both_same, same_flags}
use Rattle.std.proofs.lemmas.Result.{on_err_weaker}
use Rattle.qh_conn.proofs.Over.{unsent_after}
use Rattle.qh_conn.proofs.connection.Connection.transmit_in_turn.Goals as goal

pub returns-clause-some : goal.returns-clause-some
returns-clause-some g c =
    let n = c.in_ok-transmit.ensures.none c.in_default.is in
    data_after g.S.Session.sealed c.args.now c.args.self.now c.transmit_core.new.self c.transmit_control.new.self c.args.buf.now.items c.transmit_core.new.buf.items c.transmit_control.new.buf.items
    c.transmit_control.result (stays_still c.args.self.now c.transmit_core.new.self n.1) n.0 c.transmit_control.ensures.some

pub returns-clause-none : goal.returns-clause-none
returns-clause-none g c =
    let n = c.in_ok-transmit.ensures.none c.in_default.is in
    let s = stays_still c.args.self.now c.transmit_core.new.self n.1 in
    none_of c.transmit_control.result c.transmit_control.ensures.none
    (λ m. (m.0 ∙ n.0, n.2, control_held c.args.self.now c.transmit_core.new.self s m.1, both_still c.args.self.now c.transmit_core.new.self c.transmit_control.new.self s m.2))

pub returns-clause-carries : goal.returns-clause-carries
returns-clause-carries g c =
    let n = c.in_ok-transmit.ensures.none c.in_default.is in
    carries_after g.S.Session.accepts g.S.Session.sealed c.args.self.now c.transmit_core.new.self c.transmit_control.new.self c.args.buf.now.items c.transmit_core.new.buf.items
    c.transmit_control.new.buf.items c.transmit_control.result (stays_still c.args.self.now c.transmit_core.new.self n.1) n.0 c.transmit_control.ensures.carries

pub returns-in-Some-clause-same : goal.returns-in-Some-clause-same
returns-in-Some-clause-same g c =
    let mid = c.transmit_core.new.self in
    both_same g.S.Session.key c.args.self.now mid _ c.transmit_core.ensures.same (same_flags g.S.Session.key mid mid.is_data_due mid.is_connected_due true mid.is_lost_logged)

pub returns-clause-same : goal.returns-clause-same
returns-clause-same g c = both_same g.S.Session.key c.args.self.now c.transmit_core.new.self c.transmit_control.new.self c.transmit_core.ensures.same c.transmit_control.ensures.same

pub returns-clause-unsent : goal.returns-clause-unsent
returns-clause-unsent g c =
    let n = c.in_ok-transmit.ensures.none c.in_default.is in
    on_err_weaker c.transmit_control.result (λ u. unsent_after c.args.self.now c.transmit_core.new.self c.transmit_control.new.self (stays_still c.args.self.now c.transmit_core.new.self n.1) u) c.transmit_control.ensures.unsent
