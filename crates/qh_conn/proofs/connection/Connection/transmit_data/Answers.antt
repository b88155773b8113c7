use Rattle.std.proofs.Common.{◌≡◌, true, false, inr, sym, subst, ◌∙◌}
use Rattle.qh_conn.proofs.OutStill.{both_still, carries_after, control_held, data_after, none_of, some_of}
use Rattle.qh_conn.specs.declared.connection.Connection.{Connection}
use Rattle.qh_core.specs.Sending.{IsSilent as IsCoreSilent}
use Rattle.qh_conn.proofs.Same.{both_same}
use Rattle.std.proofs.lemmas.Result.{on_err_weaker}
use Rattle.qh_conn.proofs.Over.{unsent_after}
use Rattle.qh_conn.proofs.connection.Connection.transmit_data.Goals as goal

pub returns-clause-some : goal.returns-clause-some
returns-clause-some g c =
    let n = c.in_ok-transmit.ensures.none c.in_default.is in
    data_after g.S.Session.sealed c.args.now c.args.self.now c.transmit_control.new.self c.transmit_in_turn-2.new.self c.args.buf.now.items c.transmit_control.new.buf.items c.transmit_in_turn-2.new.buf.items
    c.transmit_in_turn-2.result n.2 n.0 c.transmit_in_turn-2.ensures.some

pub returns-clause-none : goal.returns-clause-none
returns-clause-none g c =
    let n = c.in_ok-transmit.ensures.none c.in_default.is in
    let old = c.args.self.now in
    let mid = c.transmit_control.new.self in
    none_of c.transmit_in_turn-2.result c.transmit_in_turn-2.ensures.none
    (λ m. (m.0 ∙ n.0, subst (λ (z : Connection _). IsCoreSilent z.core) n.2.rest_is m.1, control_held old mid n.2 m.2, both_still old mid c.transmit_in_turn-2.new.self n.2 m.3))

pub returns-clause-carries : goal.returns-clause-carries
returns-clause-carries g c =
    let n = c.in_ok-transmit.ensures.none c.in_default.is in
    carries_after g.S.Session.accepts g.S.Session.sealed c.args.self.now c.transmit_control.new.self c.transmit_in_turn-2.new.self c.args.buf.now.items c.transmit_control.new.buf.items
    c.transmit_in_turn-2.new.buf.items c.transmit_in_turn-2.result n.2 n.0 c.transmit_in_turn-2.ensures.carries

pub returns-clause-turns : goal.returns-clause-turns
returns-clause-turns g c =
    let n = c.in_ok-transmit.ensures.none c.in_default.is in
    some_of c.transmit_in_turn-2.result c.transmit_in_turn-2.ensures.others (λ t is. record { own = λ _. inr n.1; others = λ e. let z : true ≡ false = sym c.if-not-self.false ∙ e in cc })

pub returns-clause-same : goal.returns-clause-same
returns-clause-same g c = both_same g.S.Session.key c.args.self.now c.transmit_control.new.self c.transmit_in_turn-2.new.self c.transmit_control.ensures.same c.transmit_in_turn-2.ensures.same

pub returns-clause-unsent : goal.returns-clause-unsent
returns-clause-unsent g c =
    let n = c.in_ok-transmit.ensures.none c.in_default.is in
    on_err_weaker c.transmit_in_turn-2.result (λ u. unsent_after c.args.self.now c.transmit_control.new.self c.transmit_in_turn-2.new.self n.2 u) c.transmit_in_turn-2.ensures.unsent
