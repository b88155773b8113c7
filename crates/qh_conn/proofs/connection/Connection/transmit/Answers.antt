use Rattle.qh_conn.proofs.OutKeys.{closed_of, open_of}
use Rattle.qh_conn.proofs.OutStill.{none_of, some_both, some_of, stays_still}
use Rattle.qh_conn.specs.Outgoing.{IsSilent, IsTransmitted}
use Rattle.qh_core.specs.Inner.{is_open}
use Rattle.std.proofs.Common.{◌≡◌, true, false, sym, ◌∙◌}
use Rattle.std.proofs.lemmas.Result.{on_err_weaker}
use Rattle.qh_conn.proofs.Noted.{any_err}
use Rattle.qh_conn.specs.Unread.{IsUnsent}
use Rattle.qh_conn.proofs.connection.Connection.transmit.Goals as goal

pub returns-then-self-clause-none : goal.returns-then-self-clause-none
returns-then-self-clause-none g c =
    let old = c.args.self.now in
    none_of c.transmit_core.result c.transmit_core.ensures.none
    (λ n. (n.0, IsSilent.closed c.if-self.true (closed_of (is_open old.core.state) c.is_closed.result c.is_closed.ensures c.if-is_closed.true) n.2, stays_still old c.transmit_core.new.self n.1))

pub returns-else-self-clause-some : goal.returns-else-self-clause-some
returns-else-self-clause-some g c = some_of c.transmit_close.result c.transmit_close.ensures.some (λ t is. is c.args.now)

pub returns-else-self-clause-none : goal.returns-else-self-clause-none
returns-else-self-clause-none g c =
    let old = c.args.self.now in
    none_of c.transmit_close.result c.transmit_close.ensures.none
    (λ n. (n.0, IsSilent.told c.if-self.false (closed_of (is_open old.core.state) c.is_closed.result c.is_closed.ensures c.if-is_closed.true) n.2, stays_still old c.transmit_close.new.self n.1))

pub returns-then-self-2-clause-some : goal.returns-then-self-2-clause-some
returns-then-self-2-clause-some g c =
    some_both c.transmit_data.result c.transmit_data.ensures.some c.transmit_data.ensures.turns (λ t is turns. IsTransmitted.data_packet c.if-self-2.true (λ _. record { own = turns.own; others = turns.others }) is)

pub returns-then-self-2-clause-none : goal.returns-then-self-2-clause-none
returns-then-self-2-clause-none g c =
    none_of c.transmit_data.result c.transmit_data.ensures.none (λ n. (n.0, IsSilent.connected c.if-self-2.true n.1 n.2, n.3))

pub returns-else-self-2-clause-none : goal.returns-else-self-2-clause-none
returns-else-self-2-clause-none g c =
    let old = c.args.self.now in
    none_of c.transmit_initial.result c.transmit_initial.ensures.none
    (λ n. (n.0, IsSilent.handshaking c.if-self-2.false (open_of (is_open old.core.state) c.is_closed.result c.is_closed.ensures c.if-is_closed.false) n.2, stays_still old c.transmit_initial.new.self n.1))

pub returns-then-self-clause-unsent : goal.returns-then-self-clause-unsent
returns-then-self-clause-unsent g c = on_err_weaker c.transmit_core.result (λ u. IsUnsent.data_packet c.if-self.true u) c.transmit_core.ensures.unsent

pub returns-else-self-clause-unsent : goal.returns-else-self-clause-unsent
returns-else-self-clause-unsent g c =
    let shut = closed_of (is_open c.args.self.now.core.state) c.is_closed.result c.is_closed.ensures c.if-is_closed.true in
    on_err_weaker c.transmit_close.result (λ u. IsUnsent.close c.if-self.false shut u.0 u.1) c.transmit_close.ensures.unsent

pub returns-then-self-2-clause-unsent : goal.returns-then-self-2-clause-unsent
returns-then-self-2-clause-unsent g c = on_err_weaker c.transmit_data.result (λ u. IsUnsent.data_packet c.if-self-2.true u) c.transmit_data.ensures.unsent

pub returns-else-self-2-clause-unsent : goal.returns-else-self-2-clause-unsent
returns-else-self-2-clause-unsent g c =
    let up = open_of (is_open c.args.self.now.core.state) c.is_closed.result c.is_closed.ensures c.if-is_closed.false in
    on_err_weaker c.transmit_initial.result (λ u. IsUnsent.initial c.if-self-2.false up u.0 u.1) c.transmit_initial.ensures.unsent

pub returns-then-self-clause-closing : goal.returns-then-self-clause-closing
returns-then-self-clause-closing g c = any_err _ c.transmit_core.result (λ shut early. let z : true ≡ false = sym c.if-self.true ∙ early in cc)

pub returns-else-self-clause-closing : goal.returns-else-self-clause-closing
returns-else-self-clause-closing g c = any_err _ c.transmit_close.result (λ shut early. c.transmit_close.ensures.whole)

pub returns-then-self-2-clause-closing : goal.returns-then-self-2-clause-closing
returns-then-self-2-clause-closing g c = any_err _ c.transmit_data.result (λ shut early. let z : true ≡ false = sym c.if-self-2.true ∙ early in cc)

pub returns-else-self-2-clause-closing : goal.returns-else-self-2-clause-closing
returns-else-self-2-clause-closing g c =
    let up = open_of (is_open c.args.self.now.core.state) c.is_closed.result c.is_closed.ensures c.if-is_closed.false in
    any_err _ c.transmit_initial.result (λ shut early. let z : true ≡ false = sym up ∙ shut in cc)
