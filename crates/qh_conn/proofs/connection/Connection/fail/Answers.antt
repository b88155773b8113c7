use Rattle.std.proofs.Common.{refl, ap, sym, subst, ◌∙◌}
use Rattle.qh_core.proofs.MadeEnds.{turned_made}
use Rattle.qh_core.specs.Made.IsTurned.{failed}
use Rattle.qh_converse.proofs.MidDatagram.{stays}
use Rattle.qh_converse.specs.Converses.{Converses}
use Rattle.qh_handshake.specs.Handshake.{dropping}
use Rattle.qh_handshake.specs.declared.handshake.Handshake.{Handshake}
use Rattle.qh_core.specs.Inner.{is_open}
use Rattle.qh_core.specs.declared.inner.Inner.{Inner}
use Rattle.qh_control.specs.Items.{streamed}
use Rattle.qh_control.specs.declared.control.ControlState.{ControlState}
use Rattle.qh_conn.proofs.CoreLog.{failed_told}
use Rattle.qh_conn.proofs.LogKept.{log_ended, none_left}
use Rattle.qh_conn.proofs.Noted.{failed_taken, taken_made}
use Rattle.qh_conn.proofs.Same.{control_by, control_rest}
use Rattle.qh_conn.proofs.SameParts.{over_same}
use Rattle.qh_conn.proofs.connection.Connection.fail.Goals as goal

pub returns-clause-core : goal.returns-clause-core
returns-clause-core g c = failed_taken c.args.self.now.core c.fail.new.self c.take_items.new.self c.fail.ensures.failed c.take_items.ensures.rest

pub returns-clause-log : goal.returns-clause-log
returns-clause-log g c = λ before more current goes.
    let old = c.args.self.now in
    let e = c.fail.ensures.failed in
    let is = c.take_items.ensures.rest in
    let told = failed_told old.core c.fail.new.self e in
    log_ended more before old _ current goes
    (record {
      connected = refl;
      due = refl;
      data_due = λ due. due;
      lost_logged = refl;
      told = record { lost = ap (λ (z : Inner _). z.is_lost_told) is ∙ told.lost; drained = ap (λ (z : Inner _). z.is_drained_told) is ∙ told.drained };
    })
    (ap (λ (z : ControlState). z.log) c.clear_datagrams.ensures) (ap (λ (z : Inner _). streamed z.space.log) is ∙ none_left c.fail.new.self.space.log)
    (ap (λ (z : Inner _). z.error) is ∙ ap (λ (z : Inner _). z.error) e.rest_is)

pub returns-clause-stands : goal.returns-clause-stands
returns-clause-stands g c = λ accepts sealed hello t p.
    let old = c.args.self.now in
    let mid = c.fail.new.self in
    let new = c.take_items.new.self in
    let e = c.fail.ensures in
    let i = c.take_items.ensures in
    subst (λ (z : Handshake). Converses accepts sealed hello z new old.is_connected t) (sym c.drop_space.ensures.gone)
    (c.sends.ensures.dropped accepts sealed hello old.handshake new old.is_connected t
    (stays accepts sealed hello old.handshake mid new old.is_connected t (taken_made mid new i.rest i.follows i.same_end)
    (stays accepts sealed hello old.handshake old.core mid old.is_connected t (turned_made old.core mid (failed e.failed e.counts.0 e.counts.1) e.follows e.same_end) p)))

pub returns-clause-fails : goal.returns-clause-fails
returns-clause-fails g c = λ accepts sealed hello t p.
    let old = c.args.self.now in
    let mid = c.fail.new.self in
    let new = c.take_items.new.self in
    let e = c.fail.ensures in
    let i = c.take_items.ensures in
    subst (λ (z : Handshake). Converses accepts sealed hello z new old.is_connected t) (sym c.drop_space.ensures.gone)
    (stays accepts sealed hello (dropping old.handshake) mid new old.is_connected t (taken_made mid new i.rest i.follows i.same_end)
    (p mid (turned_made old.core mid (failed e.failed e.counts.0 e.counts.1) e.follows e.same_end) (ap (λ (z : Inner _). is_open z.state) e.failed.rest_is)))

pub returns-clause-same : goal.returns-clause-same
returns-clause-same g c = λ key.
    over_same key c.args.self.now c.drop_space.new.self c.take_items.new.self c.clear_datagrams.new.self c.drop_space.ensures.gone (returns-clause-core g c)
    (control_by c.args.self.now.control c.clear_datagrams.new.self _ c.clear_datagrams.ensures (control_rest c.args.self.now.control))

pub returns-clause-failed : goal.returns-clause-failed
returns-clause-failed g c =
    let old = c.args.self.now in
    let new = c.take_items.new.self in
    let is = c.take_items.ensures.rest in
    let counts = c.fail.ensures.counts in
    record {
      core = returns-clause-core g c;
      counts = (ap (λ (z : Inner _). z.space.packets_lost) is ∙ counts.0, ap (λ (z : Inner _). z.space.probes_sent) is ∙ counts.1);
      rest_is = ap (λ (z : Handshake). record old { handshake = z; core = new; control = c.clear_datagrams.new.self }) c.drop_space.ensures.gone
          ∙ ap (λ (z : ControlState). record old { handshake = dropping old.handshake; core = new; control = z }) c.clear_datagrams.ensures;
    }
