use Rattle.std.proofs.Common.{refl, sym, ap, subst}
use Rattle.qh_conn.specs.Whole.{IsWhole}
use Rattle.qh_conn.specs.declared.connection.Connection.{Connection}
use Rattle.qh_converse.specs.Converses.{Converses}
use Rattle.qh_core.specs.declared.inner.Inner.{Inner}
use Rattle.qh_conn.proofs.connection.Connection.set_send_window.Goals as goal

pub returns-clause-stands : goal.returns-clause-stands
returns-clause-stands g c = λ accepts sealed hello t p.
    let made = c.made.ensures.set_send_window c.args.bytes c.args.self.now.core c.set_send_window.new.self c.set_send_window.ensures.value c.set_send_window.ensures.follows in
    subst (λ (z : Connection _). Converses accepts sealed hello z.handshake z.core z.is_connected t) (sym c.keep_early.ensures)
    (c.still.ensures.streams_stand accepts sealed hello c.args.self.now.handshake c.args.self.now.core c.set_send_window.new.self c.args.self.now.is_connected t made p)

pub returns-clause-whole : goal.returns-clause-whole
returns-clause-whole g c =
    let made = c.made.ensures.set_send_window c.args.bytes c.args.self.now.core c.set_send_window.new.self c.set_send_window.ensures.value c.set_send_window.ensures.follows in
    subst (λ (z : Connection _). IsWhole z) (sym c.keep_early.ensures)
    (c.still.ensures.streams_whole c.args.self.now _ (record { handshake = refl; control = refl; is_connected = refl; log = ap (λ (z : Inner _). z.space.log) c.set_send_window.ensures.value }) made c.requires)
