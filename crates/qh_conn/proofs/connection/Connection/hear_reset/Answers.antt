use Rattle.std.proofs.Common.{◌≡◌, true, ap}
use Rattle.qh_base.specs.declared.connection_error.ConnectionError.TheVariants.{Memory, Reset}
use Rattle.qh_conn.proofs.InHears.{open_lives}
use Rattle.qh_conn.proofs.InSound.{sound_core, whole_core}
use Rattle.qh_conn.proofs.OutKeys.{open_of}
use Rattle.qh_converse.proofs.MidDatagram.{stays}
use Rattle.qh_core.proofs.MadeEnds.{turned_made}
use Rattle.qh_core.specs.Inner.{is_open}
use Rattle.qh_core.specs.Made.IsTurned.{draining}
use Rattle.qh_core.specs.declared.inner.Inner.{Inner}
use Rattle.qh_conn.proofs.connection.Connection.hear_reset.Goals as goal

pub returns-then-is_reset-clause-stands : goal.returns-then-is_reset-clause-stands
returns-then-is_reset-clause-stands g c = λ accepts sealed hello t p.
    let old = c.args.self.now.core in
    let up : is_open old.state ≡ true = open_of (is_open old.state) c.is_closed.result c.is_closed.ensures c.if-not-is_closed.true in
    let named : Reset ≡ Memory → ⊥ = λ e. cc in
    stays accepts sealed hello c.args.self.now.handshake old c.drain.new.self c.args.self.now.is_connected t
    (turned_made old c.drain.new.self (draining c.args.now Reset (open_lives old.state up) named c.drain.ensures.draining) c.drain.ensures.follows c.drain.ensures.same_end) p

pub returns-then-is_reset-clause-sound : goal.returns-then-is_reset-clause-sound
returns-then-is_reset-clause-sound g c = λ s.
    sound_core c.args.self.now c.drain.new.self s c.drain.ensures.same_end (λ _. open_of (is_open c.args.self.now.core.state) c.is_closed.result c.is_closed.ensures c.if-not-is_closed.true)

pub returns-then-is_reset-clause-whole : goal.returns-then-is_reset-clause-whole
returns-then-is_reset-clause-whole g c = λ w.
    whole_core c.args.self.now c.drain.new.self w c.drain.ensures.same_end (open_of (is_open c.args.self.now.core.state) c.is_closed.result c.is_closed.ensures c.if-not-is_closed.true)
    (ap (λ (z : Inner _). z.space.log) c.drain.ensures.draining.rest_is)
