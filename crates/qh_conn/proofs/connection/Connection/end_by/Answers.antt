use Rattle.std.proofs.Common.{◌≡◌, refl, ap}
use Rattle.qh_base.specs.declared.connection_error.ConnectionError.{ConnectionError}
use Rattle.qh_base.specs.declared.connection_error.ConnectionError.TheVariants as error
use Rattle.qh_base.specs.declared.time.Moment.{Moment}
use Rattle.qh_base.specs.declared.transport_error.TransportError.{TransportError}
use Rattle.qh_conn.proofs.InHears.{open_lives}
use Rattle.qh_conn.specs.Incoming.{EndsBy}
use Rattle.qh_core.proofs.MadeEnds.{turned_made}
use Rattle.qh_core.specs.Inner.{is_open}
use Rattle.qh_core.specs.Made.IsTurned.{draining, faulted}
use Rattle.qh_core.specs.Receiving.{IsDrainingFrom}
use Rattle.qh_core.specs.declared.inner.Inner.{Inner}
use Rattle.qh_conn.proofs.connection.Connection.end_by.Goals as goal

module _ {S : Type 0} where
  drains : (now : Moment) (e : ConnectionError) (old new : Inner S) → ((f : TransportError) → e ≡ error.TransportError f → ⊥) → IsDrainingFrom now e old new → EndsBy now e old new
  drains now error.VersionMismatch old new none is = is
  drains now (error.TransportError f) old new none is = absurd (none f refl)
  drains now (error.ConnectionClosed close) old new none is = is
  drains now (error.ApplicationClosed close) old new none is = is
  drains now error.Reset old new none is = is
  drains now error.TimedOut old new none is = is
  drains now error.LocallyClosed old new none is = is
  drains now error.CidsExhausted old new none is = is
  drains now error.Memory old new none is = is

pub returns-in-TransportError-clause-made : goal.returns-in-TransportError-clause-made
returns-in-TransportError-clause-made g c =
    let old = c.args.self.now.core in
    let e = c.close_by_fault.ensures in
    turned_made old c.close_by_fault.new.self (faulted c.args.now _ (open_lives old.state c.requires.open) e.faulted) e.follows e.same_end

pub returns-in_default : goal.returns-in_default
returns-in_default g c =
    let old = c.args.self.now.core in
    let e = c.drain.ensures in
    record {
      ends = drains c.args.now c.args.error old c.drain.new.self c.in_default.not-TransportError e.draining;
      closed = ap (λ (z : Inner _). is_open z.state) e.draining.rest_is;
      rest = refl;
      same_end = e.same_end;
      made = turned_made old c.drain.new.self (draining c.args.now _ (open_lives old.state c.requires.open) c.requires.named e.draining) e.follows e.same_end;
    }
