use Rattle.std.proofs.Common.{◌≡◌}
use Rattle.qh_conn.specs.Whole.{IsWhole}
use Rattle.qh_quinn.proofs.Tellings.{told_left}
use Rattle.qh_quinn.specs.Telling.{AreTold}
use Rattle.qh_quinn.specs.Waiting.{interests_in, nudged_if}
use Rattle.qh_quinn.proofs.inner.StateInner.forward_app_events.Given as goal

abbrev pub invariant-loop-event : goal.invariant-loop-event
invariant-loop-event g l = record {
  told : AreTold l.fn.self.is_connected l.fn.self.connection l.self.is_connected l.self.connection;
  whole : IsWhole l.self.connection;
  waiting : interests_in l.self.waiting.items ≡ interests_in l.fn.self.waiting.items;
  woken : nudged_if l.self.connection.is_data_due l.self.waiting.items ≡ nudged_if l.fn.self.connection.is_data_due l.fn.self.waiting.items;
  rest : l.self ≡ record l.fn.self { connection = l.self.connection; is_connected = l.self.is_connected; waiting = l.self.waiting };
}

abbrev pub decreases-loop-event : goal.decreases-loop-event
decreases-loop-event g l = told_left l.self.connection
