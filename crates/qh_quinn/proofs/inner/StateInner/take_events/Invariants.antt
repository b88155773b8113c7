use Rattle.std.proofs.Common.{◌≡◌, ◌⊎◌, length, None, Ok}
use Rattle.qh_quinn.specs.Turning.{AreHandled, IsHandled}
use Rattle.qh_quinn.proofs.inner.StateInner.take_events.Given as goal

abbrev pub invariant-loop-event : goal.invariant-loop-event
invariant-loop-event g l = record {
  handled : (h : IsHandled g.S.Session.accepts g.S.Session.sealed (Ok tt) l.fn.self l.self)
      × AreHandled (record { name = g.S.Session.name; knows = g.S.Session.knows; key = g.S.Session.key; sealed = g.S.Session.sealed; accepts = g.S.Session.accepts }) h.handed l.fn.self.connection l.self.connection;
  part : l.part ≡ record l.fn.part { poller = l.part.poller };
  poller : (l.part.poller ≡ l.fn.part.poller) ⊎ (l.part.poller ≡ None);
}

abbrev pub decreases-loop-event : goal.decreases-loop-event
decreases-loop-event g l = length l.self.events.items
