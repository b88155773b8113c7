use Rattle.std.proofs.Common.{◌++◌, [], Ok, inl, refl, sym, ap, subst, ◌∙◌}
use Rattle.qh_handshake.specs.Incoming.{SessionView}
use Rattle.qh_quinn.proofs.Bringing.{shown_by}
use Rattle.qh_quinn.proofs.Handling.{handled_more, handled_none, handled_on, part_on, poller_on, unsaid, wanting_brought}
use Rattle.qh_quinn.specs.Turning.{AreHandled}
use Rattle.qh_quinn.specs.declared.inner.StateInner.{StateInner}
use Rattle.qh_quinn.proofs.inner.StateInner.take_events.Goals as goal

pub loop-event-init : goal.loop-event-init
loop-event-init g c =
    let s = c.args.self.now in
    let v : SessionView g.row.S.Denot = record { name = g.S.Session.name; knows = g.S.Session.knows; key = g.S.Session.key; sealed = g.S.Session.sealed; accepts = g.S.Session.accepts } in
    let h = handled_none g.S.Session.accepts g.S.Session.sealed (Ok tt) s s refl refl c.requires.whole (λ accepts sealed hello t h. h) (record { items = []; brings = c.events_bring.ensures.none s.connection }) (λ shut. shut) in
    record {
      handled = (h.0, subst (λ es. AreHandled v es s.connection s.connection) (sym h.1) refl);
      part = refl;
      poller = inl refl;
    }

pub loop-event-preserved : goal.loop-event-preserved
loop-event-preserved g c =
    let s = c.args.self.now in
    let l = c.loop-event in
    let mid = l.self.connection in
    let new = c.handle_event.new.self in
    let h = l.invariant.handled in
    let e = c.in_ok-handle_event.ensures in
    let v : SessionView g.row.S.Denot = record { name = g.S.Session.name; knows = g.S.Session.knows; key = g.S.Session.key; sealed = g.S.Session.sealed; accepts = g.S.Session.accepts } in
    let k =
    handled_more g.S.Session.accepts g.S.Session.sealed c.events_bring.ensures.both (Ok tt) s l.self (record l.self { connection = new; events = c.pop_front.new.self }) c.in-Some.event h.0 c.requires.shown refl c.in-Some.ensures.items e.whole
    (λ lawful. e.carries (lawful.names mid.core.session)) (c.events_bring.ensures.event v c.in-Some.event mid new h.0.whole e.whole (h.0.brings.brings.logging c.requires.logging) e.ok) e.same.ended
    in
    record {
      handled = (k.0, subst (λ es. AreHandled v es s.connection new) (sym k.1) (handled_on v h.0.handed c.in-Some.event s.connection mid new h.1 e.ok));
      part = part_on c.args.part.now l.part c.follow_socket.new.part l.invariant.part c.follow_socket.ensures.part;
      poller = poller_on c.args.part.now.poller l.part.poller c.follow_socket.new.part.poller l.invariant.poller c.follow_socket.ensures.poller;
    }

pub returns-in_err-handle_event-clause-handled : goal.returns-in_err-handle_event-clause-handled
returns-in_err-handle_event-clause-handled g c =
    let s = c.args.self.now in
    let l = c.loop-event in
    let mid = l.self.connection in
    let new = c.handle_event.new.self in
    let h = l.invariant.handled.0 in
    let e = c.in_err-handle_event.ensures in
    let v : SessionView g.row.S.Denot = record { name = g.S.Session.name; knows = g.S.Session.knows; key = g.S.Session.key; sealed = g.S.Session.sealed; accepts = g.S.Session.accepts } in
    let logging = h.brings.brings.logging c.requires.logging in
    let k =
    handled_more g.S.Session.accepts g.S.Session.sealed c.events_bring.ensures.both c.from_residual.result s l.self (record l.self { connection = new; events = c.pop_front.new.self }) c.in-Some.event h c.requires.shown refl c.in-Some.ensures.items e.whole
    (λ lawful. e.carries (lawful.names mid.core.session))
    (wanting_brought c.from_residual.result mid new c.from_residual.ensures.1 (shown_by s.connection mid h.brings c.requires.shown) e.wanting
    (c.wants_bring.ensures.event v c.in-Some.event mid e.unread.0 new h.whole e.whole e.wanting logging e.unread.1 e.unread.2))
    e.same.ended
    in
    (k.0, unsaid c.from_residual.result (AreHandled v k.0.handed s.connection new) c.from_residual.ensures.0)

pub returns-clause-handled : goal.returns-clause-handled
returns-clause-handled g c =
    let h = c.loop-event.invariant.handled in (
      record {
        same = ap (λ (z : StateInner _). record z { events = c.pop_front.new.self }) h.0.same;
        whole = h.0.whole;
        handed = h.0.handed;
        events = h.0.events ∙ ap (λ es. h.0.handed ++ es) c.in_default.ensures.items;
        carries = h.0.carries;
        brings = h.0.brings;
        ended = h.0.ended;
      },
      h.1,
    )
