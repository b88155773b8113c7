use Rattle.std.proofs.Common.{[], Ok, refl}
use Rattle.qh_quinn.proofs.Handling.{handled_none, wanting_brought}
use Rattle.qh_quinn.proofs.InOrder.{due_first, not_due}
use Rattle.qh_quinn.specs.Turning.{IsTimedAt}
use Rattle.qh_quinn.proofs.inner.StateInner.time.Goals as goal

pub returns-in_err-handle_timeout-clause-handled : goal.returns-in_err-handle_timeout-clause-handled
returns-in_err-handle_timeout-clause-handled g c =
    let s = c.args.self.now in
    let new = c.handle_timeout.new.self in
    let e = c.in_err-handle_timeout.ensures in
    (handled_none g.S.Session.accepts g.S.Session.sealed c.from_residual.result s (record s { connection = new }) refl refl e.whole e.stands
    (wanting_brought c.from_residual.result s.connection new c.from_residual.ensures.1 c.requires.shown e.wanting.0 (c.wants_bring.ensures.timed c.args.now.0 s.connection e.unread.0 new c.requires.whole e.whole e.unread.1 e.unread.2))
    e.same.ended).0

pub returns-in_ok-handle_timeout-clause-handled : goal.returns-in_ok-handle_timeout-clause-handled
returns-in_ok-handle_timeout-clause-handled g c =
    let s = c.args.self.now in
    let new = c.handle_timeout.new.self in
    let e = c.in_ok-handle_timeout.ensures in
    (handled_none g.S.Session.accepts g.S.Session.sealed (Ok tt) s (record s { connection = new }) refl refl e.whole e.stands
    (record { items = []; brings = c.times_bring.ensures.timed c.args.now.0 s.connection new c.requires.whole e.ok }) e.same.ended).0

pub returns-else-is_due-clause-handled : goal.returns-else-is_due-clause-handled
returns-else-is_due-clause-handled g c =
    let s = c.args.self.now in
    (handled_none g.S.Session.accepts g.S.Session.sealed (Ok tt) s s refl refl c.requires.whole (λ accepts sealed hello t h. h) (record { items = []; brings = c.events_bring.ensures.none s.connection }) (λ shut. shut)).0

pub returns-in_ok-handle_timeout-clause-timed : goal.returns-in_ok-handle_timeout-clause-timed
returns-in_ok-handle_timeout-clause-timed g c =
    let o = c.args.self.now.connection in
    let due = c.is_due.ensures.yes c.if-is_due.true in
    IsTimedAt.done due.0.0 (due_first o c.poll_timeout.result due.0 due.1 c.poll_timeout.ensures) due.2 c.in_ok-handle_timeout.ensures.ok

pub returns-else-is_due-clause-timed : goal.returns-else-is_due-clause-timed
returns-else-is_due-clause-timed g c = IsTimedAt.not_yet (not_due c.args.self.now.connection c.args.now c.poll_timeout.result c.poll_timeout.ensures (c.is_due.ensures.no c.if-is_due.false)) refl
