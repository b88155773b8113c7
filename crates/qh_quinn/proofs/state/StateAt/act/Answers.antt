use Rattle.std.proofs.Common.{◌≡◌}
use Rattle.qh_quinn.proofs.ActedAt.{told_too}
use Rattle.qh_quinn.specs.Acting.{IsMade, IsUnmade, KeepsTurns}
use Rattle.qh_quinn.specs.Recording.{Records, TellsAt}
use Rattle.qh_quinn.specs.Told.{TellsOf}
use Rattle.qh_quinn.proofs.state.StateAt.act.Goals as goal

pub returns-in-Some-clause-value : goal.returns-in-Some-clause-value
returns-in-Some-clause-value g c =
    let s = c.args.self.now in
    let t = c.poll_act.new.self in
    let e = c.poll_act.ensures in
    told_too (IsUnmade {S = g.row.S.Denot} s.inner t.inner) (t.history ≡ s.history) (KeepsTurns s.inner t.inner) c.poll_act.result (λ r. IsMade {S = g.row.S.Denot} {D = g.row.S-HandshakeData.Denot} c.args.call r s.inner t.inner) (λ r. Records (TellsAt g.S.Session.knows g.S.Session.name g.S.Session.told s.inner c.args.call) c.args.call r s.history t.history)
    (λ r. TellsOf g.S.Session.knows g.S.Session.name g.S.Session.told s.inner.connection s.inner.error c.args.call r) e.value e.rest e.tells

pub returns-in-Some-clause-armed : goal.returns-in-Some-clause-armed
returns-in-Some-clause-armed g c = rw c.in-Some.is (c.poll_act.ensures.armed)

pub returns-in-Some-clause-kept : goal.returns-in-Some-clause-kept
returns-in-Some-clause-kept g c = rw c.in-Some.is (c.poll_act.ensures.kept)

pub returns-in-None-clause-value : goal.returns-in-None-clause-value
returns-in-None-clause-value g c =
    let s = c.args.self.now in
    let t = c.act.new.self in
    let e = c.act.ensures in
    told_too (IsUnmade {S = g.row.S.Denot} s.inner t.inner) (t.history ≡ s.history) (KeepsTurns s.inner t.inner) c.act.result (λ r. IsMade {S = g.row.S.Denot} {D = g.row.S-HandshakeData.Denot} c.args.call r s.inner t.inner) (λ r. Records (TellsAt g.S.Session.knows g.S.Session.name g.S.Session.told s.inner c.args.call) c.args.call r s.history t.history)
    (λ r. TellsOf g.S.Session.knows g.S.Session.name g.S.Session.told s.inner.connection s.inner.error c.args.call r) e.value e.rest e.tells
