use Rattle.qh_core.proofs.Turned.{log_end, log_follows, log_whole, started}
use Rattle.qh_core.proofs.connection.Connection.start_log.Goals as goal

pub invariant_of-self : goal.invariant_of-self
invariant_of-self g c =
    let kept = started c.self.inside.inner c.start_log.new.self c.start_log.result _ c.start_log.ensures.ok c.start_log.ensures.err in
    log_whole c.self.inside.inner c.start_log.new.self kept.0 c.self.invariant kept.1

pub returns-clause-follows : goal.returns-clause-follows
returns-clause-follows g c = λ t f.
    let kept = started c.self.inside.inner c.start_log.new.self c.start_log.result _ c.start_log.ensures.ok c.start_log.ensures.err in
    log_follows c.self.inside.inner c.start_log.new.self kept.0 t kept.1 (rw c.self.view_is f)

pub returns-clause-same_end : goal.returns-clause-same_end
returns-clause-same_end g c =
    let kept = started c.self.inside.inner c.start_log.new.self c.start_log.result _ c.start_log.ensures.ok c.start_log.ensures.err in
    rw (← c.self.view_is) (log_end c.self.inside.inner c.start_log.new.self kept.0 kept.1)
