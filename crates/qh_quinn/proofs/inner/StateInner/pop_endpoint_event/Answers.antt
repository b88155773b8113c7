use Rattle.std.proofs.Common.{refl}
use Rattle.qh_quinn.proofs.Begun.{endpoint_kept}
use Rattle.qh_quinn.proofs.inner.StateInner.pop_endpoint_event.Goals as goal

pub returns-clause-kept : goal.returns-clause-kept
returns-clause-kept g c =
    let old = c.args.self.now in
    let told = c.poll_endpoint_events.ensures.told in
    endpoint_kept old (record old { connection = c.poll_endpoint_events.new.self }) c.poll_endpoint_events.result (c.times_bring.ensures.endpoint c.poll_endpoint_events.result old.connection c.poll_endpoint_events.new.self told)
    c.requires c.poll_endpoint_events.ensures.whole refl told
