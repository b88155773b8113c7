use Rattle.qh_pair.specs.EndCalls.{IsPolledOut}
use Rattle.qh_pair.proofs.ends.drop_endpoint_events.Given as goal

abbrev pub invariant-loop-event : goal.invariant-loop-event
invariant-loop-event l = IsPolledOut l.fn.end l.end
