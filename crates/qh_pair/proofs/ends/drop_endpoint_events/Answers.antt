use Rattle.qh_pair.specs.Ends.{key_of}
use Rattle.qh_pair.proofs.EndPolls.{polled_none, one_endpoint_told}
use Rattle.qh_pair.proofs.ends.drop_endpoint_events.Goals as goal

pub loop-event-init : goal.loop-event-init
loop-event-init c = polled_none c.same_connection.ensures.same _ c.requires

pub poll_endpoint_events-requires : goal.poll_endpoint_events-requires
poll_endpoint_events-requires c = c.loop-event.invariant.made.whole

pub loop-event-preserved : goal.loop-event-preserved
loop-event-preserved c =
    let e = c.poll_endpoint_events.ensures in
    one_endpoint_told c.same_connection.ensures.both c.honest_ends.ensures.endpoint_told c.args.end.now c.loop-event.end c.poll_endpoint_events.new.self c.poll_endpoint_events.result c.loop-event.invariant e.told (e.same key_of) e.whole e.stands

pub returns-then-is_none : goal.returns-then-is_none
returns-then-is_none c =
    let e = c.poll_endpoint_events.ensures in
    one_endpoint_told c.same_connection.ensures.both c.honest_ends.ensures.endpoint_told c.args.end.now c.loop-event.end c.poll_endpoint_events.new.self c.poll_endpoint_events.result c.loop-event.invariant e.told (e.same key_of) e.whole e.stands
