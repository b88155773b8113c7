use Rattle.std.proofs.Common.{Some, None, refl, ap}
use Rattle.qh_conn.proofs.CoreLog.{drained_log}
use Rattle.qh_conn.specs.Telling.IsEndpointTold.{control, of_core}
use Rattle.qh_control.specs.declared.control.ControlState.{ControlState}
use Rattle.qh_conn.proofs.SameParts.{endpoint_told_same}
use Rattle.qh_conn.proofs.connection.Connection.poll_endpoint_events.Goals as goal

pub returns-in-Some-clause-told : goal.returns-in-Some-clause-told
returns-in-Some-clause-told g c = let both = c.in-Some.ensures.some in control c.in-Some.event both.0 (ap (λ (z : ControlState). record c.args.self.now { control = z }) both.1)

pub returns-in-Some-Drained-clause-told : goal.returns-in-Some-Drained-clause-told
returns-in-Some-Drained-clause-told g c =
    let nothing = c.poll_endpoint_event.ensures.none c.in_default.is in
    of_core (Some c.in-Some-Drained.field-0) nothing.0 c.in-Some-Drained.ensures.told
    (ap (λ (z : ControlState). record c.args.self.now { core = c.poll_endpoint_events.new.self; control = z }) nothing.1)

pub returns-in-Some-Drained-clause-whole : goal.returns-in-Some-Drained-clause-whole
returns-in-Some-Drained-clause-whole g c =
    let nothing = c.poll_endpoint_event.ensures.none c.in_default.is in
    c.still.ensures.whole c.args.self.now _ (record { handshake = refl; control = nothing.1; is_connected = refl; log = drained_log _ c.args.self.now.core c.poll_endpoint_events.new.self c.poll_endpoint_events.ensures.told })
    (c.made.ensures.endpoint _ c.args.self.now.core c.poll_endpoint_events.new.self c.poll_endpoint_events.ensures.told c.poll_endpoint_events.ensures.follows c.poll_endpoint_events.ensures.same_end) c.requires

pub returns-in-None-clause-told : goal.returns-in-None-clause-told
returns-in-None-clause-told g c =
    let nothing = c.poll_endpoint_event.ensures.none c.in_default.is in
    of_core None nothing.0 c.in-None.ensures.told
    (ap (λ (z : ControlState). record c.args.self.now { core = c.poll_endpoint_events.new.self; control = z }) nothing.1)

pub returns-in-None-clause-whole : goal.returns-in-None-clause-whole
returns-in-None-clause-whole g c =
    let nothing = c.poll_endpoint_event.ensures.none c.in_default.is in
    c.still.ensures.whole c.args.self.now _ (record { handshake = refl; control = nothing.1; is_connected = refl; log = drained_log _ c.args.self.now.core c.poll_endpoint_events.new.self c.poll_endpoint_events.ensures.told })
    (c.made.ensures.endpoint _ c.args.self.now.core c.poll_endpoint_events.new.self c.poll_endpoint_events.ensures.told c.poll_endpoint_events.ensures.follows c.poll_endpoint_events.ensures.same_end) c.requires

pub returns-in-Some-clause-same : goal.returns-in-Some-clause-same
returns-in-Some-clause-same g c = λ key. endpoint_told_same key c.args.self.now _ _ (returns-in-Some-clause-told g c)

pub returns-in-Some-Drained-clause-same : goal.returns-in-Some-Drained-clause-same
returns-in-Some-Drained-clause-same g c = λ key. endpoint_told_same key c.args.self.now _ _ (returns-in-Some-Drained-clause-told g c)

pub returns-in-None-clause-same : goal.returns-in-None-clause-same
returns-in-None-clause-same g c = λ key. endpoint_told_same key c.args.self.now _ _ (returns-in-None-clause-told g c)
