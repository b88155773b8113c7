use Rattle.std.proofs.Common.{refl, sym, subst}
use Rattle.qh_connections.specs.Connections.{AreExhausted}
use Rattle.qh_endpoint.proofs.Accepts.{exhausted_of, none_fresh_of}
use Rattle.qh_endpoint.proofs.Connects.{never, only_kit_ids}
use Rattle.qh_endpoint.specs.Accepting.{formless, no_session, stale, untaken}
use Rattle.qh_endpoint.specs.Endpoint.{PlainEndpoint}
use Rattle.qh_routes.specs.Routes.{issued_count}
use Rattle.qh_endpoint.proofs.endpoint.Endpoint.admit.Goals as goal

pub returns-then-is_stale-clause-refused : goal.returns-then-is_stale-clause-refused
returns-then-is_stale-clause-refused g c = rw c.silent.ensures (stale (c.if-is_stale.ensures.0 refl) refl c.requires)

pub returns-then-ids_exhausted-clause-refused : goal.returns-then-ids_exhausted-clause-refused
returns-then-ids_exhausted-clause-refused g c = exhausted_of g.K.G.ConnectionIdGenerator.cid_len g.K.G.ConnectionIdGenerator.validates _ _ _ _ _ c.initial_close-sent.result c.exhausted.result c.args.self.now c.initial_close-sent.new.self c.initial_close-sent.new.buf.items
    c.exhausted.ensures.sent c.exhausted.ensures.wanting (never c.if-is_stale.ensures)
    (subst (λ (z : PlainEndpoint g.row.K.Denot g.row.K-G.Denot g.row.K-R.Denot g.row.K-T.Denot). AreExhausted (g.K.G.ConnectionIdGenerator.cid_len z.connections.ids) (issued_count z.connections.routes)) c.self.view_is (c.if-ids_exhausted.ensures.0 refl))
    (rw c.error_of-error.ensures at c.initial_close-sent.ensures.closed) c.initial_close-sent.ensures.transmit c.initial_close-sent.ensures.err

pub returns-in_default-clause-refused : goal.returns-in_default-clause-refused
returns-in_default-clause-refused g c = rw (sym c.self.view_is) (rw c.violation.ensures (formless (record { fresh = never c.if-is_stale.ensures; some_left = never c.if-ids_exhausted.ensures }) (rw c.deref.ensures at c.in_default.ensures.none) refl c.requires))

pub returns-in-Err-clause-refused : goal.returns-in-Err-clause-refused
returns-in-Err-clause-refused g c = rw (sym c.self.view_is) (rw c.silent-in-Err.ensures (no_session (record { fresh = never c.if-is_stale.ensures; some_left = never c.if-ids_exhausted.ensures }) (_, _, _, _, _, _, rw c.deref.ensures at c.in-Some.ensures.found) refl c.requires))

pub returns-then-not-opens-clause-refused : goal.returns-then-not-opens-clause-refused
returns-then-not-opens-clause-refused g c = rw (sym c.self.view_is) (rw c.violation-then-not-opens.ensures
    (untaken c.in-Ok.session (record { fresh = never c.if-is_stale.ensures; some_left = never c.if-ids_exhausted.ensures }) (record { key_is = c.in-Ok.ensures.key; name_is = c.in-Ok.ensures.name; knows_is = c.in-Ok.ensures.knows })
    (record { first = _; destination = _; source = _; token = _; body = _; rest = _; begins = rw c.deref.ensures at c.in-Some.ensures.found; unopened = c.if-not-opens.ensures.refused refl }) refl c.requires))

pub returns-in-Some-draw-clause-admitted : goal.returns-in-Some-draw-clause-admitted
returns-in-Some-draw-clause-admitted g c = rw (sym c.self.view_is) (
    let e = c.self.inside in
    let old : PlainEndpoint g.row.K.Denot g.row.K-G.Denot g.row.K-R.Denot g.row.K-T.Denot =
    record { config = e.config; server = e.server; kit = e.kit; words = e.words; token_log = e.token_log; connections = e.connections; incoming = e.incoming; last_reset = e.last_reset } in
    record {
      welcome = record { timely = record { fresh = never c.if-is_stale.ensures; some_left = never c.if-ids_exhausted.ensures }; session_is = record { key_is = c.in-Ok.ensures.key; name_is = c.in-Ok.ensures.name; knows_is = c.in-Ok.ensures.knows }; opened = (let o = c.if-not-opens.ensures.opened refl in record { first = _; destination = _; source = _; token = _; body = _; rest = _; number = o.0; frames = o.1; begins = rw c.deref.ensures at c.in-Some.ensures.found; opened = o.2 }) };
      id = c.in-Some-draw.ensures.fresh;
      size = c.in-Some-draw.ensures.size;
      own = c.in-Some-draw.ensures.own;
      rest = only_kit_ids old c.session.new.self c.draw.new.self c.draw.ensures.rest;
    })

pub returns-in-None-clause-refused : goal.returns-in-None-clause-refused
returns-in-None-clause-refused g c = rw (sym c.self.view_is) (
    let e = c.self.inside in
    let old : PlainEndpoint g.row.K.Denot g.row.K-G.Denot g.row.K-R.Denot g.row.K-T.Denot =
    record { config = e.config; server = e.server; kit = e.kit; words = e.words; token_log = e.token_log; connections = e.connections; incoming = e.incoming; last_reset = e.last_reset } in
    none_fresh_of g.K.G.ConnectionIdGenerator.cid_len g.K.G.ConnectionIdGenerator.validates _ _ _ _ _ c.close_from-sent.result c.exhausted-in-None.result old _ c.close_from-sent.new.self c.close_from-sent.new.buf.items c.in-Ok.session
    c.exhausted-in-None.ensures.sent c.exhausted-in-None.ensures.wanting
    (record { timely = record { fresh = never c.if-is_stale.ensures; some_left = never c.if-ids_exhausted.ensures }; session_is = record { key_is = c.in-Ok.ensures.key; name_is = c.in-Ok.ensures.name; knows_is = c.in-Ok.ensures.knows }; opened = (let o = c.if-not-opens.ensures.opened refl in record { first = _; destination = _; source = _; token = _; body = _; rest = _; number = o.0; frames = o.1; begins = rw c.deref.ensures at c.in-Some.ensures.found; opened = o.2 }) })
    (c.in-None.ensures.none refl) (only_kit_ids old c.session.new.self c.draw.new.self c.draw.ensures.rest)
    (rw c.error_of-error-in-None.ensures at c.close_from-sent.ensures.closed) c.close_from-sent.ensures.transmit c.close_from-sent.ensures.err c.close_from-sent.ensures.rest)
