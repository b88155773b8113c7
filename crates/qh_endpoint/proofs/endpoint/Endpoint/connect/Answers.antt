use Rattle.std.proofs.Common.{false, refl, sym, ◌∙◌}
use Rattle.qh_endpoint.proofs.Connects.{connected_of, is_listed, may_draw, never, only_ids, same_source, wanting_of}
use Rattle.qh_endpoint.specs.Connecting.{exhausted, nowhere, unspoken, none_fresh, no_name}
use Rattle.qh_endpoint.specs.Endpoint.{PlainEndpoint}
use Rattle.qh_endpoint.proofs.endpoint.Endpoint.connect.Goals as goal

pub returns-then-ids_exhausted-clause-refused : goal.returns-then-ids_exhausted-clause-refused
returns-then-ids_exhausted-clause-refused g c = rw (sym c.self.view_is) (exhausted (c.if-ids_exhausted.ensures.0 refl) refl)

pub returns-then-is_nowhere-clause-refused : goal.returns-then-is_nowhere-clause-refused
returns-then-is_nowhere-clause-refused g c = rw (sym c.self.view_is) (nowhere (never c.if-ids_exhausted.ensures) (c.if-is_nowhere.ensures.0 refl) refl)

pub returns-then-not-lists-clause-refused : goal.returns-then-not-lists-clause-refused
returns-then-not-lists-clause-refused g c = rw (sym c.self.view_is) (unspoken (never c.if-ids_exhausted.ensures) (never c.if-is_nowhere.ensures)
    (never (is_listed c.deref.result.now c.number.result c.self.inside.config c.args.config.version false (c.deref.ensures.value ∙ c.self.invariant) c.number.ensures c.if-not-lists.ensures)) refl)

pub returns-in_default-clause-refused : goal.returns-in_default-clause-refused
returns-in_default-clause-refused g c = rw (sym c.self.view_is) (
    let e = c.self.inside in
    let old : PlainEndpoint g.row.K.Denot g.row.K-G.Denot g.row.K-R.Denot g.row.K-T.Denot =
    record { config = e.config; server = e.server; kit = e.kit; words = e.words; token_log = e.token_log; connections = e.connections; incoming = e.incoming; last_reset = e.last_reset } in
    none_fresh (may_draw _ _ _ _ _ _ _ _ _ _ old c.deref.result.now c.number.result (c.deref.ensures.value ∙ c.self.invariant) c.number.ensures c.if-ids_exhausted.ensures c.if-is_nowhere.ensures c.if-not-lists.ensures) (c.in_default.ensures.none refl) (only_ids old c.draw.new.self c.draw.ensures.rest))

pub returns-then-is_no_name-clause-refused : goal.returns-then-is_no_name-clause-refused
returns-then-is_no_name-clause-refused g c = rw (sym c.self.view_is) (
    let e = c.self.inside in
    let old : PlainEndpoint g.row.K.Denot g.row.K-G.Denot g.row.K-R.Denot g.row.K-T.Denot =
    record { config = e.config; server = e.server; kit = e.kit; words = e.words; token_log = e.token_log; connections = e.connections; incoming = e.incoming; last_reset = e.last_reset } in
    no_name c.in-Some.local_id (may_draw _ _ _ _ _ _ _ _ _ _ old c.deref.result.now c.number.result (c.deref.ensures.value ∙ c.self.invariant) c.number.ensures c.if-ids_exhausted.ensures c.if-is_nowhere.ensures c.if-not-lists.ensures) c.in-Some.ensures.fresh (c.if-is_no_name.ensures.0 refl) (only_ids old c.draw.new.self c.draw.ensures.rest))

pub returns-in-Ok-clause-connected : goal.returns-in-Ok-clause-connected
returns-in-Ok-clause-connected g c = rw (sym c.self.view_is) (
    let e = c.self.inside in
    let old : PlainEndpoint g.row.K.Denot g.row.K-G.Denot g.row.K-R.Denot g.row.K-T.Denot =
    record { config = e.config; server = e.server; kit = e.kit; words = e.words; token_log = e.token_log; connections = e.connections; incoming = e.incoming; last_reset = e.last_reset } in
    let made = c.in-Ok.ensures in
    connected_of _ _ _ _ _ _ _ _ _ _ old c.begin.new.self c.draw.new.self (may_draw _ _ _ _ _ _ _ _ _ _ old c.deref.result.now c.number.result (c.deref.ensures.value ∙ c.self.invariant) c.number.ensures c.if-ids_exhausted.ensures c.if-is_nowhere.ensures c.if-not-lists.ensures) c.in-Some.ensures.rest (never c.if-is_no_name.ensures) made.rest c.in-Ok.made.0 c.in-Ok.made.1 c.in-Some.local_id c.in-Some.ensures.fresh c.in-Some.ensures.size c.in-Some.ensures.own made.ids made.first made.added)

pub returns-in-Err-clause-refused : goal.returns-in-Err-clause-refused
returns-in-Err-clause-refused g c = rw (sym c.self.view_is) (
    let e = c.self.inside in
    let old : PlainEndpoint g.row.K.Denot g.row.K-G.Denot g.row.K-R.Denot g.row.K-T.Denot =
    record { config = e.config; server = e.server; kit = e.kit; words = e.words; token_log = e.token_log; connections = e.connections; incoming = e.incoming; last_reset = e.last_reset } in
    wanting_of _ _ _ _ _ _ _ _ _ _ old c.begin.new.self c.draw.new.self (may_draw _ _ _ _ _ _ _ _ _ _ old c.deref.result.now c.number.result (c.deref.ensures.value ∙ c.self.invariant) c.number.ensures c.if-ids_exhausted.ensures c.if-is_nowhere.ensures c.if-not-lists.ensures) c.in-Some.ensures.rest (never c.if-is_no_name.ensures) c.in-Err.ensures.rest c.in-Some.local_id c.in-Some.ensures.fresh c.in-Err.ensures.ids c.in-Err.ensures.err)

pub returns-in-Ok-clause-source : goal.returns-in-Ok-clause-source
returns-in-Ok-clause-source g c = same_source g.K.G.ConnectionIdGenerator.cid_len g.K.G.ConnectionIdGenerator.validates c.args.self.now.connections.ids c.draw.new.self.ids c.begin.new.self.connections.ids (rw (sym c.self.view_is) (record { same_len = c.in-Some.ensures.same_len; kept = c.in-Some.ensures.kept })) c.in-Ok.ensures.ids
